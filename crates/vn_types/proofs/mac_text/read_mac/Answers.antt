use Rattle.std.proofs.Common.{◌≡◌, ◌∙◌, ◌∷◌, sym, ap}
use Rattle.vn_types.specs.AddressWords.{mac_of, mac_pieces}
use Rattle.vn_types.proofs.MacReading.{mac_cut, mac_canonical}
use Rattle.vn_types.proofs.mac_text.read_mac.Goals as goal
use Rattle.vn_types.proofs.mac_text.read_mac.Goals.{After-mac_of_parts}

pub returns-in_err-a-clause-mac : goal.returns-in_err-a-clause-mac
unfolding mac_of mac_pieces
returns-in_err-a-clause-mac c =
    c.from_residual.ensures
    ∙ sym (ap mac_pieces c.in_err-a.ensures.whole)

pub returns-in_err-b-clause-mac : goal.returns-in_err-b-clause-mac
unfolding mac_of mac_pieces
returns-in_err-b-clause-mac c =
    c.from_residual-in_err-b.ensures
    ∙ sym (ap mac_pieces (c.in_ok-a.ensures.parts ∙ ap (λ ps. c.in_ok-a.a.now ∷ ps) c.in_err-b.ensures.whole))

pub returns-in_err-c-clause-mac : goal.returns-in_err-c-clause-mac
unfolding mac_of mac_pieces
returns-in_err-c-clause-mac c =
    c.from_residual-in_err-c.ensures
    ∙ sym (ap mac_pieces (c.in_ok-a.ensures.parts ∙ ap (λ ps. c.in_ok-a.a.now ∷ ps) (c.in_ok-b.ensures.parts ∙ ap (λ ps. c.in_ok-b.b.now ∷ ps) c.in_err-c.ensures.whole)))

pub returns-in_err-d-clause-mac : goal.returns-in_err-d-clause-mac
unfolding mac_of mac_pieces
returns-in_err-d-clause-mac c =
    c.from_residual-in_err-d.ensures
    ∙ sym (ap mac_pieces (c.in_ok-a.ensures.parts ∙ ap (λ ps. c.in_ok-a.a.now ∷ ps) (c.in_ok-b.ensures.parts ∙ ap (λ ps. c.in_ok-b.b.now ∷ ps) (c.in_ok-c.ensures.parts ∙ ap (λ ps. c.in_ok-c.c.now ∷ ps) c.in_err-d.ensures.whole))))

pub returns-in_err-e-clause-mac : goal.returns-in_err-e-clause-mac
unfolding mac_of mac_pieces
returns-in_err-e-clause-mac c =
    c.from_residual-in_err-e.ensures
    ∙ sym (ap mac_pieces (c.in_ok-a.ensures.parts ∙ ap (λ ps. c.in_ok-a.a.now ∷ ps) (c.in_ok-b.ensures.parts ∙ ap (λ ps. c.in_ok-b.b.now ∷ ps) (c.in_ok-c.ensures.parts ∙ ap (λ ps. c.in_ok-c.c.now ∷ ps) (c.in_ok-d.ensures.parts ∙ ap (λ ps. c.in_ok-d.d.now ∷ ps) c.in_err-e.ensures.whole)))))

read : (c : After-mac_of_parts) → c.mac_of_parts.result ≡ mac_of c.args.text.now
read c =
    c.mac_of_parts.ensures
    ∙ mac_cut c.args.text.now c.in_ok-a.a.now c.in_ok-b.b.now c.in_ok-c.c.now c.in_ok-d.d.now c.in_ok-e.e.now c.in_ok-e.f.now
    (c.in_ok-a.ensures.parts ∙ ap (λ ps. c.in_ok-a.a.now ∷ ps) (c.in_ok-b.ensures.parts ∙ ap (λ ps. c.in_ok-b.b.now ∷ ps) (c.in_ok-c.ensures.parts ∙ ap (λ ps. c.in_ok-c.c.now ∷ ps) (c.in_ok-d.ensures.parts ∙ ap (λ ps. c.in_ok-d.d.now ∷ ps) c.in_ok-e.ensures.parts))))

pub returns-clause-mac : goal.returns-clause-mac
returns-clause-mac c = read c

pub returns-clause-canonical : goal.returns-clause-canonical
returns-clause-canonical c = mac_canonical _ _ (read c)

use Rattle.std.proofs.Common.{◌≡◌, ◌∙◌, ◌∷◌, sym, ap}
use Rattle.vn_types.specs.AddressWords.{ip4_of, ip4_pieces}
use Rattle.vn_types.proofs.AddressReading.{ip4_cut, ip4_canonical}
use Rattle.vn_types.proofs.address_text.read_ip4.Goals as goal
use Rattle.vn_types.proofs.address_text.read_ip4.Goals.{After-ip4_of_parts}

pub returns-in_err-a-clause-ip : goal.returns-in_err-a-clause-ip
unfolding ip4_of ip4_pieces
returns-in_err-a-clause-ip c = c.from_residual.ensures ∙ sym (ap ip4_pieces c.in_err-a.ensures.whole)

pub returns-in_err-b-clause-ip : goal.returns-in_err-b-clause-ip
unfolding ip4_of ip4_pieces
returns-in_err-b-clause-ip c =
    c.from_residual-in_err-b.ensures ∙ sym (ap ip4_pieces (c.in_ok-a.ensures.parts ∙ ap (λ ps. c.in_ok-a.a.now ∷ ps) c.in_err-b.ensures.whole))

pub returns-in_err-c-clause-ip : goal.returns-in_err-c-clause-ip
unfolding ip4_of ip4_pieces
returns-in_err-c-clause-ip c =
    c.from_residual-in_err-c.ensures
    ∙ sym (ap ip4_pieces (c.in_ok-a.ensures.parts ∙ ap (λ ps. c.in_ok-a.a.now ∷ ps) (c.in_ok-b.ensures.parts ∙ ap (λ ps. c.in_ok-b.b.now ∷ ps) c.in_err-c.ensures.whole)))

read : (c : After-ip4_of_parts) → c.ip4_of_parts.result ≡ ip4_of c.args.text.now
read c =
    c.ip4_of_parts.ensures
    ∙ ip4_cut c.args.text.now c.in_ok-a.a.now c.in_ok-b.b.now c.in_ok-c.c.now c.in_ok-c.d.now
    (c.in_ok-a.ensures.parts ∙ ap (λ ps. c.in_ok-a.a.now ∷ ps) (c.in_ok-b.ensures.parts ∙ ap (λ ps. c.in_ok-b.b.now ∷ ps) c.in_ok-c.ensures.parts))

pub returns-clause-ip : goal.returns-clause-ip
returns-clause-ip c = read c

pub returns-clause-canonical : goal.returns-clause-canonical
returns-clause-canonical c = ip4_canonical _ _ (read c)

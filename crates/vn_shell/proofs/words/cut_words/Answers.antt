use Rattle.std.proofs.Common.{◌∙◌, ◌++◌, ◌∷◌, [], sym, ap, append_assoc}
use Rattle.std.specs.List.{filter}
use Rattle.vn_shell.specs.Words.{is_filled, texts, words_of}
use Rattle.vn_shell.proofs.Splitting.{words_cut, words_last}
use Rattle.vn_shell.proofs.words.cut_words.Goals as goal

pub loop-piece-preserved : goal.loop-piece-preserved
loop-piece-preserved c =
    ap (λ ws. ws ++ words_of c.in-Some.more.now) c.in_ok-put_piece.ensures
    ∙ append_assoc (texts c.loop-piece.words.items) (filter is_filled (c.in-Some.piece.now ∷ [])) (words_of c.in-Some.more.now)
    ∙ ap (λ ws. texts c.loop-piece.words.items ++ ws) (sym (words_cut c.loop-piece.rest.now c.in-Some.piece.now c.in-Some.more.now c.in-Some.ensures.parts))
    ∙ c.loop-piece.invariant

pub returns : goal.returns
returns c =
    c.in_ok-put_piece-2.ensures
    ∙ ap (λ ws. texts c.loop-piece.words.items ++ ws) (sym (words_last c.loop-piece.rest.now c.in_default.ensures.whole))
    ∙ c.loop-piece.invariant

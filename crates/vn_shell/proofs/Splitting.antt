-- Lines and words, taken from a text one by one.
use Rattle.std.proofs.Common.{◌≡◌, ℕ, ◌+◌, ◌==◌, Bool, true, false, cond, List, [], ◌∷◌, ◌++◌, length, take, drop, Some, None, refl, sym, ap, ◌∙◌, arith}
use Rattle.std.specs.Prelude.{position}
use Rattle.std.specs.List.{filter, slice_split, onto_first}
use Rattle.std.proofs.lemmas.Bool.Decides.{nat_tests}
use Rattle.vn_types.specs.Octets.{newline, space}
use Rattle.vn_types.proofs.Cuts.{cut_at, cut_nowhere}
use Rattle.vn_shell.specs.Words.{lines_of, is_filled, words_of}

abbrev at_end : ℕ → Bool
at_end c = c == newline

abbrev at_space : ℕ → Bool
at_space c = c == space

-- ---- lines are the pieces between their ends, but for a last piece that is empty

abbrev last : List ℕ → List (List ℕ)
last [] = []
last (c ∷ cs) = (c ∷ cs) ∷ []

abbrev ended : List (List ℕ) → List (List ℕ)
ended [] = []
ended (l ∷ []) = last l
ended (l ∷ m ∷ ls) = l ∷ ended (m ∷ ls)

abbrev some : List (List ℕ) → Bool
some [] = false
some (l ∷ ls) = true

some-onto : (c : ℕ) (ls : List (List ℕ)) → some (onto_first c ls) ≡ true
some-onto c [] = refl
some-onto c (l ∷ ls) = refl

-- no text is without a piece
some-split : (p : ℕ → Bool) (t : List ℕ) → some (slice_split p t) ≡ true
some-split p [] = refl
some-split p (c ∷ t) = by (p c)
  where
    by : (b : Bool) → some (cond b ([] ∷ slice_split p t) (onto_first c (slice_split p t))) ≡ true
    by true = refl
    by false = some-onto c (slice_split p t)

ended-more : (l : List ℕ) (ls : List (List ℕ)) → some ls ≡ true → ended (l ∷ ls) ≡ l ∷ ended ls
ended-more l [] h = cc
ended-more l (m ∷ ls) h = refl

last-onto : (c : ℕ) (l : List ℕ) → (c ∷ l) ∷ [] ≡ onto_first c (last l)
last-onto c [] = refl
last-onto c (d ∷ l) = refl

ended-onto : (c : ℕ) (ls : List (List ℕ)) → ended (onto_first c ls) ≡ onto_first c (ended ls)
ended-onto c [] = refl
ended-onto c (l ∷ []) = last-onto c l
ended-onto c (l ∷ m ∷ ls) = refl

lines_of-split : (t : List ℕ) → lines_of t ≡ ended (slice_split at_end t)
unfolding lines_of
lines_of-split [] = refl
lines_of-split (c ∷ t) = by (c == newline) (lines_of-split t)
  where
    by : (b : Bool) → lines_of t ≡ ended (slice_split at_end t) → cond b ([] ∷ lines_of t) (onto_first c (lines_of t)) ≡ ended (cond b ([] ∷ slice_split at_end t) (onto_first c (slice_split at_end t)))
    by true e = ap (λ ls. [] ∷ ls) e ∙ sym (ended-more [] (slice_split at_end t) (some-split at_end t))
    by false e = ap (onto_first c) e ∙ sym (ended-onto c (slice_split at_end t))

no_lines : lines_of [] ≡ []
unfolding lines_of
no_lines = refl

pub lines_none : (t : List ℕ) → (length t == 0) ≡ true → lines_of t ≡ []
lines_none [] h = no_lines
lines_none (c ∷ t) h = absurd (grind (arith, nat_tests))

pub lines_at : (t : List ℕ) (k : ℕ) → position at_end t ≡ Some k → lines_of t ≡ take k t ∷ lines_of (drop (k + 1) t)
lines_at t k h =
    lines_of-split t ∙ ap ended (cut_at at_end t k 0 h)
    ∙ ended-more (take k t) (slice_split at_end (drop (k + 1) t)) (some-split at_end (drop (k + 1) t))
    ∙ ap (λ ls. take k t ∷ ls) (sym (lines_of-split (drop (k + 1) t)))

pub lines_last : (t : List ℕ) → (length t == 0) ≡ false → position at_end t ≡ None → lines_of t ≡ t ∷ lines_of []
lines_last [] n h = cc
lines_last (c ∷ t) n h = lines_of-split (c ∷ t) ∙ ap ended (cut_nowhere at_end (c ∷ t) h) ∙ ap (λ ls. (c ∷ t) ∷ ls) (sym no_lines)

-- ---- words

pub words_cut : (t piece more : List ℕ) → slice_split at_space t ≡ piece ∷ slice_split at_space more → words_of t ≡ filter is_filled (piece ∷ []) ++ words_of more
unfolding words_of
words_cut t [] more e = rw e refl
words_cut t (c ∷ piece) more e = rw e refl

pub words_last : (t : List ℕ) → slice_split at_space t ≡ t ∷ [] → words_of t ≡ filter is_filled (t ∷ [])
unfolding words_of
words_last t e = ap (filter is_filled) e

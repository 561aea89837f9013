-- A text that is cut at its first octet of a kind.
use Rattle.std.proofs.Common.{◌≡◌, ℕ, ◌≤◌, ◌+◌, ◌==◌, Bool, true, false, cond, not, List, [], ◌∷◌, ◌++◌, length, take, drop, Option, Some, None, refl, sym, ap, ◌∙◌, arith, ltb}
use Rattle.std.specs.List.{slice_split, onto_first, position_or_len, list_all, join_with_byte}
use Rattle.std.specs.Prelude.{position, IfSome}
use Rattle.std.proofs.lemmas.Bool.{not-true, and_parts, eq-eqb}
use Rattle.std.proofs.lemmas.Bool.Decides.{nat_tests}
use Rattle.std.proofs.lemmas.List.Folds.{list_all-append}
use Rattle.std.proofs.lemmas.List.Splits.{slice_split_first, join_with_byte-slice_split}

none_passes : {X : Type 0} (p : X → Bool) (xs : List X) → length xs ≤ position_or_len p xs → slice_split p xs ≡ xs ∷ []
none_passes p [] h = refl
none_passes p (x ∷ xs) h = by (p x) refl (none_passes p xs)
  where
    by : (b : Bool) → p x ≡ b → (length xs ≤ position_or_len p xs → slice_split p xs ≡ xs ∷ []) → cond b ([] ∷ slice_split p xs) (onto_first x (slice_split p xs)) ≡ (x ∷ xs) ∷ []
    by true e more = absurd (omega (arith, rw e at h))
    by false e more = ap (onto_first x) (more (omega (arith, rw e at h)))

pub cut_nowhere : {X : Type 0} (p : X → Bool) (xs : List X) → position p xs ≡ None → slice_split p xs ≡ xs ∷ []
cut_nowhere p xs h = by (ltb (position_or_len p xs) (length xs)) refl h
  where
    by : (b : Bool) → ltb (position_or_len p xs) (length xs) ≡ b → cond b (Some (position_or_len p xs)) None ≡ None → slice_split p xs ≡ xs ∷ []
    by true e f = cc
    by false e f = none_passes p xs (grind (arith, nat_tests))

pub cut_at : {X : Type 0} (p : X → Bool) (xs : List X) (k : ℕ) (d : X) → position p xs ≡ Some k → slice_split p xs ≡ take k xs ∷ slice_split p (drop (k + 1) xs)
cut_at p xs k d h = by (ltb (position_or_len p xs) (length xs)) refl h
  where
    by : (b : Bool) → ltb (position_or_len p xs) (length xs) ≡ b → cond b (Some (position_or_len p xs)) None ≡ Some k → slice_split p xs ≡ take k xs ∷ slice_split p (drop (k + 1) xs)
    by true e f = let s : position_or_len p xs ≡ k = cc in slice_split_first p xs d (grind (arith, nat_tests)) ∙ ap (λ n. take n xs ∷ slice_split p (drop (n + 1) xs)) s
    by false e f = cc

-- ---- texts without the octet at which they are cut

abbrev pub lacks : ℕ → List ℕ → Bool
lacks c cs = list_all (λ d. not (d == c)) cs

pub split-lacks : (c : ℕ) (cs : List ℕ) → lacks c cs ≡ true → slice_split (λ d. d == c) cs ≡ cs ∷ []
split-lacks c [] h = refl
split-lacks c (d ∷ cs) h =
    let parts = and_parts (not (d == c)) (lacks c cs) h in
    let apart : (d == c) ≡ false = not-true _ parts.0 in
    rw (apart, split-lacks c cs parts.1) refl

pub split-append : (c : ℕ) (cs rest : List ℕ) → lacks c cs ≡ true → slice_split (λ d. d == c) (cs ++ c ∷ rest) ≡ cs ∷ slice_split (λ d. d == c) rest
split-append c [] rest h = rw (eq-eqb c c refl) refl
split-append c (d ∷ cs) rest h =
    let parts = and_parts (not (d == c)) (lacks c cs) h in
    let apart : (d == c) ≡ false = not-true _ parts.0 in
    rw (apart, split-append c cs rest parts.1) refl

-- a text with another octet between its pieces
pub lacks-join : (c d : ℕ) (ps : List (List ℕ)) → (d == c) ≡ false → list_all (lacks c) ps ≡ true → lacks c (join_with_byte d ps) ≡ true
lacks-join c d [] other h = refl
lacks-join c d (p ∷ []) other h = (and_parts (lacks c p) true h).0
lacks-join c d (p ∷ q ∷ ps) other h =
    let parts = and_parts (lacks c p) (list_all (lacks c) (q ∷ ps)) h in
    rw (list_all-append (λ e. not (e == c)) p (d ∷ join_with_byte d (q ∷ ps)), parts.0, other, lacks-join c d (q ∷ ps) other parts.1) refl

-- pieces with the octet between are cut into the pieces
pub split-join : (c : ℕ) (p : List ℕ) (ps : List (List ℕ)) → list_all (lacks c) (p ∷ ps) ≡ true → slice_split (λ d. d == c) (join_with_byte c (p ∷ ps)) ≡ p ∷ ps
split-join c p [] h = split-lacks c p (and_parts _ _ h).0
split-join c p (q ∷ ps) h = split-append c p (join_with_byte c (q ∷ ps)) (and_parts _ _ h).0 ∙ ap (λ qs. p ∷ qs) (split-join c q ps (and_parts _ _ h).1)

-- what is written with an octet between its pieces is written as it was read
pub written_again : {X : Type 0} (c : ℕ) (pieces : List (List ℕ) → Option X) (text : X → List ℕ)
    → ((ds : List (List ℕ)) (x : X) → pieces ds ≡ Some x → text x ≡ join_with_byte c ds)
    → (t : List ℕ) (o : Option X) → o ≡ pieces (slice_split (λ d. d == c) t) → IfSome o (λ x. text x ≡ t)
written_again c pieces text spelt t None h = tt
written_again c pieces text spelt t (Some x) h = spelt (slice_split (λ d. d == c) t) x (sym h) ∙ join_with_byte-slice_split c t

-- ---- a last piece that is read whole, or not at all

module _ {X : Type 0} (c : ℕ) (read : List ℕ → Option X) (whole : (d : List ℕ) (x : X) → read d ≡ Some x → lacks c d ≡ true) where
  -- what reads pieces, where a last one is left
  pub record ReadsLast (pieces : List (List ℕ) → Option X) : Type 0 where
    pub none : pieces [] ≡ None
    pub one : (d : List ℕ) → pieces (d ∷ []) ≡ read d
    pub more : (d e : List ℕ) (ds : List (List ℕ)) → pieces (d ∷ e ∷ ds) ≡ None

  pub read_last : (pieces : List (List ℕ) → Option X) → ReadsLast pieces → (d : List ℕ) → pieces (slice_split (λ b. b == c) d) ≡ read d
  read_last pieces r d = by (read d) refl
    where
      unread : (ds : List (List ℕ)) → ds ≡ slice_split (λ b. b == c) d → read d ≡ None → pieces ds ≡ None
      unread [] s e = r.none
      unread (x ∷ []) s e = let same : x ≡ d = ap (join_with_byte c) s ∙ join_with_byte-slice_split c d in r.one x ∙ ap read same ∙ e
      unread (x ∷ y ∷ ds) s e = r.more x y ds

      by : (o : Option X) → read d ≡ o → pieces (slice_split (λ b. b == c) d) ≡ o
      by None e = unread (slice_split (λ b. b == c) d) refl e
      by (Some x) e = ap pieces (split-lacks c d (whole d x e)) ∙ r.one d ∙ e

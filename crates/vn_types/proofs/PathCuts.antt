-- A path's parent and the paths above it, on the texts.
use Rattle.std.proofs.Common.{◌≡◌, ℕ, ◌<◌, ◌+◌, ◌≢◌, Bool, true, false, cond, not, ◌&&◌, ◌||◌, ◌==◌, List, [], ◌∷◌, ◌++◌, length, take, drop, slice_index_or, refl, sym, ap, ap₂, ◌∙◌, arith, append-nil}
use Rattle.std.specs.Prelude.{if◌then◌else◌, count_by}
use Rattle.std.specs.Cmp.{both_ways}
use Rattle.std.specs.List.{list_all, list_any, slice_split, onto_first, join_with_byte}
use Rattle.std.specs.Str.{bytes_eq}
use Rattle.std.proofs.Math.Seq.{take-append_seam, drop-append_seam}
use Rattle.std.proofs.lemmas.Bool.{and_parts, and_from, or_right, eqb-true, ne_eqb}
use Rattle.std.proofs.lemmas.Bool.Decides.{nat_tests}
use Rattle.std.proofs.lemmas.List.{take-append-drop}
use Rattle.std.proofs.lemmas.List.Folds.{list_all-append}
use Rattle.std.proofs.lemmas.List.Splits.{length-slice_split}
use Rattle.std.proofs.lemmas.Slice.Eq.{starts_is, bytes_eq-Decides}
use Rattle.vn_types.specs.Octets.{dot}
use Rattle.vn_types.specs.Words.{is_label}
use Rattle.vn_types.specs.Paths.{Path, is_path, is_under, joined, glued, above, parent}
use Rattle.vn_types.specs.PathTexts.{pieces, labels_in, before_last_dot, ends_or_dot, is_text_under}
use Rattle.vn_types.proofs.Ancestors.{parent-cons, parent-none, path-parent, is_under-host}
use Rattle.vn_types.proofs.Cuts.{lacks}
use Rattle.vn_types.proofs.PathTexts.{joined-host, joined_octet, joined-append, label_lacks, labels_in-joined, joined-labels_in, labels_all, pieces-count}

-- ---- the labels in a text

pub no_labels_in : (t : List ℕ) → length t ≡ 0 → 0 ≡ length (labels_in t)
unfolding labels_in
no_labels_in [] h = refl
no_labels_in (c ∷ t) h = absurd (omega arith)

pub labels_in-count : (t : List ℕ) (n : ℕ) → 0 < length t → n ≡ count_by (λ c. c == dot) t → n + 1 ≡ length (labels_in t)
unfolding labels_in
labels_in-count [] n h e = absurd (omega arith)
labels_in-count (c ∷ t) n h e = pieces-count (c ∷ t) n e

-- ---- the parent

module _ (c : ℕ) (dotted : (c == dot) ≡ false) where
  any_front : (front : List ℕ) → list_any (λ d. d == dot) (front ++ c ∷ []) ≡ list_any (λ d. d == dot) front
  any_front [] = rw dotted refl
  any_front (d ∷ front) = ap (λ b. (d == dot) || b) (any_front front)

  -- an octet at the end that is no dot
  pub before_last_dot-other : (front : List ℕ) → before_last_dot (front ++ c ∷ []) ≡ before_last_dot front
  unfolding before_last_dot
  before_last_dot-other [] = refl
  before_last_dot-other (d ∷ front) = rw (any_front front, before_last_dot-other front) refl

any_dot : (front rest : List ℕ) → list_any (λ d. d == dot) (front ++ dot ∷ rest) ≡ true
any_dot [] rest = refl
any_dot (d ∷ front) rest = or_right (d == dot) _ (any_dot front rest)

-- a dot at the end
pub before_last_dot-dot : (front : List ℕ) → before_last_dot (front ++ dot ∷ []) ≡ front
unfolding before_last_dot
before_last_dot-dot [] = refl
before_last_dot-dot (d ∷ front) = rw (any_dot front [], before_last_dot-dot front) refl

none_lacks : (t : List ℕ) → lacks dot t ≡ true → list_any (λ d. d == dot) t ≡ false
none_lacks [] h = refl
none_lacks (d ∷ t) h = grind (arith, nat_tests, none_lacks t)

before_last_dot-none : (t : List ℕ) → lacks dot t ≡ true → before_last_dot t ≡ []
unfolding before_last_dot
before_last_dot-none [] h = refl
before_last_dot-none (d ∷ t) h = let none = none_lacks t (and_parts (not (d == dot)) (lacks dot t) h).1 in rw none refl

-- what stands before a dot stays where another dot follows
before_last_dot-append : (front rest : List ℕ) → before_last_dot (front ++ dot ∷ rest) ≡ front ++ before_last_dot (dot ∷ rest)
unfolding before_last_dot
before_last_dot-append [] rest = refl
before_last_dot-append (d ∷ front) rest = rw (any_dot front rest, before_last_dot-append front rest) refl

before_last_dot-at : (t : List ℕ) (b : Bool) → list_any (λ d. d == dot) t ≡ b → before_last_dot (dot ∷ t) ≡ (if b then dot ∷ before_last_dot t else [])
unfolding before_last_dot
before_last_dot-at t b e = rw e refl

any_joined : (l m : List ℕ) (ms : Path) → list_any (λ d. d == dot) (joined (l ∷ m ∷ ms)) ≡ true
unfolding joined
any_joined l m ms = any_dot l (join_with_byte dot (m ∷ ms))

parent-single : (l : List ℕ) → parent (l ∷ []) ≡ []
unfolding above
parent-single l = refl

joined-cons : (l n : List ℕ) (ls : Path) → joined (l ∷ n ∷ ls) ≡ l ++ dot ∷ joined (n ∷ ls)
unfolding joined
joined-cons l n ls = refl

joined-single : (l : List ℕ) → joined (l ∷ []) ≡ l
unfolding joined
joined-single l = refl

-- the text of the parent
before_last_dot-joined : (p : Path) → list_all is_label p ≡ true → before_last_dot (joined p) ≡ joined (parent p)
before_last_dot-joined [] h = ap before_last_dot joined-host ∙ before_last_dot-none [] refl ∙ sym joined-host ∙ ap joined (sym parent-none)
before_last_dot-joined (l ∷ []) h =
    ap before_last_dot (joined-single l) ∙ before_last_dot-none l (label_lacks l (and_parts _ _ h).0) ∙ sym joined-host ∙ ap joined (sym (parent-single l))
before_last_dot-joined (l ∷ n ∷ []) h =
    ap before_last_dot (joined-cons l n [] ∙ ap (λ t. l ++ dot ∷ t) (joined-single n))
    ∙ before_last_dot-append l n ∙ ap (λ t. l ++ t) (before_last_dot-at n false (none_lacks n (label_lacks n (and_parts _ _ (and_parts _ _ h).1).0))) ∙ append-nil l
    ∙ sym (joined-single l) ∙ ap joined (ap (λ q. l ∷ q) (sym (parent-single n)) ∙ sym (parent-cons l n []))
before_last_dot-joined (l ∷ n ∷ m ∷ ms) h =
    ap before_last_dot (joined-cons l n (m ∷ ms))
    ∙ before_last_dot-append l (joined (n ∷ m ∷ ms)) ∙ ap (λ t. l ++ t) (before_last_dot-at (joined (n ∷ m ∷ ms)) true (any_joined n m ms))
    ∙ ap (λ t. l ++ dot ∷ t) (before_last_dot-joined (n ∷ m ∷ ms) (and_parts _ _ h).1)
    ∙ ap (λ q. l ++ dot ∷ joined q) (parent-cons n m ms) ∙ sym (joined-cons l n (parent (m ∷ ms)))
    ∙ ap joined (ap (λ q. l ∷ q) (sym (parent-cons n m ms)) ∙ sym (parent-cons l n (m ∷ ms)))

pub labels_in-before_last_dot : (t : List ℕ) → is_path (labels_in t) ≡ true → labels_in (before_last_dot t) ≡ parent (labels_in t)
labels_in-before_last_dot t h =
    ap labels_in (ap before_last_dot (sym (joined-labels_in t)) ∙ before_last_dot-joined (labels_in t) (labels_all _ h))
    ∙ labels_in-joined (parent (labels_in t)) (labels_all _ (path-parent (labels_in t) h))

pub path-before_last_dot : (t : List ℕ) → is_path (labels_in t) ≡ true → is_path (labels_in (before_last_dot t)) ≡ true
path-before_last_dot t h = ap is_path (labels_in-before_last_dot t h) ∙ path-parent (labels_in t) h

-- the octets are looked at from the end
module _ (t rest front : List ℕ) (c : ℕ) (so_far : before_last_dot rest ≡ before_last_dot t) (last : rest ≡ front ++ c ∷ []) where
  pub at_dot : c ≡ dot → front ≡ before_last_dot t
  at_dot e = sym (before_last_dot-dot front) ∙ ap (λ d. before_last_dot (front ++ d ∷ [])) (sym e) ∙ ap before_last_dot (sym last) ∙ so_far

  pub past_other : c ≢ dot → before_last_dot front ≡ before_last_dot t
  past_other ne = sym (before_last_dot-other c (ne_eqb c dot ne) front) ∙ ap before_last_dot (sym last) ∙ so_far

pub none_left : (t rest : List ℕ) → before_last_dot rest ≡ before_last_dot t → length rest ≡ 0 → rest ≡ before_last_dot t
unfolding before_last_dot
none_left t [] so_far h = so_far
none_left t (c ∷ rest) so_far h = absurd (omega arith)

-- ---- one path under another

-- a text is cut at a dot in it into the pieces on both sides
pieces-dot : (t u : List ℕ) → pieces (t ++ dot ∷ u) ≡ pieces t ++ pieces u
unfolding pieces
pieces-dot [] u = refl
pieces-dot (c ∷ t) u = by (c == dot) (pieces-dot t u) (some t)
  where
    some : (s : List ℕ) → 0 < length (slice_split (λ d. d == dot) s)
    some s = omega (arith, length-slice_split (λ d. d == dot) s)

    onto : (ps qs : List (List ℕ)) → 0 < length ps → onto_first c (ps ++ qs) ≡ onto_first c ps ++ qs
    onto [] qs h = absurd (omega arith)
    onto (p ∷ ps) qs h = refl

    by : (b : Bool) → slice_split (λ d. d == dot) (t ++ dot ∷ u) ≡ slice_split (λ d. d == dot) t ++ slice_split (λ d. d == dot) u → 0 < length (slice_split (λ d. d == dot) t)
        → cond b ([] ∷ slice_split (λ d. d == dot) (t ++ dot ∷ u)) (onto_first c (slice_split (λ d. d == dot) (t ++ dot ∷ u)))
        ≡ cond b ([] ∷ slice_split (λ d. d == dot) t) (onto_first c (slice_split (λ d. d == dot) t)) ++ slice_split (λ d. d == dot) u
    by true e h = ap (λ ps. [] ∷ ps) e
    by false e h = ap (onto_first c) e ∙ onto (slice_split (λ d. d == dot) t) (slice_split (λ d. d == dot) u) h

labels_in-dot : (c : ℕ) (t u : List ℕ) → labels_in ((c ∷ t) ++ dot ∷ u) ≡ labels_in (c ∷ t) ++ pieces u
unfolding labels_in
labels_in-dot c t u = pieces-dot (c ∷ t) u

-- a text that goes on with a dot, or ends
goes_on : (c : ℕ) (u r : List ℕ) → ends_or_dot r ≡ true → (rest : Path) × (labels_in ((c ∷ u) ++ r) ≡ labels_in (c ∷ u) ++ rest)
goes_on c u [] h = ([], ap labels_in (append-nil (c ∷ u)) ∙ sym (append-nil (labels_in (c ∷ u))))
goes_on c u (d ∷ r) h = (pieces r, ap (λ e. labels_in ((c ∷ u) ++ e ∷ r)) (eqb-true d dot h) ∙ labels_in-dot c u r)

-- a text with another behind it, after a dot
text_goes_on : (c : ℕ) (u : List ℕ) (q rest : Path) → joined q ≡ c ∷ u → list_all is_label q ≡ true → list_all is_label rest ≡ true → (r : List ℕ) × (joined (q ++ rest) ≡ (c ∷ u) ++ r) × (ends_or_dot r ≡ true)
text_goes_on c u q [] e h g = ([], ap joined (append-nil q) ∙ e ∙ sym (append-nil (c ∷ u)), refl)
text_goes_on c u q (m ∷ ms) e h g = by (joined (m ∷ ms)) refl (joined_octet m ms g)
  where
    by : (s : List ℕ) → joined (m ∷ ms) ≡ s → 0 < length s → (r : List ℕ) × (joined (q ++ m ∷ ms) ≡ (c ∷ u) ++ r) × (ends_or_dot r ≡ true)
    by [] f lt = absurd (omega arith)
    by (d ∷ s) f lt = (dot ∷ d ∷ s, joined-append q (m ∷ ms) h g ∙ ap₂ glued e f, refl)

-- what the code looks at
pub under_none : (t u : List ℕ) → length u ≡ 0 → true ≡ is_text_under t u
unfolding is_text_under
under_none t [] h = refl
under_none t (c ∷ u) h = absurd (omega arith)

module _ (t : List ℕ) where
  pub under_not : (u : List ℕ) → 0 < length u → bytes_eq (take (length u) t) u ≡ false → false ≡ is_text_under t u
  unfolding is_text_under
  under_not [] h e = absurd (omega arith)
  under_not (c ∷ u) h e = sym (ap (λ b. b && ends_or_dot (drop (length (c ∷ u)) t)) e)

  pub under_rest : (u r : List ℕ) → 0 < length u → bytes_eq (take (length u) t) u ≡ true → r ≡ drop (length u) t → ends_or_dot r ≡ is_text_under t u
  unfolding is_text_under
  under_rest [] r h e is = absurd (omega arith)
  under_rest (c ∷ u) r h e is = ap ends_or_dot is ∙ sym (ap (λ b. b && ends_or_dot (drop (length (c ∷ u)) t)) e)

pub ends : (r : List ℕ) → length r ≡ 0 → true ≡ ends_or_dot r
ends [] h = refl
ends (c ∷ r) h = absurd (omega arith)

pub goes_on_by : (r : List ℕ) → 0 < length r → (slice_index_or r 0 0 == dot) ≡ ends_or_dot r
goes_on_by [] h = absurd (omega arith)
goes_on_by (c ∷ r) h = refl

pub is_under-exact : (p q : Path) → (is_under p q ≡ true → p ≡ q ++ drop (length q) p) × ((rest : Path) → p ≡ q ++ rest → is_under p q ≡ true)
unfolding is_under
is_under-exact p q = starts_is bytes_eq-Decides p q (is_under p q) refl

rest_labels : (q rest : Path) → list_all is_label (q ++ rest) ≡ true → list_all is_label rest ≡ true
rest_labels q rest h = (and_parts _ _ (sym (list_all-append is_label q rest) ∙ h)).1

none_in : labels_in [] ≡ []
unfolding labels_in
none_in = refl

pub is_text_under-is_under : (t u : List ℕ) → is_path (labels_in t) ≡ true → is_path (labels_in u) ≡ true → is_text_under t u ≡ is_under (labels_in t) (labels_in u)
unfolding is_text_under
is_text_under-is_under t [] h g = sym (ap (is_under (labels_in t)) none_in ∙ is_under-host (labels_in t))
is_text_under-is_under t (c ∷ u) h g = both_ways _ _ forth back
  where
    forth : (bytes_eq (take (length (c ∷ u)) t) (c ∷ u) && ends_or_dot (drop (length (c ∷ u)) t)) ≡ true → is_under (labels_in t) (labels_in (c ∷ u)) ≡ true
    forth e =
        let parts = and_parts _ _ e in
        let whole : t ≡ (c ∷ u) ++ drop (length (c ∷ u)) t = sym (take-append-drop (length (c ∷ u)) t) ∙ ap (λ s. s ++ drop (length (c ∷ u)) t) ((bytes_eq-Decides _ _).0 parts.0) in
        let more = goes_on c u (drop (length (c ∷ u)) t) parts.1 in
        (is_under-exact (labels_in t) (labels_in (c ∷ u))).1 more.0 (ap labels_in whole ∙ more.1)

    back : is_under (labels_in t) (labels_in (c ∷ u)) ≡ true → (bytes_eq (take (length (c ∷ u)) t) (c ∷ u) && ends_or_dot (drop (length (c ∷ u)) t)) ≡ true
    back e =
        let same = (is_under-exact (labels_in t) (labels_in (c ∷ u))).0 e in
        let rest = drop (length (labels_in (c ∷ u))) (labels_in t) in
        let all : list_all is_label rest ≡ true = rest_labels (labels_in (c ∷ u)) rest (ap (list_all is_label) (sym same) ∙ labels_all _ h) in
        let more = text_goes_on c u (labels_in (c ∷ u)) rest (joined-labels_in (c ∷ u)) (labels_all _ g) all in
        let whole : t ≡ (c ∷ u) ++ more.0 = sym (joined-labels_in t) ∙ ap joined same ∙ more.1 in
        and_from _ _ ((bytes_eq-Decides _ _).1 (ap (take (length (c ∷ u))) whole ∙ take-append_seam (c ∷ u) more.0)) (ap (λ s. ends_or_dot (drop (length (c ∷ u)) s)) whole ∙ ap ends_or_dot (drop-append_seam (c ∷ u) more.0) ∙ more.2)

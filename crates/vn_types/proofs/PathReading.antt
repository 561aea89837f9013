-- A path's text reads as the path, and a path that was read has the text.
use Rattle.std.proofs.Common.{◌≡◌, ℕ, ◌<◌, Bool, true, false, cond, ◌&&◌, ◌==◌, List, [], ◌∷◌, length, Some, None, refl, sym, ap, ◌∙◌, arith}
use Rattle.std.specs.Prelude.{codes, count_by, nat_lt}
use Rattle.std.specs.List.{list_all, slice_split}
use Rattle.std.specs.Str.{bytes_eq}
use Rattle.std.specs.Ordering.{nat_cmp}
use Rattle.std.specs.declared.cmp.Ordering.TheVariants.{Less, Greater}
use Rattle.std.specs.Cmp.Lexicographic.{slice_cmp}
use Rattle.std.proofs.lemmas.Bool.{false_from_ne_true}
use Rattle.std.proofs.lemmas.Bool.Decides.{nat_tests}
use Rattle.std.proofs.lemmas.List.Splits.{length-slice_split}
use Rattle.std.proofs.lemmas.Slice.Eq.{bytes_eq-Decides}
use Rattle.vn_types.specs.Octets.{dot}
use Rattle.vn_types.proofs.Options.{none_some}
use Rattle.vn_types.specs.Words.{is_label}
use Rattle.vn_types.specs.Paths.{Path, is_path, joined, path_text, path_cmp}
use Rattle.vn_types.specs.PathTexts.{pieces, labels_in}
use Rattle.vn_types.specs.PathWords.{labels_of, path_of, text_order}
use Rattle.vn_types.proofs.PathTexts.{joined-host, joined_octet, joined-pieces, pieces-count, pieces-joined, labels_all, same_text_cmp}

-- ---- the text of a path

path_text-host : path_text [] ≡ codes "host"
unfolding path_text
path_text-host = refl

path_text-joined : (p : Path) → 0 < length p → path_text p ≡ joined p
unfolding path_text
path_text-joined [] h = absurd (omega arith)
path_text-joined (label ∷ labels) h = refl

-- no text is without a piece
some_piece : (t : List ℕ) → 0 < length (pieces t)
unfolding pieces
some_piece t = omega (arith, length-slice_split (λ c. c == dot) t)

path_text-pieces : (t : List ℕ) → path_text (pieces t) ≡ t
path_text-pieces t = path_text-joined (pieces t) (some_piece t) ∙ joined-pieces t

pub host_text : (t : List ℕ) → length t ≡ 0 → codes "host" ≡ path_text (labels_in t)
unfolding labels_in
host_text [] h = sym path_text-host
host_text (c ∷ t) h = absurd (omega arith)

pub labels_text : (t : List ℕ) → 0 < length t → t ≡ path_text (labels_in t)
unfolding labels_in
labels_text [] h = absurd (omega arith)
labels_text (c ∷ t) h = sym (path_text-pieces (c ∷ t))

is_path-host : is_path [] ≡ true
unfolding is_path
is_path-host = refl

no_piece : is_path (pieces []) ≡ false
unfolding is_path pieces is_label
no_piece = refl

-- where the pieces are labels, they are those in the text
pub labels_in-pieces : (t : List ℕ) → is_path (pieces t) ≡ true → labels_in t ≡ pieces t
unfolding labels_in
labels_in-pieces [] h = let n = no_piece in cc
labels_in-pieces (c ∷ t) h = refl

-- ---- what reads as a path
read_host : path_of (codes "host") ≡ Some []
unfolding path_of
read_host = refl

read_pieces : (t : List ℕ) → bytes_eq t (codes "host") ≡ false → is_path (pieces t) ≡ true → path_of t ≡ Some (pieces t)
unfolding path_of labels_of
read_pieces t n h = rw (n, h) refl

-- `host`, and whatever else
pub host_read : (t s : List ℕ) (p : Path) → true ≡ bytes_eq t s → s ≡ codes "host" → p ≡ [] → Some p ≡ path_of t
unfolding path_of
host_read t s p h same none = rw (none, ← same, ← h) refl

pub no_host_read : (t s : List ℕ) → false ≡ bytes_eq t s → s ≡ codes "host" → labels_of t ≡ path_of t
unfolding path_of
no_host_read t s h same = rw (← same, ← h) refl

-- labels, and whatever else
pub path_in : (t : List ℕ) (b : Bool) → b ≡ is_path (pieces t) → b ≡ true → is_path (labels_in t) ≡ true
path_in t b is e = let h = sym is ∙ e in ap is_path (labels_in-pieces t h) ∙ h

pub labels_read : (t : List ℕ) (b : Bool) → b ≡ is_path (pieces t) → b ≡ true → Some (labels_in t) ≡ labels_of t
unfolding labels_of
labels_read t b is e = let h = sym is ∙ e in ap Some (labels_in-pieces t h) ∙ rw h refl

pub no_labels : (t : List ℕ) (b : Bool) → b ≡ is_path (pieces t) → b ≡ false → None ≡ labels_of t
unfolding labels_of
no_labels t b is e = let h = sym is ∙ e in rw h refl

-- a path is written as it was read
pub path_text-path_of : (t : List ℕ) (p : Path) → path_of t ≡ Some p → path_text p ≡ t
unfolding path_of labels_of
path_text-path_of t p h = by (bytes_eq t (codes "host")) (is_path (pieces t)) refl h
  where
    by : (a b : Bool) → bytes_eq t (codes "host") ≡ a → cond a (Some []) (cond b (Some (pieces t)) None) ≡ Some p → path_text p ≡ t
    by true b e f = let s : [] ≡ p = cc in rw (← s) (path_text-host ∙ sym ((bytes_eq-Decides t (codes "host")).0 e))
    by false true e f = let s : pieces t ≡ p = cc in rw (← s) (path_text-pieces t)
    by false false e f = absurd (none_some _ f)

-- only a path is read
pub is_path-path_of : (t : List ℕ) (p : Path) → path_of t ≡ Some p → is_path p ≡ true
unfolding path_of labels_of
is_path-path_of t p h = by (bytes_eq t (codes "host")) (is_path (pieces t)) refl h
  where
    by : (a b : Bool) → is_path (pieces t) ≡ b → cond a (Some []) (cond b (Some (pieces t)) None) ≡ Some p → is_path p ≡ true
    by true b e f = let s : [] ≡ p = cc in rw (← s) is_path-host
    by false true e f = let s : pieces t ≡ p = cc in rw (← s) e
    by false false e f = absurd (none_some _ f)

-- no path but host has its text
host_pieces : pieces (codes "host") ≡ codes "host" ∷ []
unfolding pieces
host_pieces = refl

host_no_label : is_label (codes "host") ≡ false
unfolding is_label
host_no_label = refl

host_apart : (label : List ℕ) (labels : Path) → list_all is_label (label ∷ labels) ≡ true → bytes_eq (joined (label ∷ labels)) (codes "host") ≡ false
host_apart label labels h = false_from_ne_true _ (λ e. no (text e))
  where
    text : bytes_eq (joined (label ∷ labels)) (codes "host") ≡ true → label ∷ labels ≡ codes "host" ∷ []
    text e = sym (pieces-joined label labels h) ∙ ap pieces ((bytes_eq-Decides (joined (label ∷ labels)) (codes "host")).0 e) ∙ host_pieces

    no : label ∷ labels ≡ codes "host" ∷ [] → ⊥
    no e = let l : label ≡ codes "host" = cc in grind (arith, host_no_label, rw l at h)

-- what is written reads as the path
pub path_of-path_text : (p : Path) → is_path p ≡ true → path_of (path_text p) ≡ Some p
unfolding path_text
path_of-path_text [] h = read_host
path_of-path_text (label ∷ labels) h =
    let all = labels_all (label ∷ labels) h in
    read_pieces (joined (label ∷ labels)) (host_apart label labels all) (ap is_path (pieces-joined label labels all) ∙ h) ∙ ap Some (pieces-joined label labels all)

-- ---- the order of paths is that of their texts

before_octet : (t : List ℕ) → 0 < length t → slice_cmp nat_cmp [] t ≡ Less
before_octet [] h = absurd (omega arith)
before_octet (c ∷ t) h = refl

after_octet : (t : List ℕ) → 0 < length t → slice_cmp nat_cmp t [] ≡ Greater
after_octet [] h = absurd (omega arith)
after_octet (c ∷ t) h = refl

pub text_order-path_cmp : (p q : Path) → list_all is_label p ≡ true → list_all is_label q ≡ true → path_cmp p q ≡ text_order p q
unfolding text_order path_text
text_order-path_cmp [] [] h g = sym (same_text_cmp [] [] h g) ∙ ap (λ t. slice_cmp nat_cmp t t) joined-host
text_order-path_cmp [] (m ∷ ms) h g = sym (same_text_cmp [] (m ∷ ms) h g) ∙ ap (λ t. slice_cmp nat_cmp t (joined (m ∷ ms))) joined-host ∙ before_octet _ (joined_octet m ms g)
text_order-path_cmp (l ∷ ls) [] h g = sym (same_text_cmp (l ∷ ls) [] h g) ∙ ap (slice_cmp nat_cmp (joined (l ∷ ls))) joined-host ∙ after_octet _ (joined_octet l ls h)
text_order-path_cmp (l ∷ ls) (m ∷ ms) h g = sym (same_text_cmp (l ∷ ls) (m ∷ ms) h g)

-- ---- labels are tested one after another

module _ (t rest : List ℕ) (so_far : list_all is_label (pieces rest) ≡ list_all is_label (pieces t)) where
  module _ (l more : List ℕ) (b : Bool) (cut : slice_split (λ c. c == dot) rest ≡ l ∷ slice_split (λ c. c == dot) more) (test : b ≡ is_label l) where
    label_first : (list_all is_label (pieces t)) ≡ (b && list_all is_label (pieces more))
    unfolding pieces
    label_first = sym so_far ∙ ap (list_all is_label) cut ∙ ap (λ x. x && list_all is_label (slice_split (λ c. c == dot) more)) (sym test)

    pub label_fails : b ≡ false → false ≡ is_path (pieces t)
    unfolding is_path
    label_fails fails = let all : list_all is_label (pieces t) ≡ false = label_first ∙ ap (λ x. x && list_all is_label (pieces more)) fails in rw all refl

    pub label_passes : b ≡ true → list_all is_label (pieces more) ≡ list_all is_label (pieces t)
    label_passes passes = sym (label_first ∙ ap (λ x. x && list_all is_label (pieces more)) passes)

  module _ (b : Bool) (whole : slice_split (λ c. c == dot) rest ≡ rest ∷ []) (test : b ≡ is_label rest) where
    last_first : list_all is_label (pieces t) ≡ (b && true)
    unfolding pieces
    last_first = sym so_far ∙ ap (list_all is_label) whole ∙ ap (λ x. x && true) (sym test)

    pub last_fails : b ≡ false → b ≡ is_path (pieces t)
    unfolding is_path
    last_fails fails = let all : list_all is_label (pieces t) ≡ false = last_first ∙ ap (λ x. x && true) fails in rw (all, fails) refl

    pub last_passes : b ≡ true → (n : ℕ) → n ≡ count_by (λ c. c == dot) t → nat_lt n 8 ≡ is_path (pieces t)
    unfolding is_path
    last_passes passes n count =
        let all : list_all is_label (pieces t) ≡ true = last_first ∙ ap (λ x. x && true) passes in
        rw all (grind (arith, nat_tests, pieces-count t n count))

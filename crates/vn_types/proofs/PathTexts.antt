-- A path's text gives its labels back.
use Rattle.std.specs.Prelude.{◌≡◌, ℕ, ◌≤◌, ◌<◌, true, false, ◌==◌, List, [], ◌∷◌, ◌++◌, refl, length, count_by}
use Rattle.std.proofs.Common.{sym, ap, ap₂, ◌∙◌, ◌+◌, arith, append_assoc, length-append, append-nil}
use Rattle.std.specs.List.{list_all, join_with_byte}
use Rattle.std.proofs.lemmas.Bool.{and_parts, and_from}
use Rattle.std.proofs.lemmas.Bool.Decides.{nat_tests}
use Rattle.std.proofs.lemmas.List.Folds.{list_all-append}
use Rattle.std.proofs.lemmas.List.Splits.{join_with_byte-slice_split, length-slice_split}
use Rattle.std.proofs.lemmas.Slice.Eq.{bytes_eq-Decides}
use Rattle.std.specs.Str.{bytes_eq}
use Rattle.std.specs.Ordering.{nat_cmp, ordering_then}
use Rattle.std.specs.declared.cmp.Ordering.{Ordering}
use Rattle.std.specs.declared.cmp.Ordering.TheVariants.{Less, Equal, Greater}
use Rattle.std.specs.Cmp.{both_ways}
use Rattle.std.specs.FinMap.{slice_cmp-IsAntisymmetric, nat_cmp-IsAntisymmetric}
use Rattle.std.specs.Cmp.Lexicographic.{slice_cmp, lists_total, nat_list_cmp_total}
use Rattle.vn_types.specs.Octets.{dot}
use Rattle.vn_types.specs.Words.{is_label, is_label_octet}
use Rattle.vn_types.specs.Paths.{Path, joined, is_path, glued, path_eq, path_cmp}
use Rattle.vn_types.specs.PathTexts.{pieces, labels_in}
use Rattle.vn_types.specs.OctetOrder.{self_equal}
use Rattle.vn_types.specs.PathOrder.{path_equiv, path_eq-Decides}
use Rattle.vn_types.proofs.Cuts.{lacks, split-join}

-- ---- no dot stands in a label

octets_lack : (cs : List ℕ) → list_all is_label_octet cs ≡ true → lacks dot cs ≡ true
octets_lack [] h = refl
octets_lack (c ∷ cs) h = grind (arith, nat_tests, octets_lack cs)

pub label_lacks : (l : List ℕ) → is_label l ≡ true → lacks dot l ≡ true
unfolding is_label
label_lacks [] h = refl
label_lacks (c ∷ cs) h = grind (arith, nat_tests, octets_lack cs)

labels_lack : (p : Path) → list_all is_label p ≡ true → list_all (lacks dot) p ≡ true
labels_lack [] h = refl
labels_lack (l ∷ p) h = grind (arith, label_lacks l, labels_lack p)

-- labels with dots between are cut into the labels
pub pieces-joined : (l : List ℕ) (ls : Path) → list_all is_label (l ∷ ls) ≡ true → pieces (joined (l ∷ ls)) ≡ l ∷ ls
unfolding pieces joined
pieces-joined l ls h = split-join dot l ls (labels_lack (l ∷ ls) h)

-- with dots between, the pieces are the text
pub joined-pieces : (t : List ℕ) → joined (pieces t) ≡ t
unfolding pieces joined
joined-pieces t = join_with_byte-slice_split dot t

pub pieces-count : (t : List ℕ) (n : ℕ) → n ≡ count_by (λ c. c == dot) t → n + 1 ≡ length (pieces t)
unfolding pieces
pieces-count t n e = ap (λ k. k + 1) e ∙ sym (length-slice_split (λ c. c == dot) t)

-- ---- the labels in a text

no_label : is_label [] ≡ false
unfolding is_label
no_label = refl

pub joined-host : joined [] ≡ []
unfolding joined
joined-host = refl

-- the text of labels is not empty
pub joined_octet : (l : List ℕ) (ls : Path) → list_all is_label (l ∷ ls) ≡ true → 0 < length (joined (l ∷ ls))
unfolding joined
joined_octet [] ls h = absurd (grind (arith, no_label))
joined_octet (c ∷ cs) [] h = omega arith
joined_octet (c ∷ cs) (m ∷ ms) h = omega arith

pub labels_in-joined : (p : Path) → list_all is_label p ≡ true → labels_in (joined p) ≡ p
unfolding labels_in joined
labels_in-joined [] h = refl
labels_in-joined ([] ∷ ls) h = absurd (grind (arith, no_label))
labels_in-joined ((c ∷ cs) ∷ []) h = pieces-joined (c ∷ cs) [] h
labels_in-joined ((c ∷ cs) ∷ m ∷ ms) h = pieces-joined (c ∷ cs) (m ∷ ms) h

pub joined-labels_in : (t : List ℕ) → joined (labels_in t) ≡ t
unfolding labels_in joined
joined-labels_in [] = refl
joined-labels_in (c ∷ t) = joined-pieces (c ∷ t)

pub joined-inj : (p q : Path) → list_all is_label p ≡ true → list_all is_label q ≡ true → joined p ≡ joined q → p ≡ q
joined-inj p q hp hq e = sym (labels_in-joined p hp) ∙ ap labels_in e ∙ labels_in-joined q hq

pub labels_all : (p : Path) → is_path p ≡ true → list_all is_label p ≡ true
unfolding is_path
labels_all p h = (and_parts _ _ h).0

pub few_labels : (p : Path) → is_path p ≡ true → length p ≤ 8
unfolding is_path
few_labels p h = grind (arith, nat_tests)

-- ---- one path below another

join-append : (l : List ℕ) (ls : Path) (m : List ℕ) (ms : Path) → join_with_byte dot ((l ∷ ls) ++ m ∷ ms) ≡ join_with_byte dot (l ∷ ls) ++ dot ∷ join_with_byte dot (m ∷ ms)
join-append l [] m ms = refl
join-append l (n ∷ ls) m ms = ap (λ t. l ++ dot ∷ t) (join-append n ls m ms) ∙ sym (append_assoc l (dot ∷ join_with_byte dot (n ∷ ls)) (dot ∷ join_with_byte dot (m ∷ ms)))

glued_right : (t : List ℕ) → glued t [] ≡ t
glued_right [] = refl
glued_right (c ∷ t) = refl

glued_joined : (l : List ℕ) (ls : Path) (m : List ℕ) (ms : Path) → list_all is_label (l ∷ ls) ≡ true → list_all is_label (m ∷ ms) ≡ true → glued (joined (l ∷ ls)) (joined (m ∷ ms)) ≡ joined (l ∷ ls) ++ dot ∷ joined (m ∷ ms)
unfolding joined
glued_joined [] ls m ms h g = absurd (grind (arith, no_label))
glued_joined (c ∷ cs) ls [] ms h g = absurd (grind (arith, no_label))
glued_joined (c ∷ cs) [] (d ∷ ds) [] h g = refl
glued_joined (c ∷ cs) [] (d ∷ ds) (n ∷ ms) h g = refl
glued_joined (c ∷ cs) (k ∷ ls) (d ∷ ds) [] h g = refl
glued_joined (c ∷ cs) (k ∷ ls) (d ∷ ds) (n ∷ ms) h g = refl

-- the text of a path below another
pub joined-append : (p q : Path) → list_all is_label p ≡ true → list_all is_label q ≡ true → joined (p ++ q) ≡ glued (joined p) (joined q)
unfolding joined
joined-append [] q h g = refl
joined-append (l ∷ ls) [] h g = ap joined (append-nil (l ∷ ls)) ∙ sym (glued_right (joined (l ∷ ls)))
joined-append (l ∷ ls) (m ∷ ms) h g = join-append l ls m ms ∙ sym (glued_joined l ls m ms h g)

pub labels_in-glued : (t u : List ℕ) → list_all is_label (labels_in t) ≡ true → list_all is_label (labels_in u) ≡ true → labels_in (glued t u) ≡ labels_in t ++ labels_in u
labels_in-glued t u h g =
    ap labels_in (ap₂ glued (sym (joined-labels_in t)) (sym (joined-labels_in u)) ∙ sym (joined-append (labels_in t) (labels_in u) h g))
    ∙ labels_in-joined (labels_in t ++ labels_in u) (list_all-append is_label (labels_in t) (labels_in u) ∙ and_from _ _ h g)

pub is_path-append : (p q : Path) → is_path p ≡ true → is_path q ≡ true → length p + length q ≤ 8 → is_path (p ++ q) ≡ true
unfolding is_path
is_path-append p q h g few = rw (list_all-append is_label p q) (grind (arith, nat_tests, and_parts (list_all is_label p) _ h, and_parts (list_all is_label q) _ g, length-append p q))

-- ---- texts compare as paths do

-- their texts are equal exactly where they are
pub same_text_eq : (p q : Path) → list_all is_label p ≡ true → list_all is_label q ≡ true → bytes_eq (joined p) (joined q) ≡ path_eq p q
same_text_eq p q hp hq = both_ways (bytes_eq (joined p) (joined q)) (path_eq p q)
    (λ e. rw (joined-inj p q hp hq ((bytes_eq-Decides (joined p) (joined q)).0 e)) (path_equiv.refl q))
    (λ e. rw ((path_eq-Decides p q).0 e) ((bytes_eq-Decides (joined q) (joined q)).1 refl))

then_first : (a b : Ordering) → (a ≡ Equal → b ≡ Equal) → a ≡ ordering_then a b
then_first Less b f = refl
then_first Equal b f = sym (f refl)
then_first Greater b f = refl

pub same_text_cmp : (p q : Path) → list_all is_label p ≡ true → list_all is_label q ≡ true → slice_cmp nat_cmp (joined p) (joined q) ≡ path_cmp p q
unfolding path_cmp
same_text_cmp p q hp hq = then_first _ _ (λ e. rw (joined-inj p q hp hq (slice_cmp-IsAntisymmetric nat_cmp-IsAntisymmetric (joined p) (joined q) e)) (self_equal _ ((lists_total nat_list_cmp_total).antisymm q q)))

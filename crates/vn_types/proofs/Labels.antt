-- The labels in a text are given one after another.
use Rattle.std.proofs.Common.{◌≡◌, ℕ, ◌<◌, true, ◌==◌, List, [], ◌∷◌, ◌++◌, length, refl, sym, ap, ◌∙◌, arith, append_assoc}
use Rattle.std.specs.List.{list_all, slice_split}
use Rattle.std.proofs.lemmas.Bool.{and_parts}
use Rattle.vn_types.specs.Octets.{dot}
use Rattle.vn_types.specs.Words.{is_label}
use Rattle.vn_types.specs.Paths.{Path, is_path}
use Rattle.vn_types.specs.PathTexts.{pieces, labels_in}
use Rattle.vn_types.proofs.PathTexts.{labels_all}

pub none_in : (t : List ℕ) → length t ≡ 0 → [] ≡ labels_in t
unfolding labels_in
none_in [] h = refl
none_in (c ∷ t) h = absurd (omega arith)

pub some_in : (t : List ℕ) → 0 < length t → labels_in t ≡ pieces t
unfolding labels_in
some_in [] h = absurd (omega arith)
some_in (c ∷ t) h = refl

pub all_labels : (t : List ℕ) → 0 < length t → is_path (labels_in t) ≡ true → list_all is_label (pieces t) ≡ true
all_labels t some path = ap (list_all is_label) (sym (some_in t some)) ∙ labels_all _ path

module _ (t rest : List ℕ) (labels : Path) (whole : labels ++ pieces rest ≡ labels_in t) (tested : list_all is_label (pieces rest) ≡ true) where
  module _ (l more : List ℕ) (cut : slice_split (λ c. c == dot) rest ≡ l ∷ slice_split (λ c. c == dot) more) where
    cut_tested : list_all is_label (l ∷ pieces more) ≡ true
    unfolding pieces
    cut_tested = ap (list_all is_label) (sym cut) ∙ tested

    pub next_label : is_label l ≡ true
    next_label = (and_parts _ _ cut_tested).0

    pub more_labels : list_all is_label (pieces more) ≡ true
    more_labels = (and_parts _ _ cut_tested).1

    pub next_given : (next : Path) → next ≡ labels ++ l ∷ [] → next ++ pieces more ≡ labels_in t
    unfolding pieces
    next_given next e = ap (λ ls. ls ++ pieces more) e ∙ append_assoc labels (l ∷ []) (pieces more) ∙ ap (λ ps. labels ++ ps) (sym cut) ∙ whole

  module _ (last : slice_split (λ c. c == dot) rest ≡ rest ∷ []) where
    pub last_label : is_label rest ≡ true
    unfolding pieces
    last_label = (and_parts _ _ (ap (list_all is_label) (sym last) ∙ tested)).0

    pub all_given : (next : Path) → next ≡ labels ++ rest ∷ [] → next ≡ labels_in t
    unfolding pieces
    all_given next e = e ∙ ap (λ ps. labels ++ ps) (sym last) ∙ whole

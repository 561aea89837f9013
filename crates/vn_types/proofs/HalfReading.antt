-- Halves are read as they are written.
use Rattle.std.proofs.Common.{◌≡◌, ℕ, ◌<◌, ◌^◌, ◌==◌, true, not, List, [], ◌∷◌, ◌++◌, Option, Some, None, refl, sym, ap, ◌∙◌, arith, append_assoc}
use Rattle.std.specs.Prelude.{IfSome, option_and_then}
use Rattle.std.specs.List.{list_all, slice_split, join_with_byte}
use Rattle.std.proofs.lemmas.Bool.{and_parts}
use Rattle.std.proofs.lemmas.Bool.Decides.{nat_tests}
use Rattle.std.proofs.lemmas.List.Folds.{list_all-append}
use Rattle.vn_types.specs.Octets.{dot, slash}
use Rattle.vn_types.specs.declared.half.Half.{Half}
use Rattle.vn_types.specs.declared.interface.Side.{Side}
use Rattle.vn_types.specs.Words.{is_label, is_label_octet}
use Rattle.vn_types.specs.Paths.{Path, is_path, joined, path_text}
use Rattle.vn_types.proofs.PathTexts.{labels_all}
use Rattle.vn_types.specs.PathWords.{path_of}
use Rattle.vn_types.specs.InterfaceWords.{unit_side_of, unit_side_text}
use Rattle.vn_types.specs.HalfWords.{half_parts, half_pieces, half_of, half_text}
use Rattle.vn_types.proofs.Options.{none_some, some_same}
use Rattle.vn_types.proofs.Cuts.{lacks, split-lacks, split-append, read_last, written_again}
use Rattle.vn_types.proofs.PathReading.{path_text-path_of, is_path-path_of}
use Rattle.vn_types.proofs.InterfaceReading.{unit_side_canonical, unit_side_read_back, unit_side_lacks}

-- ---- no label has a `/`

octets_lack : (cs : List ℕ) → list_all is_label_octet cs ≡ true → lacks slash cs ≡ true
octets_lack [] h = refl
octets_lack (c ∷ cs) h = grind (arith, nat_tests, octets_lack cs)

label_lacks : (l : List ℕ) → is_label l ≡ true → lacks slash l ≡ true
unfolding is_label
label_lacks [] h = refl
label_lacks (c ∷ l) h = grind (arith, nat_tests, octets_lack l)

joined_lacks : (p : Path) → list_all is_label p ≡ true → lacks slash (joined p) ≡ true
unfolding joined
joined_lacks [] h = refl
joined_lacks (l ∷ []) h = label_lacks l (and_parts (is_label l) true h).0
joined_lacks (l ∷ m ∷ ls) h =
    let parts = and_parts (is_label l) (list_all is_label (m ∷ ls)) h in
    list_all-append (λ d. not (d == slash)) l (dot ∷ joined (m ∷ ls)) ∙ rw (label_lacks l parts.0, joined_lacks (m ∷ ls) parts.1) refl

path_text_lacks : (p : Path) → is_path p ≡ true → lacks slash (path_text p) ≡ true
unfolding path_text
path_text_lacks [] h = refl
path_text_lacks (l ∷ ls) h = joined_lacks (l ∷ ls) (labels_all (l ∷ ls) h)

-- ---- halves

record IsSpeltHalf (home unit : List ℕ) (half : Half) : Type 0 where
  end : unit_side_of unit ≡ Some (half.unit, half.side)
  path : path_of home ≡ Some half.home

half_ends : (home unit : List ℕ) (half : Half) → half_parts home unit ≡ Some half → IsSpeltHalf home unit half
unfolding half_parts
half_ends home unit half h = by (unit_side_of unit) (path_of home) refl refl h
  where
    by : (p : Option (ℕ × Side)) (q : Option Path) → unit_side_of unit ≡ p → path_of home ≡ q → option_and_then {U = Half} (λ v. option_and_then {U = Half} (λ p. Some (record { home = p; unit = v.0; side = v.1 })) q) p ≡ Some half → IsSpeltHalf home unit half
    by (Some v) (Some p) i j e =
        let same = some_same _ _ e in
        record { end = i ∙ ap Some (λ k. ((same k).unit, (same k).side)); path = j ∙ ap Some (λ k. (same k).home) }
    by (Some v) None i j e = absurd (none_some _ e)
    by None q i j e = absurd (none_some _ e)

half_whole : (home unit : List ℕ) (half : Half) → half_parts home unit ≡ Some half → lacks slash unit ≡ true
half_whole home unit half h = let n = half_ends home unit half h in unit_side_lacks unit _ n.end

pub half_cut : (t home unit : List ℕ) → slice_split (λ x. x == slash) t ≡ home ∷ slice_split (λ x. x == slash) unit → half_parts home unit ≡ half_of t
unfolding half_of half_pieces
half_cut t home unit h = sym (ap half_pieces h ∙ read_last slash (half_parts home) (half_whole home) (λ ds. half_pieces (home ∷ ds)) (record { none = refl; one = λ d. refl; more = λ d e ds. refl }) unit)

pub half_uncut : (t : List ℕ) → slice_split (λ x. x == slash) t ≡ t ∷ [] → None ≡ half_of t
unfolding half_of half_pieces
half_uncut t h = sym (ap half_pieces h)

half_written : (home unit : List ℕ) (half : Half) → IsSpeltHalf home unit half → half_text half ≡ join_with_byte slash (home ∷ unit ∷ [])
unfolding half_text
half_written home unit half n =
    let path = path_text-path_of home half.home n.path in
    let end = unit_side_canonical unit _ n.end in
    λ i. path i ++ slash ∷ end i

half_spelt : (ds : List (List ℕ)) (half : Half) → half_pieces ds ≡ Some half → half_text half ≡ join_with_byte slash ds
unfolding half_pieces
half_spelt (home ∷ unit ∷ []) half e = half_written home unit half (half_ends home unit half e)
half_spelt _ half e = absurd (none_some _ e)

-- a half is written as it was read
pub half_canonical : (t : List ℕ) (o : Option Half) → o ≡ half_of t → IfSome o (λ half. half_text half ≡ t)
unfolding half_of
half_canonical = written_again slash half_pieces half_text half_spelt

-- and read as it is written
pub half_read_back : (half : Half) → path_of (path_text half.home) ≡ Some half.home → half.unit < 2 ^ 32 → half_of (half_text half) ≡ Some half
unfolding half_of half_text half_pieces half_parts
half_read_back half path small =
    let end = unit_side_read_back half.unit half.side small in
    let home = path_text_lacks half.home (is_path-path_of _ half.home path) in
    let unit = split-lacks slash (unit_side_text half.unit half.side) (unit_side_lacks (unit_side_text half.unit half.side) (half.unit, half.side) end) in
    ap half_pieces (split-append slash (path_text half.home) (unit_side_text half.unit half.side) home ∙ ap (λ ps. path_text half.home ∷ ps) unit) ∙ rw (end, path) refl

-- what a writer puts
pub half_texts : (old one two : List ℕ) (half : Half) (text : List ℕ) → one ≡ old ++ path_text half.home → two ≡ one ++ slash ∷ text → text ≡ unit_side_text half.unit half.side → two ≡ old ++ half_text half
unfolding half_text
half_texts old one two half text e f g = f ∙ (λ i. e i ++ slash ∷ g i) ∙ append_assoc old (path_text half.home) (slash ∷ unit_side_text half.unit half.side)

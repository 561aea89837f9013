-- The link of a half that stands in the stack is the pair's end.
use Rattle.std.proofs.Common.{◌≡◌, ℕ, Bool, true, false, ◌||◌, cond, List, [], ◌∷◌, map, Option, Some, None, unwrap_or, refl, ap, ◌∙◌}
use Rattle.std.specs.List.{find, list_any}
use Rattle.vn_types.specs.declared.interface.HalfId.{HalfId}
use Rattle.vn_types.specs.declared.interface.IfOf.{IfOf}
use Rattle.vn_types.specs.declared.interface.IfOf.TheVariants.{Lo0, Half}
use Rattle.vn_types.specs.Interfaces.{half_id_eq, if_same}
use Rattle.vn_types.proofs.InterfaceNames.{half_id_eq-Decides}
use Rattle.vn_rules.specs.Scenes.{LinkOf, link_of, no_link}
use Rattle.vn_epair.specs.Halves.{Pair}
use Rattle.vn_vmove.specs.declared.tables.Tables.{Tables}
use Rattle.vn_vmove.specs.Parts.{pair_at, parts}
use Rattle.vn_vmove.specs.Sound.{IsSound, stands_at}
use Rattle.vn_vmove.proofs.Deciding.{if-flip}
use Rattle.vn_vmove.proofs.Names.{listed-stands}
use Rattle.vn_ipcore.specs.Scenes.{halves_of, link_by, scene_of}

-- a link is that of its half
pub link-half : (h : HalfId) (o : Option Pair) → (link_by h o).half ≡ h
link-half h None = refl
link-half h (Some pair) = refl

module _ (pairs : ℕ → Option Pair) (h : HalfId) where
  abbrev link : HalfId → LinkOf HalfId
  link g = link_by g (pairs g.pair)

  abbrev found : List (IfOf HalfId) → Option (LinkOf HalfId)
  found ifs = find (λ (l : LinkOf HalfId). half_id_eq l.half h) (map link (halves_of ifs))

  link-found : (ifs : List (IfOf HalfId)) → list_any (if_same half_id_eq (Half h)) ifs ≡ true → found ifs ≡ Some (link h)
  link-found [] e = cc
  link-found (Lo0 ∷ ifs) e = link-found ifs e
  link-found (Half g ∷ ifs) e =
      ap (λ k. cond (half_id_eq k h) (Some (link g)) (found ifs)) (link-half g (pairs g.pair))
      ∙ by (half_id_eq g h) refl (ap (λ b. b || list_any (if_same half_id_eq (Half h)) ifs) (if-flip (Half g) (Half h)) ∙ e) (link-found ifs)
    where
      by : (b : Bool) → half_id_eq g h ≡ b → (b || list_any (if_same half_id_eq (Half h)) ifs) ≡ true
          → (list_any (if_same half_id_eq (Half h)) ifs ≡ true → found ifs ≡ Some (link h)) → cond b (Some (link g)) (found ifs) ≡ Some (link h)
      by true is e more = ap (λ k. Some (link k)) ((half_id_eq-Decides g h).0 is)
      by false is e more = more e

pub link_of-scene : {t : Tables} (s : IsSound t) (q : ℕ) (h : HalfId) → stands_at q h.side (pair_at t h.pair) ≡ true → link_of half_id_eq h (scene_of t q) ≡ link_by h (pair_at t h.pair)
unfolding link_of scene_of
link_of-scene {t} s q h stands = ap (λ o. unwrap_or o (no_link h)) (link-found (pair_at t) h (parts t q).interfaces (listed-stands s q h ∙ stands))

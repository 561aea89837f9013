-- A half that nothing names leaves the stack where it stands: what is listed there, and under which names.
use Rattle.std.proofs.Common.{◌≡◌, ℕ, ◌==◌, Bool, true, false, not, Some, None, refl, sym, ap, ◌∙◌}
use Rattle.std.specs.Prelude.{if◌then◌else◌}
use Rattle.std.specs.List.{list_all, list_any}
use Rattle.std.proofs.lemmas.Bool.{both_ways, true≢false}
use Rattle.vn_types.specs.declared.interface.HalfId.{HalfId}
use Rattle.vn_types.specs.declared.interface.IfName.{IfName}
use Rattle.vn_types.specs.declared.interface.IfOf.{IfOf}
use Rattle.vn_types.specs.declared.interface.IfOf.TheVariants.{Lo0, Half}
use Rattle.vn_types.specs.Interfaces.{half_id_eq, if_same}
use Rattle.vn_types.proofs.InterfaceNames.{half_id_eq-Decides}
use Rattle.vn_rules.specs.Named.{if_name}
use Rattle.vn_rules.proofs.ListTests.{all_filter}
use Rattle.vn_epair.specs.Halves.{Pair}
use Rattle.vn_epair.specs.Pairs.{end_of}
use Rattle.vn_ifnet.specs.declared.interfaces.Attached.{Attached}
use Rattle.vn_ifnet.specs.Stacks.{named, without}
use Rattle.vn_vmove.specs.declared.tables.Tables.{Tables}
use Rattle.vn_vmove.specs.Parts.{held, pair_at, parts}
use Rattle.vn_vmove.specs.Places.{IsFree, left}
use Rattle.vn_vmove.specs.Sound.{IsSound, half_name, is_rightly_named, name_in, stands_at, times}
use Rattle.vn_vmove.proofs.Listing.{count, cut, cut-other, cut-own, listed-count, what-without, what_of}
use Rattle.vn_vmove.proofs.Names.{unlisted-missed}
use Rattle.vn_vmove.proofs.Deciding.{eq-sym}

module _ {t : Tables} (s : IsSound t) (h : HalfId) (from : ℕ) (pair : Pair) (is : pair_at t h.pair ≡ Some pair) (at : (end_of h.side pair).at ≡ from) where
  -- elsewhere it is not listed
  not_there : (q : ℕ) → (q == from) ≡ false → count (Half h) (parts t q).interfaces ≡ 0
  not_there q e =
      s.listed q (Half h) ∙ ap (λ o. times (stands_at q h.side o)) is ∙ ap (λ r. times (r == q)) at
      ∙ ap times (eq-sym from q ∙ e)

  pub what-left : (q : ℕ) → what_of (left h from q (held t q).attached) ≡ cut h (q == from) (parts t q).interfaces
  what-left q = by (q == from)
    where
      by : (c : Bool) → what_of (if c then without (Half h) (held t q).attached else (held t q).attached) ≡ cut h c (parts t q).interfaces
      by true = what-without h (held t q).attached
      by false = refl

  pub cut-gone : (q : ℕ) → count (Half h) (cut h (q == from) (parts t q).interfaces) ≡ 0
  cut-gone q = cut-own h (q == from) (parts t q).interfaces (not_there q)

  pub left-right : (q : ℕ) → list_all (is_rightly_named t) (left h from q (held t q).attached) ≡ true
  left-right q = by (q == from)
    where
      by : (c : Bool) → list_all (is_rightly_named t) (if c then without (Half h) (held t q).attached else (held t q).attached) ≡ true
      by true = all_filter (λ (a : Attached). not (if_same half_id_eq a.what (Half h))) (is_rightly_named t) (held t q).attached (s.names q)
      by false = s.names q

  -- once it has left, nothing stands under its name where this is free
  pub free-missed : (to : ℕ) (name : IfName) → name_in t h ≡ name → IsFree t h to
      → named name (record (held t to) { attached = left h from to (held t to).attached }) ≡ None
  free-missed to name called free = unlisted-missed name (name_in t) (left h from to (held t to).attached) (left-right to) none
    where
      listed : (on : IfOf HalfId) → list_any (if_same half_id_eq on) (what_of (left h from to (held t to).attached)) ≡ true
          → list_any (if_same half_id_eq on) (cut h (to == from) (parts t to).interfaces) ≡ true
      listed on e = ap (list_any (if_same half_id_eq on)) (sym (what-left to)) ∙ e

      other : (g : HalfId) → half_id_eq g h ≡ false → list_any (if_same half_id_eq (Half g)) (cut h (to == from) (parts t to).interfaces) ≡ true
          → stands_at to g.side (pair_at t g.pair) ≡ true
      other g e there =
          sym (listed-count (Half g) (cut h (to == from) (parts t to).interfaces) (stands_at to g.side (pair_at t g.pair))
          (cut-other h (Half g) (to == from) (parts t to).interfaces e ∙ s.listed to (Half g)))
          ∙ there

      none : (on : IfOf HalfId) → list_any (if_same half_id_eq on) (what_of (left h from to (held t to).attached)) ≡ true → if_name (name_in t) on ≡ name → ⊥
      none Lo0 there e = let own = ap (λ o. half_name o h.side) (sym is) ∙ called in cc
      none (Half g) there e = by (half_id_eq g h) refl
        where
          by : (b : Bool) → half_id_eq g h ≡ b → ⊥
          by true f = true≢false (sym (listed (Half g) there)
              ∙ ap (λ (k : HalfId). list_any (if_same half_id_eq (Half k)) (cut h (to == from) (parts t to).interfaces)) ((half_id_eq-Decides g h).0 f)
              ∙ listed-count (Half h) (cut h (to == from) (parts t to).interfaces) false (cut-gone to))
          by false f = both_ways (half_id_eq g h) f ((half_id_eq-Decides g h).1 (free.alone g (other g f (listed (Half g) there)) (e ∙ sym called)))

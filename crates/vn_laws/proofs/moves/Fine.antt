-- Halves that are lent and reclaimed by a command that isn't refused: the world stays sound, and nothing is left behind.
use Rattle.std.proofs.Common.{◌≡◌, ◌==◌, Bool, true, false, ◌&&◌, not, Option, Some, None, refl, sym, ap, ap₂, ◌∙◌}
use Rattle.std.specs.Option.{is_some, is_none}
use Rattle.std.proofs.lemmas.Bool.{and_parts, true≢false}
use Rattle.std.proofs.lemmas.Bool.Decides.{Decides-eqb}
use Rattle.vn_types.specs.declared.errno.Errno.TheVariants as errno
use Rattle.vn_types.specs.declared.half.Half.{Half}
use Rattle.vn_types.specs.declared.interface.IfName.{IfName}
use Rattle.vn_types.specs.declared.interface.IfName.TheVariants.{Lo0, Epair}
use Rattle.vn_types.specs.declared.interface.IfOf.TheVariants.{Lo0 as OfLo0, Half as OfHalf}
use Rattle.vn_types.specs.Interfaces.{side_eq}
use Rattle.vn_types.specs.PathOrder.{path_eq-Decides}
use Rattle.vn_types.specs.Refusals.{first_refusal}
use Rattle.vn_rules.specs.Named.{ifname_eq, is_lo0}
use Rattle.vn_cells.specs.declared.world.World.{World}
use Rattle.vn_cells.specs.world.Names.{Path, If, key_of, half_name, is_under}
use Rattle.vn_cells.specs.world.World.{stack_at, pair_at, is_alive, ifs_of}
use Rattle.vn_cells.specs.commands.Taken.{standing, is_another, is_reserved, is_native, is_taken, may_have}
use Rattle.vn_cells.specs.commands.Moves.{moved_on, lending, reclaiming}
use Rattle.vn_cells.specs.keeping.Standing.{stands_at}
use Rattle.vn_cells.specs.keeping.Sound.{IsSound}
use Rattle.vn_laws.proofs.edits.Fine.{Fine, fine-none}
use Rattle.vn_laws.proofs.edits.Names.{same_half}
use Rattle.vn_laws.proofs.edits.Paths.{under-trans}
use Rattle.vn_laws.proofs.edits.Tests.{neither, not_false}
use Rattle.vn_laws.proofs.rule.Conditions.{none_of_four}
use Rattle.vn_laws.proofs.pairs.Listed.{if_eq-is}
use Rattle.vn_laws.proofs.pairs.Named.{named_found, standing_under, standing_stands}
use Rattle.vn_laws.proofs.pairs.Fine.{none_under}
use Rattle.vn_laws.proofs.moves.Kept.{IsFree, sound-moved, leaves-moved}

not_both : (a b : Bool) → (a && not b) ≡ false → a ≡ true → b ≡ true
not_both true true e f = refl
not_both true false e f = cc
not_both false b e f = cc

module _ {v : World} (s : IsSound v) where
  -- the half that is found under a name has that name
  named : (q : Path) (name : IfName) (h : Half) → standing v q name ≡ Some (OfHalf h) → ifname_eq (half_name h) name ≡ true
  named q name h e = (named_found name (ifs_of (stack_at v q)) (OfHalf h) e).0

  -- a half with the unit and the side of another has its name
  alike_named : (name : IfName) (g h : Half) → g.unit ≡ h.unit → g.side ≡ h.side → ifname_eq (half_name h) name ≡ true
      → ifname_eq (half_name g) name ≡ true
  alike_named name g h u d n = ap₂ (λ unit side. ifname_eq (Epair unit side) name) u d ∙ n

  -- the pair of the half's unit is homed at a path where its name is reserved
  reserved_unit : (to : Path) (name : IfName) (h : Half) → ifname_eq (half_name h) name ≡ true
      → is_some (pair_at v (to, h.unit)) ≡ is_reserved v to name
  unfolding is_reserved
  reserved_unit to Lo0 h n = cc
  reserved_unit to (Epair unit side) h n =
      ap (λ m. is_some (pair_at v (to, m))) ((Decides-eqb h.unit unit).0 (and_parts (h.unit == unit) (side_eq h.side side) n).0)

  lent_free : (from to : Path) (name : IfName) (h : Half) → standing v from name ≡ Some (OfHalf h) → is_taken v to name None ≡ false
      → IsFree v h to
  unfolding is_taken
  lent_free from to name h e free =
      let n = named from name h e in
      let f = neither (is_another (standing v to name) None) (is_reserved v to name && not (is_native to None)) free in
      record {
        none = λ g there u d. absurd (none_under s to name (none_other (standing v to name) f.0) g there (alike_named name g h u d n));
        home = λ some. absurd (true≢false (sym (not_both _ _ f.1 (sym (reserved_unit to name h n) ∙ some))));
      }
    where
      none_other : (o : Option If) → is_another o None ≡ false → o ≡ None
      none_other None f = refl
      none_other (Some on) f = cc

  reclaimed_free : (from to : Path) (name : IfName) (h : Half) → standing v from name ≡ Some (OfHalf h)
      → is_taken v to name (Some (OfHalf h)) ≡ false → IsFree v h to
  unfolding is_taken
  reclaimed_free from to name h e free =
      let n = named from name h e in
      let f = neither (is_another (standing v to name) (Some (OfHalf h))) (is_reserved v to name && not (is_native to (Some (OfHalf h)))) free in
      record {
        none = λ g there u d. by (standing v to name) refl f.0 g there u d (alike_named name g h u d n);
        home = λ some. (path_eq-Decides h.home to).0 (not_both _ _ f.1 (sym (reserved_unit to name h n) ∙ some));
      }
    where
      by : (o : Option If) → standing v to name ≡ o → is_another o (Some (OfHalf h)) ≡ false → (g : Half)
          → stands_at to g.side (pair_at v (key_of g)) ≡ true → g.unit ≡ h.unit → g.side ≡ h.side → ifname_eq (half_name g) name ≡ true → g ≡ h
      by None f a g there u d m = absurd (none_under s to name f g there m)
      by (Some on) f a g there u d m =
          let same : on ≡ OfHalf h = if_eq-is on (OfHalf h) (not_false _ a) in
          let at = standing_stands s to name h (f ∙ ap Some same) in
          let home : g.home ≡ h.home = s.names.once to g h there at u d in
          same_half g h (λ i. (home i, u i)) d

  fine-moved_on : (on : Option If) (from to : Path) → is_alive v to ≡ true
      → ((h : Half) → on ≡ Some (OfHalf h) → (stands_at from h.side (pair_at v (key_of h)) ≡ true) × (is_under to h.home ≡ true) × IsFree v h to)
      → Fine v (moved_on on from to v)
  unfolding moved_on
  fine-moved_on None from to lives at = fine-none s
  fine-moved_on (Some OfLo0) from to lives at = fine-none s
  fine-moved_on (Some (OfHalf h)) from to lives at =
      let e = at h refl in record { sound = sound-moved s h from to lives e.0 e.1 e.2; leaves = leaves-moved s h from to lives e.0 }

  pub fine-lending : (p : Path) (name : IfName) (to : Path) → is_under to p ≡ true → first_refusal (lending p name to v).refusals ≡ None
      → Fine v (moved_on (standing v p name) p to v)
  fine-lending p name to under none =
      let ok = none_of_four (is_none (standing v p name)) (is_lo0 (standing v p name)) (not (is_alive v to)) (is_taken v to name None)
      errno.NxIo errno.Perm errno.NxIo errno.Exist none in
      fine-moved_on (standing v p name) p to (not_false (is_alive v to) ok.2)
      (λ h e. let at = standing_stands s p name h e in
      (at, under-trans to p h.home under (standing_under s p h at), lent_free p to name h e ok.3))

  pub fine-reclaiming : (p : Path) (name : IfName) (from : Path) → is_alive v p ≡ true → first_refusal (reclaiming p name from v).refusals ≡ None
      → Fine v (moved_on (standing v from name) from p v)
  fine-reclaiming p name from lives none =
      let ok = none_of_four (not (is_alive v from)) (is_none (standing v from name)) (not (may_have p (standing v from name)))
      (is_taken v p name (standing v from name)) errno.NxIo errno.NxIo errno.Perm errno.Exist none in
      fine-moved_on (standing v from name) from p lives
      (λ h e. (
        standing_stands s from name h e,
        ap (may_have p) (sym e) ∙ not_false (may_have p (standing v from name)) ok.2,
        reclaimed_free from p name h e (ap (is_taken v p name) (sym e) ∙ ok.3),
      ))

  -- lo0 goes nowhere
  pub lo0_stays : (q from to : Path) → moved_on (standing v q Lo0) from to v ≡ v
  unfolding moved_on
  lo0_stays q from to = by (standing v q Lo0) refl
    where
      by : (o : Option If) → standing v q Lo0 ≡ o → moved_on o from to v ≡ v
      by None e = refl
      by (Some OfLo0) e = refl
      by (Some (OfHalf h)) e = let n = named q Lo0 h e in cc

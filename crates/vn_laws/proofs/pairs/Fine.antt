-- Pairs that are made and destroyed by a command that isn't refused: the world stays sound, and nothing is left behind.
use Rattle.std.proofs.Common.{◌≡◌, ℕ, true, not, Option, Some, None, refl, sym, ◌∙◌}
use Rattle.std.specs.Option.{is_none}
use Rattle.std.proofs.lemmas.Bool.{and_parts, and_from, not-true, true≢false}
use Rattle.std.proofs.lemmas.Bool.Decides.{Decides-eqb}
use Rattle.vn_types.specs.declared.half.Half.{Half}
use Rattle.vn_types.specs.declared.interface.IfName.{IfName}
use Rattle.vn_types.specs.declared.interface.IfName.TheVariants.{Epair}
use Rattle.vn_types.specs.declared.interface.IfOf.TheVariants.{Lo0, Half as OfHalf}
use Rattle.vn_types.specs.declared.interface.Side.{Side}
use Rattle.vn_types.specs.declared.interface.Side.TheVariants.{A, B}
use Rattle.vn_types.proofs.InterfaceNames.{side_eq-Decides}
use Rattle.vn_rules.specs.Named.{ifname_eq}
use Rattle.vn_cells.specs.declared.world.World.{World}
use Rattle.vn_cells.specs.world.Names.{Path, If, key_of, half_name}
use Rattle.vn_cells.specs.world.World.{stack_at, pair_at, is_alive, ifs_of}
use Rattle.vn_cells.specs.commands.Taken.{standing, is_homed, is_unit_free}
use Rattle.vn_cells.specs.commands.Pairs.{made_pair, destroyed_by}
use Rattle.vn_cells.specs.keeping.Standing.{stands_at}
use Rattle.vn_cells.specs.keeping.Sound.{IsSound}
use Rattle.vn_laws.proofs.edits.Fine.{Fine, fine-none}
use Rattle.vn_laws.proofs.edits.NamesOnce.{unlisted_stands}
use Rattle.vn_laws.proofs.rule.Conditions.{is_none-is, is_some-none}
use Rattle.vn_laws.proofs.pairs.Named.{named_missed}
use Rattle.vn_laws.proofs.pairs.Made.{sound-made_pair, leaves-made_pair}
use Rattle.vn_laws.proofs.pairs.Unmade.{sound-destroyed_pair, leaves-destroyed_pair}

module _ {v : World} (s : IsSound v) where
  -- where nothing is found under a name no half stands under it
  pub none_under : (p : Path) (name : IfName) → standing v p name ≡ None → (g : Half) → stands_at p g.side (pair_at v (key_of g)) ≡ true
      → ifname_eq (half_name g) name ≡ true → ⊥
  none_under p name e g there n =
      true≢false (sym there ∙ unlisted_stands s p g (named_missed name (ifs_of (stack_at v p)) (OfHalf g) e n))

  unheld : (p : Path) (unit : ℕ) → is_none (standing v p (Epair unit A)) ≡ true → is_none (standing v p (Epair unit B)) ≡ true
      → (g : Half) → stands_at p g.side (pair_at v (key_of g)) ≡ true → g.unit ≡ unit → ⊥
  unheld p unit a b g there u = by g.side refl
    where
      name : (side : Side) → g.side ≡ side → ifname_eq (half_name g) (Epair unit side) ≡ true
      name side e = and_from _ _ ((Decides-eqb g.unit unit).1 u) ((side_eq-Decides g.side side).1 e)

      by : (side : Side) → g.side ≡ side → ⊥
      by A e = none_under p (Epair unit A) (is_none-is (standing v p (Epair unit A)) a) g there (name A e)
      by B e = none_under p (Epair unit B) (is_none-is (standing v p (Epair unit B)) b) g there (name B e)

  pub fine-made_pair : (p : Path) (unit : ℕ) → is_alive v p ≡ true → is_unit_free v p unit ≡ true → Fine v (made_pair (p, unit) v)
  unfolding is_unit_free
  fine-made_pair p unit lives free =
      let two = and_parts _ (is_none (standing v p (Epair unit B))) free in
      let one = and_parts (not (is_homed v p unit)) (is_none (standing v p (Epair unit A))) two.0 in
      let new : pair_at v (p, unit) ≡ None = is_some-none (pair_at v (p, unit)) (not-true (is_homed v p unit) one.0) in
      record {
        sound = sound-made_pair p unit v s lives new (unheld p unit one.1 two.1);
        leaves = leaves-made_pair p unit v s lives new (unheld p unit one.1 two.1);
      }

  pub fine-destroyed_by : (on : Option If) → Fine v (destroyed_by on v)
  unfolding destroyed_by
  fine-destroyed_by None = fine-none s
  fine-destroyed_by (Some Lo0) = fine-none s
  fine-destroyed_by (Some (OfHalf h)) =
      record { sound = sound-destroyed_pair (key_of h) v s; leaves = leaves-destroyed_pair (key_of h) v s }

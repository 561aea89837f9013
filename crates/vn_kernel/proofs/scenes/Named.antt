-- Which interface a rule near a stack finds under a name: the one of the tables.
use Rattle.std.proofs.Common.{◌≡◌, ℕ, true, Option, Some, None, refl, sym, ap, ◌∙◌}
use Rattle.std.specs.Option.{option_map}
use Rattle.std.proofs.lemmas.Bool.{true≢false}
use Rattle.vn_types.specs.declared.interface.HalfId.{HalfId}
use Rattle.vn_types.specs.declared.interface.IfName.{IfName}
use Rattle.vn_types.specs.declared.interface.IfName.TheVariants as ifname
use Rattle.vn_types.specs.declared.interface.IfOf.{IfOf}
use Rattle.vn_types.specs.declared.interface.IfOf.TheVariants.{Lo0, Half as OfHalf}
use Rattle.vn_types.specs.declared.interface.Side.{Side}
use Rattle.vn_types.specs.Interfaces.{as_if}
use Rattle.vn_rules.specs.Renamed.{renamed}
use Rattle.vn_rules.specs.Scenes.{renamed_scene}
use Rattle.vn_epair.specs.Halves.{Pair}
use Rattle.vn_ifnet.specs.Stacks.{named}
use Rattle.vn_vmove.specs.Parts.{held, lives, pair_at, parts}
use Rattle.vn_vmove.specs.Sound.{half_name as name_by, name_in, times}
use Rattle.vn_vmove.proofs.Listing.{listed-count}
use Rattle.vn_vmove.proofs.Names.{found-listed, missed-unlisted}
use Rattle.vn_cells.specs.machine.Commands.{named_in}
use Rattle.vn_cells.specs.world.Names.{half_name}
use Rattle.vn_ipcore.specs.Scenes.{scene_of}
use Rattle.vn_kernel.specs.Fields.{Fields}
use Rattle.vn_kernel.specs.Naming.{name_of}
use Rattle.vn_kernel.specs.Stands.{Stands}
use Rattle.vn_kernel.proofs.moving.Found.{all_right, named-renamed}

module _ {f : Fields} (s : Stands f) (number : ℕ) where
  pub named-here : (name : IfName) → named_in half_name name (renamed_scene (name_of f) (scene_of f.tables number)) ≡ option_map (as_if (name_of f)) (named name (held f.tables number))
  unfolding renamed_scene scene_of renamed
  named-here name = named-renamed s name (held f.tables number).attached (all_right s number)

  -- a half has another name than lo0
  no_half : (side : Side) (pair : Option Pair) → name_by pair side ≡ ifname.Lo0 → ⊥
  no_half side None e = cc
  no_half side (Some pair) e = cc

  -- lo0 stands where a stack lives
  pub lo0-named : lives f.tables number ≡ true → named ifname.Lo0 (held f.tables number) ≡ Some Lo0
  lo0-named alive = by (named ifname.Lo0 (held f.tables number)) refl
    where
      by : (o : Option (IfOf HalfId)) → named ifname.Lo0 (held f.tables number) ≡ o → o ≡ Some Lo0
      by None is = absurd (true≢false
          (sym (listed-count Lo0 (parts f.tables number).interfaces true (s.sound.listed number Lo0 ∙ ap times alive))
          ∙ missed-unlisted ifname.Lo0 (name_in f.tables) (held f.tables number).attached Lo0 (s.sound.names number) is refl))
      by (Some Lo0) is = refl
      by (Some (OfHalf h)) is = absurd (no_half h.side (pair_at f.tables h.pair) (found-listed ifname.Lo0 (name_in f.tables) (held f.tables number).attached (OfHalf h) (s.sound.names number) is).0)

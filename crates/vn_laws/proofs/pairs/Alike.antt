-- Pairs that are made, changed and destroyed keep two worlds alike in a set with those that are looked up.
use Rattle.std.proofs.Common.{◌≡◌, true, Option, Some, None, sym}
use Rattle.vn_types.specs.declared.interface.IfOf.TheVariants.{Lo0, Half as OfHalf}
use Rattle.vn_types.specs.declared.interface.Side.TheVariants.{A, B}
use Rattle.vn_types.specs.declared.address.Mac.{Mac}
use Rattle.vn_cells.specs.declared.cell.Cells.{Cells}
use Rattle.vn_cells.specs.declared.world.Pair.{Pair}
use Rattle.vn_cells.specs.declared.world.World.{World}
use Rattle.vn_cells.specs.world.Names.{Key, If, key_of, half_on}
use Rattle.vn_cells.specs.world.World.{pair_at, on_parts}
use Rattle.vn_cells.specs.commands.Pairs.{attached, detached, new_pair, made_pair, unmade, destroyed_pair, destroyed_by, with_mac_on}
use Rattle.vn_cells.specs.sets.Sets.{in_pairs}
use Rattle.vn_laws.proofs.edits.Owned.{Owns}
use Rattle.vn_laws.proofs.edits.Twins.{Twins, twins-edit_live, twins-add_pair, twins-drop_pair, twins-each_pair}

module _ {set : Cells} {v w : World} (t : Twins set v w) where
  pub twins-made_pair : (k : Key) → Twins set (made_pair k v) (made_pair k w)
  unfolding made_pair
  twins-made_pair k =
      twins-edit_live (twins-edit_live (twins-add_pair t k (new_pair k)) k.0 (on_parts (attached (half_on A k)))) k.0
      (on_parts (attached (half_on B k)))

  pub twins-destroyed_pair : (k : Key) → in_pairs set k ≡ true → Twins set (destroyed_pair k v) (destroyed_pair k w)
  unfolding unmade
  twins-destroyed_pair k own = rw (sym (t.alike.pairs k own)) (by (pair_at v k))
    where
      by : (o : Option Pair) → Twins set (unmade k o v) (unmade k o w)
      by None = t
      by (Some pair) =
          twins-drop_pair
          (twins-edit_live (twins-edit_live t pair.a.at (on_parts (detached (half_on A k)))) pair.b.at (on_parts (detached (half_on B k)))) k

  pub twins-destroyed_by : (on : Option If) → Owns set on → Twins set (destroyed_by on v) (destroyed_by on w)
  unfolding destroyed_by
  twins-destroyed_by None own = t
  twins-destroyed_by (Some Lo0) own = t
  twins-destroyed_by (Some (OfHalf h)) own = twins-destroyed_pair (key_of h) own

  pub twins-with_mac_on : (on : Option If) (mac : Mac) → Twins set (with_mac_on on mac v) (with_mac_on on mac w)
  unfolding with_mac_on
  twins-with_mac_on None mac = t
  twins-with_mac_on (Some Lo0) mac = t
  twins-with_mac_on (Some (OfHalf h)) mac = twins-each_pair t _

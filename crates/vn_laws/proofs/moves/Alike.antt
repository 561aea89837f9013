-- A half that moves keeps two worlds alike.
use Rattle.std.proofs.Common.{Option, Some, None}
use Rattle.vn_types.specs.declared.half.Half.{Half}
use Rattle.vn_types.specs.declared.interface.IfOf.TheVariants.{Lo0, Half as OfHalf}
use Rattle.vn_cells.specs.declared.cell.Cells.{Cells}
use Rattle.vn_cells.specs.declared.world.World.{World}
use Rattle.vn_cells.specs.world.Names.{Path, If}
use Rattle.vn_cells.specs.world.World.{on_parts}
use Rattle.vn_cells.specs.commands.Pairs.{attached, detached}
use Rattle.vn_cells.specs.commands.Moves.{moved, moved_on}
use Rattle.vn_laws.proofs.edits.Twins.{Twins, twins-edit_live, twins-each_pair}

module _ {set : Cells} {v w : World} (t : Twins set v w) where
  pub twins-moved : (h : Half) (from to : Path) → Twins set (moved h from to v) (moved h from to w)
  unfolding moved
  twins-moved h from to =
      twins-edit_live (twins-edit_live (twins-each_pair t _) from (on_parts (detached h))) to (on_parts (attached h))

  pub twins-moved_on : (on : Option If) (from to : Path) → Twins set (moved_on on from to v) (moved_on on from to w)
  unfolding moved_on
  twins-moved_on None from to = t
  twins-moved_on (Some Lo0) from to = t
  twins-moved_on (Some (OfHalf h)) from to = twins-moved h from to

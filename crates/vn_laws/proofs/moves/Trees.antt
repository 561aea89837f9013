-- Commands on pairs and moves make nobody live or die.
use Rattle.std.proofs.Common.{Option, Some, None, refl}
use Rattle.vn_types.specs.declared.address.Mac.{Mac}
use Rattle.vn_types.specs.declared.interface.IfOf.TheVariants.{Lo0, Half as OfHalf}
use Rattle.vn_cells.specs.declared.world.World.{World}
use Rattle.vn_cells.specs.world.Names.{Path, If, key_of}
use Rattle.vn_cells.specs.commands.Pairs.{destroyed_by, with_mac_on}
use Rattle.vn_cells.specs.commands.Moves.{moved_on}
use Rattle.vn_laws.proofs.edits.Trees.{SameTree}
use Rattle.vn_laws.proofs.pairs.Ether.{tree-mac}
use Rattle.vn_laws.proofs.pairs.Unmade.{tree-destroyed_pair}
use Rattle.vn_laws.proofs.moves.Moved.{moved_tree}

module _ (v : World) where
  tree-none : SameTree v v
  tree-none = record { trees = λ p. refl; ordered = λ s. s }

  pub tree-destroyed_by : (on : Option If) → SameTree v (destroyed_by on v)
  unfolding destroyed_by
  tree-destroyed_by None = tree-none
  tree-destroyed_by (Some Lo0) = tree-none
  tree-destroyed_by (Some (OfHalf h)) = tree-destroyed_pair (key_of h) v

  pub tree-with_mac_on : (on : Option If) (mac : Mac) → SameTree v (with_mac_on on mac v)
  unfolding with_mac_on
  tree-with_mac_on None mac = tree-none
  tree-with_mac_on (Some Lo0) mac = tree-none
  tree-with_mac_on (Some (OfHalf h)) mac = tree-mac h mac v

  pub tree-moved_on : (on : Option If) (from to : Path) → SameTree v (moved_on on from to v)
  unfolding moved_on
  tree-moved_on None from to = tree-none
  tree-moved_on (Some Lo0) from to = tree-none
  tree-moved_on (Some (OfHalf h)) from to = moved_tree h from to v

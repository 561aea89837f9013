-- What belongs to a set still does where a pair is made, changed or destroyed.
use Rattle.std.proofs.Common.{◌≡◌, Bool, true, Option, Some, None}
use Rattle.vn_types.specs.declared.address.Mac.{Mac}
use Rattle.vn_types.specs.declared.interface.IfOf.TheVariants.{Lo0, Half as OfHalf}
use Rattle.vn_types.specs.declared.interface.Side.TheVariants.{A, B}
use Rattle.vn_cells.specs.declared.cell.Cells.{Cells}
use Rattle.vn_cells.specs.declared.world.Pair.{Pair}
use Rattle.vn_cells.specs.declared.world.World.{World}
use Rattle.vn_cells.specs.world.Names.{Path, Key, If, key_of, half_on}
use Rattle.vn_cells.specs.world.World.{pair_at}
use Rattle.vn_cells.specs.commands.Pairs.{new_pair, made_pair, unmade, destroyed_by, with_mac_on}
use Rattle.vn_cells.specs.sets.Sets.{in_pairs}
use Rattle.vn_laws.specs.Relations.{Belongs}
use Rattle.vn_laws.proofs.edits.Cells.{stack_at-add_pair, stack_at-drop_pair, stack_at-each_pair}
use Rattle.vn_laws.proofs.edits.Owned.{Owned, owned-stacks, owned-attach, owned-detach, owned-belongs, belongs-owned}

pub owned-unmade : {set : Cells} {test : Path → Bool} {v w : World} → Owned set test v w → (k : Key) (o : Option Pair)
    → Owned set test v (unmade k o w)
unfolding unmade
owned-unmade o k None = o
owned-unmade o k (Some pair) =
    owned-stacks (owned-detach (owned-detach o (half_on A k) pair.a.at) (half_on B k) pair.b.at) (stack_at-drop_pair k _)

module _ {set : Cells} {v : World} (b : Belongs set v) where
  pub belongs-made_pair : (k : Key) → in_pairs set k ≡ true → Belongs set (made_pair k v)
  unfolding made_pair
  belongs-made_pair k own =
      belongs-owned b
      (owned-attach
      (owned-attach (owned-stacks (owned-belongs b) (stack_at-add_pair k (new_pair k) v)) (half_on A k) k.0 (λ here. own))
      (half_on B k) k.0 (λ here. own))

  pub belongs-destroyed_by : (on : Option If) → Belongs set (destroyed_by on v)
  unfolding destroyed_by
  belongs-destroyed_by None = b
  belongs-destroyed_by (Some Lo0) = b
  belongs-destroyed_by (Some (OfHalf h)) = belongs-owned b (owned-unmade (owned-belongs b) (key_of h) (pair_at v (key_of h)))

  pub belongs-with_mac_on : (on : Option If) (mac : Mac) → Belongs set (with_mac_on on mac v)
  unfolding with_mac_on
  belongs-with_mac_on None mac = b
  belongs-with_mac_on (Some Lo0) mac = b
  belongs-with_mac_on (Some (OfHalf h)) mac = belongs-owned b (owned-stacks (owned-belongs b) (stack_at-each_pair _ v))

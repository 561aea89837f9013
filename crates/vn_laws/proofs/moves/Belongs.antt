-- What belongs to a set still does where a half moves.
use Rattle.std.proofs.Common.{◌≡◌, Bool, true, Option, Some, None}
use Rattle.vn_types.specs.declared.half.Half.{Half}
use Rattle.vn_types.specs.declared.interface.IfOf.TheVariants.{Lo0, Half as OfHalf}
use Rattle.vn_cells.specs.declared.cell.Cells.{Cells}
use Rattle.vn_cells.specs.declared.world.World.{World}
use Rattle.vn_cells.specs.world.Names.{Path, If, key_of}
use Rattle.vn_cells.specs.commands.Moves.{moved, moved_on}
use Rattle.vn_cells.specs.sets.Sets.{in_pairs}
use Rattle.vn_laws.specs.Relations.{Belongs}
use Rattle.vn_laws.proofs.edits.Cells.{stack_at-each_pair}
use Rattle.vn_laws.proofs.edits.Owned.{Owned, Owns, owned-stacks, owned-attach, owned-detach, owned-belongs, belongs-owned}

pub owned-moved : {set : Cells} {test : Path → Bool} {v w : World} → Owned set test v w → (h : Half) (from to : Path)
    → (test to ≡ true → in_pairs set (key_of h) ≡ true) → Owned set test v (moved h from to w)
unfolding moved
owned-moved {w = w} o h from to own =
    owned-attach (owned-detach (owned-stacks o (stack_at-each_pair _ w)) h from) h to own

pub belongs-moved_on : {set : Cells} {v : World} → Belongs set v → (on : Option If) (from to : Path) → Owns set on
    → Belongs set (moved_on on from to v)
unfolding moved_on
belongs-moved_on b None from to own = b
belongs-moved_on b (Some Lo0) from to own = b
belongs-moved_on b (Some (OfHalf h)) from to own = belongs-owned b (owned-moved (owned-belongs b) h from to (λ here. own))

-- ifconfig(8), vnet and -vnet: a half moves from a stack to another.
use Rattle.std.specs.Prelude.{false, not, [], ◌∷◌, Option, Some, None}
use Rattle.std.specs.Option.{is_none}
use Rattle.vn_types.specs.declared.errno.Errno.TheVariants as errno
use Rattle.vn_types.specs.declared.half.Half.{Half}
use Rattle.vn_types.specs.declared.interface.IfName.{IfName}
use Rattle.vn_types.specs.declared.interface.IfOf.TheVariants.{Lo0, Half as OfHalf}
use Rattle.vn_types.specs.declared.interface.Side.{Side}
use Rattle.vn_rules.specs.Named.{is_lo0}
use Rattle.vn_rules.specs.Rules.{Rule, done}
use Rattle.vn_cells.specs.declared.world.End.{End}
use Rattle.vn_cells.specs.declared.world.Pair.{Pair}
use Rattle.vn_cells.specs.declared.world.World.{World}
use Rattle.vn_cells.specs.world.Names.{Path, If, key_of}
use Rattle.vn_cells.specs.world.World.{is_alive, end_of, with_end, edit_pair}
use Rattle.vn_cells.specs.commands.Pairs.{attach, detach}
use Rattle.vn_cells.specs.commands.Taken.{standing, is_taken, may_have}

-- nothing waits in the queues of a pair
abbrev pub emptied : Pair → Pair
emptied pair = record { a = record pair.a { sent = [] }; b = record pair.b { sent = [] } }

-- an end that has just come to a path: down, with the hardware address that it had
abbrev pub come_to : Path → End → End
come_to to end = record end { at = to; up = false; sent = [] }

-- both queues are empty, and the half of that side has come to a path
abbrev pub placed_at : Side → Path → Pair → Pair
placed_at side to pair = with_end side (come_to to (end_of side pair)) (emptied pair)

-- a half moves from a path to another: it is purged and taken out there, and attached here
unfoldable pub moved : Half → Path → Path → World → World
moved h from to w = attach h to (detach h from (edit_pair (key_of h) (placed_at h.side to) w))

-- an interface that is a half moves
unfoldable pub moved_on : Option If → Path → Path → World → World
moved_on None from to w = w
moved_on (Some Lo0) from to w = w
moved_on (Some (OfHalf h)) from to w = moved h from to w

-- ---- rules

-- vnet: from the issuer to a jail
abbrev pub lending : Path → IfName → Path → World → Rule World
lending p name to w =
    let on = standing w p name in
    record {
      refusals =
          (is_none on, errno.NxIo) ∷ (is_lo0 on, errno.Perm) ∷ (not (is_alive w to), errno.NxIo)
          ∷ (is_taken w to name None, errno.Exist) ∷ [];
      otherwise = done (moved_on on p to w);
    }

-- -vnet: from a jail to the issuer, which is the half's home or below it
abbrev pub reclaiming : Path → IfName → Path → World → Rule World
reclaiming p name from w =
    let on = standing w from name in
    record {
      refusals =
          (not (is_alive w from), errno.NxIo) ∷ (is_none on, errno.NxIo)
          ∷ (not (may_have p on), errno.Perm) ∷ (is_taken w p name on, errno.Exist) ∷ [];
      otherwise = done (moved_on on from p w);
    }

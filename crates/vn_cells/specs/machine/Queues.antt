-- What waits in a world: frames on their way to a half, datagrams on their way through lo0, timers that are due.
use Rattle.std.specs.Prelude.{ℕ, Bool, true, false, List, [], ◌∷◌, drop, Option, Some, None}
use Rattle.std.specs.Option.{is_some}
use Rattle.vn_types.specs.declared.half.Half.{Half}
use Rattle.vn_types.specs.declared.interface.Side.{Side}
use Rattle.vn_types.specs.Interfaces.{other_side}
use Rattle.vn_rules.specs.Timers.{next_due}
use Rattle.vn_cells.specs.declared.world.Live.{Live}
use Rattle.vn_cells.specs.declared.world.Pair.{Pair}
use Rattle.vn_cells.specs.declared.world.World.{World}
use Rattle.vn_cells.specs.world.Names.{Path, key_of}
use Rattle.vn_cells.specs.world.World.{end_of, with_end, edit_pair}

-- whether something waits in a queue
abbrev pub has_any : List (List ℕ) → Bool
has_any [] = false
has_any (first ∷ more) = true

-- ---- in a pair

-- the frames that come to the half of a side: those that the other half sent
abbrev pub frames_to : Side → Pair → List (List ℕ)
frames_to side pair = (end_of (other_side side) pair).sent

-- the first of them is taken from its sender
abbrev pub without_frame : Side → Pair → Pair
without_frame side pair =
    let sender = end_of (other_side side) pair in
    with_end (other_side side) (record sender { sent = drop 1 sender.sent }) pair

-- where a half stands, and the first frame of those that come to it
abbrev pub arrival_at : Path → List (List ℕ) → Option (Path × List ℕ)
arrival_at p [] = None
arrival_at p (frame ∷ more) = Some (p, frame)

-- the same by its pair, if that exists
abbrev pub arrival : Half → Option Pair → Option (Path × List ℕ)
arrival h None = None
arrival h (Some pair) = arrival_at (end_of h.side pair).at (frames_to h.side pair)

-- the first frame that comes to a half is taken from its sender
unfoldable pub taken : Half → World → World
taken h w = edit_pair (key_of h) (without_frame h.side) w

-- ---- in a stack

-- whether a datagram is on its way through lo0
abbrev pub has_datagram : Option Live → Bool
has_datagram None = false
has_datagram (Some live) = has_any live.parts.loopback

-- whether a timer is due
abbrev pub has_due : ℕ → Option Live → Bool
has_due now None = false
has_due now (Some live) = is_some (next_due now live.parts.timers)

-- The events that act in one stack: they are handed its scene and its readers, and give them back.
use Rattle.std.specs.Prelude.{ℕ, List, [], ◌∷◌, ◌++◌, map, length, Option, Some, None, if◌then◌else◌}
use Rattle.std.specs.Option.{option_map, option_map_or}
use Rattle.vn_types.specs.declared.half.Half.{Half}
use Rattle.vn_types.specs.declared.interface.Side.TheVariants.{A, B}
use Rattle.vn_types.specs.declared.errno.Errno.{Errno}
use Rattle.vn_types.specs.declared.errno.Errno.TheVariants as errno
use Rattle.vn_types.specs.Refusals.{first_refusal}
use Rattle.vn_rules.specs.declared.parts.PartsOf.{PartsOf}
use Rattle.vn_rules.specs.Rules.{Common, Answer, answer, refused}
use Rattle.vn_rules.specs.declared.outcome.Outcome.{Outcome}
use Rattle.vn_rules.specs.Scenes.{LinkOf, SceneOf, no_link, link_of}
use Rattle.vn_rules.specs.declared.ping.PingOf.{PingOf}
use Rattle.vn_packets.specs.declared.heard.Heard.{Heard as Told}
use Rattle.vn_packets.specs.declared.heard.Heard.TheVariants.{Nothing, Pong, Fault}
use Rattle.vn_packets.specs.Fired.{FiredOf, fired}
use Rattle.vn_packets.specs.Icmp.{HeardOf}
use Rattle.vn_packets.specs.Reception.{frame_received, loop_received}
use Rattle.vn_cells.specs.declared.command.Command.{Command}
use Rattle.vn_cells.specs.declared.event.Event.{Event}
use Rattle.vn_cells.specs.declared.event.Event.TheVariants as event
use Rattle.vn_cells.specs.declared.listing.IfRow.{IfRow}
use Rattle.vn_cells.specs.declared.listing.Table.{Table}
use Rattle.vn_cells.specs.declared.transcript.What.{What}
use Rattle.vn_cells.specs.declared.transcript.What.TheVariants as what
use Rattle.vn_cells.specs.declared.world.End.{End}
use Rattle.vn_cells.specs.declared.world.Live.{Live}
use Rattle.vn_cells.specs.declared.world.Pair.{Pair}
use Rattle.vn_cells.specs.declared.world.Reader.{Reader}
use Rattle.vn_cells.specs.declared.world.World.{World}
use Rattle.vn_cells.specs.world.Names.{Path, Key, half_eq, half_name, halves_of, half_on, has_half}
use Rattle.vn_cells.specs.world.World.{common_of, stack_at, ifs_of, end_at, entry_of, edit_stack, edit_live, each_pair}
use Rattle.vn_cells.specs.machine.Commands.{near_rule}
use Rattle.vn_cells.specs.machine.Listings.{if_rows, lines_of}
use Rattle.vn_cells.specs.machine.Readers.{reader_of, open_rule, next_rule, close_rule}

-- what a local event is handed of the stack where it acts
pub record Here : Type 0 where
  -- its scene, where it lives
  pub scene : Option (SceneOf Half)
  -- its open readers
  pub readers : List Reader

-- what a local event leaves
pub record Heard : Type 0 where
  -- the scene, where it may be another
  pub scene : Option (SceneOf Half)
  -- the open readers, where the transcript is told something
  pub readers : List Reader
  -- what the transcript is told, in order
  pub told : List What

-- what is shared, the acting path, what stands there, and the event
abbrev pub LocalRule : Type 0
LocalRule = Common → Path → Here → Event → Heard

-- ---- the scene of a stack

-- a half as its stack sees it
abbrev pub link_by : Half → Option End → LinkOf Half
link_by h None = no_link h
link_by h (Some end) = record { half = h; mac = end.mac; up = end.up; sent = end.sent }

-- the scene of a living stack
unfoldable pub scene_in : World → PartsOf Half → SceneOf Half
scene_in w parts = record {
  parts = parts;
  links = map (λ h. link_by h (end_at w h)) (halves_of parts.interfaces);
}

-- what is handed at a path
abbrev pub here_at : World → Path → Here
here_at w p = record {
  scene = option_map (λ (live : Live). scene_in w live.parts) (stack_at w p).live;
  readers = (stack_at w p).readers;
}

-- ---- what is seen there

-- the lines of a table, where there is a stack
abbrev pub lines_here : Table → Option (SceneOf Half) → Option (List (List ℕ))
lines_here table scene = option_map (lines_of half_eq half_name table) scene

-- the lines of a table at a path, where it lives
abbrev pub lines_at : World → Path → Table → Option (List (List ℕ))
lines_at w p table = lines_here table (here_at w p).scene

-- why a lane may not open a reader of a table at a path, if it may not
abbrev pub open_refusal : World → ℕ → Path → Table → Option Errno
open_refusal w lane p table =
    first_refusal (open_rule lane (lines_at w p table) (stack_at w p).readers).refusals

-- the interfaces at a path, where it lives
abbrev pub listing_at : World → Path → Option (List IfRow)
listing_at w p = option_map (if_rows half_eq half_name) (here_at w p).scene

-- how many lines are left to a lane's reader at a path, where it has one
abbrev pub lines_left : World → ℕ → Path → Option ℕ
lines_left w lane p =
    option_map (λ (reader : Reader). length reader.lines) (reader_of lane (stack_at w p).readers)

-- ---- and back: places, liveness, limits and lists of interfaces are as they were

-- the parts that are left, with the interfaces that stand there
abbrev pub live_after : SceneOf Half → Live → Live
live_after s live = record live { parts = record s.parts { interfaces = live.parts.interfaces } }

-- the end where the half stands, with what its link says
abbrev pub with_link : LinkOf Half → End → End
with_link l end = record { at = end.at; mac = l.mac; up = l.up; sent = l.sent }

-- an end is changed where its half is one of the scene's
abbrev pub end_after : List Half → SceneOf Half → Half → End → End
end_after halves s h end = if has_half halves h then with_link (link_of half_eq h s) end else end

-- both ends of a pair
abbrev pub pair_after : List Half → SceneOf Half → Key → Pair → Pair
pair_after halves s k pair = record {
  a = end_after halves s (half_on A k) pair.a;
  b = end_after halves s (half_on B k) pair.b;
}

-- the scene of a path and of its halves goes back
unfoldable pub placed : Path → List Half → SceneOf Half → World → World
placed p halves s w = each_pair (pair_after halves s) (edit_live p (live_after s) w)

-- where there is one
unfoldable pub placed_if : Path → List Half → Option (SceneOf Half) → World → World
placed_if p halves None w = w
placed_if p halves (Some s) w = placed p halves s w

-- the transcript is told, and the readers are as given; where nothing is told all is as it was
unfoldable pub told : Common → Path → List Reader → List What → World → World
told common p readers [] w = w
told common p readers (what ∷ more) w =
    edit_stack p (λ s. record s {
      entries = s.entries ++ map (entry_of common.clock) (what ∷ more);
      readers = readers;
    }) w

-- what is left goes back, and the transcript is told
abbrev pub returned : Common → Path → List Half → Heard → World → World
returned common p halves heard w =
    told common p heard.readers heard.told (placed_if p halves heard.scene w)

-- the halves that stand at a path
abbrev pub halves_at : World → Path → List Half
halves_at w p = halves_of (ifs_of (stack_at w p))

-- an event at a path, by some rule
unfoldable pub act_by : LocalRule → World → Path → Event → World
act_by rule w p event =
    returned (common_of w) p (halves_at w p) (rule (common_of w) p (here_at w p) event) w

-- ---- the rule of the machine

-- a command near its stack, which lives or not
unfoldable pub near_answer :
    Common → Command → Option (SceneOf Half) → Answer (Option (SceneOf Half))
near_answer common command None = refused errno.NoEnt None
near_answer common command (Some scene) =
    let a = answer scene (near_rule half_eq half_name common command scene) in
    record { left = Some a.left; outcome = a.outcome }

-- a command's state and its line
abbrev pub heard_by : ℕ → Command → List Reader → Answer (Option (SceneOf Half)) → Heard
heard_by lane command readers a = record {
  scene = a.left;
  readers = readers;
  told = what.Cmd lane command a.outcome ∷ [];
}

-- a reader's event: its line, and the readers that are open then
abbrev pub heard_reader : (Outcome → What) → Answer (List Reader) → Heard
heard_reader line a = record { scene = None; readers = a.left; told = line a.outcome ∷ [] }

-- what is told of an awaited ping
abbrev pub told_ping : Told → List What
told_ping Nothing = []
told_ping (Pong from id ttl bytes) = what.Reply from id ttl bytes ∷ []
told_ping (Fault kind code from id) = what.Icmp kind code from id ∷ []

-- and of one that has waited too long
abbrev pub told_timeout : Option (PingOf Half) → List What
told_timeout None = []
told_timeout (Some ping) = what.Timeout ping.dst ping.id ∷ []

-- a scene that received something
abbrev pub heard_in : HeardOf Half → List Reader → Heard
heard_in a readers =
    record { scene = Some a.left; readers = readers; told = told_ping a.heard }

-- a scene where a timer fired
abbrev pub fired_in : FiredOf Half → List Reader → Heard
fired_in a readers =
    record { scene = Some a.left; readers = readers; told = told_timeout a.timeout }

-- where nothing lives nothing happens
abbrev pub unheard : List Reader → Heard
unheard readers = record { scene = None; readers = readers; told = [] }

-- by the scene, where there is one
abbrev pub heard_where : (SceneOf Half → List Reader → Heard) → Here → Heard
heard_where rule here =
    option_map_or (λ scene. rule scene here.readers) here.scene (unheard here.readers)

-- a frame that was taken from its sender, in the stack where it comes to a half
unfoldable pub hearing : Half → List ℕ → LocalRule
hearing h frame common p here event =
    heard_where (λ scene. heard_in (frame_received half_eq common h frame scene)) here

-- each other event, in the stack where it acts
unfoldable pub local : LocalRule
local common p here (event.Cmd lane path command) =
    heard_by lane command here.readers (near_answer common command here.scene)
local common p here (event.Open lane path table) =
    heard_reader (what.Open lane table)
    (answer here.readers (open_rule lane (lines_here table here.scene) here.readers))
local common p here (event.Next lane path) =
    heard_reader (what.Next lane) (answer here.readers (next_rule lane here.readers))
local common p here (event.Close lane path) =
    heard_reader (what.Close lane) (answer here.readers (close_rule lane here.readers))
local common p here (event.LoopDeliver path) =
    heard_where (λ scene. heard_in (loop_received half_eq common scene)) here
local common p here (event.Fire path) =
    heard_where (λ scene. fired_in (fired half_eq common scene)) here
local common p here _ = unheard here.readers

-- an event at a path
abbrev pub act : World → Path → Event → World
act w p event = act_by local w p event

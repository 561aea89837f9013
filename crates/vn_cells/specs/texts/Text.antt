-- The text of a run: each stack's transcript, the readers and versions left, and the history.
use Rattle.std.specs.Prelude.{ℕ, List, [], ◌∷◌, ◌++◌, codes}
use Rattle.std.specs.List.{flat_map}
use Rattle.std.specs.Fmt.{decimal}
use Rattle.vn_types.specs.AddressWords.{ip4_text}
use Rattle.vn_types.specs.HalfWords.{half_text}
use Rattle.vn_types.specs.Octets.{newline, space}
use Rattle.vn_types.specs.Paths.{path_text}
use Rattle.vn_types.specs.Errors.{errno_name, errno_number}
use Rattle.vn_cells.specs.declared.event.Event.{Event}
use Rattle.vn_cells.specs.declared.event.Event.TheVariants as event
use Rattle.vn_cells.specs.declared.listing.Table.{Table}
use Rattle.vn_cells.specs.declared.listing.Table.TheVariants.{If, Route, Arp}
use Rattle.vn_cells.specs.declared.transcript.Entry.{Entry}
use Rattle.vn_rules.specs.declared.outcome.Outcome.{Outcome}
use Rattle.vn_rules.specs.declared.outcome.Outcome.TheVariants.{Done, Refused, Value}
use Rattle.vn_cells.specs.declared.transcript.What.{What}
use Rattle.vn_cells.specs.declared.transcript.What.TheVariants as what
use Rattle.vn_cells.specs.declared.world.World.{World}
use Rattle.vn_cells.specs.world.Names.{Path}
use Rattle.vn_cells.specs.machine.Step.{run}
use Rattle.vn_cells.specs.machine.Versions.{kept, open_readers}
unfoldable pub use Rattle.vn_cells.specs.texts.Programs.{command_text}
pub use Rattle.vn_cells.specs.texts.Programs.{limit_text}

-- a text and its line end
abbrev pub line : List ℕ → List ℕ
line text = text ++ newline ∷ []

-- two texts with a space between
abbrev pub then_word : List ℕ → List ℕ → List ℕ
then_word text word = text ++ space ∷ word

-- the word for a table
abbrev pub table_text : Table → List ℕ
table_text If = codes "if"
table_text Route = codes "route"
table_text Arp = codes "arp"

-- ---- transcripts

-- what a command was answered
unfoldable pub outcome_text : Outcome → List ℕ
outcome_text Done = codes "ok"
outcome_text (Refused errno) = then_word (errno_name errno) (decimal (errno_number errno))
outcome_text (Value text) = text

-- a lane's event and its outcome
abbrev pub lane_text : ℕ → List ℕ → Outcome → List ℕ
lane_text lane text outcome = then_word (decimal lane) (text ++ codes " = " ++ outcome_text outcome)

-- what an entry tells
unfoldable pub what_text : What → List ℕ
what_text (what.Cmd lane command outcome) = lane_text lane (command_text command) outcome
what_text (what.Open lane table outcome) = lane_text lane (codes "open " ++ table_text table) outcome
what_text (what.Next lane outcome) = lane_text lane (codes "next") outcome
what_text (what.Close lane outcome) = lane_text lane (codes "close") outcome
what_text (what.Init name) = codes "- init " ++ name
what_text (what.Uninit name) = codes "- uninit " ++ name
what_text (what.Reply ip id ttl bytes) =
    codes "- reply " ++ ip4_text ip ++ codes " id " ++ decimal id ++ codes " ttl " ++ decimal ttl ++ codes " bytes " ++ decimal bytes
what_text (what.Icmp kind code ip id) =
    codes "- icmp " ++ decimal kind ++ codes "/" ++ decimal code ++ codes " from " ++ ip4_text ip ++ codes " id " ++ decimal id
what_text (what.Timeout ip id) = codes "- timeout " ++ ip4_text ip ++ codes " id " ++ decimal id

-- an entry with its clock
abbrev pub entry_line : Entry → List ℕ
entry_line e = line (then_word (decimal e.clock) (what_text e.what))

-- a path's transcript, nothing where it is empty
unfoldable pub section_text : Path → List Entry → List ℕ
section_text p [] = []
section_text p (e ∷ es) = line (codes "== " ++ path_text p) ++ flat_map entry_line (e ∷ es)

-- the transcripts of a world, in the order of their paths
unfoldable pub sections_text : World → List ℕ
sections_text w = flat_map (λ s. section_text s.0 s.1.entries) w.stacks

-- ---- the history

-- an event of a lane at a path
abbrev pub lane_event : List ℕ → ℕ → Path → List ℕ
lane_event verb lane path = verb ++ decimal lane ++ codes " " ++ path_text path

-- the line of an event
unfoldable pub event_text : Event → List ℕ
event_text (event.Tick n) = codes "tick " ++ decimal n
event_text (event.Cmd lane path command) = then_word (lane_event (codes "cmd ") lane path) (command_text command)
event_text (event.Deliver half) = codes "deliver " ++ half_text half
event_text (event.LoopDeliver path) = codes "loop " ++ path_text path
event_text (event.Fire path) = codes "fire " ++ path_text path
event_text (event.Open lane path table) = then_word (lane_event (codes "open ") lane path) (table_text table)
event_text (event.Next lane path) = lane_event (codes "next ") lane path
event_text (event.Close lane path) = lane_event (codes "close ") lane path

-- the text of a history
unfoldable pub history_text : List Event → List ℕ
history_text events =
    line (codes "== history 1") ++ flat_map (λ e. line (event_text e)) events ++ line (codes "== end")

-- ---- the whole

-- how many readers are open, and how many versions of listings are kept for them
abbrev pub pool_text : ℕ → ℕ → List ℕ
pool_text opened kept = line (codes "== pool open " ++ decimal opened ++ codes " kept " ++ decimal kept)

-- the text of a run
unfoldable pub text : List Event → List ℕ
text events =
    let w = run events in
    sections_text w ++ pool_text (open_readers w) (kept events) ++ history_text events

-- Some histories with readers, with the text that they leave.
use Rattle.std.specs.Prelude.{ℕ, List, [], ◌∷◌, ◌++◌, codes}
use Rattle.vn_cells.specs.declared.command.Command.TheVariants as command
use Rattle.vn_cells.specs.declared.event.Event.{Event}
use Rattle.vn_cells.specs.declared.event.Event.TheVariants as event
use Rattle.vn_cells.specs.declared.listing.Table.TheVariants.{If}
use Rattle.vn_cells.specs.declared.script.LaneLine.{LaneLine}
use Rattle.vn_cells.specs.declared.script.Line.TheVariants as line
use Rattle.vn_cells.specs.declared.script.Part.TheVariants.{Phase}
use Rattle.vn_cells.specs.declared.script.Script.{Script}
use Rattle.vn_cells.specs.world.Names.{Path}
use Rattle.vn_laws.specs.WorkedRows.{jail_a, makes, init_text, uninit_text, history_begins}

-- ---- histories

-- lane 1 opens a reader of the interfaces of a jail
abbrev pub opens : Event
opens = event.Open 1 jail_a If

-- it reads a line
abbrev pub reads : Event
reads = event.Next 1 jail_a

-- it closes its reader
abbrev pub closes : Event
closes = event.Close 1 jail_a

-- a jail is made, a reader is opened there, and another lane removes the jail while it is open
abbrev pub removed_unread : List Event
removed_unread = makes jail_a 0 ∷ opens ∷ event.Cmd 2 [] (command.JailRemove jail_a) ∷ []

-- the reader reads on to the end, and is closed
abbrev pub removed_read : List Event
removed_read = removed_unread ++ reads ∷ reads ∷ closes ∷ []

-- a jail is made, and its interfaces are listed
abbrev pub listed : List Event
listed = makes jail_a 0 ∷ opens ∷ reads ∷ closes ∷ []

-- ---- scripts

-- ifconfig -a of lane 1 at a path
abbrev pub list_line : Path → LaneLine
list_line path = record { lane = 1; path = path; line = line.List If }

-- the script that is one phase of these lines
abbrev pub in_one_phase : List LaneLine → Script
in_one_phase lines = record { parts = Phase lines ∷ [] }

-- host makes a jail, and the jail is listed
abbrev pub lists : Script
lists = in_one_phase (record { lane = 1; path = []; line = line.Cmd (command.JailCreate jail_a 0) } ∷ list_line jail_a ∷ [])

-- a path is listed, where no jail was made
abbrev pub lists_at : Path → Script
lists_at path = in_one_phase (list_line path ∷ [])

-- ---- their texts

-- what lo0 has when a stack is constructed
abbrev pub lo0_line : List ℕ
lo0_line = codes "lo0 up mtu 16384 127.0.0.1/8"

-- host's section where a jail was made and removed
abbrev pub host_of_removed_text : List ℕ
host_of_removed_text =
    codes "== host\n" ++ init_text
    ++ codes "0 1 jail -c name=a vnet persist = ok\n0 2 jail -r a = ok\n"

-- three versions are kept, one of each table of the jail
abbrev pub removed_unread_text : List ℕ
removed_unread_text =
    host_of_removed_text ++ codes "== a\n" ++ init_text ++ codes "0 1 open if = ok\n" ++ uninit_text
    ++ codes "== pool open 1 kept 3\n== history 1\ncmd 1 host jail -c name=a vnet persist\n"
    ++ codes "open 1 a if\ncmd 2 host jail -r a\n== end\n"

-- the line as it stood before the jail was removed, the end, and nothing is kept
abbrev pub removed_read_text : List ℕ
removed_read_text =
    host_of_removed_text ++ codes "== a\n" ++ init_text ++ codes "0 1 open if = ok\n" ++ uninit_text
    ++ codes "0 1 next = " ++ lo0_line ++ codes "\n0 1 next = end\n0 1 close = ok\n"
    ++ history_begins ++ codes "cmd 1 host jail -c name=a vnet persist\nopen 1 a if\n"
    ++ codes "cmd 2 host jail -r a\nnext 1 a\nnext 1 a\nclose 1 a\n== end\n"

-- the one line of a jail that was just made; a listing doesn't ask for the end
abbrev pub listed_text : List ℕ
listed_text =
    codes "== host\n" ++ init_text ++ codes "0 1 jail -c name=a vnet persist = ok\n== a\n" ++ init_text
    ++ codes "0 1 open if = ok\n0 1 next = " ++ lo0_line ++ codes "\n0 1 close = ok\n"
    ++ history_begins ++ codes "cmd 1 host jail -c name=a vnet persist\n"
    ++ codes "open 1 a if\nnext 1 a\nclose 1 a\n== end\n"

-- host is listed
abbrev pub listed_host_text : List ℕ
listed_host_text =
    codes "== host\n" ++ init_text
    ++ codes "0 1 open if = ok\n0 1 next = " ++ lo0_line ++ codes "\n0 1 close = ok\n"
    ++ history_begins ++ codes "open 1 host if\nnext 1 host\nclose 1 host\n== end\n"

-- ENOENT, and nothing is read or closed
abbrev pub listed_absent_text : List ℕ
listed_absent_text =
    codes "== host\n" ++ init_text ++ codes "== a\n0 1 open if = ENOENT 2\n"
    ++ history_begins ++ codes "open 1 a if\n== end\n"

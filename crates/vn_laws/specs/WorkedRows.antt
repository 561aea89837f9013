-- Some histories, with the text that they leave.
use Rattle.std.specs.Prelude.{ℕ, Bool, true, false, List, [], ◌∷◌, ◌++◌, codes}
use Rattle.std.specs.List.{list_all}
use Rattle.vn_types.specs.declared.interface.IfName.TheVariants.{Epair}
use Rattle.vn_types.specs.declared.interface.IfOf.TheVariants.{Lo0, Half as OfHalf}
use Rattle.vn_types.specs.declared.interface.Side.{Side}
use Rattle.vn_types.specs.declared.interface.Side.TheVariants.{A, B}
use Rattle.vn_cells.specs.declared.cell.Cells.{Cells}
use Rattle.vn_cells.specs.declared.command.Command.TheVariants as command
use Rattle.vn_cells.specs.declared.event.Event.{Event}
use Rattle.vn_cells.specs.declared.event.Event.TheVariants as event
use Rattle.vn_cells.specs.declared.script.Part.{Part}
use Rattle.vn_cells.specs.declared.script.Part.TheVariants.{Phase}
use Rattle.vn_cells.specs.declared.script.Script.{Script}
use Rattle.vn_cells.specs.world.Names.{Path, If, half_on}

-- a
abbrev pub jail_a : Path
jail_a = codes "a" ∷ []

-- a.b
abbrev pub jail_a_b : Path
jail_a_b = codes "a" ∷ codes "b" ∷ []

-- host makes a jail on lane 1, with that limit on its descendants
abbrev pub makes : Path → ℕ → Event
makes path limit = event.Cmd 1 [] (command.JailCreate path limit)

-- a jail makes a child on lane 1, with that limit on its descendants
abbrev pub child_of : Path → List ℕ → ℕ → Event
child_of path label limit = event.Cmd 1 path (command.JailCreate (label ∷ []) limit)

-- the set of one path
abbrev pub only : Path → Cells
only path = record { paths = path ∷ []; units = [] }

-- ---- histories

-- a jail is made, and once more
abbrev pub twice : List Event
twice = makes jail_a 0 ∷ makes jail_a 0 ∷ []

-- a child before its parent, and in a parent without room
abbrev pub no_parent_no_room : List Event
no_parent_no_room = makes jail_a_b 0 ∷ makes jail_a 0 ∷ makes jail_a_b 0 ∷ []

-- a jail with room for one, and its child
abbrev pub child : List Event
child = makes jail_a 1 ∷ makes jail_a_b 0 ∷ []

-- a jail with room for two: both children are made, the third is refused
abbrev pub two_children : List Event
two_children =
    makes jail_a 2 ∷ child_of jail_a (codes "b") 0 ∷ child_of jail_a (codes "c") 0
    ∷ child_of jail_a (codes "d") 0 ∷ []

-- a jail with room for one, whose child has room: a grandchild is refused, two levels up
abbrev pub grandchild : List Event
grandchild = makes jail_a 1 ∷ child_of jail_a (codes "b") 5 ∷ child_of jail_a_b (codes "c") 0 ∷ []

-- host makes the pair of a unit on lane 1
abbrev pub makes_pair : ℕ → Event
makes_pair unit = event.Cmd 1 [] (command.EpairCreate unit)

-- host lends a half to a jail on lane 1
abbrev pub lends : ℕ → Side → Path → Event
lends unit side jail = event.Cmd 1 [] (command.Vnet (Epair unit side) jail)

-- a jail makes the pair of a unit on lane 1
abbrev pub pair_of : Path → ℕ → Event
pair_of jail unit = event.Cmd 1 jail (command.EpairCreate unit)

-- the pair of a unit is made, once more, and then one of any unit
abbrev pub two_pairs : List Event
two_pairs = makes_pair 0 ∷ makes_pair 0 ∷ event.Cmd 1 [] command.EpairAny ∷ []

-- a name is taken in a jail where the pair of that unit is homed there, and where another half
-- stands under it
abbrev pub taken : List Event
taken =
    makes jail_a 1 ∷ child_of jail_a (codes "b") 0 ∷ pair_of jail_a 0 ∷ makes_pair 0 ∷ lends 0 A jail_a
    ∷ event.Cmd 1 jail_a (command.Vnet (Epair 0 A) (codes "b" ∷ [])) ∷ lends 0 A jail_a_b ∷ []

-- halves of host in a jail, and a jail that is removed: they are home in the order in which they
-- stood there, behind what stood in host
abbrev pub lent : List Event
lent =
    makes jail_a 0 ∷ makes_pair 0 ∷ makes_pair 1 ∷ lends 0 A jail_a ∷ lends 1 B jail_a ∷ []

-- the jail is removed
abbrev pub removes : Event
removes = event.Cmd 1 [] (command.JailRemove jail_a)

-- ---- their texts

-- the constructors' entries of a stack that is made at the start
abbrev pub init_text : List ℕ
init_text =
    codes "0 - init vnet_data\n0 - init vnet_if\n0 - init vnet_cloner\n0 - init loif\n"
    ++ codes "0 - init inaddr\n0 - init route\n0 - init arp\n0 - init ip\n0 - init icmp\n"
    ++ codes "0 - init udp\n0 - init vnet_if_return\n"

-- no reader is open, and the history begins
abbrev pub history_begins : List ℕ
history_begins = codes "== pool open 0 kept 0\n== history 1\n"

-- host alone
abbrev pub empty_text : List ℕ
empty_text = codes "== host\n" ++ init_text ++ history_begins ++ codes "== end\n"

-- ok, then EEXIST
abbrev pub twice_text : List ℕ
twice_text =
    codes "== host\n" ++ init_text
    ++ codes "0 1 jail -c name=a vnet persist = ok\n0 1 jail -c name=a vnet persist = EEXIST 17\n"
    ++ codes "== a\n" ++ init_text ++ history_begins
    ++ codes "cmd 1 host jail -c name=a vnet persist\ncmd 1 host jail -c name=a vnet persist\n"
    ++ codes "== end\n"

-- ENOENT, ok, EPERM
abbrev pub no_parent_no_room_text : List ℕ
no_parent_no_room_text =
    codes "== host\n" ++ init_text ++ codes "0 1 jail -c name=a.b vnet persist = ENOENT 2\n"
    ++ codes "0 1 jail -c name=a vnet persist = ok\n0 1 jail -c name=a.b vnet persist = EPERM 1\n"
    ++ codes "== a\n" ++ init_text ++ history_begins
    ++ codes "cmd 1 host jail -c name=a.b vnet persist\ncmd 1 host jail -c name=a vnet persist\n"
    ++ codes "cmd 1 host jail -c name=a.b vnet persist\n== end\n"

-- two children ok, the third EPERM
abbrev pub two_children_text : List ℕ
two_children_text =
    codes "== host\n" ++ init_text
    ++ codes "0 1 jail -c name=a vnet persist children.max=2 = ok\n== a\n" ++ init_text
    ++ codes "0 1 jail -c name=b vnet persist = ok\n0 1 jail -c name=c vnet persist = ok\n"
    ++ codes "0 1 jail -c name=d vnet persist = EPERM 1\n== a.b\n" ++ init_text
    ++ codes "== a.c\n" ++ init_text ++ history_begins
    ++ codes "cmd 1 host jail -c name=a vnet persist children.max=2\n"
    ++ codes "cmd 1 a jail -c name=b vnet persist\ncmd 1 a jail -c name=c vnet persist\n"
    ++ codes "cmd 1 a jail -c name=d vnet persist\n== end\n"

-- EPERM, since the parent's parent has no room
abbrev pub grandchild_text : List ℕ
grandchild_text =
    codes "== host\n" ++ init_text
    ++ codes "0 1 jail -c name=a vnet persist children.max=1 = ok\n== a\n" ++ init_text
    ++ codes "0 1 jail -c name=b vnet persist children.max=5 = ok\n== a.b\n" ++ init_text
    ++ codes "0 1 jail -c name=c vnet persist = EPERM 1\n" ++ history_begins
    ++ codes "cmd 1 host jail -c name=a vnet persist children.max=1\n"
    ++ codes "cmd 1 a jail -c name=b vnet persist children.max=5\n"
    ++ codes "cmd 1 a.b jail -c name=c vnet persist\n== end\n"

-- epair0a, EEXIST, epair1a
abbrev pub two_pairs_text : List ℕ
two_pairs_text =
    codes "== host\n" ++ init_text
    ++ codes "0 1 ifconfig epair0 create = epair0a\n0 1 ifconfig epair0 create = EEXIST 17\n"
    ++ codes "0 1 ifconfig epair create = epair1a\n" ++ history_begins
    ++ codes "cmd 1 host ifconfig epair0 create\ncmd 1 host ifconfig epair0 create\n"
    ++ codes "cmd 1 host ifconfig epair create\n== end\n"

-- EEXIST in the jail, which has a pair of that unit, and EEXIST in its child, where its half stands
abbrev pub taken_text : List ℕ
taken_text =
    codes "== host\n" ++ init_text
    ++ codes "0 1 jail -c name=a vnet persist children.max=1 = ok\n"
    ++ codes "0 1 ifconfig epair0 create = epair0a\n0 1 ifconfig epair0a vnet a = EEXIST 17\n"
    ++ codes "0 1 ifconfig epair0a vnet a.b = EEXIST 17\n== a\n" ++ init_text
    ++ codes "0 1 jail -c name=b vnet persist = ok\n0 1 ifconfig epair0 create = epair0a\n"
    ++ codes "0 1 ifconfig epair0a vnet b = ok\n== a.b\n" ++ init_text ++ history_begins
    ++ codes "cmd 1 host jail -c name=a vnet persist children.max=1\n"
    ++ codes "cmd 1 a jail -c name=b vnet persist\ncmd 1 a ifconfig epair0 create\n"
    ++ codes "cmd 1 host ifconfig epair0 create\ncmd 1 host ifconfig epair0a vnet a\n"
    ++ codes "cmd 1 a ifconfig epair0a vnet b\ncmd 1 host ifconfig epair0a vnet a.b\n== end\n"

-- the destructors' entries, from the last row to the first
abbrev pub uninit_text : List ℕ
uninit_text =
    codes "0 - uninit vnet_if_return\n0 - uninit udp\n0 - uninit icmp\n0 - uninit ip\n"
    ++ codes "0 - uninit arp\n0 - uninit route\n0 - uninit inaddr\n0 - uninit loif\n"
    ++ codes "0 - uninit vnet_cloner\n0 - uninit vnet_if\n0 - uninit vnet_data\n"

-- all ok, and the jail's destructors ran
abbrev pub removed_text : List ℕ
removed_text =
    codes "== host\n" ++ init_text ++ codes "0 1 jail -c name=a vnet persist = ok\n"
    ++ codes "0 1 ifconfig epair0 create = epair0a\n0 1 ifconfig epair1 create = epair1a\n"
    ++ codes "0 1 ifconfig epair0a vnet a = ok\n0 1 ifconfig epair1b vnet a = ok\n"
    ++ codes "0 1 jail -r a = ok\n== a\n" ++ init_text ++ uninit_text ++ history_begins
    ++ codes "cmd 1 host jail -c name=a vnet persist\ncmd 1 host ifconfig epair0 create\n"
    ++ codes "cmd 1 host ifconfig epair1 create\ncmd 1 host ifconfig epair0a vnet a\n"
    ++ codes "cmd 1 host ifconfig epair1b vnet a\ncmd 1 host jail -r a\n== end\n"

-- the interfaces of host while the halves are lent
abbrev pub ifs_lent : List If
ifs_lent = Lo0 ∷ OfHalf (half_on B ([], 0)) ∷ OfHalf (half_on A ([], 1)) ∷ []

-- the same once they are home
abbrev pub ifs_home : List If
ifs_home = ifs_lent ++ OfHalf (half_on A ([], 0)) ∷ OfHalf (half_on B ([], 1)) ∷ []

-- ---- sets

-- a jail and its child
abbrev pub family : Cells
family = record { paths = jail_a ∷ jail_a_b ∷ []; units = [] }

-- ---- scripts

-- a part without lines
abbrev pub is_empty_part : Part → Bool
is_empty_part (Phase []) = true
is_empty_part _ = false

-- a script without lines
abbrev pub has_no_line : Script → Bool
has_no_line script = list_all is_empty_part script.parts

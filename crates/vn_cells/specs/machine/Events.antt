-- Which events can happen: every number, text and path is within its bounds.
use Rattle.std.specs.Prelude.{ℕ, ◌+◌, Bool, true, false, ◌&&◌, not, nat_le, nat_lt, List, length, IsTrue}
use Rattle.std.specs.List.{list_all}
use Rattle.vn_types.specs.declared.address.Ip4.{Ip4}
use Rattle.vn_types.specs.Words.{is_name, is_sock_name}
use Rattle.vn_cells.specs.declared.command.Command.{Command}
use Rattle.vn_cells.specs.declared.command.Command.TheVariants as command
use Rattle.vn_cells.specs.declared.command.Payload.{Payload}
use Rattle.vn_cells.specs.declared.command.Payload.TheVariants as payload
use Rattle.vn_cells.specs.declared.event.Event.{Event}
use Rattle.vn_cells.specs.declared.event.Event.TheVariants as event
use Rattle.vn_cells.specs.declared.script.LaneLine.{LaneLine}
use Rattle.vn_cells.specs.declared.script.Line.{Line}
use Rattle.vn_cells.specs.declared.script.Line.TheVariants as line
use Rattle.vn_cells.specs.declared.script.Part.{Part}
use Rattle.vn_cells.specs.declared.script.Part.TheVariants as part
use Rattle.vn_cells.specs.declared.script.Script.{Script}
use Rattle.vn_cells.specs.machine.Bounds.{is_octet, is_unit, is_port, is_value, is_ttl, is_wait, is_ip, is_mac, is_ifname, is_half, is_prefix, passes}
use Rattle.vn_cells.specs.world.Names.{Path, is_host, is_path}

-- lanes are numbered from 1 to 8
abbrev pub is_lane : ℕ → Bool
is_lane lane = nat_le 1 lane && nat_le lane 8

-- a path that a command names: it has a label, and at most 8 together with the issuer's
unfoldable pub is_named_path : Path → Path → Bool
is_named_path issuer path = is_path path && not (is_host path) && nat_le (length issuer + length path) 8

-- ---- commands

-- 1 to 2,048 octets, or at most 20,000 of zero
unfoldable pub is_valid_payload : Payload → Bool
is_valid_payload (payload.Digits octets) = list_all is_octet octets && nat_le 1 (length octets) && nat_le (length octets) 2048
is_valid_payload (payload.Zero n) = nat_le n 20000

-- where a datagram goes
abbrev pub is_endpoint : Ip4 × ℕ → Bool
is_endpoint to = is_ip to.0 && is_port to.1

-- a command that is given at a path
unfoldable pub is_valid_command : Path → Command → Bool
is_valid_command issuer (command.JailCreate path children_max) = is_named_path issuer path && nat_lt children_max 10000
is_valid_command issuer (command.JailRemove path) = is_named_path issuer path
is_valid_command issuer command.EpairAny = true
is_valid_command issuer (command.EpairCreate unit) = is_unit unit
is_valid_command issuer (command.Destroy name) = is_ifname name
is_valid_command issuer (command.Vnet name path) = is_ifname name && is_named_path issuer path
is_valid_command issuer (command.VnetBack name path) = is_ifname name && is_named_path issuer path
is_valid_command issuer (command.Inet name ip len) = is_ifname name && is_ip ip && nat_le len 32
is_valid_command issuer (command.InetRemove name ip) = is_ifname name && is_ip ip
is_valid_command issuer (command.Up name) = is_ifname name
is_valid_command issuer (command.Down name) = is_ifname name
is_valid_command issuer (command.Ether name mac) = is_ifname name && is_mac mac
is_valid_command issuer (command.RouteAdd to via) = is_prefix to && is_ip via
is_valid_command issuer (command.RouteDelete to) = is_prefix to
is_valid_command issuer (command.ArpSet ip mac) = is_ip ip && is_mac mac
is_valid_command issuer (command.ArpDelete ip) = is_ip ip
is_valid_command issuer (command.SysctlGet name) = is_name name
is_valid_command issuer (command.SysctlSet name value) = is_name name && is_value value
is_valid_command issuer command.Stat = true
is_valid_command issuer (command.Ping ttl ip) = passes is_ttl ttl && is_ip ip
is_valid_command issuer (command.UdpOpen sock) = is_sock_name sock
is_valid_command issuer (command.UdpBind sock ip port) = is_sock_name sock && passes is_ip ip && is_port port
is_valid_command issuer (command.UdpConnect sock ip port) = is_sock_name sock && is_ip ip && is_port port
is_valid_command issuer (command.UdpSend sock body to) = is_sock_name sock && is_valid_payload body && passes is_endpoint to
is_valid_command issuer (command.UdpRecv sock) = is_sock_name sock
is_valid_command issuer (command.UdpTtl sock ttl) = is_sock_name sock && is_ttl ttl
is_valid_command issuer (command.UdpClose sock) = is_sock_name sock

-- ---- events

-- a lane that acts at a path
abbrev pub is_at_path : ℕ → Path → Bool
is_at_path lane path = is_lane lane && is_path path

-- an event that can happen
unfoldable pub is_valid_event : Event → Bool
is_valid_event (event.Tick n) = is_wait n
is_valid_event (event.Cmd lane path command) = is_at_path lane path && is_valid_command path command
is_valid_event (event.Deliver half) = is_half half
is_valid_event (event.LoopDeliver path) = is_path path
is_valid_event (event.Fire path) = is_path path
is_valid_event (event.Open lane path table) = is_at_path lane path
is_valid_event (event.Next lane path) = is_at_path lane path
is_valid_event (event.Close lane path) = is_at_path lane path

-- the same as a fact
abbrev pub IsValidEvent : Event → Type 0
IsValidEvent event = IsTrue (is_valid_event event)

-- every event of the history is valid
abbrev pub IsValid : List Event → Type 0
IsValid events = IsTrue (list_all is_valid_event events)

-- ---- scripts

-- what a line asks for at a path
unfoldable pub is_valid_asked : Path → Line → Bool
is_valid_asked path (line.Cmd command) = is_valid_command path command
is_valid_asked path (line.List table) = true
is_valid_asked path (line.Open table) = true
is_valid_asked path line.Next = true
is_valid_asked path line.Close = true
is_valid_asked path line.Watch = true

-- a line whose events can happen
unfoldable pub is_valid_line : LaneLine → Bool
is_valid_line asked = is_at_path asked.lane asked.path && is_valid_asked asked.path asked.line

-- a part whose events can happen
unfoldable pub is_valid_part : Part → Bool
is_valid_part (part.Phase lines) = list_all is_valid_line lines
is_valid_part part.Settle = true
is_valid_part (part.Sleep n) = is_wait n

-- every part of the script is valid
abbrev pub is_valid_script : Script → Bool
is_valid_script script = list_all is_valid_part script.parts

-- ---- what the program runs so far

-- commands that it runs
unfoldable pub is_built_command : Command → Bool
is_built_command (command.JailCreate path children_max) = true
is_built_command (command.JailRemove path) = true
is_built_command command.EpairAny = true
is_built_command (command.EpairCreate unit) = true
is_built_command (command.Destroy name) = true
is_built_command (command.Vnet name path) = true
is_built_command (command.VnetBack name path) = true
is_built_command (command.Up name) = true
is_built_command (command.Down name) = true
is_built_command (command.Ether name mac) = true
is_built_command _ = false

-- events that it runs
unfoldable pub is_built : Event → Bool
is_built (event.Cmd lane path command) = is_built_command command
is_built _ = false

-- lines that it runs
unfoldable pub is_built_line : Line → Bool
is_built_line (line.Cmd command) = is_built_command command
is_built_line _ = false

-- every event of the history is one that the program runs
abbrev pub IsBuilt : List Event → Type 0
IsBuilt events = IsTrue (list_all is_built events)

-- an event that can happen, and that the program runs
abbrev pub can_run : Event → Bool
can_run event = is_valid_event event && is_built event

-- every event of the history is one
abbrev pub CanRun : List Event → Type 0
CanRun events = IsTrue (list_all can_run events)

-- Commands in their one canonical spelling, by the program that a user knows for them.
use Rattle.std.specs.Prelude.{ℕ, Bool, ◌==◌, ◌&&◌, List, [], ◌++◌, codes, Option, Some, None, if◌then◌else◌, decimal}
use Rattle.std.specs.List.{flat_map}
use Rattle.vn_types.specs.declared.address.Ip4.{Ip4}
use Rattle.vn_types.specs.declared.address.Mac.{Mac}
use Rattle.vn_types.specs.declared.address.Prefix.{Prefix}
use Rattle.vn_types.specs.declared.interface.IfName.{IfName}
use Rattle.vn_types.specs.AddressWords.{ip4_text, prefix_text, mac_text, hex_octet}
use Rattle.vn_types.specs.InterfaceWords.{ifname_text}
use Rattle.vn_types.specs.Paths.{path_text}
use Rattle.vn_cells.specs.declared.command.Command.{Command}
use Rattle.vn_cells.specs.declared.command.Command.TheVariants as command
use Rattle.vn_cells.specs.declared.command.Payload.{Payload}
use Rattle.vn_cells.specs.declared.command.Payload.TheVariants as payload
use Rattle.vn_cells.specs.world.Names.{Path}

-- ---- jail(8)

-- a limit that is not 0
abbrev pub limit_text : ℕ → List ℕ
limit_text limit = if limit == 0 then [] else codes " children.max=" ++ decimal limit

-- a jail is made
abbrev pub creation_text : Path → ℕ → List ℕ
creation_text path limit = codes "jail -c name=" ++ path_text path ++ codes " vnet persist" ++ limit_text limit

-- a jail is removed
abbrev pub removal_text : Path → List ℕ
removal_text path = codes "jail -r " ++ path_text path

-- ---- ifconfig(8)

-- a pair of a unit is made
abbrev pub pair_text : ℕ → List ℕ
pair_text unit = codes "ifconfig epair" ++ decimal unit ++ codes " create"

-- an interface, and what is asked of it
abbrev pub interface_text : IfName → List ℕ → List ℕ
interface_text name asked = codes "ifconfig " ++ ifname_text name ++ asked

-- an interface goes to a jail, or comes from it
abbrev pub move_text : IfName → List ℕ → Path → List ℕ
move_text name verb path = codes "ifconfig " ++ ifname_text name ++ verb ++ path_text path

-- an address is added, with its own bits
abbrev pub inet_text : IfName → Ip4 → ℕ → List ℕ
inet_text name ip len =
    codes "ifconfig " ++ ifname_text name ++ codes " inet " ++ prefix_text (record { net = ip; len = len })

-- an address is removed
abbrev pub inet_removal_text : IfName → Ip4 → List ℕ
inet_removal_text name ip = codes "ifconfig " ++ ifname_text name ++ codes " inet " ++ ip4_text ip ++ codes " -alias"

-- a hardware address is set
abbrev pub ether_text : IfName → Mac → List ℕ
ether_text name mac = codes "ifconfig " ++ ifname_text name ++ codes " ether " ++ mac_text mac

-- ---- route(8)

-- whether a network is that of all addresses
abbrev pub is_default : Prefix → Bool
is_default to = (to.net.0 == 0) && (to.len == 0)

-- a destination
abbrev pub destination_text : Prefix → List ℕ
destination_text to = if is_default to then codes "default" else prefix_text to

-- a route by a gateway is added
abbrev pub route_text : Prefix → Ip4 → List ℕ
route_text to via = codes "route add " ++ destination_text to ++ codes " " ++ ip4_text via

-- a route by a gateway is removed
abbrev pub route_removal_text : Prefix → List ℕ
route_removal_text to = codes "route delete " ++ destination_text to

-- ---- arp(8)

-- the entries of an address are removed
abbrev pub arp_removal_text : Ip4 → List ℕ
arp_removal_text ip = codes "arp -d " ++ ip4_text ip

-- a static entry is set
abbrev pub arp_text : Ip4 → Mac → List ℕ
arp_text ip mac = codes "arp -s " ++ ip4_text ip ++ codes " " ++ mac_text mac

-- ---- sysctl(8)

-- a variable is read
abbrev pub variable_text : List ℕ → List ℕ
variable_text name = codes "sysctl " ++ name

-- a variable is set
abbrev pub setting_text : List ℕ → ℕ → List ℕ
setting_text name value = codes "sysctl " ++ name ++ codes "=" ++ decimal value

-- ---- ping(8)

-- a time to live that is given
abbrev pub ttl_text : Option ℕ → List ℕ
ttl_text None = []
ttl_text (Some ttl) = codes "-m " ++ decimal ttl ++ codes " "

-- an echo request
abbrev pub ping_text : Option ℕ → Ip4 → List ℕ
ping_text ttl ip = codes "ping " ++ ttl_text ttl ++ ip4_text ip

-- ---- udp

-- a socket, and what is asked of it
abbrev pub socket_text : List ℕ → List ℕ → List ℕ
socket_text verb sock = codes "udp " ++ verb ++ sock

-- an address, or none
abbrev pub local_text : Option Ip4 → List ℕ
local_text None = codes "*"
local_text (Some ip) = ip4_text ip

-- a socket gets its address and port
abbrev pub bind_text : List ℕ → Option Ip4 → ℕ → List ℕ
bind_text sock ip port = codes "udp bind " ++ sock ++ codes " " ++ local_text ip ++ codes " " ++ decimal port

-- a socket gets its peer
abbrev pub connect_text : List ℕ → Ip4 → ℕ → List ℕ
connect_text sock ip port = codes "udp connect " ++ sock ++ codes " " ++ ip4_text ip ++ codes " " ++ decimal port

-- data in the form in which it was given
unfoldable pub payload_text : Payload → List ℕ
payload_text (payload.Digits octets) = flat_map hex_octet octets
payload_text (payload.Zero length) = codes "zero:" ++ decimal length

-- a destination that is given
abbrev pub endpoint_text : Option (Ip4 × ℕ) → List ℕ
endpoint_text None = []
endpoint_text (Some to) = codes " " ++ ip4_text to.0 ++ codes " " ++ decimal to.1

-- a datagram is sent
abbrev pub send_text : List ℕ → Payload → Option (Ip4 × ℕ) → List ℕ
send_text sock body to = codes "udp send " ++ sock ++ codes " " ++ payload_text body ++ endpoint_text to

-- a socket gets its time to live
abbrev pub socket_ttl_text : List ℕ → ℕ → List ℕ
socket_ttl_text sock ttl = codes "udp ttl " ++ sock ++ codes " " ++ decimal ttl

-- ---- the index, one line a command

-- the text of a command
unfoldable pub command_text : Command → List ℕ
command_text (command.JailCreate path children_max) = creation_text path children_max
command_text (command.JailRemove path) = removal_text path
command_text command.EpairAny = codes "ifconfig epair create"
command_text (command.EpairCreate unit) = pair_text unit
command_text (command.Destroy name) = interface_text name (codes " destroy")
command_text (command.Vnet name path) = move_text name (codes " vnet ") path
command_text (command.VnetBack name path) = move_text name (codes " -vnet ") path
command_text (command.Inet name ip len) = inet_text name ip len
command_text (command.InetRemove name ip) = inet_removal_text name ip
command_text (command.Up name) = interface_text name (codes " up")
command_text (command.Down name) = interface_text name (codes " down")
command_text (command.Ether name mac) = ether_text name mac
command_text (command.RouteAdd to via) = route_text to via
command_text (command.RouteDelete to) = route_removal_text to
command_text (command.ArpSet ip mac) = arp_text ip mac
command_text (command.ArpDelete ip) = arp_removal_text ip
command_text (command.SysctlGet name) = variable_text name
command_text (command.SysctlSet name value) = setting_text name value
command_text command.Stat = codes "netstat -s"
command_text (command.Ping ttl ip) = ping_text ttl ip
command_text (command.UdpOpen sock) = socket_text (codes "open ") sock
command_text (command.UdpBind sock ip port) = bind_text sock ip port
command_text (command.UdpConnect sock ip port) = connect_text sock ip port
command_text (command.UdpSend sock body to) = send_text sock body to
command_text (command.UdpRecv sock) = socket_text (codes "recv ") sock
command_text (command.UdpTtl sock ttl) = socket_ttl_text sock ttl
command_text (command.UdpClose sock) = socket_text (codes "close ") sock

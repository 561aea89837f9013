-- What each command does: the index of the rules, one line a command.
use Rattle.std.specs.Prelude.{ℕ, Bool, true, false, List, [], replicate, Option, Some, None}
use Rattle.vn_types.specs.declared.interface.IfName.{IfName}
use Rattle.vn_types.specs.declared.interface.IfName.TheVariants.{Lo0, Epair}
use Rattle.vn_types.specs.declared.interface.IfOf.{IfOf}
use Rattle.vn_rules.specs.AddressCommands.{alias_rule}
use Rattle.vn_rules.specs.LinkCommands.{half_only, down_rule}
use Rattle.vn_rules.specs.Named.{interface_named}
use Rattle.vn_rules.specs.RouteCommands as route
use Rattle.vn_rules.specs.Rules.{Common, Rule, done}
use Rattle.vn_rules.specs.Scenes.{SceneOf}
use Rattle.vn_rules.specs.SocketCommands.{open_rule, bind_rule, ttl_rule, close_rule}
use Rattle.vn_rules.specs.TableCommands.{arp_delete_rule, get_rule, set_rule}
use Rattle.vn_packets.specs.AddressLinks.{inet_rule, up_rule}
use Rattle.vn_packets.specs.ArpCommands.{arp_set_rule}
use Rattle.vn_packets.specs.PingCommand.{ping_rule}
use Rattle.vn_packets.specs.Statistics.{stat_rule}
use Rattle.vn_packets.specs.Tables.{on_tables}
use Rattle.vn_packets.specs.UdpCommands.{connect_rule, send_rule, recv_rule}
use Rattle.vn_cells.specs.declared.command.Command.{Command}
use Rattle.vn_cells.specs.declared.command.Command.TheVariants as command
use Rattle.vn_cells.specs.declared.command.Payload.{Payload}
use Rattle.vn_cells.specs.declared.command.Payload.TheVariants as payload
use Rattle.vn_cells.specs.declared.world.World.{World}
use Rattle.vn_cells.specs.world.Names.{Path}
use Rattle.vn_cells.specs.machine.Reach.{Reach, Near, MakesJail, RemovesJail, MakesPair, DestroysPair, SetsMac, Lends, Reclaims, MovesLo0}
use Rattle.vn_cells.specs.commands.Jails.{creation}
use Rattle.vn_cells.specs.commands.Removal.{removal}
use Rattle.vn_cells.specs.commands.Pairs.{any_making, making, destruction, mac_setting}
use Rattle.vn_cells.specs.commands.Moves.{lending, reclaiming}

-- nothing is done
abbrev pub nothing : {S : Type 0} → S → Rule S
nothing s = record { refusals = []; otherwise = done s }

-- the interface of that name in a scene
abbrev pub named_in : {N : Type 0} → (N → IfName) → IfName → SceneOf N → Option (IfOf N)
named_in label name scene = interface_named label name scene.parts.interfaces

-- the octets that a datagram carries
unfoldable pub payload_octets : Payload → List ℕ
payload_octets (payload.Digits octets) = octets
payload_octets (payload.Zero n) = replicate n 0

-- a command near its stack, over the scene there, whatever halves are called, by their names; the
-- commands that are not here reach further
unfoldable pub near_rule :
    {N : Type 0} → (N → N → Bool) → (N → IfName) → Common → Command → SceneOf N → Rule (SceneOf N)
near_rule same label common (command.Destroy name) s = half_only (named_in label name s) s
near_rule same label common (command.Ether name mac) s = half_only (named_in label name s) s
near_rule same label common (command.Inet name ip len) s = inet_rule same (named_in label name s) ip len s
near_rule same label common (command.InetRemove name ip) s =
    on_tables s (alias_rule same (named_in label name s) ip s.parts)
near_rule same label common (command.Up name) s = up_rule same (named_in label name s) s
near_rule same label common (command.Down name) s = down_rule same (named_in label name s) s
near_rule same label common (command.RouteAdd to via) s = on_tables s (route.add_rule to via s.parts)
near_rule same label common (command.RouteDelete to) s = on_tables s (route.delete_rule to s.parts)
near_rule same label common (command.ArpSet ip mac) s = arp_set_rule same ip mac s
near_rule same label common (command.ArpDelete ip) s = on_tables s (arp_delete_rule ip s.parts)
near_rule same label common (command.SysctlGet name) s = on_tables s (get_rule name s.parts)
near_rule same label common (command.SysctlSet name value) s = on_tables s (set_rule name value s.parts)
near_rule same label common command.Stat s = stat_rule s
near_rule same label common (command.Ping ttl ip) s = ping_rule same common ttl ip s
near_rule same label common (command.UdpOpen sock) s = on_tables s (open_rule sock s.parts)
near_rule same label common (command.UdpBind sock ip port) s = on_tables s (bind_rule sock ip port s.parts)
near_rule same label common (command.UdpConnect sock ip port) s = connect_rule same sock ip port s
near_rule same label common (command.UdpSend sock body to) s =
    send_rule same common sock (payload_octets body) to s
near_rule same label common (command.UdpRecv sock) s = recv_rule sock s
near_rule same label common (command.UdpTtl sock ttl) s = on_tables s (ttl_rule sock ttl s.parts)
near_rule same label common (command.UdpClose sock) s = on_tables s (close_rule sock s.parts)
near_rule same label common command scene = nothing scene

-- a command that reaches beyond its stack, over the world
unfoldable pub far_rule : Common → Path → Reach → World → Rule World
far_rule common issuer Near w = nothing w
far_rule common issuer (MakesJail jail limit) w = creation common jail limit w
far_rule common issuer (RemovesJail jail) w = removal common jail w
far_rule common issuer (MakesPair None) w = any_making issuer w
far_rule common issuer (MakesPair (Some unit)) w = making issuer unit w
far_rule common issuer (DestroysPair unit side) w = destruction issuer (Epair unit side) w
far_rule common issuer (SetsMac unit side mac) w = mac_setting issuer (Epair unit side) mac w
far_rule common issuer (Lends unit side jail) w = lending issuer (Epair unit side) jail w
far_rule common issuer (Reclaims unit side jail) w = reclaiming issuer (Epair unit side) jail w
far_rule common issuer (MovesLo0 jail true) w = lending issuer Lo0 jail w
far_rule common issuer (MovesLo0 jail false) w = reclaiming issuer Lo0 jail w

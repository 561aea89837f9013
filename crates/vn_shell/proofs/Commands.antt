-- What commands words mean: each within its bounds, seen from host.
use Rattle.std.proofs.Common.{◌≡◌, ℕ, ◌+◌, ◌==◌, true, false, ◌&&◌, not, List, [], ◌∷◌, length, Option, Some, None, refl, ap, ◌∙◌, zero-add}
use Rattle.std.specs.Prelude.{codes, IfSome, nat_le, nat_lt, position}
use Rattle.std.specs.List.{list_all}
use Rattle.std.specs.Option.{option_map}
use Rattle.std.specs.Str.{bytes_eq}
use Rattle.std.proofs.lemmas.Bool.{and_parts, and_from}
use Rattle.vn_types.specs.declared.address.Ip4.{Ip4}
use Rattle.vn_types.specs.declared.interface.IfName.{IfName}
use Rattle.vn_types.specs.AddressWords.{ip4_of, prefix_of, mac_of}
use Rattle.vn_types.specs.InterfaceWords.{ifname_of}
use Rattle.vn_types.specs.NameWords.{name_of, sock_name_of}
use Rattle.vn_types.specs.NumberWords.{number_of}
use Rattle.vn_types.specs.Octets.{equals}
use Rattle.vn_types.specs.Paths.{Path, is_host, is_path}
use Rattle.vn_types.specs.declared.path_text.TheConstants.{MOST_LABELS}
use Rattle.vn_types.specs.Steps.{◌>>=◌}
use Rattle.vn_types.specs.Words.{is_label, is_name, is_sock_name}
use Rattle.vn_cells.specs.declared.command.Command.{Command}
use Rattle.vn_cells.specs.declared.command.Command.TheVariants as command
use Rattle.vn_cells.specs.machine.Bounds.{is_ifname, is_unit, is_port, is_value, is_ttl, is_ip, passes}
use Rattle.vn_cells.specs.machine.Events.{is_endpoint, is_named_path, is_valid_command}
use Rattle.vn_shell.specs.Words.{such_that, named_of, port_of, ttl_of, behind}
use Rattle.vn_shell.specs.Commands.{named_depth}
use Rattle.vn_shell.specs.Commands.Arp.{arp_of}
use Rattle.vn_shell.specs.Commands.Ifconfig.{pair_of, adding, inet_of, set_of, act_of, valued_of, ifconfig_of}
use Rattle.vn_shell.specs.Commands.Netstat.{netstat_of}
use Rattle.vn_shell.specs.Commands.Ping.{past_count, probe_of, ping_of}
use Rattle.vn_shell.specs.Commands.Route.{dest_of, past_net, route_of}
use Rattle.vn_shell.specs.Commands.Sysctl.{around, assignment_of, setting, sysctl_of}
use Rattle.vn_shell.specs.Commands.Udp.{any_ip_of, endpoint, endpoint_of, connecting, peer_of, send_of, socket_of, udp_of, payload_of}
use Rattle.vn_shell.proofs.Found.{some_then, some_map, some_if, some_or, some_at, some_end, some_one, some_two}
use Rattle.vn_shell.proofs.Bounds.{IsIp, IsPrefix, IsNetwork, IsMac, IsIfName, IsPayload, value_in, such_number, behind_in, ip_in, prefix_in, dest_in, mac_in, ifname_in, name_in, sock_in, is_named, named_in, payload_in}

-- a command within its bounds
abbrev pub Bounded : Command → Type 0
Bounded command = is_valid_command [] command ≡ true

-- a path that is named at host
named_within : (path : Path) (depth : ℕ) → depth ≡ length path → is_named path ≡ true → (is_path path && not (is_host path) && nat_le depth 8) ≡ true
unfolding is_path
named_within path depth e h =
    and_from _ _ h (ap (λ k. nat_le k 8) e ∙ (and_parts (list_all is_label path) (nat_le (length path) MOST_LABELS) (and_parts (is_path path) (not (is_host path)) h).0).1)

pub named_at_host : (path : Path) → is_named path ≡ true → is_named_path [] path ≡ true
unfolding is_named_path
named_at_host path h = named_within path (0 + length path) (zero-add (length path)) h

-- a path that is named at host is named where its labels have room
named_below : (issuer path : Path) → is_named_path [] path ≡ true → nat_le (length issuer + length path) 8 ≡ true → is_named_path issuer path ≡ true
unfolding is_named_path
named_below issuer path h few = and_from _ _ (and_parts (is_path path && not (is_host path)) (nat_le (0 + length path) 8) h).0 few

-- so is a command
pub valid_below : (issuer : Path) (c : Command) → is_valid_command [] c ≡ true → nat_le (length issuer + named_depth c) 8 ≡ true → is_valid_command issuer c ≡ true
unfolding is_valid_command
valid_below issuer (command.JailCreate path limit) h few =
    let at = and_parts (is_named_path [] path) (nat_lt limit 10000) h in and_from _ _ (named_below issuer path at.0 few) at.1
valid_below issuer (command.JailRemove path) h few = named_below issuer path h few
valid_below issuer (command.Vnet name path) h few =
    let at = and_parts (is_ifname name) (is_named_path [] path) h in and_from _ _ at.0 (named_below issuer path at.1 few)
valid_below issuer (command.VnetBack name path) h few =
    let at = and_parts (is_ifname name) (is_named_path [] path) h in and_from _ _ at.0 (named_below issuer path at.1 few)
valid_below issuer _ h few = h

-- ---- arp(8), route(8)

pub arp_in : (words : List (List ℕ)) → IfSome (arp_of words) Bounded
unfolding arp_of is_valid_command
arp_in [] = tt
arp_in (option ∷ words) =
    some_if Bounded (bytes_eq option (codes "-s")) _ _
    (some_two IsIp IsMac Bounded ip4_of mac_of command.ArpSet ip_in mac_in (λ ip mac h i. and_from _ _ h i) words)
    (some_if Bounded (bytes_eq option (codes "-d")) _ None (some_one IsIp Bounded ip4_of command.ArpDelete ip_in (λ ip h. h) words) tt)

pub route_in : (words : List (List ℕ)) → IfSome (route_of words) Bounded
unfolding route_of is_valid_command
route_in [] = tt
route_in (verb ∷ words) =
    some_if Bounded (bytes_eq verb (codes "add")) _ _
    (some_two IsNetwork IsIp Bounded dest_of ip4_of command.RouteAdd dest_in ip_in (λ to via h i. and_from _ _ h i) (past_net words))
    (some_if Bounded (bytes_eq verb (codes "delete")) _ None (some_one IsNetwork Bounded dest_of command.RouteDelete dest_in (λ to h. h) (past_net words)) tt)

-- ---- ifconfig(8)

pair_in : (word : List ℕ) → IfSome (pair_of word) Bounded
unfolding pair_of is_valid_command
pair_in word =
    some_if Bounded (bytes_eq word (codes "epair")) (Some command.EpairAny) _ refl
    (some_map (λ n. is_unit n ≡ true) Bounded (behind (codes "epair") word >>= number_of >>= such_that is_unit) command.EpairCreate (behind_in (codes "epair") is_unit word) (λ n h. h))

added_in : (name : IfName) → IsIfName name → (word : List ℕ) → IfSome (option_map (adding name) (prefix_of word)) Bounded
unfolding is_valid_command
added_in name is word =
    some_map IsPrefix Bounded (prefix_of word) (adding name) (prefix_in word) (λ prefix h. and_from _ _ (and_from _ _ is h.0) h.1)

inet_in : (name : IfName) → IsIfName name → (words : List (List ℕ)) → IfSome (inet_of name words) Bounded
unfolding inet_of is_valid_command
inet_in name is [] = tt
inet_in name is (word ∷ []) = added_in name is word
inet_in name is (word ∷ option ∷ []) =
    some_if Bounded (bytes_eq option (codes "alias")) _ _ (added_in name is word)
    (some_if Bounded (bytes_eq option (codes "-alias")) _ None
    (some_map IsIp Bounded (ip4_of word) (command.InetRemove name) (ip_in word) (λ ip h. and_from _ _ is h)) tt)
inet_in name is (word ∷ option ∷ other ∷ words) = tt

set_in : (name : IfName) → IsIfName name → (verb word : List ℕ) → IfSome (set_of name verb word) Bounded
unfolding set_of is_valid_command
set_in name is verb word =
    some_if Bounded (bytes_eq verb (codes "ether")) _ _
    (some_map IsMac Bounded (mac_of word) (command.Ether name) (mac_in word) (λ mac h. and_from _ _ is h))
    (some_if Bounded (bytes_eq verb (codes "vnet")) _ _
    (some_map (λ path. is_named path ≡ true) Bounded (named_of word) (command.Vnet name) (named_in word) (λ path h. and_from _ _ is (named_at_host path h)))
    (some_if Bounded (bytes_eq verb (codes "-vnet")) _ None
    (some_map (λ path. is_named path ≡ true) Bounded (named_of word) (command.VnetBack name) (named_in word) (λ path h. and_from _ _ is (named_at_host path h))) tt))

act_in : (name : IfName) → IsIfName name → (verb : List ℕ) → IfSome (act_of name verb) Bounded
unfolding act_of is_valid_command
act_in name is verb =
    some_if Bounded (bytes_eq verb (codes "destroy")) (Some (command.Destroy name)) _ is
    (some_if Bounded (bytes_eq verb (codes "up")) (Some (command.Up name)) _ is
    (some_if Bounded (bytes_eq verb (codes "down")) (Some (command.Down name)) None is tt))

valued_in : (name : IfName) → IsIfName name → (verb word : List ℕ) (words : List (List ℕ)) → IfSome (valued_of name verb word words) Bounded
unfolding valued_of
valued_in name is verb word words =
    some_if Bounded (bytes_eq verb (codes "inet")) _ _ (inet_in name is (word ∷ words))
    (some_end Bounded words (set_of name verb word) (set_in name is verb word))

pub ifconfig_in : (words : List (List ℕ)) → IfSome (ifconfig_of words) Bounded
unfolding ifconfig_of
ifconfig_in [] = tt
ifconfig_in (on ∷ []) = tt
ifconfig_in (on ∷ verb ∷ []) =
    some_if Bounded (bytes_eq verb (codes "create")) (pair_of on) _ (pair_in on)
    (some_then IsIfName Bounded (ifname_of on) _ (ifname_in on) (λ name is. act_in name is verb))
ifconfig_in (on ∷ verb ∷ word ∷ words) =
    some_then IsIfName Bounded (ifname_of on) _ (ifname_in on) (λ name is. valued_in name is verb word words)

-- ---- sysctl(8), netstat(1), ping(8)

abbrev IsAssignment : List ℕ × ℕ → Type 0
IsAssignment parts = (is_name parts.0 ≡ true) × (is_value parts.1 ≡ true)

assignment_in : (word : List ℕ) → IfSome (assignment_of word) IsAssignment
unfolding assignment_of
assignment_in word =
    some_then (λ parts. Unit {0}) IsAssignment (option_map (around word) (position (λ c. c == equals) word)) _ (some_at (λ parts. Unit {0}) _ (λ parts e. tt))
    (λ parts found. some_then (λ name. is_name name ≡ true) IsAssignment (name_of parts.0) _ (name_in parts.0)
    (λ name h. some_then (λ n. is_value n ≡ true) IsAssignment (number_of parts.1) _ (value_in parts.1) (λ n i. (h, i))))

pub sysctl_in : (words : List (List ℕ)) → IfSome (sysctl_of words) Bounded
unfolding sysctl_of is_valid_command
sysctl_in [] = tt
sysctl_in (word ∷ []) =
    some_or Bounded (option_map command.SysctlGet (name_of word)) (option_map setting (assignment_of word))
    (some_map (λ name. is_name name ≡ true) Bounded (name_of word) command.SysctlGet (name_in word) (λ name h. h))
    (some_map IsAssignment Bounded (assignment_of word) setting (assignment_in word) (λ parts h. and_from _ _ h.0 h.1))
sysctl_in (word ∷ other ∷ words) = tt

pub netstat_in : (words : List (List ℕ)) → IfSome (netstat_of words) Bounded
unfolding netstat_of is_valid_command
netstat_in [] = tt
netstat_in (option ∷ []) = some_if Bounded (bytes_eq option (codes "-s")) (Some command.Stat) None refl tt
netstat_in (option ∷ other ∷ words) = tt

probe_in : (words : List (List ℕ)) → IfSome (probe_of words) Bounded
unfolding probe_of ttl_of is_valid_command
probe_in [] = tt
probe_in (ip ∷ []) = some_then IsIp Bounded (ip4_of ip) _ (ip_in ip) (λ ip h. h)
probe_in (option ∷ ttl ∷ []) = tt
probe_in (option ∷ ttl ∷ ip ∷ []) =
    some_if Bounded (bytes_eq option (codes "-m")) _ None
    (some_then (λ n. is_ttl n ≡ true) Bounded (ttl_of ttl) _ (such_number is_ttl ttl)
    (λ n i. some_then IsIp Bounded (ip4_of ip) _ (ip_in ip) (λ ip h. and_from _ _ i h))) tt
probe_in (option ∷ ttl ∷ ip ∷ other ∷ words) = tt

pub ping_in : (words : List (List ℕ)) → IfSome (ping_of words) Bounded
ping_in words = probe_in (past_count words)

-- ---- udp

any_ip_in : (word : List ℕ) → IfSome (any_ip_of word) (λ ip. passes is_ip ip ≡ true)
any_ip_in word =
    some_if (λ (ip : Option Ip4). passes is_ip ip ≡ true) (bytes_eq word (codes "*")) (Some None) _ refl
    (some_map IsIp (λ (ip : Option Ip4). passes is_ip ip ≡ true) (ip4_of word) Some (ip_in word) (λ ip h. h))

endpoint_in : (words : List (List ℕ)) → IfSome (endpoint_of words) (λ to. is_endpoint to ≡ true)
unfolding port_of
endpoint_in words =
    some_two IsIp (λ n. is_port n ≡ true) (λ to. is_endpoint to ≡ true) ip4_of port_of endpoint ip_in (such_number is_port) (λ ip port h i. and_from _ _ h i) words

peer_in : (words : List (List ℕ)) → IfSome (peer_of words) (λ to. passes is_endpoint to ≡ true)
unfolding peer_of
peer_in [] = refl
peer_in (word ∷ words) =
    some_map (λ to. is_endpoint to ≡ true) (λ (to : Option (Ip4 × ℕ)). passes is_endpoint to ≡ true) (endpoint_of (word ∷ words)) Some (endpoint_in (word ∷ words)) (λ to h. h)

abbrev IsSock : List ℕ → Type 0
IsSock sock = is_sock_name sock ≡ true

send_in : (sock : List ℕ) → IsSock sock → (words : List (List ℕ)) → IfSome (send_of sock words) Bounded
unfolding send_of is_valid_command
send_in sock is [] = tt
send_in sock is (word ∷ words) =
    some_then IsPayload Bounded (payload_of word) _ (payload_in word)
    (λ body h. some_then (λ to. passes is_endpoint to ≡ true) Bounded (peer_of words) _ (peer_in words)
    (λ to i. and_from _ _ (and_from _ _ is h) i))

connect_in : (sock : List ℕ) → IsSock sock → (words : List (List ℕ)) → IfSome (option_map (connecting sock) (endpoint_of words)) Bounded
unfolding is_valid_command
connect_in sock is words =
    some_map (λ to. is_endpoint to ≡ true) Bounded (endpoint_of words) (connecting sock) (endpoint_in words)
    (λ to h. let at = and_parts (is_ip to.0) (is_port to.1) h in and_from _ _ (and_from _ _ is at.0) at.1)

socket_in : (sock : List ℕ) → IsSock sock → (verb : List ℕ) (words : List (List ℕ)) → IfSome (socket_of sock verb words) Bounded
unfolding socket_of port_of ttl_of is_valid_command
socket_in sock is verb words =
    some_if Bounded (bytes_eq verb (codes "open")) _ _ (some_end Bounded words (Some (command.UdpOpen sock)) is)
    (some_if Bounded (bytes_eq verb (codes "recv")) _ _ (some_end Bounded words (Some (command.UdpRecv sock)) is)
    (some_if Bounded (bytes_eq verb (codes "close")) _ _ (some_end Bounded words (Some (command.UdpClose sock)) is)
    (some_if Bounded (bytes_eq verb (codes "bind")) _ _
    (some_two (λ ip. passes is_ip ip ≡ true) (λ n. is_port n ≡ true) Bounded any_ip_of port_of (command.UdpBind sock) any_ip_in (such_number is_port) (λ ip port h i. and_from _ _ (and_from _ _ is h) i) words)
    (some_if Bounded (bytes_eq verb (codes "connect")) _ _ (connect_in sock is words)
    (some_if Bounded (bytes_eq verb (codes "send")) _ _ (send_in sock is words)
    (some_if Bounded (bytes_eq verb (codes "ttl")) _ None
    (some_one (λ n. is_ttl n ≡ true) Bounded ttl_of (command.UdpTtl sock) (such_number is_ttl) (λ n h. and_from _ _ is h) words) tt))))))

pub udp_in : (words : List (List ℕ)) → IfSome (udp_of words) Bounded
unfolding udp_of
udp_in [] = tt
udp_in (verb ∷ []) = tt
udp_in (verb ∷ name ∷ words) =
    some_then IsSock Bounded (sock_name_of name) _ (sock_in name) (λ sock is. socket_in sock is verb words)

-- A command and the words of an event fit into a line.
use Rattle.std.proofs.Common.{◌≡◌, ℕ, ◌+◌, ◌*◌, ◌/◌, ◌%◌, ◌^◌, ◌<◌, ◌≤◌, ◌==◌, Bool, true, false, cond, ◌&&◌, not, List, [], ◌∷◌, ◌++◌, length, map, Option, Some, None, refl, sym, ap, ◌∙◌, length-append, arith}
use Rattle.std.specs.Prelude.{codes, decimal, nat_le, nat_lt}
use Rattle.std.specs.Char.{is_ascii_lowercase}
use Rattle.std.specs.List.{list_all, flat_map, join_with_byte}
use Rattle.std.specs.Str.{bytes_eq}
use Rattle.std.proofs.lemmas.Bool.{and_parts, ltb-true, leb-true, eqb-true}
use Rattle.std.proofs.lemmas.Fmt.{length-decimal-le}
use Rattle.vn_types.specs.declared.address.Ip4.{Ip4}
use Rattle.vn_types.specs.declared.address.Mac.{Mac}
use Rattle.vn_types.specs.declared.address.Prefix.{Prefix}
use Rattle.vn_types.specs.declared.interface.IfName.{IfName}
use Rattle.vn_types.specs.declared.interface.IfName.TheVariants as ifname
use Rattle.vn_types.specs.declared.interface.Side.{Side}
use Rattle.vn_types.specs.AddressWords.{ip4_text, prefix_text, hex_octet, mac_text}
use Rattle.vn_types.specs.InterfaceWords.{side_letter, unit_side_text, ifname_text}
use Rattle.vn_types.specs.Octets.{dot, colon, slash}
use Rattle.vn_types.specs.Paths.{Path, is_path, joined, path_text}
use Rattle.vn_types.specs.declared.path_text.TheConstants.{MOST_LABELS}
use Rattle.vn_types.specs.Words.{is_label, is_label_octet, is_letter_or_digit, is_name_octet, is_name, is_sock_name}
use Rattle.vn_types.proofs.PathTexts.{labels_all}
use Rattle.vn_cells.specs.declared.command.Command.{Command}
use Rattle.vn_cells.specs.declared.command.Command.TheVariants as command
use Rattle.vn_cells.specs.declared.command.Payload.{Payload}
use Rattle.vn_cells.specs.declared.command.Payload.TheVariants as payload
use Rattle.vn_cells.specs.machine.Bounds.{is_ifname, is_ip, is_mac, is_octet, is_port, is_prefix, is_ttl, is_unit, is_value, passes}
use Rattle.vn_cells.specs.machine.Events.{is_endpoint, is_named_path, is_valid_command, is_valid_payload}
use Rattle.vn_cells.specs.texts.Programs.{command_text, destination_text, endpoint_text, is_default, limit_text, local_text, payload_text, ttl_text}
use Rattle.vn_rules.specs.Networks.{lies_in}
use Rattle.vn_shell.specs.Commands.Jail.{is_limit}
use Rattle.vn_shell.proofs.ByWords.{is_path_named, named}

-- ---- texts in a row

pub len3 : (a b c : List ℕ) → length (a ++ b ++ c) ≡ length a + length b + length c
len3 a b c = length-append (a ++ b) c ∙ ap (λ n. n + length c) (length-append a b)

pub len4 : (a b c d : List ℕ) → length (a ++ b ++ c ++ d) ≡ length a + length b + length c + length d
len4 a b c d = length-append (a ++ b ++ c) d ∙ ap (λ n. n + length d) (len3 a b c)

pub len5 : (a b c d e : List ℕ) → length (a ++ b ++ c ++ d ++ e) ≡ length a + length b + length c + length d + length e
len5 a b c d e = length-append (a ++ b ++ c ++ d) e ∙ ap (λ n. n + length e) (len4 a b c d)

-- ---- numbers and addresses

pub number_at : (n : ℕ) → n < 2 ^ 64 → length (decimal n) ≤ 20
number_at n small = length-decimal-le 20 n (omega arith) (omega (arith, small)) small

octet_at : (n : ℕ) → n < 256 → length (decimal n) ≤ 3
octet_at n small = length-decimal-le 3 n (omega arith) (omega (arith, small)) (omega (arith, small))

-- the octets of texts, with one more behind each
abbrev room : List (List ℕ) → ℕ
room [] = 0
room (t ∷ texts) = length t + 1 + room texts

join_room : (d : ℕ) (texts : List (List ℕ)) → length (join_with_byte d texts) ≤ room texts
join_room d [] = omega arith
join_room d (t ∷ []) = omega arith
join_room d (t ∷ u ∷ texts) = omega (arith, length-append t (d ∷ join_with_byte d (u ∷ texts)), join_room d (u ∷ texts))

ip_at : (ip : Ip4) → length (ip4_text ip) ≤ 16
unfolding ip4_text
ip_at ip =
    let n = ip.0 in
    omega (arith, join_room dot (decimal (n / 16777216 % 256) ∷ decimal (n / 65536 % 256) ∷ decimal (n / 256 % 256) ∷ decimal (n % 256) ∷ []), octet_at (n / 16777216 % 256) (omega arith), octet_at (n / 65536 % 256) (omega arith), octet_at (n / 256 % 256) (omega arith), octet_at (n % 256) (omega arith))

prefix_at : (prefix : Prefix) → prefix.len ≤ 32 → length (prefix_text prefix) ≤ 20
unfolding prefix_text
prefix_at prefix few = omega (arith, length-append (ip4_text prefix.net) (slash ∷ decimal prefix.len), ip_at prefix.net, octet_at prefix.len (omega (arith, few)))

groups_room : (octets : List ℕ) → room (map hex_octet octets) ≡ 3 * length octets
groups_room [] = refl
groups_room (n ∷ octets) = omega (arith, groups_room octets)

mac_at : (mac : Mac) → is_mac mac ≡ true → length (mac_text mac) ≤ 18
unfolding mac_text
mac_at mac h = omega (arith, join_room colon (map hex_octet mac.0), groups_room mac.0, eqb-true (length mac.0) 6 (and_parts (length mac.0 == 6) (list_all is_octet mac.0) h).0)

-- ---- names

label_at : (l : List ℕ) → is_label l ≡ true → length l ≤ 16
unfolding is_label
label_at [] h = omega arith
label_at (c ∷ cs) h =
    let word = (and_parts (is_ascii_lowercase c && list_all is_label_octet cs && nat_le (length cs) 15) (not (bytes_eq (c ∷ cs) (codes "host"))) h).0 in
    omega (arith, leb-true (length cs) 15 (and_parts (is_ascii_lowercase c && list_all is_label_octet cs) (nat_le (length cs) 15) word).1)

labels_room : (p : Path) → list_all is_label p ≡ true → room p ≤ 17 * length p
labels_room [] h = omega arith
labels_room (l ∷ ls) h = let at = and_parts (is_label l) (list_all is_label ls) h in omega (arith, label_at l at.0, labels_room ls at.1)

pub labels_few : (p : Path) → is_path p ≡ true → length p ≤ 8
unfolding is_path
labels_few p h = leb-true (length p) 8 (and_parts (list_all is_label p) (nat_le (length p) MOST_LABELS) h).1

pub path_at : (p : Path) → is_path p ≡ true → length (path_text p) ≤ 136
unfolding path_text joined
path_at [] h = omega arith
path_at (l ∷ ls) h = omega (arith, join_room dot (l ∷ ls), labels_room (l ∷ ls) (labels_all (l ∷ ls) h), labels_few (l ∷ ls) h)

pub end_at : (unit : ℕ) (side : Side) → unit < 2 ^ 32 → length (unit_side_text unit side) ≤ 21
unfolding unit_side_text
end_at unit side small = omega (arith, length-append (decimal unit) (side_letter side ∷ []), number_at unit (omega (arith, small)))

ifname_at : (name : IfName) → is_ifname name ≡ true → length (ifname_text name) ≤ 26
unfolding ifname_text
ifname_at ifname.Lo0 h = omega arith
ifname_at (ifname.Epair unit side) h = omega (arith, end_at unit side (ltb-true unit (2 ^ 32) h))

name_at : (name : List ℕ) → is_name name ≡ true → length name ≤ 64
unfolding is_name
name_at [] h = omega arith
name_at (c ∷ cs) h = omega (arith, leb-true (length cs) 63 (and_parts (is_ascii_lowercase c && list_all is_name_octet cs) (nat_le (length cs) 63) h).1)

sock_at : (name : List ℕ) → is_sock_name name ≡ true → length name ≤ 16
unfolding is_sock_name
sock_at [] h = omega arith
sock_at (c ∷ cs) h = omega (arith, leb-true (length cs) 15 (and_parts (is_ascii_lowercase c && list_all is_letter_or_digit cs) (nat_le (length cs) 15) h).1)

-- ---- what may be left out

limit_at : (limit : ℕ) → is_limit limit ≡ true → length (limit_text limit) ≤ 34
limit_at limit h = by (limit == 0)
  where
    by : (b : Bool) → length (cond b [] (codes " children.max=" ++ decimal limit)) ≤ 34
    by true = omega arith
    by false = omega (arith, number_at limit (omega (arith, ltb-true limit 10000 h)))

ttl_at : (ttl : Option ℕ) → passes is_ttl ttl ≡ true → length (ttl_text ttl) ≤ 24
ttl_at None h = omega arith
ttl_at (Some n) h = omega (arith, len3 (codes "-m ") (decimal n) (codes " "), octet_at n (ltb-true n 256 (and_parts (nat_le 1 n) (is_octet n) h).1))

local_at : (ip : Option Ip4) → length (local_text ip) ≤ 16
local_at None = omega arith
local_at (Some ip) = ip_at ip

port_at : (port : ℕ) → is_port port ≡ true → length (decimal port) ≤ 20
port_at port h = number_at port (omega (arith, ltb-true port (2 ^ 16) h))

endpoint_at : (to : Option (Ip4 × ℕ)) → passes is_endpoint to ≡ true → length (endpoint_text to) ≤ 38
endpoint_at None h = omega arith
endpoint_at (Some to) h = omega (arith, len4 (codes " ") (ip4_text to.0) (codes " ") (decimal to.1), ip_at to.0, port_at to.1 (and_parts (is_ip to.0) (is_port to.1) h).1)

twice : (octets : List ℕ) → length (flat_map hex_octet octets) ≡ 2 * length octets
twice [] = refl
twice (n ∷ octets) = omega (arith, twice octets)

payload_at : (body : Payload) → is_valid_payload body ≡ true → length (payload_text body) ≤ 4096
unfolding payload_text is_valid_payload
payload_at (payload.Digits octets) h =
    omega (arith, twice octets, leb-true (length octets) 2048 (and_parts (list_all is_octet octets && nat_le 1 (length octets)) (nat_le (length octets) 2048) h).1)
payload_at (payload.Zero n) h = omega (arith, number_at n (omega (arith, leb-true n 20000 h)))

dest_at : (to : Prefix) → is_prefix to ≡ true → length (destination_text to) ≤ 20
unfolding lies_in
dest_at to h = by (is_default to)
  where
    few : to.len ≤ 32
    few = leb-true to.len 32 (and_parts (nat_le to.len 32) _ (and_parts (is_ip to.net) _ h).1).0

    by : (b : Bool) → length (cond b (codes "default") (prefix_text to)) ≤ 20
    by true = omega arith
    by false = prefix_at to few

named_at : (issuer path : Path) → is_named_path issuer path ≡ true → length (path_text path) ≤ 136
named_at issuer path h = path_at path (is_path_named path (named issuer path h))

-- an interface, and what is asked of it in one text and in two
asked_at : (name : IfName) (asked : List ℕ) → is_ifname name ≡ true → length asked ≤ 150 → length (codes "ifconfig " ++ ifname_text name ++ asked) ≤ 4190
asked_at name asked h few = omega (arith, len3 (codes "ifconfig ") (ifname_text name) asked, ifname_at name h, few)

set_at : (name : IfName) (verb value : List ℕ) → is_ifname name ≡ true → length verb ≤ 10 → length value ≤ 150 → length (codes "ifconfig " ++ ifname_text name ++ verb ++ value) ≤ 4190
set_at name verb value h short few = omega (arith, len4 (codes "ifconfig ") (ifname_text name) verb value, ifname_at name h, short, few)

-- a socket with an address and a port
bound_at : (verb sock ip : List ℕ) (port : ℕ) → length verb ≤ 20 → is_sock_name sock ≡ true → length ip ≤ 16 → is_port port ≡ true → length (verb ++ sock ++ codes " " ++ ip ++ codes " " ++ decimal port) ≤ 4190
bound_at verb sock ip port short h few small =
    omega (arith, length-append (verb ++ sock ++ codes " " ++ ip ++ codes " ") (decimal port), len5 verb sock (codes " ") ip (codes " "), short, sock_at sock h, few, port_at port small)

-- ---- the index, one command after another

pub command_at : (issuer : Path) (c : Command) → is_valid_command issuer c ≡ true → length (command_text c) ≤ 4190
unfolding is_valid_command command_text
command_at issuer (command.JailCreate path limit) h =
    let at = and_parts (is_named_path issuer path) (is_limit limit) h in
    omega (arith, len4 (codes "jail -c name=") (path_text path) (codes " vnet persist") (limit_text limit), named_at issuer path at.0, limit_at limit at.1)
command_at issuer (command.JailRemove path) h = omega (arith, named_at issuer path h)
command_at issuer command.EpairAny h = omega arith
command_at issuer (command.EpairCreate unit) h =
    omega (arith, len3 (codes "ifconfig epair") (decimal unit) (codes " create"), number_at unit (omega (arith, ltb-true unit (2 ^ 32) h)))
command_at issuer (command.Destroy name) h = asked_at name (codes " destroy") h (omega arith)
command_at issuer (command.Vnet name path) h =
    let at = and_parts (is_ifname name) (is_named_path issuer path) h in set_at name (codes " vnet ") (path_text path) at.0 (omega arith) (omega (arith, named_at issuer path at.1))
command_at issuer (command.VnetBack name path) h =
    let at = and_parts (is_ifname name) (is_named_path issuer path) h in set_at name (codes " -vnet ") (path_text path) at.0 (omega arith) (omega (arith, named_at issuer path at.1))
command_at issuer (command.Inet name ip len) h =
    let at = and_parts (is_ifname name && is_ip ip) (nat_le len 32) h in
    let prefix : Prefix = record { net = ip; len = len } in
    set_at name (codes " inet ") (prefix_text prefix) (and_parts (is_ifname name) (is_ip ip) at.0).0 (omega arith) (omega (arith, prefix_at prefix (leb-true len 32 at.1)))
command_at issuer (command.InetRemove name ip) h =
    let at = and_parts (is_ifname name) (is_ip ip) h in
    omega (arith, len5 (codes "ifconfig ") (ifname_text name) (codes " inet ") (ip4_text ip) (codes " -alias"), ifname_at name at.0, ip_at ip)
command_at issuer (command.Up name) h = asked_at name (codes " up") h (omega arith)
command_at issuer (command.Down name) h = asked_at name (codes " down") h (omega arith)
command_at issuer (command.Ether name mac) h =
    let at = and_parts (is_ifname name) (is_mac mac) h in set_at name (codes " ether ") (mac_text mac) at.0 (omega arith) (omega (arith, mac_at mac at.1))
command_at issuer (command.RouteAdd to via) h =
    let at = and_parts (is_prefix to) (is_ip via) h in
    omega (arith, len4 (codes "route add ") (destination_text to) (codes " ") (ip4_text via), dest_at to at.0, ip_at via)
command_at issuer (command.RouteDelete to) h = omega (arith, length-append (codes "route delete ") (destination_text to), dest_at to h)
command_at issuer (command.ArpSet ip mac) h =
    let at = and_parts (is_ip ip) (is_mac mac) h in omega (arith, len4 (codes "arp -s ") (ip4_text ip) (codes " ") (mac_text mac), ip_at ip, mac_at mac at.1)
command_at issuer (command.ArpDelete ip) h = omega (arith, ip_at ip)
command_at issuer (command.SysctlGet name) h = omega (arith, name_at name h)
command_at issuer (command.SysctlSet name value) h =
    let at = and_parts (is_name name) (is_value value) h in
    omega (arith, len4 (codes "sysctl ") name (codes "=") (decimal value), name_at name at.0, number_at value (ltb-true value (2 ^ 64) at.1))
command_at issuer command.Stat h = omega arith
command_at issuer (command.Ping ttl ip) h =
    let at = and_parts (passes is_ttl ttl) (is_ip ip) h in omega (arith, len3 (codes "ping ") (ttl_text ttl) (ip4_text ip), ttl_at ttl at.0, ip_at ip)
command_at issuer (command.UdpOpen sock) h = omega (arith, sock_at sock h)
command_at issuer (command.UdpBind sock ip port) h =
    let at = and_parts (is_sock_name sock && passes is_ip ip) (is_port port) h in
    bound_at (codes "udp bind ") sock (local_text ip) port (omega arith) (and_parts (is_sock_name sock) (passes is_ip ip) at.0).0 (local_at ip) at.1
command_at issuer (command.UdpConnect sock ip port) h =
    let at = and_parts (is_sock_name sock && is_ip ip) (is_port port) h in
    bound_at (codes "udp connect ") sock (ip4_text ip) port (omega arith) (and_parts (is_sock_name sock) (is_ip ip) at.0).0 (ip_at ip) at.1
command_at issuer (command.UdpSend sock body to) h =
    let at = and_parts (is_sock_name sock && is_valid_payload body) (passes is_endpoint to) h in
    let one = and_parts (is_sock_name sock) (is_valid_payload body) at.0 in
    omega (arith, len5 (codes "udp send ") sock (codes " ") (payload_text body) (endpoint_text to), sock_at sock one.0, payload_at body one.1, endpoint_at to at.1)
command_at issuer (command.UdpRecv sock) h = omega (arith, sock_at sock h)
command_at issuer (command.UdpTtl sock ttl) h =
    let at = and_parts (is_sock_name sock) (is_ttl ttl) h in
    omega (arith, len4 (codes "udp ttl ") sock (codes " ") (decimal ttl), sock_at sock at.0, octet_at ttl (ltb-true ttl 256 (and_parts (nat_le 1 ttl) (is_octet ttl) at.1).1))
command_at issuer (command.UdpClose sock) h = omega (arith, sock_at sock h)

-- A command reads as it is written.
use Rattle.std.proofs.Common.{◌≡◌, ℕ, ◌+◌, ◌^◌, ◌<◌, ◌≤◌, ◌==◌, Bool, true, false, cond, ◌&&◌, not, List, [], ◌∷◌, ◌++◌, length, Option, Some, None, refl, sym, ap, ap₂, append_assoc, append-nil, ◌∙◌, arith, true≢false}
use Rattle.std.specs.Char.{is_ascii_graphic}
use Rattle.std.specs.Prelude.{codes, decimal, nat_le, nat_lt}
use Rattle.std.specs.List.{list_all}
use Rattle.std.specs.Option.{option_map, option_or}
use Rattle.std.specs.Str.{bytes_eq}
use Rattle.std.proofs.lemmas.List.Folds.{list_all-append}
use Rattle.std.proofs.lemmas.Bool.{and_parts, and_from, ltb-true, leb-true, eqb-true}
use Rattle.vn_types.specs.declared.address.Ip4.{Ip4}
use Rattle.vn_types.specs.declared.address.Prefix.{Prefix}
use Rattle.vn_types.specs.declared.interface.IfName.{IfName}
use Rattle.vn_types.specs.AddressWords.{ip4_of, ip4_pieces, ip4_text, prefix_of, prefix_text, mac_of, mac_text}
use Rattle.vn_types.specs.InterfaceWords.{ifname_of, ifname_text}
use Rattle.vn_types.specs.NameWords.{name_of, sock_name_of}
use Rattle.vn_types.specs.NumberWords.{number_of}
use Rattle.vn_types.specs.Octets.{space, equals}
use Rattle.vn_types.specs.Paths.{Path, is_host, is_path, path_text}
use Rattle.vn_types.specs.Steps.{◌>>=◌}
use Rattle.vn_types.specs.Words.{is_name, is_sock_name}
use Rattle.vn_cells.specs.declared.command.Command.{Command}
use Rattle.vn_cells.specs.declared.command.Command.TheVariants as command
use Rattle.vn_cells.specs.declared.command.Payload.{Payload}
use Rattle.vn_cells.specs.machine.Bounds.{is_ifname, is_ip, is_mac, is_port, is_prefix, is_ttl, is_unit, is_value, passes}
use Rattle.vn_cells.specs.machine.Events.{is_endpoint, is_named_path, is_valid_command, is_valid_payload}
use Rattle.vn_cells.specs.texts.Programs.{command_text, destination_text, payload_text}
use Rattle.vn_shell.specs.Words.{such_that, is_filled, words_of, named_of, port_of, ttl_of, behind, of_one, of_two}
use Rattle.vn_shell.specs.Commands.{command_of}
use Rattle.vn_shell.specs.Commands.Arp.{arp_of}
use Rattle.vn_shell.specs.Commands.Ifconfig.{pair_of, adding, inet_of, set_of, act_of, valued_of, ifconfig_of}
use Rattle.vn_shell.specs.Commands.Jail.{is_limit}
use Rattle.vn_shell.specs.Commands.Netstat.{netstat_of}
use Rattle.vn_shell.specs.Commands.Ping.{past_count, limited_of, probe_of, ping_of}
use Rattle.vn_shell.specs.Commands.Route.{dest_of, past_net, route_of}
use Rattle.vn_shell.specs.Commands.Sysctl.{assignment_of, setting, sysctl_of}
use Rattle.vn_shell.specs.Commands.Udp.{any_ip_of, endpoint, endpoint_of, connecting, peer_of, send_of, socket_of, udp_of, payload_of}
use Rattle.vn_shell.proofs.ByWords.{ReadsBack, by_words, both, alone, two, named, is_path_named}
use Rattle.vn_shell.proofs.Data.{payload_back, payload_word}
use Rattle.vn_shell.proofs.ReadBack.{not_same, such_back, number_back, port_back, ttl_small, ttl_back, decimal_filled, ip_back, prefix_back, mac_back, ifname_back, name_back, sock_back, named_back, dest_back, dest_no_net, no_name, assignment_back, number_word, mac_word, path_word, dest_word}
use Rattle.vn_shell.proofs.SpacedWords.{is_between, is_graphic, spaced, filled_front, ip_word, prefix_word, name_word, sock_word, ifname_word}
use Rattle.vn_shell.proofs.WrittenJail.{creation_back, removal_back}

-- ---- ifconfig(8)

no_words : (word : List ℕ) → is_filled word ≡ true → bytes_eq word [] ≡ false
no_words [] h = absurd (true≢false (sym h))
no_words (c ∷ word) h = refl

unit_small : (unit : ℕ) → is_unit unit ≡ true → unit < 2 ^ 64
unit_small unit h = omega (arith, ltb-true unit (2 ^ 32) h)

epair_word : (unit : ℕ) → is_unit unit ≡ true → is_between (codes "epair" ++ decimal unit) ≡ true
epair_word unit h = and_from _ _ (and_parts (is_graphic (decimal unit)) (is_filled (decimal unit)) (number_word unit (unit_small unit h))).0 refl

pair_back : (unit : ℕ) → is_unit unit ≡ true → ReadsBack (command.EpairCreate unit)
unfolding command_of ifconfig_of pair_of command_text
pair_back unit h =
    by_words (command.EpairCreate unit) (codes "ifconfig") ((codes "epair" ++ decimal unit) ∷ codes "create" ∷ []) refl
    (alone _ (epair_word unit h))
    (ap (λ b. cond b (Some command.EpairAny) (option_map command.EpairCreate (number_of (decimal unit) >>= such_that is_unit))) (no_words (decimal unit) (decimal_filled unit (unit_small unit h)))
    ∙ ap (option_map command.EpairCreate) (number_back is_unit unit (unit_small unit h) h))

-- an interface and a word
act_back : (c : Command) (name : IfName) (verb : List ℕ) → is_ifname name ≡ true → command_text c ≡ spaced (codes "ifconfig" ∷ ifname_text name ∷ verb ∷ []) → is_between verb ≡ true → bytes_eq verb (codes "create") ≡ false → act_of name verb ≡ Some c → ReadsBack c
unfolding command_of ifconfig_of
act_back c name verb h text between other act =
    by_words c (codes "ifconfig") (ifname_text name ∷ verb ∷ []) text (both _ _ (ifname_word name h) between)
    (ap₂ (λ b o. cond b (pair_of (ifname_text name)) (o >>= λ name. act_of name verb)) other (ifname_back name h) ∙ act)

-- an interface, a word and its values
valued_back : (c : Command) (name : IfName) (verb word : List ℕ) (words : List (List ℕ)) → is_ifname name ≡ true → command_text c ≡ spaced (codes "ifconfig" ∷ ifname_text name ∷ verb ∷ word ∷ words) → list_all is_between (verb ∷ word ∷ words) ≡ true
    → valued_of name verb word words ≡ Some c → ReadsBack c
unfolding command_of ifconfig_of
valued_back c name verb word words h text between valued =
    by_words c (codes "ifconfig") (ifname_text name ∷ verb ∷ word ∷ words) text (and_from _ _ (ifname_word name h) between)
    (ap (λ o. o >>= λ name. valued_of name verb word words) (ifname_back name h) ∙ valued)

-- ---- sysctl(8)

assigned_word : (name : List ℕ) (value : ℕ) → is_name name ≡ true → is_value value ≡ true → is_between (name ++ equals ∷ decimal value) ≡ true
assigned_word name value h small =
    and_from _ _
    (list_all-append is_ascii_graphic name (equals ∷ decimal value)
    ∙ and_from _ _ (and_parts (is_graphic name) (is_filled name) (name_word name h)).0 (and_parts (is_graphic (decimal value)) (is_filled (decimal value)) (number_word value (ltb-true value (2 ^ 64) small))).0)
    (filled_front name equals (decimal value))

-- ---- udp

-- a socket, a word and its values
socket_back : (c : Command) (sock verb : List ℕ) (words : List (List ℕ)) → is_sock_name sock ≡ true → command_text c ≡ spaced (codes "udp" ∷ verb ∷ sock ∷ words) → is_between verb ≡ true → list_all is_between words ≡ true
    → socket_of sock verb words ≡ Some c → ReadsBack c
unfolding command_of udp_of
socket_back c sock verb words h text one more read =
    by_words c (codes "udp") (verb ∷ sock ∷ words) text (and_from _ _ one (and_from _ _ (sock_word sock h) more))
    (ap (λ o. o >>= λ sock. socket_of sock verb words) (sock_back sock h) ∙ read)

no_star : ip4_of (codes "*") ≡ None
unfolding ip4_of ip4_pieces
no_star = refl

any_back : (ip : Ip4) → is_ip ip ≡ true → any_ip_of (ip4_text ip) ≡ Some (Some ip)
any_back ip h =
    ap₂ (λ b o. cond b (Some None) (option_map Some o)) (not_same ip4_of ip (ip4_text ip) (codes "*") no_star (ip_back ip h)) (ip_back ip h)

port_small : (port : ℕ) → is_port port ≡ true → port < 2 ^ 64
port_small port h = omega (arith, ltb-true port (2 ^ 16) h)

endpoint_back : (ip : Ip4) (port : ℕ) → is_ip ip ≡ true → is_port port ≡ true → endpoint_of (ip4_text ip ∷ decimal port ∷ []) ≡ Some (ip, port)
endpoint_back ip port h small = two ip4_of port_of endpoint (ip4_text ip) (decimal port) ip port (ip_back ip h) (port_back port small)

endpoint_words : (ip : Ip4) (port : ℕ) → is_port port ≡ true → list_all is_between (ip4_text ip ∷ decimal port ∷ []) ≡ true
endpoint_words ip port small = both _ _ (ip_word ip) (number_word port (port_small port small))

bind_back : (sock : List ℕ) (ip : Option Ip4) (port : ℕ) → is_sock_name sock ≡ true → passes is_ip ip ≡ true → is_port port ≡ true → ReadsBack (command.UdpBind sock ip port)
unfolding socket_of command_text
bind_back sock None port h g small =
    socket_back (command.UdpBind sock None port) sock (codes "bind") (codes "*" ∷ decimal port ∷ []) h
    (simp append_assoc) refl (alone _ (number_word port (port_small port small)))
    (two any_ip_of port_of (command.UdpBind sock) (codes "*") (decimal port) None port refl (port_back port small))
bind_back sock (Some ip) port h g small =
    socket_back (command.UdpBind sock (Some ip) port) sock (codes "bind") (ip4_text ip ∷ decimal port ∷ []) h (simp append_assoc) refl (endpoint_words ip port small)
    (two any_ip_of port_of (command.UdpBind sock) (ip4_text ip) (decimal port) (Some ip) port (any_back ip g) (port_back port small))

endpoint_end : (ip port : List ℕ) → codes " " ++ ip ++ codes " " ++ port ≡ space ∷ spaced (ip ∷ port ∷ [])
endpoint_end ip port = simp append_assoc

sent_front : (sock body rest : List ℕ) → codes "udp send " ++ sock ++ codes " " ++ body ++ space ∷ rest ≡ codes "udp send " ++ (sock ++ space ∷ (body ++ space ∷ rest))
sent_front sock body rest = simp append_assoc

send_back : (sock : List ℕ) (body : Payload) (to : Option (Ip4 × ℕ)) → is_sock_name sock ≡ true → is_valid_payload body ≡ true → passes is_endpoint to ≡ true → ReadsBack (command.UdpSend sock body to)
unfolding socket_of send_of peer_of command_text
send_back sock body None h g e =
    socket_back (command.UdpSend sock body None) sock (codes "send") (payload_text body ∷ []) h
    (append-nil (codes "udp send " ++ sock ++ codes " " ++ payload_text body) ∙ simp append_assoc) refl (alone _ (payload_word body g))
    (ap (λ o. o >>= λ body. Some (command.UdpSend sock body None)) (payload_back body g))
send_back sock body (Some to) h g e =
    let at = and_parts (is_ip to.0) (is_port to.1) e in
    socket_back (command.UdpSend sock body (Some to)) sock (codes "send") (payload_text body ∷ ip4_text to.0 ∷ decimal to.1 ∷ []) h
    (ap (λ t. codes "udp send " ++ sock ++ codes " " ++ payload_text body ++ t) (endpoint_end (ip4_text to.0) (decimal to.1)) ∙ sent_front sock (payload_text body) (spaced (ip4_text to.0 ∷ decimal to.1 ∷ []))) refl
    (and_from _ _ (payload_word body g) (endpoint_words to.0 to.1 at.1))
    (ap₂ (λ o p. o >>= λ body. option_map Some p >>= λ to. Some (command.UdpSend sock body to)) (payload_back body g) (endpoint_back to.0 to.1 at.0 at.1))

-- ---- the index, one command after another

pub command_back : (issuer : Path) (c : Command) → is_valid_command issuer c ≡ true → ReadsBack c
unfolding is_valid_command command_text command_of ifconfig_of pair_of valued_of set_of act_of inet_of route_of arp_of sysctl_of netstat_of probe_of socket_of
command_back issuer (command.JailCreate path limit) h =
    let at = and_parts (is_named_path issuer path) (is_limit limit) h in creation_back path limit (named issuer path at.0) at.1
command_back issuer (command.JailRemove path) h = removal_back path (named issuer path h)
command_back issuer command.EpairAny h = by_words command.EpairAny (codes "ifconfig") (codes "epair" ∷ codes "create" ∷ []) refl refl refl
command_back issuer (command.EpairCreate unit) h = pair_back unit h
command_back issuer (command.Destroy name) h = act_back (command.Destroy name) name (codes "destroy") h refl refl refl refl
command_back issuer (command.Vnet name path) h =
    let at = and_parts (is_ifname name) (is_named_path issuer path) h in
    let is = named issuer path at.1 in
    valued_back (command.Vnet name path) name (codes "vnet") (path_text path) [] at.0 (simp append_assoc) (alone _ (path_word path (is_path_named path is))) (ap (option_map (command.Vnet name)) (named_back path is))
command_back issuer (command.VnetBack name path) h =
    let at = and_parts (is_ifname name) (is_named_path issuer path) h in
    let is = named issuer path at.1 in
    valued_back (command.VnetBack name path) name (codes "-vnet") (path_text path) [] at.0 (simp append_assoc) (alone _ (path_word path (is_path_named path is))) (ap (option_map (command.VnetBack name)) (named_back path is))
command_back issuer (command.Inet name ip len) h =
    let at = and_parts (is_ifname name && is_ip ip) (nat_le len 32) h in
    let one = and_parts (is_ifname name) (is_ip ip) at.0 in
    let prefix : Prefix = record { net = ip; len = len } in
    valued_back (command.Inet name ip len) name (codes "inet") (prefix_text prefix) [] one.0 (simp append_assoc) (alone _ (prefix_word prefix (leb-true len 32 at.1))) (ap (option_map (adding name)) (prefix_back prefix one.1 at.1))
command_back issuer (command.InetRemove name ip) h =
    let at = and_parts (is_ifname name) (is_ip ip) h in
    valued_back (command.InetRemove name ip) name (codes "inet") (ip4_text ip) (codes "-alias" ∷ []) at.0 (simp append_assoc) (alone _ (ip_word ip)) (ap (option_map (command.InetRemove name)) (ip_back ip at.1))
command_back issuer (command.Up name) h = act_back (command.Up name) name (codes "up") h refl refl refl refl
command_back issuer (command.Down name) h = act_back (command.Down name) name (codes "down") h refl refl refl refl
command_back issuer (command.Ether name mac) h =
    let at = and_parts (is_ifname name) (is_mac mac) h in
    valued_back (command.Ether name mac) name (codes "ether") (mac_text mac) [] at.0 (simp append_assoc) (alone _ (mac_word mac at.1)) (ap (option_map (command.Ether name)) (mac_back mac at.1))
command_back issuer (command.RouteAdd to via) h =
    let at = and_parts (is_prefix to) (is_ip via) h in
    by_words (command.RouteAdd to via) (codes "route") (codes "add" ∷ destination_text to ∷ ip4_text via ∷ []) (simp append_assoc) (both _ _ (dest_word to at.0) (ip_word via))
    (ap (λ b. of_two dest_of ip4_of command.RouteAdd (cond b (ip4_text via ∷ []) (destination_text to ∷ ip4_text via ∷ []))) (dest_no_net to at.0)
    ∙ two dest_of ip4_of command.RouteAdd (destination_text to) (ip4_text via) to via (dest_back to at.0) (ip_back via at.1))
command_back issuer (command.RouteDelete to) h =
    by_words (command.RouteDelete to) (codes "route") (codes "delete" ∷ destination_text to ∷ []) refl (alone _ (dest_word to h))
    (ap (λ b. of_one dest_of command.RouteDelete (cond b [] (destination_text to ∷ []))) (dest_no_net to h) ∙ ap (option_map command.RouteDelete) (dest_back to h))
command_back issuer (command.ArpSet ip mac) h =
    let at = and_parts (is_ip ip) (is_mac mac) h in
    by_words (command.ArpSet ip mac) (codes "arp") (codes "-s" ∷ ip4_text ip ∷ mac_text mac ∷ []) (simp append_assoc) (both _ _ (ip_word ip) (mac_word mac at.1))
    (two ip4_of mac_of command.ArpSet (ip4_text ip) (mac_text mac) ip mac (ip_back ip at.0) (mac_back mac at.1))
command_back issuer (command.ArpDelete ip) h =
    by_words (command.ArpDelete ip) (codes "arp") (codes "-d" ∷ ip4_text ip ∷ []) refl (alone _ (ip_word ip)) (ap (option_map command.ArpDelete) (ip_back ip h))
command_back issuer (command.SysctlGet name) h =
    by_words (command.SysctlGet name) (codes "sysctl") (name ∷ []) refl (alone _ (name_word name h))
    (ap (λ o. option_or (option_map command.SysctlGet o) (option_map setting (assignment_of name))) (name_back name h))
command_back issuer (command.SysctlSet name value) h =
    let at = and_parts (is_name name) (is_value value) h in
    by_words (command.SysctlSet name value) (codes "sysctl") ((name ++ equals ∷ decimal value) ∷ []) (simp append_assoc) (alone _ (assigned_word name value at.0 at.1))
    (ap₂ (λ o p. option_or (option_map command.SysctlGet o) (option_map setting p)) (no_name name (decimal value)) (assignment_back name value at.0 (ltb-true value (2 ^ 64) at.1)))
command_back issuer command.Stat h = by_words command.Stat (codes "netstat") (codes "-s" ∷ []) refl refl refl
command_back issuer (command.Ping None ip) h =
    by_words (command.Ping None ip) (codes "ping") (ip4_text ip ∷ []) refl (alone _ (ip_word ip)) (ap (λ o. o >>= λ ip. Some (command.Ping None ip)) (ip_back ip h))
command_back issuer (command.Ping (Some ttl) ip) h =
    let at = and_parts (is_ttl ttl) (is_ip ip) h in
    by_words (command.Ping (Some ttl) ip) (codes "ping") (codes "-m" ∷ decimal ttl ∷ ip4_text ip ∷ [])
    (simp append_assoc)
    (both _ _ (number_word ttl (omega (arith, ttl_small ttl at.0))) (ip_word ip))
    (ap₂ (λ o p. o >>= λ ttl. p >>= λ ip. Some (command.Ping (Some ttl) ip)) (ttl_back ttl at.0) (ip_back ip at.1))
command_back issuer (command.UdpOpen sock) h = socket_back (command.UdpOpen sock) sock (codes "open") [] h refl refl refl refl
command_back issuer (command.UdpBind sock ip port) h =
    let at = and_parts (is_sock_name sock && passes is_ip ip) (is_port port) h in
    let one = and_parts (is_sock_name sock) (passes is_ip ip) at.0 in
    bind_back sock ip port one.0 one.1 at.1
command_back issuer (command.UdpConnect sock ip port) h =
    let at = and_parts (is_sock_name sock && is_ip ip) (is_port port) h in
    let one = and_parts (is_sock_name sock) (is_ip ip) at.0 in
    socket_back (command.UdpConnect sock ip port) sock (codes "connect") (ip4_text ip ∷ decimal port ∷ []) one.0 (simp append_assoc) refl (endpoint_words ip port at.1) (ap (option_map (connecting sock)) (endpoint_back ip port one.1 at.1))
command_back issuer (command.UdpSend sock body to) h =
    let at = and_parts (is_sock_name sock && is_valid_payload body) (passes is_endpoint to) h in
    let one = and_parts (is_sock_name sock) (is_valid_payload body) at.0 in
    send_back sock body to one.0 one.1 at.1
command_back issuer (command.UdpRecv sock) h = socket_back (command.UdpRecv sock) sock (codes "recv") [] h refl refl refl refl
command_back issuer (command.UdpTtl sock ttl) h =
    let at = and_parts (is_sock_name sock) (is_ttl ttl) h in
    socket_back (command.UdpTtl sock ttl) sock (codes "ttl") (decimal ttl ∷ []) at.0 (simp append_assoc) refl (alone _ (number_word ttl (omega (arith, ttl_small ttl at.1)))) (ap (option_map (command.UdpTtl sock)) (ttl_back ttl at.1))
command_back issuer (command.UdpClose sock) h = socket_back (command.UdpClose sock) sock (codes "close") [] h refl refl refl refl

-- Words that were read are within their bounds.
use Rattle.std.proofs.Common.{suc, ◌≡◌, ℕ, ◌+◌, ◌-◌, ◌*◌, ◌/◌, ◌^◌, ◌<◌, ◌≤◌, ◌==◌, Bool, true, false, cond, ◌&&◌, not, List, [], ◌∷◌, length, take, Option, Some, None, Result, Ok, Err, refl, ap, arith}
use Rattle.std.specs.Prelude.{codes, IfSome, nat_le, slice_index}
use Rattle.std.specs.Int.{w32, from_be_bytes}
use Rattle.std.specs.List.{list_all, slice_split}
use Rattle.std.specs.Option.{option_map, option_map_or}
use Rattle.std.specs.Result.{result_ok}
use Rattle.std.specs.Str.{bytes_eq}
use Rattle.std.proofs.Math.Nat.{mul-div_cancel, div-mul-le_self}
use Rattle.std.proofs.lemmas.Bool.{lt-ltb, le-leb, ltb-true, leb-true, eq-eqb, and_parts, and_from}
use Rattle.std.proofs.lemmas.Nat.{pow_pos}
use Rattle.hex.specs.Hex.{decode_of}
use Rattle.hex.proofs.HexLemmas.{decode_of-ok}
use Rattle.vn_types.specs.declared.address.Ip4.{Ip4}
use Rattle.vn_types.specs.declared.address.Mac.{Mac}
use Rattle.vn_types.specs.declared.address.Prefix.{Prefix}
use Rattle.vn_types.specs.declared.interface.IfName.{IfName}
use Rattle.vn_types.specs.declared.interface.IfName.TheVariants as ifname
use Rattle.vn_types.specs.declared.interface.Side.{Side}
use Rattle.vn_types.specs.Octets.{dot, slash, colon}
use Rattle.vn_types.specs.NumberWords.{number_up_to, number_of}
use Rattle.vn_types.specs.AddressWords.{ip4_parts, ip4_pieces, ip4_of, prefix_parts, prefix_pieces, prefix_of, hex_digit_of, hex_octet_of, mac_parts, mac_pieces, mac_of}
use Rattle.vn_types.specs.InterfaceWords.{side_of, unit_side_parts, unit_side_of, epair_of, ifname_of}
use Rattle.vn_types.specs.NameWords.{name_of, sock_name_of}
use Rattle.vn_types.specs.Words.{is_name, is_sock_name}
use Rattle.vn_types.specs.Paths.{Path, is_host, is_path}
use Rattle.vn_types.specs.PathWords.{path_of}
use Rattle.vn_types.specs.Steps.{◌>>=◌}
use Rattle.vn_types.proofs.Digits.{number_parts}
use Rattle.vn_types.proofs.PathReading.{is_path-path_of}
use Rattle.vn_rules.specs.Networks.{network_of, lies_in}
use Rattle.vn_cells.specs.declared.command.Payload.{Payload}
use Rattle.vn_cells.specs.declared.command.Payload.TheVariants as payload
use Rattle.vn_cells.specs.machine.Bounds.{is_octet, is_unit, is_value, is_ip, is_mac, is_ifname, is_prefix}
use Rattle.vn_cells.specs.machine.Events.{is_valid_payload}
use Rattle.vn_shell.specs.Words.{such_that, named_of, below_host, behind}
use Rattle.vn_shell.specs.Commands.Route.{everywhere, host_route, network_route, dest_of}
use Rattle.vn_shell.specs.Commands.Udp.{digits_of, zeros_of, payload_of}
use Rattle.vn_shell.proofs.Found.{some_then, some_map, some_if, some_or, some_where, some_such, some_at}

-- ---- numbers

up_to : (most : ℕ) (word : List ℕ) → IfSome (number_up_to most word) (λ n. n ≤ most)
up_to most word = some_at (λ n. n ≤ most) (number_up_to most word) (λ n e. (number_parts most word n e).2)

pub value_in : (word : List ℕ) → IfSome (number_of word) (λ n. is_value n ≡ true)
unfolding number_of
value_in word =
    some_at (λ n. is_value n ≡ true) (number_up_to 18446744073709551615 word)
    (λ n e. lt-ltb n (2 ^ 64) (omega (arith, (number_parts 18446744073709551615 word n e).2)))

-- a number that passes a test
pub such_number : (test : ℕ → Bool) (word : List ℕ) → IfSome (number_of word >>= such_that test) (λ n. test n ≡ true)
such_number test word =
    some_then (λ n. is_value n ≡ true) (λ n. test n ≡ true) (number_of word) (such_that test) (value_in word) (λ n h. some_such test n)

-- the number behind a beginning
pub behind_in : (start : List ℕ) (test : ℕ → Bool) (word : List ℕ) → IfSome (behind start word >>= number_of >>= such_that test) (λ n. test n ≡ true)
behind_in start test word = by (behind start word)
  where
    by : (o : Option (List ℕ)) → IfSome (o >>= number_of >>= such_that test) (λ n. test n ≡ true)
    by None = tt
    by (Some text) = such_number test text

-- ---- addresses

abbrev pub IsIp : Ip4 → Type 0
IsIp ip = is_ip ip ≡ true

octets_in : (w x y z : ℕ) → w ≤ 255 → x ≤ 255 → y ≤ 255 → z ≤ 255 → from_be_bytes w32 (w ∷ x ∷ y ∷ z ∷ []) < 2 ^ 32
octets_in w x y z a b c d = omega arith

ip_parts_in : (a b c d : List ℕ) → IfSome (ip4_parts a b c d) IsIp
unfolding ip4_parts
ip_parts_in a b c d =
    some_then (λ n. n ≤ 255) IsIp (number_up_to 255 a) _ (up_to 255 a)
    (λ w h. some_then (λ n. n ≤ 255) IsIp (number_up_to 255 b) _ (up_to 255 b)
    (λ x i. some_then (λ n. n ≤ 255) IsIp (number_up_to 255 c) _ (up_to 255 c)
    (λ y j. some_then (λ n. n ≤ 255) IsIp (number_up_to 255 d) _ (up_to 255 d)
    (λ z k. lt-ltb _ (2 ^ 32) (octets_in w x y z h i j k)))))

ip_pieces_in : (pieces : List (List ℕ)) → IfSome (ip4_pieces pieces) IsIp
unfolding ip4_pieces
ip_pieces_in (a ∷ b ∷ c ∷ d ∷ []) = ip_parts_in a b c d
ip_pieces_in _ = tt

pub ip_in : (word : List ℕ) → IfSome (ip4_of word) IsIp
unfolding ip4_of
ip_in word = ip_pieces_in (slice_split (λ c. c == dot) word)

-- an address of a prefix
abbrev pub IsPrefix : Prefix → Type 0
IsPrefix prefix = (is_ip prefix.net ≡ true) × (nat_le prefix.len 32 ≡ true)

prefix_parts_in : (ip len : List ℕ) → IfSome (prefix_parts ip len) IsPrefix
unfolding prefix_parts
prefix_parts_in ip len =
    some_then IsIp IsPrefix (ip4_of ip) _ (ip_in ip)
    (λ net h. some_then (λ n. n ≤ 32) IsPrefix (number_up_to 32 len) _ (up_to 32 len) (λ n i. (h, le-leb n 32 i)))

prefix_pieces_in : (pieces : List (List ℕ)) → IfSome (prefix_pieces pieces) IsPrefix
unfolding prefix_pieces
prefix_pieces_in (ip ∷ len ∷ []) = prefix_parts_in ip len
prefix_pieces_in _ = tt

pub prefix_in : (word : List ℕ) → IfSome (prefix_of word) IsPrefix
unfolding prefix_of
prefix_in word = prefix_pieces_in (slice_split (λ c. c == slash) word)

-- ---- networks

abbrev pub IsNetwork : Prefix → Type 0
IsNetwork to = is_prefix to ≡ true

everywhere_in : IsNetwork everywhere
unfolding network_of lies_in
everywhere_in = refl

whole : (n : ℕ) → n / 2 ^ (32 - 32) * 2 ^ (32 - 32) ≡ n
whole n = omega arith

host_in : (ip : Ip4) → IsIp ip → IsNetwork (host_route ip)
unfolding network_of lies_in
host_in ip h = and_from _ _ h (and_from _ _ refl (eq-eqb _ ip.0 (whole ip.0)))

cleared_twice : (n k : ℕ) → n / 2 ^ k * 2 ^ k / 2 ^ k * 2 ^ k ≡ n / 2 ^ k * 2 ^ k
cleared_twice n k = ap (λ q. q * 2 ^ k) (mul-div_cancel (n / 2 ^ k) (pow_pos k))

network_in : (prefix : Prefix) → IsPrefix prefix → IsNetwork (network_route prefix)
unfolding network_of lies_in
network_in prefix h =
    let n = prefix.net.0 in
    let k = 32 - prefix.len in
    let less : n / 2 ^ k * 2 ^ k < 2 ^ 32 = omega (arith, div-mul-le_self n (2 ^ k), ltb-true n (2 ^ 32) h.0) in
    and_from _ _ (lt-ltb (n / 2 ^ k * 2 ^ k) (2 ^ 32) less) (and_from _ _ h.1 (eq-eqb _ _ (cleared_twice n k)))

pub dest_in : (word : List ℕ) → IfSome (dest_of word) IsNetwork
unfolding dest_of
dest_in word =
    some_if IsNetwork (bytes_eq word (codes "default")) (Some everywhere) _ everywhere_in
    (some_or IsNetwork (option_map host_route (ip4_of word)) (option_map network_route (prefix_of word))
    (some_map IsIp IsNetwork (ip4_of word) host_route (ip_in word) host_in)
    (some_map IsPrefix IsNetwork (prefix_of word) network_route (prefix_in word) network_in))

-- ---- hardware addresses

abbrev pub IsMac : Mac → Type 0
IsMac mac = is_mac mac ≡ true

digit_in : (c : ℕ) → IfSome (hex_digit_of c) (λ n. n < 16)
unfolding hex_digit_of
digit_in c = some_where (λ n. n < 16) _ _ (λ e. ltb-true _ 16 e)

abbrev IsOctet : ℕ → Type 0
IsOctet n = is_octet n ≡ true

octet_in : (word : List ℕ) → IfSome (hex_octet_of word) IsOctet
unfolding hex_octet_of
octet_in (high ∷ low ∷ []) =
    some_then (λ n. n < 16) IsOctet (hex_digit_of high) _ (digit_in high)
    (λ h i. some_then (λ n. n < 16) IsOctet (hex_digit_of low) _ (digit_in low)
    (λ l j. lt-ltb (16 * h + l) 256 (omega (arith, i, j))))
octet_in _ = tt

six_octets : (a b c d e f : ℕ) → IsOctet a → IsOctet b → IsOctet c → IsOctet d → IsOctet e → IsOctet f → IsMac (record { 0 = a ∷ b ∷ c ∷ d ∷ e ∷ f ∷ [] })
six_octets a b c d e f g h i j k l = rw (g, h, i, j, k, l) refl

mac_parts_in : (a b c d e f : List ℕ) → IfSome (mac_parts a b c d e f) IsMac
unfolding mac_parts
mac_parts_in a b c d e f =
    some_then IsOctet IsMac (hex_octet_of a) _ (octet_in a)
    (λ p g. some_then IsOctet IsMac (hex_octet_of b) _ (octet_in b)
    (λ q h. some_then IsOctet IsMac (hex_octet_of c) _ (octet_in c)
    (λ r i. some_then IsOctet IsMac (hex_octet_of d) _ (octet_in d)
    (λ s j. some_then IsOctet IsMac (hex_octet_of e) _ (octet_in e)
    (λ t k. some_then IsOctet IsMac (hex_octet_of f) _ (octet_in f)
    (λ u l. six_octets p q r s t u g h i j k l))))))

mac_pieces_in : (pieces : List (List ℕ)) → IfSome (mac_pieces pieces) IsMac
unfolding mac_pieces
mac_pieces_in (a ∷ b ∷ c ∷ d ∷ e ∷ f ∷ []) = mac_parts_in a b c d e f
mac_pieces_in _ = tt

pub mac_in : (word : List ℕ) → IfSome (mac_of word) IsMac
unfolding mac_of
mac_in word = mac_pieces_in (slice_split (λ c. c == colon) word)

-- ---- names

pub unit_parts_in : (unit : List ℕ) (side : ℕ) → IfSome (unit_side_parts unit side) (λ u. is_unit u.0 ≡ true)
unfolding unit_side_parts
unit_parts_in unit side =
    some_then (λ s. Unit {0}) (λ (u : ℕ × Side). is_unit u.0 ≡ true) (side_of side) _ (some_at (λ s. Unit {0}) (side_of side) (λ s e. tt))
    (λ s h. some_then (λ n. n ≤ 4294967295) (λ (u : ℕ × Side). is_unit u.0 ≡ true) (number_up_to 4294967295 unit) _ (up_to 4294967295 unit)
    (λ n i. lt-ltb n (2 ^ 32) (omega (arith, i))))

abbrev pub IsIfName : IfName → Type 0
IsIfName name = is_ifname name ≡ true

epair_in : (word : List ℕ) → IfSome (epair_of word) IsIfName
unfolding epair_of unit_side_of
epair_in word =
    some_if IsIfName (bytes_eq (take 5 word) (codes "epair")) _ None
    (some_map (λ (u : ℕ × Side). is_unit u.0 ≡ true) IsIfName _ (λ u. ifname.Epair u.0 u.1) (unit_parts_in _ _) (λ u h. h)) tt

pub ifname_in : (word : List ℕ) → IfSome (ifname_of word) IsIfName
unfolding ifname_of
ifname_in word = some_if IsIfName (bytes_eq word (codes "lo0")) (Some ifname.Lo0) (epair_of word) refl (epair_in word)

pub name_in : (word : List ℕ) → IfSome (name_of word) (λ name. is_name name ≡ true)
unfolding name_of
name_in word = some_where (λ name. is_name name ≡ true) (is_name word) word (λ e. e)

pub sock_in : (word : List ℕ) → IfSome (sock_name_of word) (λ name. is_sock_name name ≡ true)
unfolding sock_name_of
sock_in word = some_where (λ name. is_sock_name name ≡ true) (is_sock_name word) word (λ e. e)

-- ---- paths

pub path_in : (word : List ℕ) → IfSome (path_of word) (λ p. is_path p ≡ true)
path_in word = some_at (λ p. is_path p ≡ true) (path_of word) (λ p e. is_path-path_of word p e)

-- a path that a command may name
abbrev pub is_named : Path → Bool
is_named path = is_path path && not (is_host path)

pub named_in : (word : List ℕ) → IfSome (named_of word) (λ path. is_named path ≡ true)
unfolding named_of
named_in word =
    some_then (λ path. is_path path ≡ true) (λ path. is_named path ≡ true) (path_of word) below_host (path_in word)
    (λ path h. by path (is_host path) refl h)
  where
    by : (path : Path) (b : Bool) → is_host path ≡ b → is_path path ≡ true → IfSome (cond b None (Some path)) (λ p. is_named p ≡ true)
    by path true e h = tt
    by path false e h = and_from _ _ h (ap not e)

-- ---- data of datagrams

abbrev pub IsPayload : Payload → Type 0
IsPayload body = is_valid_payload body ≡ true

all_octets : (xs : List ℕ) → ((i : ℕ) → slice_index xs i < 256) → list_all is_octet xs ≡ true
all_octets [] h = refl
all_octets (x ∷ xs) h = and_from _ _ (lt-ltb x 256 (h 0)) (all_octets xs (λ i. h (suc i)))

digits_read : (word : List ℕ) (few : nat_le 2 (length word) && nat_le (length word) 4096 ≡ true) (octets : List ℕ) → decode_of word ≡ Ok octets → IsPayload (payload.Digits octets)
unfolding is_valid_payload
digits_read word few octets e =
    let ok = decode_of-ok word octets e in
    let at = and_parts (nat_le 2 (length word)) (nat_le (length word) 4096) few in
    let least : 2 ≤ length word = leb-true 2 (length word) at.0 in
    let most : length word ≤ 4096 = leb-true (length word) 4096 at.1 in
    and_from _ _ (and_from _ _ (all_octets octets ok.3) (le-leb 1 (length octets) (omega (arith, ok.2, least)))) (le-leb (length octets) 2048 (omega (arith, ok.2, most)))

digits_in : (word : List ℕ) → IfSome (digits_of word) IsPayload
unfolding digits_of
digits_in word = by (nat_le 2 (length word) && nat_le (length word) 4096) refl
  where
    read : (r : Result (List ℕ) _) → decode_of word ≡ r → nat_le 2 (length word) && nat_le (length word) 4096 ≡ true → IfSome (option_map payload.Digits (result_ok r)) IsPayload
    read (Ok octets) e few = digits_read word few octets e
    read (Err x) e few = tt

    by : (b : Bool) → (nat_le 2 (length word) && nat_le (length word) 4096) ≡ b → IfSome (cond b (option_map payload.Digits (result_ok (decode_of word))) None) IsPayload
    by true e = read (decode_of word) refl e
    by false e = tt

zeros_in : (word : List ℕ) → IfSome (zeros_of word) IsPayload
unfolding zeros_of is_valid_payload
zeros_in word =
    some_map (λ n. nat_le n 20000 ≡ true) IsPayload (number_of word >>= such_that (λ n. nat_le n 20000)) payload.Zero (such_number (λ n. nat_le n 20000) word) (λ n h. h)

pub payload_in : (word : List ℕ) → IfSome (payload_of word) IsPayload
unfolding payload_of
payload_in word = by (behind (codes "zero:") word)
  where
    by : (o : Option (List ℕ)) → IfSome (option_map_or zeros_of o (digits_of word)) IsPayload
    by None = digits_in word
    by (Some text) = zeros_in text

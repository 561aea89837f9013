-- Single words read as they are written.
use Rattle.std.proofs.Common.{zero, suc, ◌≡◌, ℕ, ◌+◌, ◌*◌, ◌/◌, ◌%◌, ◌^◌, ◌<◌, ◌≤◌, ◌==◌, Bool, true, false, cond, ◌&&◌, not, List, [], ◌∷◌, ◌++◌, length, get_or, take, drop, map, Option, Some, None, Result, Ok, Err, refl, sym, ap, ap₂, subst, ◌∙◌, arith, true≢false}
use Rattle.std.specs.Prelude.{IfSome, codes, decimal, nat_le, nat_lt, position, slice_index}
use Rattle.std.specs.Char.{digit_char, is_ascii_lowercase}
use Rattle.std.specs.List.{list_all, flat_map, slice_split, join_with_byte}
use Rattle.std.specs.Option.{option_map, option_or, option_map_or}
use Rattle.std.specs.Result.{result_ok}
use Rattle.std.specs.Str.{bytes_eq}
use Rattle.std.proofs.lemmas.Bool.{and_parts, and_from, and_right, ltb-true, leb-true, lt-ltb, le-leb, eqb-true, eq-eqb}
use Rattle.std.proofs.lemmas.List.Folds.{list_all-append}
use Rattle.std.proofs.lemmas.List.Splits.{join_with_byte-slice_split}
use Rattle.std.proofs.lemmas.Slice.Eq.{bytes_eq-Decides}
use Rattle.hex.specs.Hex.{decode_of, encode_lower, encode_with, lower_digits}
use Rattle.hex.proofs.HexLemmas.{decode_of-encode_lower, length-encode_with}
use Rattle.vn_types.specs.declared.address.Ip4.{Ip4}
use Rattle.vn_types.specs.declared.address.Mac.{Mac}
use Rattle.vn_types.specs.declared.address.Prefix.{Prefix}
use Rattle.vn_types.specs.declared.interface.IfName.{IfName}
use Rattle.vn_types.specs.declared.interface.IfName.TheVariants as ifname
use Rattle.vn_types.specs.AddressWords.{ip4_of, ip4_pieces, ip4_text, prefix_of, prefix_pieces, prefix_text, hex_octet, mac_of, mac_pieces, mac_text}
use Rattle.vn_types.specs.InterfaceWords.{ifname_of, ifname_text}
use Rattle.vn_types.specs.NameWords.{name_of, sock_name_of}
use Rattle.vn_types.specs.NumberWords.{number_up_to, number_of, is_numeral}
use Rattle.vn_types.specs.Octets.{space, slash, equals}
use Rattle.vn_types.specs.Paths.{Path, is_host, is_path, path_text}
use Rattle.vn_types.specs.PathWords.{path_of, labels_of}
use Rattle.vn_types.specs.PathTexts.{pieces}
use Rattle.vn_types.specs.Steps.{◌>>=◌}
use Rattle.vn_types.specs.Words.{is_label, is_name, is_name_octet, is_sock_name}
use Rattle.vn_types.proofs.AddressReading.{ip4_canonical, ip4_read_back, prefix_read_back}
use Rattle.vn_types.proofs.Cuts.{lacks, cut_at, cut_nowhere, split-append, split-lacks}
use Rattle.vn_types.proofs.Digits.{number_read_back, decimal_lacks}
use Rattle.vn_types.proofs.InterfaceReading.{lo0_back, epair_back}
use Rattle.vn_types.proofs.MacReading.{mac_read_back}
use Rattle.vn_types.proofs.Options.{none_some, some_same}
use Rattle.vn_types.proofs.PathReading.{path_of-path_text}
use Rattle.vn_rules.specs.Networks.{network_of, lies_in}
use Rattle.vn_cells.specs.declared.command.Payload.{Payload}
use Rattle.vn_cells.specs.declared.command.Payload.TheVariants as payload
use Rattle.vn_cells.specs.machine.Bounds.{is_octet, is_unit, is_port, is_ttl, is_ip, is_mac, is_ifname, is_prefix}
use Rattle.vn_cells.specs.machine.Events.{is_valid_payload}
use Rattle.vn_cells.specs.texts.Programs.{is_default, destination_text, payload_text}
use Rattle.vn_shell.specs.Words.{such_that, is_filled, named_of, below_host, behind, port_of, ttl_of}
use Rattle.vn_shell.specs.Commands.Route.{everywhere, host_route, network_route, dest_of}
use Rattle.vn_shell.specs.Commands.Sysctl.{around, assignment_of}
use Rattle.vn_shell.specs.Commands.Udp.{digits_of, zeros_of, payload_of}
use Rattle.vn_shell.proofs.Bounds.{is_named}
use Rattle.vn_shell.proofs.SpacedWords.{is_between, apart_from, lacks_all, ip_lacks, prefix_word, number_graphic, mac_graphic, path_graphic, filled_read}

-- a word that reads is no word that does not
pub not_same : {X : Type 0} (read : List ℕ → Option X) (x : X) (word text : List ℕ) → read text ≡ None → read word ≡ Some x → bytes_eq word text ≡ false
not_same read x word text none some = by (bytes_eq word text) refl
  where
    by : (b : Bool) → bytes_eq word text ≡ b → bytes_eq word text ≡ false
    by true e = absurd (none_some x (sym none ∙ ap read (sym ((bytes_eq-Decides word text).0 e)) ∙ some))
    by false e = e

-- ---- numbers

pub such_back : {X : Type 0} (test : X → Bool) (x : X) → test x ≡ true → such_that test x ≡ Some x
such_back test x h = ap (λ b. cond b (Some x) None) h

pub number_back : (test : ℕ → Bool) (n : ℕ) → n < 2 ^ 64 → test n ≡ true → (number_of (decimal n) >>= such_that test) ≡ Some n
number_back test n small h = ap (λ o. o >>= such_that test) (number_read_back n small) ∙ such_back test n h

pub port_back : (n : ℕ) → is_port n ≡ true → port_of (decimal n) ≡ Some n
unfolding port_of
port_back n h = number_back is_port n (omega (arith, ltb-true n (2 ^ 16) h)) h

pub ttl_small : (n : ℕ) → is_ttl n ≡ true → n < 256
ttl_small n h = ltb-true n 256 (and_parts (nat_le 1 n) (is_octet n) h).1

pub ttl_back : (n : ℕ) → is_ttl n ≡ true → ttl_of (decimal n) ≡ Some n
unfolding ttl_of
ttl_back n h = number_back is_ttl n (omega (arith, ttl_small n h)) h

no_number : number_of [] ≡ None
unfolding number_of number_up_to is_numeral
no_number = refl

pub decimal_filled : (n : ℕ) → n < 2 ^ 64 → is_filled (decimal n) ≡ true
decimal_filled n h = filled_read number_of n (decimal n) no_number (number_read_back n h)

-- ---- addresses

pub ip_back : (ip : Ip4) → is_ip ip ≡ true → ip4_of (ip4_text ip) ≡ Some ip
ip_back ip h = ip4_read_back ip (ltb-true ip.0 (2 ^ 32) h)

pub prefix_back : (prefix : Prefix) → is_ip prefix.net ≡ true → nat_le prefix.len 32 ≡ true → prefix_of (prefix_text prefix) ≡ Some prefix
prefix_back prefix h few = prefix_read_back prefix (ltb-true prefix.net.0 (2 ^ 32) h) (leb-true prefix.len 32 few)

octet_at : (octets : List ℕ) → list_all is_octet octets ≡ true → (k : ℕ) → get_or octets k 0 < 256
octet_at [] h k = omega arith
octet_at (n ∷ octets) h zero = ltb-true n 256 (and_parts (is_octet n) (list_all is_octet octets) h).0
octet_at (n ∷ octets) h (suc k) = octet_at octets (and_parts (is_octet n) (list_all is_octet octets) h).1 k

pub mac_octets : (mac : Mac) → is_mac mac ≡ true → list_all is_octet mac.0 ≡ true
mac_octets mac h = (and_parts (length mac.0 == 6) (list_all is_octet mac.0) h).1

pub mac_back : (mac : Mac) → is_mac mac ≡ true → mac_of (mac_text mac) ≡ Some mac
mac_back mac h =
    mac_read_back mac (eqb-true (length mac.0) 6 (and_parts (length mac.0 == 6) (list_all is_octet mac.0) h).0) (λ k small. octet_at mac.0 (mac_octets mac h) k)

-- ---- names

pub ifname_back : (name : IfName) → is_ifname name ≡ true → ifname_of (ifname_text name) ≡ Some name
ifname_back ifname.Lo0 h = lo0_back ifname.Lo0 refl
ifname_back (ifname.Epair unit side) h = epair_back (ifname.Epair unit side) unit side refl (ltb-true unit (2 ^ 32) h)

pub name_back : (name : List ℕ) → is_name name ≡ true → name_of name ≡ Some name
unfolding name_of
name_back name h = ap (λ b. cond b (Some name) None) h

pub sock_back : (name : List ℕ) → is_sock_name name ≡ true → sock_name_of name ≡ Some name
unfolding sock_name_of
sock_back name h = ap (λ b. cond b (Some name) None) h

pub named_back : (path : Path) → is_named path ≡ true → named_of (path_text path) ≡ Some path
unfolding named_of
named_back path h = ap (λ o. o >>= below_host) (path_of-path_text path (and_parts (is_path path) (not (is_host path)) h).0) ∙ by (is_host path) refl
  where
    by : (b : Bool) → is_host path ≡ b → cond b None (Some path) ≡ Some path
    by true e = absurd (true≢false (sym (and_parts (is_path path) (not (is_host path)) h).1 ∙ ap not e))
    by false e = refl

-- ---- destinations

-- what stands on both sides of an octet does not lack it
holds : (k : ℕ) (xs ys : List ℕ) → lacks k (xs ++ k ∷ ys) ≡ false
holds k xs ys =
    list_all-append (λ d. not (d == k)) xs (k ∷ ys) ∙ and_right (lacks k xs) (lacks k (k ∷ ys)) (ap (λ b. not b && lacks k ys) (eq-eqb k k refl))

no_ip : (prefix : Prefix) → ip4_of (prefix_text prefix) ≡ None
unfolding prefix_text
no_ip prefix = by (ip4_of (ip4_text prefix.net ++ slash ∷ decimal prefix.len)) refl (ip4_canonical (ip4_text prefix.net ++ slash ∷ decimal prefix.len) (ip4_of (ip4_text prefix.net ++ slash ∷ decimal prefix.len)) refl)
  where
    by : (o : Option Ip4) → ip4_of (ip4_text prefix.net ++ slash ∷ decimal prefix.len) ≡ o → IfSome o (λ ip. ip4_text ip ≡ ip4_text prefix.net ++ slash ∷ decimal prefix.len) → ip4_of (ip4_text prefix.net ++ slash ∷ decimal prefix.len) ≡ None
    by None e h = e
    by (Some ip) e h = absurd (true≢false (sym (ip_lacks slash ip refl refl) ∙ ap (lacks slash) h ∙ holds slash (ip4_text prefix.net) (decimal prefix.len)))

no_prefix_default : prefix_of (codes "default") ≡ None
unfolding prefix_of prefix_pieces
no_prefix_default = refl

no_prefix_net : prefix_of (codes "-net") ≡ None
unfolding prefix_of prefix_pieces
no_prefix_net = refl

-- a network
record IsNetwork (to : Prefix) : Type 0 where
  ip : is_ip to.net ≡ true
  few : nat_le to.len 32 ≡ true
  cleared : network_route to ≡ to

network_is : (to : Prefix) → is_prefix to ≡ true → IsNetwork to
unfolding lies_in
network_is to h =
    let at = and_parts (is_ip to.net) (nat_le to.len 32 && ((network_of to.net to.len).0 == to.net.0)) h in
    let rest = and_parts (nat_le to.len 32) ((network_of to.net to.len).0 == to.net.0) at.1 in
    record {
      ip = at.0;
      few = rest.0;
      cleared = ap (λ n. record { net = record { 0 = n }; len = to.len }) (eqb-true (network_of to.net to.len).0 to.net.0 rest.1);
    }

default_is : (to : Prefix) → is_default to ≡ true → everywhere ≡ to
default_is to e =
    let at = and_parts (to.net.0 == 0) (to.len == 0) e in
    ap₂ (λ n l. record { net = record { 0 = n }; len = l }) (sym (eqb-true to.net.0 0 at.0)) (sym (eqb-true to.len 0 at.1))

prefix_dest : (to : Prefix) → IsNetwork to → dest_of (prefix_text to) ≡ Some to
unfolding dest_of
prefix_dest to is =
    ap (λ b. cond b (Some everywhere) (option_or (option_map host_route (ip4_of (prefix_text to))) (option_map network_route (prefix_of (prefix_text to))))) (not_same prefix_of to (prefix_text to) (codes "default") no_prefix_default (prefix_back to is.ip is.few))
    ∙ ap₂ (λ o p. option_or (option_map host_route o) (option_map network_route p)) (no_ip to) (prefix_back to is.ip is.few)
    ∙ ap Some is.cleared

pub dest_back : (to : Prefix) → is_prefix to ≡ true → dest_of (destination_text to) ≡ Some to
unfolding dest_of
dest_back to h = by (is_default to) refl
  where
    by : (b : Bool) → is_default to ≡ b → dest_of (cond b (codes "default") (prefix_text to)) ≡ Some to
    by true e = ap Some (default_is to e)
    by false e = prefix_dest to (network_is to h)

pub dest_no_net : (to : Prefix) → is_prefix to ≡ true → bytes_eq (destination_text to) (codes "-net") ≡ false
dest_no_net to h = by (is_default to)
  where
    by : (b : Bool) → bytes_eq (cond b (codes "default") (prefix_text to)) (codes "-net") ≡ false
    by true = refl
    by false = let is = network_is to h in not_same prefix_of to (prefix_text to) (codes "-net") no_prefix_net (prefix_back to is.ip is.few)

-- ---- variables

name_lacks : (name : List ℕ) → is_name name ≡ true → lacks equals name ≡ true
unfolding is_name
name_lacks [] h = refl
name_lacks (c ∷ cs) h =
    let at = and_parts (is_ascii_lowercase c) (list_all is_name_octet cs) (and_parts (is_ascii_lowercase c && list_all is_name_octet cs) (nat_le (length cs) 63) h).0 in
    and_from _ _ (ap not (apart_from is_ascii_lowercase equals c refl at.0)) (lacks_all is_name_octet equals refl cs at.1)

pub no_name : (name digits : List ℕ) → name_of (name ++ equals ∷ digits) ≡ None
unfolding name_of
no_name name digits = by (is_name (name ++ equals ∷ digits)) refl
  where
    by : (b : Bool) → is_name (name ++ equals ∷ digits) ≡ b → cond b (Some (name ++ equals ∷ digits)) None ≡ None
    by true e = absurd (true≢false (sym (name_lacks (name ++ equals ∷ digits) e) ∙ holds equals name digits))
    by false e = refl

-- a text is cut at an octet that its front lacks
record IsCut (k : ℕ) (front back : List ℕ) (o : Option ℕ) : Type 0 where
  parts : option_map (around (front ++ k ∷ back)) o ≡ Some (front, back)

cut : (k : ℕ) (front back : List ℕ) → lacks k front ≡ true → lacks k back ≡ true → IsCut k front back (position (λ c. c == k) (front ++ k ∷ back))
cut k front back h g = by (position (λ c. c == k) (front ++ k ∷ back)) refl
  where
    word : List ℕ
    word = front ++ k ∷ back

    split : slice_split (λ c. c == k) (front ++ k ∷ back) ≡ front ∷ back ∷ []
    split = split-append k front back h ∙ ap (λ ps. front ∷ ps) (split-lacks k back g)

    by : (o : Option ℕ) → position (λ c. c == k) (front ++ k ∷ back) ≡ o → IsCut k front back o
    by None e = absurd (let lengths : 1 ≡ 2 = ap length (sym (cut_nowhere (λ c. c == k) (front ++ k ∷ back) e) ∙ split) in omega (arith, lengths))
    by (Some j) e =
        let same = sym (cut_at (λ c. c == k) (front ++ k ∷ back) j 0 e) ∙ split in
        let one : take j (front ++ k ∷ back) ≡ front = cc in
        let more : slice_split (λ c. c == k) (drop (j + 1) (front ++ k ∷ back)) ≡ back ∷ [] = cc in
        let two : drop (j + 1) (front ++ k ∷ back) ≡ back = sym (join_with_byte-slice_split k (drop (j + 1) (front ++ k ∷ back))) ∙ ap (join_with_byte k) more in
        record { parts = ap₂ (λ x y. Some (x, y)) one two }

pub assignment_back : (name : List ℕ) (n : ℕ) → is_name name ≡ true → n < 2 ^ 64 → assignment_of (name ++ equals ∷ decimal n) ≡ Some (name, n)
unfolding assignment_of
assignment_back name n h small =
    ap (λ o. o >>= λ parts. name_of parts.0 >>= λ first. number_of parts.1 >>= λ value. Some (first, value)) (cut equals name (decimal n) (name_lacks name h) (decimal_lacks equals n refl small)).parts
    ∙ ap₂ (λ o p. o >>= λ first. p >>= λ value. Some (first, value)) (name_back name h) (number_read_back n small)

-- ---- words between spaces

pub number_word : (n : ℕ) → n < 2 ^ 64 → is_between (decimal n) ≡ true
number_word n h = and_from _ _ (number_graphic n h) (decimal_filled n h)

no_mac : mac_of [] ≡ None
unfolding mac_of mac_pieces
no_mac = refl

pub mac_word : (mac : Mac) → is_mac mac ≡ true → is_between (mac_text mac) ≡ true
mac_word mac h = and_from _ _ (mac_graphic mac (mac_octets mac h)) (filled_read mac_of mac (mac_text mac) no_mac (mac_back mac h))

no_path : path_of [] ≡ None
unfolding path_of labels_of is_path pieces is_label
no_path = refl

pub path_word : (path : Path) → is_path path ≡ true → is_between (path_text path) ≡ true
path_word path h = and_from _ _ (path_graphic path h) (filled_read path_of path (path_text path) no_path (path_of-path_text path h))

pub dest_word : (to : Prefix) → is_prefix to ≡ true → is_between (destination_text to) ≡ true
dest_word to h = by (is_default to)
  where
    by : (b : Bool) → is_between (cond b (codes "default") (prefix_text to)) ≡ true
    by true = refl
    by false = let is = network_is to h in prefix_word to (leb-true to.len 32 is.few)

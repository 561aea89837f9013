-- Words that are written are of graphic octets, and are found again between spaces.
use Rattle.std.proofs.Common.{suc, ◌≡◌, ℕ, ◌+◌, ◌*◌, ◌/◌, ◌%◌, ◌^◌, ◌<◌, ◌≤◌, ◌==◌, Bool, true, false, cond, ◌&&◌, not, List, [], ◌∷◌, ◌++◌, length, map, Option, Some, None, refl, sym, ap, ◌∙◌, arith, true≢false}
use Rattle.std.specs.Prelude.{codes, decimal, nat_le, nat_lt}
use Rattle.std.specs.Char.{digit_value, digit_char, is_ascii_digit, is_ascii_graphic, is_ascii_lowercase}
use Rattle.std.specs.Int.{w32, to_be_bytes}
use Rattle.std.specs.List.{list_all, filter, flat_map, slice_split, join_with_byte}
use Rattle.std.specs.Str.{bytes_eq}
use Rattle.std.proofs.lemmas.Bool.{and_parts, and_from, ne_eqb, lt-ltb, ltb-true}
use Rattle.std.proofs.lemmas.List.Folds.{list_all-append}
use Rattle.std.proofs.lemmas.Str.{digit_value-digit_char}
use Rattle.vn_types.specs.declared.address.Ip4.{Ip4}
use Rattle.vn_types.specs.declared.address.Mac.{Mac}
use Rattle.vn_types.specs.declared.address.Prefix.{Prefix}
use Rattle.vn_types.specs.declared.interface.IfName.{IfName}
use Rattle.vn_types.specs.declared.interface.IfName.TheVariants as ifname
use Rattle.vn_types.specs.declared.interface.Side.{Side}
use Rattle.vn_types.specs.declared.interface.Side.TheVariants.{A, B}
use Rattle.vn_types.specs.AddressWords.{ip4_text, prefix_text, hex_octet, mac_text}
use Rattle.vn_types.specs.InterfaceWords.{side_letter, unit_side_text, ifname_text}
use Rattle.vn_types.specs.NumberWords.{is_numeral}
use Rattle.vn_types.specs.Octets.{space, dot, slash, colon, zero_digit}
use Rattle.vn_types.specs.Paths.{Path, is_path, joined, path_text}
use Rattle.vn_types.specs.Words.{is_letter_or_digit, is_label_octet, is_name_octet, is_label, is_name, is_sock_name}
use Rattle.vn_types.proofs.Cuts.{lacks, lacks-join, split-join}
use Rattle.std.proofs.lemmas.Bool.Decides.{nat_tests}
use Rattle.vn_types.proofs.Digits.{decimal_lacks, number_parts, number-decimal}
use Rattle.vn_types.proofs.PathTexts.{labels_all}
use Rattle.vn_types.proofs.Options.{none_some}
use Rattle.vn_cells.specs.machine.Bounds.{is_ifname, is_octet}
use Rattle.vn_shell.specs.Words.{is_filled, words_of}
use Rattle.vn_shell.proofs.Lists.{all_both, all_joined, all_weaker}

-- octets that show and are no space
abbrev pub is_graphic : List ℕ → Bool
is_graphic text = list_all is_ascii_graphic text

-- such a text that is not empty
abbrev pub is_between : List ℕ → Bool
is_between text = is_graphic text && is_filled text

-- words with a space between each two
abbrev pub spaced : List (List ℕ) → List ℕ
spaced words = join_with_byte space words

-- ---- octets that are none

pub apart_from : (q : ℕ → Bool) (k c : ℕ) → q k ≡ false → q c ≡ true → (c == k) ≡ false
apart_from q k c fails passes = ne_eqb c k (λ e. true≢false (sym passes ∙ ap q e ∙ fails))

pub lacks_all : (q : ℕ → Bool) (k : ℕ) → q k ≡ false → (cs : List ℕ) → list_all q cs ≡ true → lacks k cs ≡ true
lacks_all q k fails [] h = refl
lacks_all q k fails (c ∷ cs) h =
    let at = and_parts (q c) (list_all q cs) h in and_from _ _ (ap not (apart_from q k c fails at.0)) (lacks_all q k fails cs at.1)

digit_shows : (c : ℕ) → is_ascii_digit c ≡ true → is_ascii_graphic c ≡ true
digit_shows c h = grind (arith, nat_tests)

letter_shows : (c : ℕ) → is_ascii_lowercase c ≡ true → is_ascii_graphic c ≡ true
letter_shows c h = grind (arith, nat_tests)

further_shows : (c : ℕ) → is_letter_or_digit c ≡ true → is_ascii_graphic c ≡ true
further_shows c h = grind (arith, nat_tests)

label_shows : (c : ℕ) → is_label_octet c ≡ true → is_ascii_graphic c ≡ true
label_shows c h = grind (arith, nat_tests)

name_shows : (c : ℕ) → is_name_octet c ≡ true → is_ascii_graphic c ≡ true
name_shows c h = grind (arith, nat_tests)

none_lost : (words : List (List ℕ)) → list_all is_between words ≡ true → (list_all (lacks space) words ≡ true) × (filter is_filled words ≡ words)
none_lost [] h = (refl, refl)
none_lost (word ∷ words) h =
    let at = and_parts (is_between word) (list_all is_between words) h in
    let one = and_parts (is_graphic word) (is_filled word) at.0 in
    let more = none_lost words at.1 in
    (and_from _ _ (lacks_all is_ascii_graphic space refl word one.0) more.0, rw (one.1, more.1) refl)

-- a text that is words with a space between each two
pub record IsSpaced (text : List ℕ) : Type 0 where
  pub word : List ℕ
  pub words : List (List ℕ)
  pub spelt : text ≡ spaced (word ∷ words)
  pub between : list_all is_between (word ∷ words) ≡ true

-- its words are found again
pub words_spaced : (text : List ℕ) (s : IsSpaced text) → words_of text ≡ s.word ∷ s.words
unfolding words_of
words_spaced text s =
    let kept = none_lost (s.word ∷ s.words) s.between in
    ap words_of s.spelt ∙ ap (filter is_filled) (split-join space s.word s.words kept.0) ∙ kept.1

-- a word that a reader reads, who does not read an empty one
pub filled_read : {X : Type 0} (read : List ℕ → Option X) (x : X) (word : List ℕ) → read [] ≡ None → read word ≡ Some x → is_filled word ≡ true
filled_read read x [] none found = absurd (none_some x (sym none ∙ found))
filled_read read x (c ∷ word) none some = refl

pub filled_front : (xs : List ℕ) (c : ℕ) (ys : List ℕ) → is_filled (xs ++ c ∷ ys) ≡ true
filled_front [] c ys = refl
filled_front (x ∷ xs) c ys = refl

-- ---- numbers and addresses

pub ip_lacks : (k : ℕ) (ip : Ip4) → (dot == k) ≡ false → is_ascii_digit k ≡ false → lacks k (ip4_text ip) ≡ true
unfolding ip4_text
ip_lacks k ip other digit =
    let n = ip.0 in
    lacks-join k dot (decimal (n / 16777216 % 256) ∷ decimal (n / 65536 % 256) ∷ decimal (n / 256 % 256) ∷ decimal (n % 256) ∷ []) other
    (rw (decimal_lacks k (n / 16777216 % 256) digit (omega arith), decimal_lacks k (n / 65536 % 256) digit (omega arith), decimal_lacks k (n / 256 % 256) digit (omega arith), decimal_lacks k (n % 256) digit (omega arith)) refl)

numeral_digits : (t : List ℕ) → is_numeral t ≡ true → list_all is_ascii_digit t ≡ true
unfolding is_numeral
numeral_digits [] h = absurd (true≢false (sym h))
numeral_digits (c ∷ []) h = and_from _ _ h refl
numeral_digits (c ∷ d ∷ cs) h = (and_parts (not (c == zero_digit)) (list_all is_ascii_digit (c ∷ d ∷ cs)) h).1

decimal_digits : (n : ℕ) → n < 2 ^ 64 → list_all is_ascii_digit (decimal n) ≡ true
decimal_digits n small = numeral_digits (decimal n) (number_parts 18446744073709551615 (decimal n) n (number-decimal 18446744073709551615 n (omega (arith, small)) small)).0

pub number_graphic : (n : ℕ) → n < 2 ^ 64 → is_graphic (decimal n) ≡ true
number_graphic n small = all_weaker is_ascii_digit is_ascii_graphic digit_shows (decimal n) (decimal_digits n small)

ip_graphic : (ip : Ip4) → is_graphic (ip4_text ip) ≡ true
unfolding ip4_text
ip_graphic ip =
    let n = ip.0 in
    all_joined is_ascii_graphic dot refl (decimal (n / 16777216 % 256) ∷ decimal (n / 65536 % 256) ∷ decimal (n / 256 % 256) ∷ decimal (n % 256) ∷ [])
    (rw (number_graphic (n / 16777216 % 256) (omega arith), number_graphic (n / 65536 % 256) (omega arith), number_graphic (n / 256 % 256) (omega arith), number_graphic (n % 256) (omega arith)) refl)

ip_filled : (ip : Ip4) → is_filled (ip4_text ip) ≡ true
unfolding ip4_text
ip_filled ip =
    let n = ip.0 in
    filled_front (decimal (n / 16777216 % 256)) dot (join_with_byte dot (decimal (n / 65536 % 256) ∷ decimal (n / 256 % 256) ∷ decimal (n % 256) ∷ []))

pub ip_word : (ip : Ip4) → is_between (ip4_text ip) ≡ true
ip_word ip = and_from _ _ (ip_graphic ip) (ip_filled ip)

pub prefix_word : (prefix : Prefix) → prefix.len ≤ 32 → is_between (prefix_text prefix) ≡ true
unfolding prefix_text
prefix_word prefix few =
    and_from _ _
    (all_both is_ascii_graphic (ip4_text prefix.net) (slash ∷ decimal prefix.len) (ip_graphic prefix.net) (number_graphic prefix.len (omega (arith, few))))
    (filled_front (ip4_text prefix.net) slash (decimal prefix.len))

-- ---- hexadecimal digits

-- a digit of base 16
abbrev pub is_hex : ℕ → Bool
is_hex c = nat_lt (digit_value c) 16

hex_digit : (d : ℕ) → d < 16 → is_hex (digit_char d) ≡ true
hex_digit d h = lt-ltb (digit_value (digit_char d)) 16 (omega (arith, h, digit_value-digit_char d (omega (arith, h))))

hex_pair : (n : ℕ) → is_octet n ≡ true → list_all is_hex (hex_octet n) ≡ true
hex_pair n h =
    let small = ltb-true n 256 h in and_from _ _ (hex_digit (n / 16) (omega (arith, small))) (and_from _ _ (hex_digit (n % 16) (omega (arith, small))) refl)

pub hex_all : (octets : List ℕ) → list_all is_octet octets ≡ true → list_all is_hex (flat_map hex_octet octets) ≡ true
hex_all [] h = refl
hex_all (n ∷ octets) h =
    let at = and_parts (is_octet n) (list_all is_octet octets) h in
    list_all-append is_hex (hex_octet n) (flat_map hex_octet octets) ∙ and_from _ _ (hex_pair n at.0) (hex_all octets at.1)

digit_char_shows : (d : ℕ) → d < 16 → is_ascii_graphic (digit_char d) ≡ true
digit_char_shows d h = by (nat_lt d 10) refl
  where
    by : (b : Bool) → nat_lt d 10 ≡ b → is_ascii_graphic (cond b (48 + d) (87 + d)) ≡ true
    by true e = grind (arith, nat_tests)
    by false e = grind (arith, nat_tests)

octet_graphic : (n : ℕ) → is_octet n ≡ true → is_graphic (hex_octet n) ≡ true
octet_graphic n h =
    let small = ltb-true n 256 h in
    and_from _ _ (digit_char_shows (n / 16) (omega (arith, small))) (and_from _ _ (digit_char_shows (n % 16) (omega (arith, small))) refl)

pub octets_graphic : (octets : List ℕ) → list_all is_octet octets ≡ true → is_graphic (flat_map hex_octet octets) ≡ true
octets_graphic [] h = refl
octets_graphic (n ∷ octets) h =
    let at = and_parts (is_octet n) (list_all is_octet octets) h in
    all_both is_ascii_graphic (hex_octet n) (flat_map hex_octet octets) (octet_graphic n at.0) (octets_graphic octets at.1)

groups_graphic : (octets : List ℕ) → list_all is_octet octets ≡ true → list_all is_graphic (map hex_octet octets) ≡ true
groups_graphic [] h = refl
groups_graphic (n ∷ octets) h =
    let at = and_parts (is_octet n) (list_all is_octet octets) h in and_from _ _ (octet_graphic n at.0) (groups_graphic octets at.1)

pub mac_graphic : (mac : Mac) → list_all is_octet mac.0 ≡ true → is_graphic (mac_text mac) ≡ true
unfolding mac_text
mac_graphic mac h = all_joined is_ascii_graphic colon refl (map hex_octet mac.0) (groups_graphic mac.0 h)

-- ---- names

-- a word that begins with a letter
letter_word : (further : ℕ → Bool) (most : ℕ) → ((c : ℕ) → further c ≡ true → is_ascii_graphic c ≡ true) → (c : ℕ) (cs : List ℕ) → (is_ascii_lowercase c && list_all further cs && nat_le (length cs) most) ≡ true
    → is_between (c ∷ cs) ≡ true
letter_word further most shows c cs h =
    let at = and_parts (is_ascii_lowercase c) (list_all further cs) (and_parts (is_ascii_lowercase c && list_all further cs) (nat_le (length cs) most) h).0 in
    and_from _ _ (and_from _ _ (letter_shows c at.0) (all_weaker further is_ascii_graphic shows cs at.1)) refl

pub name_word : (name : List ℕ) → is_name name ≡ true → is_between name ≡ true
unfolding is_name
name_word [] h = absurd (true≢false (sym h))
name_word (c ∷ cs) h = letter_word is_name_octet 63 name_shows c cs h

pub sock_word : (name : List ℕ) → is_sock_name name ≡ true → is_between name ≡ true
unfolding is_sock_name
sock_word [] h = absurd (true≢false (sym h))
sock_word (c ∷ cs) h = letter_word is_letter_or_digit 15 further_shows c cs h

label_graphic : (l : List ℕ) → is_label l ≡ true → is_graphic l ≡ true
unfolding is_label
label_graphic [] h = refl
label_graphic (c ∷ cs) h =
    let word = (and_parts (is_ascii_lowercase c && list_all is_label_octet cs && nat_le (length cs) 15) (not (bytes_eq (c ∷ cs) (codes "host"))) h).0 in
    (and_parts (is_graphic (c ∷ cs)) true (letter_word is_label_octet 15 label_shows c cs word)).0

pub path_graphic : (p : Path) → is_path p ≡ true → is_graphic (path_text p) ≡ true
unfolding path_text joined
path_graphic [] h = refl
path_graphic (l ∷ ls) h = all_joined is_ascii_graphic dot refl (l ∷ ls) (all_weaker is_label is_graphic label_graphic (l ∷ ls) (labels_all (l ∷ ls) h))

side_graphic : (side : Side) → is_graphic (side_letter side ∷ []) ≡ true
side_graphic A = refl
side_graphic B = refl

pub end_graphic : (unit : ℕ) (side : Side) → unit < 2 ^ 32 → is_graphic (unit_side_text unit side) ≡ true
unfolding unit_side_text
end_graphic unit side small = all_both is_ascii_graphic (decimal unit) (side_letter side ∷ []) (number_graphic unit (omega (arith, small))) (side_graphic side)

pub ifname_word : (name : IfName) → is_ifname name ≡ true → is_between (ifname_text name) ≡ true
unfolding ifname_text
ifname_word ifname.Lo0 h = refl
ifname_word (ifname.Epair unit side) h = and_from _ _ (end_graphic unit side (ltb-true unit (2 ^ 32) h)) refl

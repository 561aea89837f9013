-- Addresses are read as they are written.
use Rattle.std.proofs.Common.{zero, suc, ◌≡◌, ℕ, ◌<◌, ◌≤◌, ◌/◌, ◌%◌, ◌^◌, ◌==◌, true, List, [], ◌∷◌, ◌++◌, length, get_or, map, Option, Some, None, refl, sym, ap, ◌∙◌, arith, append_assoc}
use Rattle.std.specs.Prelude.{decimal, IfSome, option_and_then}
use Rattle.std.specs.Int.{w32, to_be_bytes, from_be_bytes}
use Rattle.std.specs.List.{slice_split, join_with_byte}
use Rattle.std.proofs.lemmas.Nat.{from_be_bytes-to_be_bytes_4, be_bytes_4}
use Rattle.std.proofs.lemmas.List.{append-nil}
use Rattle.vn_types.specs.Octets.{dot, slash}
use Rattle.vn_types.specs.declared.address.Ip4.{Ip4}
use Rattle.vn_types.specs.declared.address.Prefix.{Prefix}
use Rattle.vn_types.specs.NumberWords.{number_up_to}
use Rattle.vn_types.specs.AddressWords.{ip4_parts, ip4_pieces, ip4_of, ip4_text, prefix_parts, prefix_pieces, prefix_of, prefix_text}
use Rattle.vn_types.proofs.Options.{none_some, some_same}
use Rattle.vn_types.proofs.Cuts.{lacks, lacks-join, split-lacks, split-append, split-join, read_last, written_again}
use Rattle.vn_types.proofs.Digits.{decimal-number, number-decimal, number_parts, number_lacks, decimal_lacks}

-- ---- IPv4 addresses

-- what the four numbers of an address are
record IsIp4 (a b c d : List ℕ) (ip : Ip4) : Type 0 where
  w : ℕ
  x : ℕ
  y : ℕ
  z : ℕ
  first : number_up_to 255 a ≡ Some w
  second : number_up_to 255 b ≡ Some x
  third : number_up_to 255 c ≡ Some y
  fourth : number_up_to 255 d ≡ Some z
  value : record { 0 = from_be_bytes w32 (w ∷ x ∷ y ∷ z ∷ []) } ≡ ip

ip4_numbers : (a b c d : List ℕ) (ip : Ip4) → ip4_parts a b c d ≡ Some ip → IsIp4 a b c d ip
unfolding ip4_parts
ip4_numbers a b c d ip h = by (number_up_to 255 a) (number_up_to 255 b) (number_up_to 255 c) (number_up_to 255 d) refl refl refl refl h
  where
    four : Option ℕ → Option ℕ → Option ℕ → Option ℕ → Option Ip4
    four p q r s = option_and_then (λ w. option_and_then (λ x. option_and_then (λ y. option_and_then (λ z. Some (record { 0 = from_be_bytes w32 (w ∷ x ∷ y ∷ z ∷ []) })) s) r) q) p

    by : (p q r s : Option ℕ) → number_up_to 255 a ≡ p → number_up_to 255 b ≡ q → number_up_to 255 c ≡ r → number_up_to 255 d ≡ s → four p q r s ≡ Some ip → IsIp4 a b c d ip
    by (Some w) (Some x) (Some y) (Some z) i j k l e = record { w = w; x = x; y = y; z = z; first = i; second = j; third = k; fourth = l; value = some_same _ _ e }
    by (Some w) (Some x) (Some y) None i j k l e = absurd (none_some _ e)
    by (Some w) (Some x) None s i j k l e = absurd (none_some _ e)
    by (Some w) None r s i j k l e = absurd (none_some _ e)
    by None q r s i j k l e = absurd (none_some _ e)

ip4_whole : (a b c d : List ℕ) (ip : Ip4) → ip4_parts a b c d ≡ Some ip → lacks dot d ≡ true
ip4_whole a b c d ip h = let n = ip4_numbers a b c d ip h in number_lacks 255 d n.z dot refl n.fourth

pub ip4_cut : (t a b c d : List ℕ) → slice_split (λ x. x == dot) t ≡ a ∷ b ∷ c ∷ slice_split (λ x. x == dot) d → ip4_parts a b c d ≡ ip4_of t
unfolding ip4_of ip4_pieces
ip4_cut t a b c d h = sym (ap ip4_pieces h ∙ read_last dot (ip4_parts a b c) (ip4_whole a b c) (λ ds. ip4_pieces (a ∷ b ∷ c ∷ ds)) (record { none = refl; one = λ d. refl; more = λ d e ds. refl }) d)

octets_small : (w x y z : ℕ) → w ≤ 255 → x ≤ 255 → y ≤ 255 → z ≤ 255 → (i : ℕ) → get_or (w ∷ x ∷ y ∷ z ∷ []) i 0 < 256
octets_small w x y z a b c d zero = omega arith
octets_small w x y z a b c d (suc zero) = omega arith
octets_small w x y z a b c d (suc (suc zero)) = omega arith
octets_small w x y z a b c d (suc (suc (suc zero))) = omega arith
octets_small w x y z a b c d (suc (suc (suc (suc i)))) = omega arith

octets_of_ip4 : (w x y z n : ℕ) → w ≤ 255 → x ≤ 255 → y ≤ 255 → z ≤ 255 → from_be_bytes w32 (w ∷ x ∷ y ∷ z ∷ []) ≡ n → to_be_bytes w32 n ≡ w ∷ x ∷ y ∷ z ∷ []
octets_of_ip4 w x y z n a b c d h = be_bytes_4 (w ∷ x ∷ y ∷ z ∷ []) n refl (octets_small w x y z a b c d) (sym h)

bound : (t : List ℕ) (n : ℕ) → number_up_to 255 t ≡ Some n → n ≤ 255
bound t n h = (number_parts 255 t n h).2

ip4_written : (a b c d : List ℕ) (ip : Ip4) → IsIp4 a b c d ip → ip4_text ip ≡ join_with_byte dot (a ∷ b ∷ c ∷ d ∷ [])
unfolding ip4_text
ip4_written a b c d ip n =
    let octets = octets_of_ip4 n.w n.x n.y n.z ip.0 (bound a n.w n.first) (bound b n.x n.second) (bound c n.y n.third) (bound d n.z n.fourth) (ap (λ (q : Ip4). q.0) n.value) in
    let one = decimal-number 255 a n.w (omega arith) n.first in
    let two = decimal-number 255 b n.x (omega arith) n.second in
    let three = decimal-number 255 c n.y (omega arith) n.third in
    let four = decimal-number 255 d n.z (omega arith) n.fourth in
    ap (λ os. join_with_byte dot (map decimal os)) octets ∙ (λ i. join_with_byte dot (one i ∷ two i ∷ three i ∷ four i ∷ []))

ip4_spelt : (ds : List (List ℕ)) (ip : Ip4) → ip4_pieces ds ≡ Some ip → ip4_text ip ≡ join_with_byte dot ds
unfolding ip4_pieces
ip4_spelt (a ∷ b ∷ c ∷ d ∷ []) ip e = ip4_written a b c d ip (ip4_numbers a b c d ip e)
ip4_spelt _ ip e = absurd (none_some _ e)

-- an address is written as it was read
pub ip4_canonical : (t : List ℕ) (o : Option Ip4) → o ≡ ip4_of t → IfSome o (λ ip. ip4_text ip ≡ t)
unfolding ip4_of
ip4_canonical = written_again dot ip4_pieces ip4_text ip4_spelt

octet_small : (n k : ℕ) → 0 < k → n / k % 256 ≤ 255
octet_small n k h = omega arith

octet_read : (n : ℕ) → n ≤ 255 → number_up_to 255 (decimal n) ≡ Some n
octet_read n h = number-decimal 255 n h (omega arith)

octet_lacks : (n : ℕ) → n ≤ 255 → lacks dot (decimal n) ≡ true
octet_lacks n h = decimal_lacks dot n refl (omega arith)

ip4_parts_read : (w x y z : ℕ) → w ≤ 255 → x ≤ 255 → y ≤ 255 → z ≤ 255 → ip4_parts (decimal w) (decimal x) (decimal y) (decimal z) ≡ Some (record { 0 = from_be_bytes w32 (w ∷ x ∷ y ∷ z ∷ []) })
unfolding ip4_parts
ip4_parts_read w x y z a b c d = rw (octet_read w a, octet_read x b, octet_read y c, octet_read z d) refl

-- an address is read as it is written
pub ip4_read_back : (ip : Ip4) → ip.0 < 2 ^ 32 → ip4_of (ip4_text ip) ≡ Some ip
unfolding ip4_of ip4_text ip4_pieces
ip4_read_back ip h =
    let n = ip.0 in
    let w = n / 16777216 % 256 in
    let x = n / 65536 % 256 in
    let y = n / 256 % 256 in
    let z = n % 256 in
    ap ip4_pieces (split-join dot (decimal w) (decimal x ∷ decimal y ∷ decimal z ∷ []) (rw (octet_lacks w (omega arith), octet_lacks x (omega arith), octet_lacks y (omega arith), octet_lacks z (omega arith)) refl)) ∙ ip4_parts_read w x y z (omega arith) (omega arith) (omega arith) (omega arith) ∙ ap (λ m. Some (record { 0 = m })) (from_be_bytes-to_be_bytes_4 n h)

-- the texts that a writer puts are the address
pub ip4_texts : (a b c d w x y z : List ℕ) → a ≡ w → b ≡ x → c ≡ y → d ≡ z
    → a ++ dot ∷ (b ++ dot ∷ (c ++ dot ∷ (d ++ []))) ≡ join_with_byte dot (w ∷ x ∷ y ∷ z ∷ [])
ip4_texts a b c d w x y z e f g h = (λ i. e i ++ dot ∷ (f i ++ dot ∷ (g i ++ dot ∷ (h i ++ [])))) ∙ rw append-nil refl

-- ---- addresses with a length

record IsSpeltPrefix (ip len : List ℕ) (prefix : Prefix) : Type 0 where
  net : Ip4
  bits : ℕ
  first : ip4_of ip ≡ Some net
  second : number_up_to 32 len ≡ Some bits
  value : record { net = net; len = bits } ≡ prefix

prefix_halves : (ip len : List ℕ) (prefix : Prefix) → prefix_parts ip len ≡ Some prefix → IsSpeltPrefix ip len prefix
unfolding prefix_parts
prefix_halves ip len prefix h = by (ip4_of ip) (number_up_to 32 len) refl refl h
  where
    by : (p : Option Ip4) (q : Option ℕ) → ip4_of ip ≡ p → number_up_to 32 len ≡ q → option_and_then (λ net. option_and_then (λ bits. Some (record { net = net; len = bits })) q) p ≡ Some prefix → IsSpeltPrefix ip len prefix
    by (Some net) (Some bits) i j e = record { net = net; bits = bits; first = i; second = j; value = some_same _ _ e }
    by (Some net) None i j e = absurd (none_some _ e)
    by None q i j e = absurd (none_some _ e)

prefix_whole : (ip len : List ℕ) (prefix : Prefix) → prefix_parts ip len ≡ Some prefix → lacks slash len ≡ true
prefix_whole ip len prefix h = let n = prefix_halves ip len prefix h in number_lacks 32 len n.bits slash refl n.second

pub prefix_cut : (t ip len : List ℕ) → slice_split (λ x. x == slash) t ≡ ip ∷ slice_split (λ x. x == slash) len → prefix_parts ip len ≡ prefix_of t
unfolding prefix_of prefix_pieces
prefix_cut t ip len h = sym (ap prefix_pieces h ∙ read_last slash (prefix_parts ip) (prefix_whole ip) (λ ds. prefix_pieces (ip ∷ ds)) (record { none = refl; one = λ d. refl; more = λ d e ds. refl }) len)

prefix_written : (ip len : List ℕ) (prefix : Prefix) → IsSpeltPrefix ip len prefix → prefix_text prefix ≡ join_with_byte slash (ip ∷ len ∷ [])
unfolding prefix_text
prefix_written ip len prefix n =
    let address : ip4_text n.net ≡ ip = ip4_canonical ip (Some n.net) (sym n.first) in
    let length = decimal-number 32 len n.bits (omega arith) n.second in
    ap (λ (p : Prefix). ip4_text p.net ++ slash ∷ decimal p.len) (sym n.value) ∙ (λ i. address i ++ slash ∷ length i)

prefix_spelt : (ds : List (List ℕ)) (prefix : Prefix) → prefix_pieces ds ≡ Some prefix → prefix_text prefix ≡ join_with_byte slash ds
unfolding prefix_pieces
prefix_spelt (ip ∷ len ∷ []) prefix e = prefix_written ip len prefix (prefix_halves ip len prefix e)
prefix_spelt _ prefix e = absurd (none_some _ e)

-- what is read is a prefix's own text, and its length is one
pub prefix_canonical : (t : List ℕ) (o : Option Prefix) → o ≡ prefix_of t → IfSome o (λ prefix. prefix_text prefix ≡ t)
unfolding prefix_of
prefix_canonical = written_again slash prefix_pieces prefix_text prefix_spelt

pub prefix_bound : (ip len : List ℕ) (o : Option Prefix) → o ≡ prefix_parts ip len → IfSome o (λ prefix. prefix.len ≤ 32)
prefix_bound ip len None h = tt
prefix_bound ip len (Some prefix) h =
    let n = prefix_halves ip len prefix (sym h) in
    omega (arith, (number_parts 32 len n.bits n.second).2, ap (λ (p : Prefix). p.len) n.value)

ip4_lacks : (ip : Ip4) → lacks slash (ip4_text ip) ≡ true
unfolding ip4_text
ip4_lacks ip =
    let n = ip.0 in
    lacks-join slash dot (decimal (n / 16777216 % 256) ∷ decimal (n / 65536 % 256) ∷ decimal (n / 256 % 256) ∷ decimal (n % 256) ∷ []) refl
    (rw (decimal_lacks slash (n / 16777216 % 256) refl (omega arith), decimal_lacks slash (n / 65536 % 256) refl (omega arith), decimal_lacks slash (n / 256 % 256) refl (omega arith), decimal_lacks slash (n % 256) refl (omega arith)) refl)

-- a prefix is read as it is written
pub prefix_read_back : (prefix : Prefix) → prefix.net.0 < 2 ^ 32 → prefix.len ≤ 32 → prefix_of (prefix_text prefix) ≡ Some prefix
unfolding prefix_of prefix_text prefix_pieces prefix_parts
prefix_read_back prefix small le =
    ap prefix_pieces (split-append slash (ip4_text prefix.net) (decimal prefix.len) (ip4_lacks prefix.net) ∙ ap (λ ps. ip4_text prefix.net ∷ ps) (split-lacks slash (decimal prefix.len) (decimal_lacks slash prefix.len refl (omega arith))))
    ∙ rw (ip4_read_back prefix.net small, number-decimal 32 prefix.len le (omega arith)) refl

pub prefix_texts : (old one two : List ℕ) (text length bits : List ℕ) → one ≡ old ++ text → two ≡ one ++ slash ∷ (length ++ []) → length ≡ bits → two ≡ old ++ (text ++ slash ∷ bits)
prefix_texts old one two text length bits e f g = f ∙ (λ i. e i ++ slash ∷ (g i ++ [])) ∙ rw append-nil (append_assoc old text (slash ∷ bits))

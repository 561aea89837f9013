-- Hardware addresses are read as they are written.
use Rattle.std.proofs.Common.{◌≡◌, ◌≢◌, ℕ, ◌<◌, ◌+◌, ◌*◌, ◌/◌, ◌%◌, ◌==◌, Bool, true, false, cond, List, [], ◌∷◌, ◌++◌, length, get_or, map, Option, Some, None, refl, sym, ap, ◌∙◌, subst, arith}
use Rattle.std.specs.Prelude.{IfSome, option_and_then, nat_lt}
use Rattle.std.specs.Char.{digit_value, digit_char, to_ascii_lowercase}
use Rattle.std.specs.List.{slice_split, join_with_byte}
use Rattle.std.specs.Str.{str_to_ascii_lowercase}
use Rattle.std.proofs.lemmas.Bool.{ne_eqb}
use Rattle.std.proofs.lemmas.Bool.Decides.{nat_tests}
use Rattle.std.proofs.lemmas.List.{map-append}
use Rattle.std.proofs.lemmas.List.Splits.{join_with_byte-slice_split}
use Rattle.std.proofs.lemmas.Str.{digit_value-digit_char}
use Rattle.vn_types.specs.Octets.{colon}
use Rattle.vn_types.specs.declared.address.Mac.{Mac}
use Rattle.vn_types.specs.AddressWords.{hex_digit_of, hex_octet_of, hex_octet, mac_parts, mac_pieces, mac_of, mac_text}
use Rattle.vn_types.proofs.Options.{none_some, some_same}
use Rattle.vn_types.proofs.Cuts.{lacks, split-join, read_last}

-- ---- hexadecimal digits

hex_digit_parts : (c n : ℕ) → hex_digit_of c ≡ Some n → (digit_value c ≡ n) × (n < 16)
unfolding hex_digit_of
hex_digit_parts c n h = by (nat_lt (digit_value c) 16) refl h
  where
    by : (b : Bool) → nat_lt (digit_value c) 16 ≡ b → cond b (Some (digit_value c)) None ≡ Some n → (digit_value c ≡ n) × (n < 16)
    by true e f = let same : digit_value c ≡ n = some_same _ _ f in (same, grind (arith, nat_tests))
    by false e f = absurd (none_some _ f)

-- a digit that is written is in lower case
lower_digit : (c : ℕ) → digit_value c < 16 → digit_char (digit_value c) ≡ to_ascii_lowercase c
lower_digit c h = grind (arith, nat_tests)

digit_apart : (c : ℕ) → digit_value c < 16 → c ≢ colon
digit_apart c h e = omega (arith, ap digit_value e)

char_apart : (d : ℕ) → d < 16 → digit_char d ≢ colon
char_apart d h e = absurd (omega (arith, sym (digit_value-digit_char d (omega arith)) ∙ ap digit_value e))

-- two digits and what they spell
record IsPair (t : List ℕ) (n : ℕ) : Type 0 where
  high : ℕ
  low : ℕ
  digits : t ≡ high ∷ low ∷ []
  high_digit : digit_value high < 16
  low_digit : digit_value low < 16
  value : 16 * digit_value high + digit_value low ≡ n

pair_digits : (t : List ℕ) (n : ℕ) → hex_octet_of t ≡ Some n → IsPair t n
unfolding hex_octet_of
pair_digits [] n h = absurd (none_some _ h)
pair_digits (c ∷ []) n h = absurd (none_some _ h)
pair_digits (c ∷ d ∷ e ∷ t) n h = absurd (none_some _ h)
pair_digits (c ∷ d ∷ []) n h = by (hex_digit_of c) (hex_digit_of d) refl refl h
  where
    by : (p q : Option ℕ) → hex_digit_of c ≡ p → hex_digit_of d ≡ q → option_and_then (λ high. option_and_then (λ low. Some (16 * high + low)) q) p ≡ Some n → IsPair (c ∷ d ∷ []) n
    by (Some x) (Some y) i j e =
        let one = hex_digit_parts c x i in
        let two = hex_digit_parts d y j in
        record { high = c; low = d; digits = refl; high_digit = omega (arith, one.0, one.1); low_digit = omega (arith, two.0, two.1); value = (λ k. 16 * one.0 k + two.0 k) ∙ some_same _ _ e }
    by (Some x) None i j e = absurd (none_some _ e)
    by None q i j e = absurd (none_some _ e)

-- a group is written in lower case
pair_lower : (t : List ℕ) (n : ℕ) → hex_octet_of t ≡ Some n → hex_octet n ≡ str_to_ascii_lowercase t
pair_lower t n h =
    let p = pair_digits t n h in
    let high : n / 16 ≡ digit_value p.high = omega (arith, p.value, p.low_digit) in
    let low : n % 16 ≡ digit_value p.low = omega (arith, p.value, p.low_digit) in
    (λ i. digit_char (high i) ∷ digit_char (low i) ∷ []) ∙ (λ i. lower_digit p.high p.high_digit i ∷ lower_digit p.low p.low_digit i ∷ []) ∙ ap str_to_ascii_lowercase (sym p.digits)

pair_whole : (t : List ℕ) (n : ℕ) → hex_octet_of t ≡ Some n → lacks colon t ≡ true
pair_whole t n h =
    let p = pair_digits t n h in
    let high : (p.high == colon) ≡ false = ne_eqb _ _ (digit_apart p.high p.high_digit) in
    let low : (p.low == colon) ≡ false = ne_eqb _ _ (digit_apart p.low p.low_digit) in
    ap (lacks colon) p.digits ∙ rw (high, low) refl

pair_lacks : (n : ℕ) → n < 256 → lacks colon (hex_octet n) ≡ true
pair_lacks n h =
    let high : (digit_char (n / 16) == colon) ≡ false = ne_eqb _ _ (char_apart (n / 16) (omega arith)) in
    let low : (digit_char (n % 16) == colon) ≡ false = ne_eqb _ _ (char_apart (n % 16) (omega arith)) in
    rw (high, low) refl

digit_read : (d : ℕ) → d < 16 → hex_digit_of (digit_char d) ≡ Some d
unfolding hex_digit_of
digit_read d h = rw (digit_value-digit_char d (omega arith)) (grind (arith, nat_tests))

pair_read : (n : ℕ) → n < 256 → hex_octet_of (hex_octet n) ≡ Some n
unfolding hex_octet_of
pair_read n h = rw (digit_read (n / 16) (omega arith), digit_read (n % 16) (omega arith)) (ap Some (omega arith))

-- ---- six groups

record IsMac (a b c d e f : List ℕ) (mac : Mac) : Type 0 where
  p : ℕ
  q : ℕ
  r : ℕ
  s : ℕ
  t : ℕ
  u : ℕ
  first : hex_octet_of a ≡ Some p
  second : hex_octet_of b ≡ Some q
  third : hex_octet_of c ≡ Some r
  fourth : hex_octet_of d ≡ Some s
  fifth : hex_octet_of e ≡ Some t
  sixth : hex_octet_of f ≡ Some u
  value : record { 0 = p ∷ q ∷ r ∷ s ∷ t ∷ u ∷ [] } ≡ mac

mac_octets : (a b c d e f : List ℕ) (mac : Mac) → mac_parts a b c d e f ≡ Some mac → IsMac a b c d e f mac
unfolding mac_parts
mac_octets a b c d e f mac h = by (hex_octet_of a) (hex_octet_of b) (hex_octet_of c) (hex_octet_of d) (hex_octet_of e) (hex_octet_of f) refl refl refl refl refl refl h
  where
    six : Option ℕ → Option ℕ → Option ℕ → Option ℕ → Option ℕ → Option ℕ → Option Mac
    six o1 o2 o3 o4 o5 o6 = option_and_then (λ p. option_and_then (λ q. option_and_then (λ r. option_and_then (λ s. option_and_then (λ t. option_and_then (λ u. Some (record { 0 = p ∷ q ∷ r ∷ s ∷ t ∷ u ∷ [] })) o6) o5) o4) o3) o2) o1

    by : (o1 o2 o3 o4 o5 o6 : Option ℕ) → hex_octet_of a ≡ o1 → hex_octet_of b ≡ o2 → hex_octet_of c ≡ o3 → hex_octet_of d ≡ o4 → hex_octet_of e ≡ o5 → hex_octet_of f ≡ o6 → six o1 o2 o3 o4 o5 o6 ≡ Some mac → IsMac a b c d e f mac
    by (Some p) (Some q) (Some r) (Some s) (Some t) (Some u) i j k l m n g =
        record { p = p; q = q; r = r; s = s; t = t; u = u; first = i; second = j; third = k; fourth = l; fifth = m; sixth = n; value = some_same _ _ g }
    by (Some p) (Some q) (Some r) (Some s) (Some t) None i j k l m n g = absurd (none_some _ g)
    by (Some p) (Some q) (Some r) (Some s) None o6 i j k l m n g = absurd (none_some _ g)
    by (Some p) (Some q) (Some r) None o5 o6 i j k l m n g = absurd (none_some _ g)
    by (Some p) (Some q) None o4 o5 o6 i j k l m n g = absurd (none_some _ g)
    by (Some p) None o3 o4 o5 o6 i j k l m n g = absurd (none_some _ g)
    by None o2 o3 o4 o5 o6 i j k l m n g = absurd (none_some _ g)

mac_whole : (a b c d e f : List ℕ) (mac : Mac) → mac_parts a b c d e f ≡ Some mac → lacks colon f ≡ true
mac_whole a b c d e f mac h = let n = mac_octets a b c d e f mac h in pair_whole f n.u n.sixth

pub mac_cut : (t a b c d e f : List ℕ) → slice_split (λ x. x == colon) t ≡ a ∷ b ∷ c ∷ d ∷ e ∷ slice_split (λ x. x == colon) f → mac_parts a b c d e f ≡ mac_of t
unfolding mac_of mac_pieces
mac_cut t a b c d e f h = sym (ap mac_pieces h ∙ read_last colon (mac_parts a b c d e) (mac_whole a b c d e) (λ ds. mac_pieces (a ∷ b ∷ c ∷ d ∷ e ∷ ds)) (record { none = refl; one = λ d. refl; more = λ d e ds. refl }) f)

lower_join : (ps : List (List ℕ)) → str_to_ascii_lowercase (join_with_byte colon ps) ≡ join_with_byte colon (map str_to_ascii_lowercase ps)
lower_join [] = refl
lower_join (p ∷ []) = refl
lower_join (p ∷ q ∷ ps) = map-append to_ascii_lowercase p (colon ∷ join_with_byte colon (q ∷ ps)) ∙ ap (λ t. str_to_ascii_lowercase p ++ colon ∷ t) (lower_join (q ∷ ps))

mac_written : (a b c d e f : List ℕ) (mac : Mac) → IsMac a b c d e f mac → mac_text mac ≡ join_with_byte colon (map str_to_ascii_lowercase (a ∷ b ∷ c ∷ d ∷ e ∷ f ∷ []))
unfolding mac_text
mac_written a b c d e f mac n =
    let one = pair_lower a n.p n.first in
    let two = pair_lower b n.q n.second in
    let three = pair_lower c n.r n.third in
    let four = pair_lower d n.s n.fourth in
    let five = pair_lower e n.t n.fifth in
    let six = pair_lower f n.u n.sixth in
    ap (λ (m : Mac). join_with_byte colon (map hex_octet m.0)) (sym n.value) ∙ (λ i. join_with_byte colon (one i ∷ two i ∷ three i ∷ four i ∷ five i ∷ six i ∷ []))

-- an address is written as it was read, in lower case
pub mac_canonical : (t : List ℕ) (o : Option Mac) → o ≡ mac_of t → IfSome o (λ mac. mac_text mac ≡ str_to_ascii_lowercase t)
unfolding mac_of mac_pieces
mac_canonical t None h = tt
mac_canonical t (Some mac) h = by (slice_split (λ x. x == colon) t) refl (sym h)
  where
    by : (ds : List (List ℕ)) → slice_split (λ x. x == colon) t ≡ ds → mac_pieces ds ≡ Some mac → mac_text mac ≡ str_to_ascii_lowercase t
    by (a ∷ b ∷ c ∷ d ∷ e ∷ f ∷ []) s g =
        mac_written a b c d e f mac (mac_octets a b c d e f mac g) ∙ sym (lower_join (a ∷ b ∷ c ∷ d ∷ e ∷ f ∷ [])) ∙ ap (λ ps. str_to_ascii_lowercase (join_with_byte colon ps)) (sym s) ∙ ap str_to_ascii_lowercase (join_with_byte-slice_split colon t)
    by _ s g = absurd (none_some _ g)

mac_parts_read : (a b c d e f : ℕ) → a < 256 → b < 256 → c < 256 → d < 256 → e < 256 → f < 256
    → mac_parts (hex_octet a) (hex_octet b) (hex_octet c) (hex_octet d) (hex_octet e) (hex_octet f) ≡ Some (record { 0 = a ∷ b ∷ c ∷ d ∷ e ∷ f ∷ [] })
unfolding mac_parts
mac_parts_read a b c d e f i j k l m n = rw (pair_read a i, pair_read b j, pair_read c k, pair_read d l, pair_read e m, pair_read f n) refl

-- an address is read as it is written
six_read_back : (a b c d e f : ℕ) → a < 256 → b < 256 → c < 256 → d < 256 → e < 256 → f < 256 → mac_of (mac_text (record { 0 = a ∷ b ∷ c ∷ d ∷ e ∷ f ∷ [] })) ≡ Some (record { 0 = a ∷ b ∷ c ∷ d ∷ e ∷ f ∷ [] })
unfolding mac_of mac_text mac_pieces
six_read_back a b c d e f i j k l m n =
    ap mac_pieces (split-join colon (hex_octet a) (hex_octet b ∷ hex_octet c ∷ hex_octet d ∷ hex_octet e ∷ hex_octet f ∷ []) (rw (pair_lacks a i, pair_lacks b j, pair_lacks c k, pair_lacks d l, pair_lacks e m, pair_lacks f n) refl))
    ∙ mac_parts_read a b c d e f i j k l m n

abbrev six_of : List ℕ → List ℕ
six_of xs = get_or xs 0 0 ∷ get_or xs 1 0 ∷ get_or xs 2 0 ∷ get_or xs 3 0 ∷ get_or xs 4 0 ∷ get_or xs 5 0 ∷ []

six_is : (xs : List ℕ) → length xs ≡ 6 → six_of xs ≡ xs
six_is (a ∷ b ∷ c ∷ d ∷ e ∷ f ∷ []) n = refl
six_is [] n = absurd (omega (arith, n))
six_is (a ∷ []) n = absurd (omega (arith, n))
six_is (a ∷ b ∷ []) n = absurd (omega (arith, n))
six_is (a ∷ b ∷ c ∷ []) n = absurd (omega (arith, n))
six_is (a ∷ b ∷ c ∷ d ∷ []) n = absurd (omega (arith, n))
six_is (a ∷ b ∷ c ∷ d ∷ e ∷ []) n = absurd (omega (arith, n))
six_is (a ∷ b ∷ c ∷ d ∷ e ∷ f ∷ g ∷ xs) n = absurd (omega (arith, n))

pub mac_read_back : (mac : Mac) → length mac.0 ≡ 6 → ((k : ℕ) → k < 6 → get_or mac.0 k 0 < 256) → mac_of (mac_text mac) ≡ Some mac
mac_read_back mac six small =
    let same : record { 0 = six_of mac.0 } ≡ mac = λ i. record { 0 = six_is mac.0 six i } in
    let P : Mac → Type 0 = λ m. mac_of (mac_text m) ≡ Some m in
    subst P same (six_read_back _ _ _ _ _ _ (small 0 (omega arith)) (small 1 (omega arith)) (small 2 (omega arith)) (small 3 (omega arith)) (small 4 (omega arith)) (small 5 (omega arith)))

-- the texts that a writer puts are the address
pub mac_texts : (mac : Mac) (a b c d e f : List ℕ) → length mac.0 ≡ 6 → a ≡ hex_octet (get_or mac.0 0 0) → b ≡ hex_octet (get_or mac.0 1 0) → c ≡ hex_octet (get_or mac.0 2 0) → d ≡ hex_octet (get_or mac.0 3 0)
    → e ≡ hex_octet (get_or mac.0 4 0) → f ≡ hex_octet (get_or mac.0 5 0) → a ++ colon ∷ (b ++ colon ∷ (c ++ colon ∷ (d ++ colon ∷ (e ++ colon ∷ (f ++ []))))) ≡ mac_text mac
unfolding mac_text
mac_texts mac a b c d e f six i j k l m n =
    (λ o. i o ++ colon ∷ (j o ++ colon ∷ (k o ++ colon ∷ (l o ++ colon ∷ (m o ++ colon ∷ (n o ++ [])))))) ∙ ap (λ xs. join_with_byte colon (map hex_octet xs)) (six_is mac.0 six)

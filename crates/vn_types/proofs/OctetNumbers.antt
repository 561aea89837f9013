-- The number that octets spell in a row.
use Rattle.std.proofs.Common.{◌≡◌, ◌<◌, ◌≤◌, ◌+◌, ◌-◌, ◌*◌, ◌^◌, ℕ, zero, suc, List, [], ◌∷◌, ◌++◌, length, take, drop, get_or, slice_index, Fits, w8, length-drop, inl, inr, refl, sym, ap, ◌∙◌, arith}
use Rattle.std.proofs.Math.Nat.{pow-suc}
use Rattle.std.proofs.lemmas.Bool.{cases_lt}
use Rattle.std.proofs.lemmas.List.{append-nil, get_or_past, length-take-le, take-append-drop}
use Rattle.std.proofs.lemmas.List.Elements.{All-cons, All-drop, All-from_get_or, All-nil, All-tail, All-take}
use Rattle.std.proofs.lemmas.Nat.{pow-add, same_from_place}
use Rattle.std.specs.Int.{byte_at}
use Rattle.byteorder.specs.Endian.{big_bytes, big_from}
use Rattle.byteorder.specs.Numbers.{big_from-cons, big_from-lt, big_from-take, big_number-reads_back, length-bytes_high_first}
use Rattle.vn_types.specs.Fields.{AreOctets}

-- ---- octets

octet-byte : (n x : ℕ) → byte_at n x < 256
octet-byte zero x = omega arith
octet-byte (suc n) x = omega arith

pub octets-number : (n x : ℕ) → AreOctets (big_bytes n x)
octets-number zero x = All-nil (λ x. x < 256)
octets-number (suc n) x = All-cons (λ x. x < 256) (byte_at n x) (big_bytes n x) (octet-byte n x) (octets-number n x)

-- what a slice holds are octets
pub octets-slice : (xs : List ℕ) → ((k : ℕ) → Fits w8 (get_or xs k 0)) → AreOctets xs
octets-slice xs octet = All-from_get_or (λ x. x < 256) xs 0 (λ k h. omega (arith, octet k))

-- at each place, also past the end
pub octet_at : (xs : List ℕ) → AreOctets xs → (k : ℕ) → slice_index xs k < 256
octet_at xs octets k = elim (cases_lt k (length xs)) [
  | inl within ↦ octets k 0 within
  | inr past ↦ let none = get_or_past xs k 0 past in omega (arith, none)
]

-- ---- the number of octets

pub pow256 : (n : ℕ) → 256 ^ n ≡ 2 ^ (8 * n)
pow256 zero = refl
pow256 (suc n) = let e : 8 * suc n ≡ 8 * n + 8 = omega arith in rw (pow-suc 256 n, pow256 n, e, pow-add 2 (8 * n) 8) refl

-- a number's further digits, grouped the other way
pub regroup : (x a b r s : ℕ) → x * (a * b) + (r * b + s) ≡ (x * a + r) * b + s
regroup x a b r s = omega arith

-- octets in a row
pub big_from-split : (i n m : ℕ) (xs : List ℕ) → big_from i (n + m) xs ≡ big_from i n xs * 256 ^ m + big_from (i + n) m xs
big_from-split i zero m xs =
    let e : zero + m ≡ m = omega arith in
    let f : i + zero ≡ i = omega arith in
    rw (e, f) (omega arith)
big_from-split i (suc n) m xs =
    let e : suc n + m ≡ suc (n + m) = omega arith in
    let f : i + suc n ≡ suc i + n = omega arith in
    rw (e, f, big_from-split (suc i) n m xs, pow-plus n m)
    (regroup (slice_index xs i) (256 ^ n) (256 ^ m) (big_from (suc i) n xs) (big_from (suc i + n) m xs))
  where
    pow-plus : (n m : ℕ) → 256 ^ (n + m) ≡ 256 ^ n * 256 ^ m
    pow-plus n m = pow-add 256 n m

-- octets behind others
pub big_from-behind : (xs ys : List ℕ) (i n : ℕ) → big_from (length xs + i) n (xs ++ ys) ≡ big_from i n ys
big_from-behind [] ys i n = let e : 0 + i ≡ i = omega arith in rw e refl
big_from-behind (x ∷ xs) ys i n =
    let e : length (x ∷ xs) + i ≡ suc (length xs + i) = omega arith in
    ap (λ k. big_from k n (x ∷ (xs ++ ys))) e ∙ big_from-cons (length xs + i) n x (xs ++ ys) ∙ big_from-behind xs ys i n

-- octets are known by their number
pub same_octets : (xs ys : List ℕ) → AreOctets xs → AreOctets ys → length xs ≡ length ys
    → big_from 0 (length xs) xs ≡ big_from 0 (length ys) ys → xs ≡ ys
same_octets [] [] first second len same = refl
same_octets [] (y ∷ ys) first second len same = absurd (omega arith)
same_octets (x ∷ xs) [] first second len same = absurd (omega arith)
same_octets (x ∷ xs) (y ∷ ys) first second len same =
    let octets = All-tail (λ x. x < 256) x xs first in
    let octets' = All-tail (λ x. x < 256) y ys second in
    let n : length xs ≡ length ys = omega arith in
    let low : big_from 0 (length xs) xs < 256 ^ length xs = big_from-lt 0 (length xs) xs (octet_at xs octets) in
    let low' : big_from 0 (length xs) ys < 256 ^ length xs = big_from-lt 0 (length xs) ys (octet_at ys octets') in
    let left : big_from 0 (length (x ∷ xs)) (x ∷ xs) ≡ x * 256 ^ length xs + big_from 0 (length xs) xs = spelled-cons x xs in
    let right : big_from 0 (length (y ∷ ys)) (y ∷ ys) ≡ y * 256 ^ length xs + big_from 0 (length xs) ys =
    spelled-cons y ys ∙ ap (λ n. y * 256 ^ n + big_from 0 n ys) (sym n) in
    let both = same_from_place x (big_from 0 (length xs) xs) y (big_from 0 (length xs) ys) (256 ^ length xs) low low' (sym left ∙ same ∙ right) in
    ap (λ z. z ∷ xs) both.0 ∙ ap (λ zs. y ∷ zs) (same_octets xs ys octets octets' n (both.1 ∙ ap (λ n. big_from 0 n ys) n))
  where
    spelled-cons : (x : ℕ) (xs : List ℕ) → big_from 0 (length (x ∷ xs)) (x ∷ xs) ≡ x * 256 ^ length xs + big_from 0 (length xs) xs
    spelled-cons x xs =
        let e : length (x ∷ xs) ≡ suc (length xs) = omega arith in
        ap (λ n. big_from 0 n (x ∷ xs)) e ∙ ap (λ r. x * 256 ^ length xs + r) (big_from-cons 0 (length xs) x xs)

-- octets from a place on
big_from-drop : (i n : ℕ) (xs : List ℕ) → i ≤ length xs → big_from 0 n (drop i xs) ≡ big_from i n xs
big_from-drop i n xs within =
    let len = length-take-le i xs within in
    let e : length (take i xs) + 0 ≡ i = omega (arith, len) in
    sym (big_from-behind (take i xs) (drop i xs) 0 n)
    ∙ ap (λ k. big_from k n (take i xs ++ drop i xs)) e
    ∙ ap (big_from i n) (take-append-drop i xs)

-- as a slice that begins there has them
pub big_from-slice : (i n : ℕ) (xs : List ℕ) → i + n ≤ length xs → big_from 0 n (take (length xs - i) (drop i xs)) ≡ big_from i n xs
big_from-slice i n xs within =
    big_from-take 0 n (length xs - i) (drop i xs) (omega arith) ∙ big_from-drop i n xs (omega arith)

-- the octets of their number
pub bytes-number : (n : ℕ) (xs : List ℕ) → AreOctets xs → length xs ≡ n → big_bytes n (big_from 0 n xs) ≡ xs
bytes-number n xs octets len =
    let number : ℕ = big_from 0 n xs in
    let below : number < 256 ^ n = big_from-lt 0 n xs (octet_at xs octets) in
    let len' : length (big_bytes n number) ≡ n = length-bytes_high_first n number in
    let back : big_from 0 n (big_bytes n number) ≡ number =
    ap (big_from 0 n) (sym (append-nil (big_bytes n number))) ∙ big_number-reads_back n number [] below in
    same_octets (big_bytes n number) xs (octets-number n number) octets (len' ∙ sym len)
    (ap (λ k. big_from 0 k (big_bytes n number)) len' ∙ back ∙ ap (λ k. big_from 0 k xs) (sym len))

-- and of those in the middle of others
pub bytes-from : (i n : ℕ) (xs : List ℕ) → AreOctets xs → i + n ≤ length xs → big_bytes n (big_from i n xs) ≡ take n (drop i xs)
bytes-from i n xs octets within =
    let back = length-drop i xs in
    let len : length (take n (drop i xs)) ≡ n = length-take-le n (drop i xs) (omega arith) in
    ap (big_bytes n) (sym (big_from-drop i n xs (omega arith)) ∙ sym (big_from-take 0 n n (drop i xs) (omega arith)))
    ∙ bytes-number n (take n (drop i xs)) (All-take (λ x. x < 256) n (drop i xs) (All-drop (λ x. x < 256) i xs octets)) len

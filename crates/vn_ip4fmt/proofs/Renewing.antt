-- A header whose checksum is written anew.
use Rattle.std.proofs.Common.{◌≡◌, ◌≢◌, ℕ, ◌+◌, ◌-◌, ◌%◌, ◌<◌, ◌≤◌, List, ◌++◌, length, take, drop, set, get_or, refl, sym, ap, ◌∙◌, suc, arith, inl, inr, length-append, length-drop}
use Rattle.std.proofs.lemmas.Bool.{cases_lt}
use Rattle.std.proofs.lemmas.List.{drop-drop, drop_at, get_or-append_right, get_or-drop, get_or_append_left, get_or-set_other, get_or-take, length-set, length-take-le, places, take_at}
use Rattle.std.proofs.lemmas.List.Elements.{All-drop, All-take}
use Rattle.byteorder.specs.Endian.{big_bytes}
use Rattle.vn_cksum.specs.Sums.{sum_of}
use Rattle.vn_types.specs.Fields.{AreOctets}
use Rattle.vn_cksum.proofs.SumLaws.{completed}
use Rattle.vn_ip4fmt.specs.Checksum.{with_checksum, renewed}

take-with : (w : ℕ) (xs : List ℕ) → 12 ≤ length xs → take 10 (with_checksum w xs) ≡ take 10 xs
take-with w xs long = take_at (take 10 xs) (big_bytes 2 w ++ drop 12 xs) 10 (length-take-le 10 xs (omega arith))

drop-with : (w : ℕ) (xs : List ℕ) → 12 ≤ length xs → drop 12 (with_checksum w xs) ≡ drop 12 xs
drop-with w xs long =
    sym (drop-drop 2 10 (with_checksum w xs))
    ∙ ap (drop 2) (drop_at (take 10 xs) (big_bytes 2 w ++ drop 12 xs) 10 (length-take-le 10 xs (omega arith)))

-- the last checksum that was written stands there
pub written-twice : (v w : ℕ) (xs : List ℕ) → 12 ≤ length xs → with_checksum w (with_checksum v xs) ≡ with_checksum w xs
written-twice v w xs long = rw (take-with v xs long, drop-with v xs long) refl

pub length-with : (w : ℕ) (xs : List ℕ) → 12 ≤ length xs → length (with_checksum w xs) ≡ length xs
length-with w xs long =
    let whole = length-append (take 10 xs) (big_bytes 2 w ++ drop 12 xs) in
    let first = length-take-le 10 xs (omega arith) in
    let last = length-drop 12 xs in
    omega (arith, whole, first, last)

-- what stands round the checksum of octets are octets
pub octets-round : (w : ℕ) (xs ys : List ℕ) → 12 ≤ length xs → AreOctets ys → ys ≡ with_checksum w xs → AreOctets (take 10 xs) × AreOctets (drop 12 xs)
octets-round w xs ys long octets is =
    let first : take 10 ys ≡ take 10 xs = ap (take 10) is ∙ take-with w xs long in
    let last : drop 12 ys ≡ drop 12 xs = ap (drop 12) is ∙ drop-with w xs long in (
      rw (← first) (All-take (λ x. x < 256) 10 ys octets),
      rw (← last) (All-drop (λ x. x < 256) 12 ys octets),
    )

pub renewed-sum : (xs : List ℕ) → 12 ≤ length xs → AreOctets (take 10 xs) → AreOctets (drop 12 xs) → sum_of (renewed xs) ≡ 65535
renewed-sum xs long first last =
    completed (take 10 xs) (drop 12 xs) first last (ap (λ n. n % 2) (length-take-le 10 xs (omega arith)))

-- each other octet is as it was
pub place-with : (w : ℕ) (xs : List ℕ) (k : ℕ) → 12 ≤ length xs → k ≢ 10 → k ≢ 11 → get_or (with_checksum w xs) k 0 ≡ get_or xs k 0
place-with w xs k long not10 not11 = elim (cases_lt k 10) [
  | inl below ↦ grind (arith, places)
  | inr above ↦
      let shape : k ≡ suc (suc (k - 12)) + 10 = omega arith in
      let place : k - 10 ≡ suc (suc (k - 12)) = omega arith in
      let whole : 12 + (k - 12) ≡ k = omega arith in
      get_or-append_right (take 10 xs) (big_bytes 2 w ++ drop 12 xs) 10 k 0 (length-take-le 10 xs (omega arith)) above
      ∙ ap (λ i. get_or (big_bytes 2 w ++ drop 12 xs) i 0) place
      ∙ get_or-drop 12 xs (k - 12) 0
      ∙ ap (λ i. get_or xs i 0) whole
]

length-header : (h ttl : ℕ) (xs : List ℕ) → h ≤ length xs → length (set (take h xs) 8 ttl) ≡ h
length-header h ttl xs within = length-set (take h xs) 8 ttl ∙ length-take-le h xs within

length-renewed : (h ttl : ℕ) (xs : List ℕ) → 12 ≤ h → h ≤ length xs → length (renewed (set (take h xs) 8 ttl)) ≡ h
length-renewed h ttl xs long within =
    let len = length-header h ttl xs within in
    length-with _ (set (take h xs) 8 ttl) (omega arith) ∙ len

pub place-relived : (h ttl : ℕ) (xs : List ℕ) (k : ℕ) → 12 ≤ h → h ≤ length xs → k ≢ 8 → k ≢ 10 → k ≢ 11
    → get_or (renewed (set (take h xs) 8 ttl) ++ drop h xs) k 0 ≡ get_or xs k 0
place-relived h ttl xs k long within not8 not10 not11 = elim (cases_lt k h) [
  | inl below ↦
      let len = length-header h ttl xs within in
      let len' = length-renewed h ttl xs long within in
      let first : get_or (renewed (set (take h xs) 8 ttl) ++ drop h xs) k 0 ≡ get_or (renewed (set (take h xs) 8 ttl)) k 0 = get_or_append_left (renewed (set (take h xs) 8 ttl)) (drop h xs) 0 k (omega arith) in
      let taken : get_or (take h xs) k 0 ≡ get_or xs k 0 = get_or-take h xs k 0 below in
      first ∙ place-with _ (set (take h xs) 8 ttl) k (omega arith) not10 not11 ∙ get_or-set_other (take h xs) 8 k ttl 0 not8 ∙ taken
  | inr above ↦
      let whole : h + (k - h) ≡ k = omega arith in
      get_or-append_right (renewed (set (take h xs) 8 ttl)) (drop h xs) h k 0 (length-renewed h ttl xs long within) above
      ∙ get_or-drop h xs (k - h) 0
      ∙ ap (λ i. get_or xs i 0) whole
]

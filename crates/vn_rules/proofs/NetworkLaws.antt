-- Networks within 32 bits.
use Rattle.std.proofs.Common.{◌≡◌, true, refl, nat_le, ◌==◌, ℕ, ◌+◌, ◌-◌, ◌*◌, ◌/◌, ◌^◌, ◌<◌, arith, ap, ◌∙◌}
use Rattle.std.proofs.Math.Nat.{lt_of_mul-lt-mul_left, mul-div_cancel}
use Rattle.std.proofs.lemmas.Bool.{and_from, eq-eqb}
use Rattle.std.proofs.lemmas.Nat.{pow_pos, pow-add, mul-add-lt}
use Rattle.vn_types.specs.declared.address.Ip4.{Ip4}
use Rattle.vn_rules.specs.Networks.{network_of, directed_broadcast, lies_in, is_network}

-- the last number of the q-th block of h numbers, where all blocks are below t
block-last : (q h m t : ℕ) → 0 < h → t ≡ m * h → q * h < t → q * h + (h - 1) < t
block-last q h m t pos e lt =
    let first : h * q < h * m = omega arith in
    let in_range : q < m = lt_of_mul-lt-mul_left h first in
    omega (arith, mul-add-lt q h (h - 1) m in_range (omega arith))

-- the directed broadcast address of a network of 32 bits has 32 bits
pub directed_broadcast-below : (ip : Ip4) (len : ℕ) → (network_of ip len).0 < 2 ^ 32 → (directed_broadcast ip len).0 < 2 ^ 32
unfolding directed_broadcast network_of
directed_broadcast-below ip len lt = block-last (ip.0 / 2 ^ k) (2 ^ k) (2 ^ (32 - k)) (2 ^ 32) (pow_pos k) (by (32 - k) k (omega arith)) lt
  where
    k : ℕ
    k = 32 - len

    by : (m k : ℕ) → 32 ≡ m + k → 2 ^ 32 ≡ 2 ^ m * 2 ^ k
    by m k e = ap (λ n. 2 ^ n) e ∙ pow-add 2 m k

-- a network lies in itself
pub network_of-itself : (ip : Ip4) (len : ℕ) → network_of (network_of ip len) len ≡ network_of ip len
unfolding network_of
network_of-itself ip len = λ i. record { 0 = ap (λ q. q * 2 ^ (32 - len)) (mul-div_cancel (ip.0 / 2 ^ (32 - len)) (pow_pos (32 - len))) i }

-- and is the prefix of one
pub is_network-of : (ip : Ip4) (len : ℕ) → nat_le len 32 ≡ true → is_network (record { net = network_of ip len; len = len }) ≡ true
unfolding lies_in
is_network-of ip len bounded = and_from _ _ bounded (ap (λ (n : Ip4). n.0 == (network_of ip len).0) (network_of-itself ip len) ∙ eq-eqb (network_of ip len).0 (network_of ip len).0 refl)

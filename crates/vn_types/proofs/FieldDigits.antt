-- The number that the fields of a format spell together, of which their values are the digits.
use Rattle.std.proofs.Common.{◌≡◌, ◌==◌, ◌≤◌, ◌<◌, ◌+◌, ◌-◌, ◌*◌, ◌/◌, ◌%◌, ◌^◌, ℕ, zero, suc, false, not, List, [], ◌∷◌, ◌++◌, length, slice_index, refl, sym, ap, subst, ◌∙◌, arith}
use Rattle.std.proofs.Math.Nat.{one-le-pow, mod-eq_of_lt, mul_comm, div-div-eq-div-mul, mul-add-div_right, mul-add-mod_self_right}
use Rattle.std.proofs.lemmas.Bool.Decides.{nat_tests}
use Rattle.std.proofs.lemmas.List.{take_at}
use Rattle.std.proofs.lemmas.Nat.{pow-add, pow_pos, mod-pow-add, div-mul-add, mod-mul-add, mod_below, mul-add-lt, shr_below}
use Rattle.byteorder.specs.Endian.{big_from}
use Rattle.byteorder.specs.Numbers.{big_from-lt, big_from-take}
use Rattle.vn_types.specs.Fields.{AreOctets, bits, widths, values, FitWidths, octets_with, bits_behind, without_lowest, lowest, number_at, numbers_after}
use Rattle.vn_types.proofs.OctetNumbers.{octet_at, pow256, regroup, big_from-split}

-- ---- the number of fields, and its digits

-- the number that fields spell
unfoldable pub packed : List (ℕ × ℕ) → ℕ
packed [] = 0
packed (field ∷ fields) = field.1 * 2 ^ bits (widths fields) + packed fields

-- the values in a number, of fields with these widths
unfoldable pub digits : List ℕ → ℕ → List ℕ
digits [] number = []
digits (width ∷ widths) number = number / 2 ^ bits widths % 2 ^ width ∷ digits widths number

pub packed-below : (fields : List (ℕ × ℕ)) → FitWidths fields → packed fields < 2 ^ bits (widths fields)
unfolding packed
packed-below [] fit = omega arith
packed-below (field ∷ fields) fit =
    let below = mul-add-lt field.1 (2 ^ bits (widths fields)) (packed fields) (2 ^ field.0) fit.0 (packed-below fields fit.1) in
    rw (pow-add 2 field.0 (bits (widths fields)), mul_comm (2 ^ field.0) (2 ^ bits (widths fields))) below

-- the digits of fields are their values, whatever stands before them
pub digits-packed : (fields : List (ℕ × ℕ)) (before : ℕ) → FitWidths fields
    → digits (widths fields) (before * 2 ^ bits (widths fields) + packed fields) ≡ values fields
unfolding packed digits
digits-packed [] before fit = refl
digits-packed (field ∷ fields) before fit =
    let b : ℕ = 2 ^ bits (widths fields) in
    let w : ℕ = 2 ^ field.0 in
    let whole : before * 2 ^ (field.0 + bits (widths fields)) + (field.1 * b + packed fields) ≡ (before * w + field.1) * b + packed fields =
    rw (pow-add 2 field.0 (bits (widths fields))) (regroup before w b field.1 (packed fields)) in
    let here : ((before * w + field.1) * b + packed fields) / b % w ≡ field.1 =
    ap (λ n. n % w) (div-mul-add (before * w + field.1) b (packed fields) (packed-below fields fit.1)) ∙ mod-mul-add before w field.1 fit.0 in
    ap (λ n. n / b % w ∷ digits (widths fields) n) whole
    ∙ ap (λ v. v ∷ digits (widths fields) ((before * w + field.1) * b + packed fields)) here
    ∙ ap (λ vs. field.1 ∷ vs) (digits-packed fields (before * w + field.1) fit.1)

-- and fields whose values are the digits of a number spell it
pub packed-digits : (fields : List (ℕ × ℕ)) (number : ℕ) → values fields ≡ digits (widths fields) number
    → packed fields ≡ number % 2 ^ bits (widths fields)
unfolding packed digits
packed-digits [] number same = omega arith
packed-digits (field ∷ fields) number same =
    let here : field.1 ≡ number / 2 ^ bits (widths fields) % 2 ^ field.0 = cc in
    let others = packed-digits fields number (cc) in
    rw (here, others) (sym (mod-pow-add number field.0 (bits (widths fields))))

pub fit-digits : (fields : List (ℕ × ℕ)) (number : ℕ) → values fields ≡ digits (widths fields) number → FitWidths fields
unfolding digits
fit-digits [] number same = tt
fit-digits (field ∷ fields) number same =
    let here : field.1 ≡ number / 2 ^ bits (widths fields) % 2 ^ field.0 = cc in
    (rw here (mod_below (number / 2 ^ bits (widths fields)) (2 ^ field.0) (pow_pos field.0)), fit-digits fields number (cc))

-- ---- reading

-- the bits in the middle of a number: of all octets, and of those that they are in
middle : (f m r l w k q : ℕ) → 0 < q → 0 < k → r < q → (f * (l * (w * k) * q) + (m * q + r)) / (q * k) % w ≡ m / k % w
middle f m r l w k q some some' below =
    let whole : f * (l * (w * k) * q) + (m * q + r) ≡ (f * l * w * k + m) * q + r = regroup f m r l w k q in
    ap (λ n. n / (q * k) % w) whole
    ∙ ap (λ n. n % w) (sym (div-div-eq-div-mul ((f * l * w * k + m) * q + r) q k))
    ∙ ap (λ n. n / k % w) (div-mul-add (f * l * w * k + m) q r below)
    ∙ ap (λ n. n % w) (mul-add-div_right some' (f * l * w) m)
    ∙ mul-add-mod_self_right (f * l) w (m / k)
  where
    regroup : (f m r l w k q : ℕ) → f * (l * (w * k) * q) + (m * q + r) ≡ (f * l * w * k + m) * q + r
    regroup f m r l w k q = omega arith

without_lowest-is : (behind number : ℕ) → without_lowest behind number ≡ number / 2 ^ behind
without_lowest-is zero number = omega arith
without_lowest-is (suc behind) number = refl

lowest-is : (before width number : ℕ) → (before ≡ 0 → number < 2 ^ width) → lowest (not (before == 0)) width number ≡ number % 2 ^ width
lowest-is zero width number small = sym (mod-eq_of_lt (small refl))
lowest-is (suc before) width number small =
    let some : (suc before == 0) ≡ false = grind (arith, nat_tests) in
    ap (λ b. lowest (not b) width number) some

number-middle : (place width after n : ℕ) (xs : List ℕ) → AreOctets xs → place + width + after ≡ 8 * n
    → number_at place width xs ≡ big_from 0 n xs / 2 ^ after % 2 ^ width
number-middle place width after n xs octets whole =
    let before : ℕ = place / 8 in
    let lead : ℕ = place % 8 in
    let own : ℕ = octets_with place width in
    let behind : ℕ = bits_behind place width in
    let last : ℕ = n - (before + own) in
    let m : ℕ = big_from before own xs in
    let r : ℕ = big_from (before + own) last xs in
    let at : (k : ℕ) → slice_index xs k < 256 = octet_at xs octets in
    let all : n ≡ before + (own + last) = omega arith in
    let start : 0 + before ≡ before = omega arith in
    let own-bits : 8 * own ≡ lead + (width + behind) = omega arith in
    let after-bits : after ≡ 8 * last + behind = omega arith in
    let parts : 256 ^ own ≡ 2 ^ lead * (2 ^ width * 2 ^ behind) =
    pow256 own ∙ ap (λ k. 2 ^ k) own-bits ∙ pow-add 2 lead (width + behind) ∙ ap (λ k. 2 ^ lead * k) (pow-add 2 width behind) in
    let rows : 256 ^ (own + last) ≡ 2 ^ lead * (2 ^ width * 2 ^ behind) * 256 ^ last =
    pow-add 256 own last ∙ ap (λ k. k * 256 ^ last) parts in
    let number : big_from 0 n xs ≡ big_from 0 before xs * (2 ^ lead * (2 ^ width * 2 ^ behind) * 256 ^ last) + (m * 256 ^ last + r) =
    ap (λ k. big_from 0 k xs) all ∙ big_from-split 0 before (own + last) xs
    ∙ (rw (rows, start, big_from-split before own last xs) refl) in
    let gone : 2 ^ after ≡ 256 ^ last * 2 ^ behind =
    ap (λ k. 2 ^ k) after-bits ∙ pow-add 2 (8 * last) behind ∙ ap (λ k. k * 2 ^ behind) (sym (pow256 last)) in
    let cut : big_from 0 n xs / 2 ^ after % 2 ^ width ≡ m / 2 ^ behind % 2 ^ width =
    ap (λ k. k / 2 ^ after % 2 ^ width) number
    ∙ ap (λ k. (big_from 0 before xs * (2 ^ lead * (2 ^ width * 2 ^ behind) * 256 ^ last) + (m * 256 ^ last + r)) / k % 2 ^ width) gone
    ∙ middle (big_from 0 before xs) m r (2 ^ lead) (2 ^ width) (2 ^ behind) (256 ^ last) (one-le-pow last 256 (omega arith)) (pow_pos behind)
    (big_from-lt (before + own) last xs at) in
    let small : lead ≡ 0 → m / 2 ^ behind < 2 ^ width =
    λ none.
    let exact : 256 ^ own ≡ 2 ^ (width + behind) = pow256 own ∙ ap (λ k. 2 ^ k) (omega arith) in
    shr_below m width behind (subst (λ k. m < k) exact (big_from-lt before own xs at)) in
    ap (lowest (not (lead == 0)) width) (without_lowest-is behind m)
    ∙ lowest-is lead width (m / 2 ^ behind) small
    ∙ sym cut

pub numbers-digits : (place : ℕ) (ws : List ℕ) (n : ℕ) (xs : List ℕ) → AreOctets xs → place + bits ws ≡ 8 * n
    → numbers_after place ws xs ≡ digits ws (big_from 0 n xs)
unfolding digits
numbers-digits place [] n xs octets whole = refl
numbers-digits place (width ∷ ws) n xs octets whole =
    let here = number-middle place width (bits ws) n xs octets (omega arith) in
    let others = numbers-digits (place + width) ws n xs octets (omega arith) in
    rw (here, others) refl

-- no octet behind the fields counts
number-first : (i n : ℕ) (xs ys : List ℕ) → i + n ≤ length xs → big_from i n (xs ++ ys) ≡ big_from i n xs
number-first i n xs ys within =
    sym (big_from-take i n (length xs) (xs ++ ys) within) ∙ ap (big_from i n) (take_at xs ys (length xs) refl)

pub numbers-first : (place : ℕ) (ws xs ys : List ℕ) → place + bits ws ≤ 8 * length xs → numbers_after place ws (xs ++ ys) ≡ numbers_after place ws xs
numbers-first place [] xs ys within = refl
numbers-first place (width ∷ ws) xs ys within =
    let here = number-first (place / 8) (octets_with place width) xs ys (omega arith) in
    let others = numbers-first (place + width) ws xs ys (omega arith) in
    rw (here, others) refl

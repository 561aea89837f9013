-- The laws of formats: what is spelled is read, and what is read spells the octets.
use Rattle.std.proofs.Common.{◌≡◌, ◌≢◌, ◌==◌, ◌≤◌, ◌<◌, ◌+◌, ◌*◌, ◌/◌, ◌%◌, ◌^◌, ℕ, zero, suc, Bool, true, false, if◌then◌else◌, List, [], ◌∷◌, ◌++◌, length, take, drop, refl, sym, ap, subst, ◌∙◌, arith, append_assoc, length-append}
use Rattle.std.proofs.Math.Nat.{mod-eq_of_lt, mul_comm}
use Rattle.std.proofs.lemmas.Bool.Decides.{nat_tests}
use Rattle.std.proofs.lemmas.List.{append-nil, take-append-drop, length-take-le}
use Rattle.std.proofs.lemmas.List.Elements.{All-append, All-nil, All-take}
use Rattle.std.proofs.lemmas.Nat.{pow-add, mul-add-lt}
use Rattle.byteorder.specs.Endian.{big_bytes, big_from}
use Rattle.byteorder.specs.Numbers.{big_from-lt, big_number-reads_back, length-bytes_high_first}
use Rattle.vn_types.specs.Fields.{AreOctets, bits, widths, values, FitWidths, joined, octets_after, octets_of, numbers_in, Format, layout, read, SpellsHeader, ReadsBack}
use Rattle.vn_types.proofs.OctetNumbers.{octets-number, octet_at, pow256, big_from-split, big_from-behind, same_octets}
use Rattle.vn_types.proofs.FieldDigits.{packed, digits, digits-packed, packed-digits, fit-digits, numbers-digits, numbers-first}

-- ---- spelling

-- the number of the bits before a field, with the field
joined-is : (width number : ℕ) (field : ℕ × ℕ) → number < 2 ^ width → joined width number field ≡ number * 2 ^ field.0 + field.1
joined-is zero number field below = let none : number ≡ 0 = omega arith in rw none (omega arith)
joined-is (suc width) number field below = refl

either : (P : List ℕ → Type 0) (test : Bool) (xs ys : List ℕ) → (test ≡ true → P xs) → (test ≡ false → P ys) → P (if test then xs else ys)
either P true xs ys first second = first refl
either P false xs ys first second = second refl

octets-after : (width number : ℕ) (fields : List (ℕ × ℕ)) → AreOctets (octets_after width number fields)
octets-after width number [] = All-nil (λ x. x < 256)
octets-after width number (field ∷ fields) =
    either AreOctets ((width + field.0) % 8 == 0) _ _
    (λ _. All-append (λ x. x < 256) (big_bytes ((width + field.0) / 8) (joined width number field)) (octets_after 0 0 fields)
    (octets-number ((width + field.0) / 8) (joined width number field)) (octets-after 0 0 fields))
    (λ _. octets-after (width + field.0) (joined width number field) fields)

pub octets-fields : (fields : List (ℕ × ℕ)) → AreOctets (octets_of fields)
octets-fields fields = octets-after 0 0 fields

-- a number of bits that fill no octet yet
record IsPending (width number : ℕ) : Type 0 where
  fills_none : width % 8 ≡ 0 → width ≡ 0
  fits : number < 2 ^ width

-- octets of so many bits begin with a number
record Begins (width number : ℕ) (octets : List ℕ) : Type 0 where
  len : length octets ≡ width / 8
  is : (rest : List ℕ) → big_from 0 (width / 8) (octets ++ rest) ≡ number

-- octets in a row
in_row : (b behind front number : ℕ) (ys : List ℕ) → b % 8 ≡ 0 → behind % 8 ≡ 0 → front < 2 ^ b
    → Begins (0 + behind) (0 * 2 ^ behind + number) ys
    → Begins (b + behind) (front * 2 ^ behind + number) (big_bytes (b / 8) front ++ ys)
in_row b behind front number ys full full' fits others =
    let n : ℕ = b / 8 in
    let m : ℕ = (0 + behind) / 8 in
    let bytes : List ℕ = big_bytes n front in
    let len : length bytes ≡ n = length-bytes_high_first n front in
    let fits' : front < 256 ^ n = subst (λ k. front < k) (sym (pow256 n ∙ ap (λ k. 2 ^ k) (omega arith))) fits in
    let power : 256 ^ m ≡ 2 ^ behind = pow256 m ∙ ap (λ k. 2 ^ k) (omega arith) in
    let all : (b + behind) / 8 ≡ n + m = omega arith in
    record {
      len = length-append bytes ys ∙ (omega (arith, len, others.len));
      is = λ rest.
          let behind-them : big_from (0 + n) m (bytes ++ (ys ++ rest)) ≡ big_from 0 m (ys ++ rest) =
          ap (λ k. big_from k m (bytes ++ (ys ++ rest))) (omega (arith, len)) ∙ big_from-behind bytes (ys ++ rest) 0 m in
          ap (λ k. big_from 0 k ((bytes ++ ys) ++ rest)) all
          ∙ ap (big_from 0 (n + m)) (append_assoc bytes ys rest)
          ∙ big_from-split 0 n m (bytes ++ (ys ++ rest))
          ∙ (rw (big_number-reads_back n front (ys ++ rest) fits', power, behind-them, others.is rest) (omega arith));
    }

begins-after : (width number : ℕ) (fields : List (ℕ × ℕ)) → IsPending width number → (width + bits (widths fields)) % 8 ≡ 0 → FitWidths fields
    → Begins (width + bits (widths fields)) (number * 2 ^ bits (widths fields) + packed fields) (octets_after width number fields)
unfolding packed
begins-after width number [] pending whole fit =
    let none : width ≡ 0 = pending.fills_none (omega arith) in
    let few : number < 2 ^ 0 = subst (λ k. number < 2 ^ k) none pending.fits in
    let zero : number ≡ 0 = omega arith in
    rw (none, zero) (record { len = refl; is = λ rest. refl })
begins-after width number (field ∷ fields) pending whole fit =
    let b : ℕ = width + field.0 in
    let behind : ℕ = bits (widths fields) in
    let front : ℕ = joined width number field in
    let front-is : front ≡ number * 2 ^ field.0 + field.1 = joined-is width number field pending.fits in
    let below : number * 2 ^ field.0 + field.1 < 2 ^ field.0 * 2 ^ width = mul-add-lt number (2 ^ field.0) field.1 (2 ^ width) pending.fits fit.0 in
    let power : 2 ^ b ≡ 2 ^ field.0 * 2 ^ width = pow-add 2 width field.0 ∙ mul_comm (2 ^ width) (2 ^ field.0) in
    let fits : front < 2 ^ b = rw (front-is, power) below in
    let total : front * 2 ^ behind + packed fields ≡ number * 2 ^ (field.0 + behind) + (field.1 * 2 ^ behind + packed fields) =
    rw (front-is, pow-add 2 field.0 behind) (regroup number (2 ^ field.0) field.1 (2 ^ behind) (packed fields)) in
    let bits-in-all : b + behind ≡ width + (field.0 + behind) = omega arith in
    subst (λ n. Begins n (number * 2 ^ (field.0 + behind) + (field.1 * 2 ^ behind + packed fields)) (octets_after width number (field ∷ fields))) bits-in-all
    (subst (λ n. Begins (b + behind) n (octets_after width number (field ∷ fields))) total
    (either (λ xs. Begins (b + behind) (front * 2 ^ behind + packed fields) xs) (b % 8 == 0) _ _
    (λ yes.
    let full : b % 8 ≡ 0 = grind (arith, nat_tests) in
    in_row b behind front (packed fields) (octets_after 0 0 fields) full (omega arith) fits
    (begins-after 0 0 fields (record { fills_none = λ _. refl; fits = omega arith }) (omega arith) fit.1))
    (λ no.
    let part : b % 8 ≢ 0 = grind (arith, nat_tests) in
    begins-after b front fields (record { fills_none = λ zero. absurd (part zero); fits = fits }) (omega arith) fit.1)))
  where
    regroup : (n f v b r : ℕ) → (n * f + v) * b + r ≡ n * (f * b) + (v * b + r)
    regroup n f v b r = omega arith

spelled-begins : (fields : List (ℕ × ℕ)) → bits (widths fields) % 8 ≡ 0 → FitWidths fields
    → Begins (bits (widths fields)) (0 * 2 ^ bits (widths fields) + packed fields) (octets_of fields)
spelled-begins fields whole fit =
    let begins = begins-after 0 0 fields (record { fills_none = λ _. refl; fits = omega arith }) (omega arith) fit in
    let e : 0 + bits (widths fields) ≡ bits (widths fields) = omega arith in
    subst (λ n. Begins n (0 * 2 ^ bits (widths fields) + packed fields) (octets_of fields)) e begins

-- ---- the laws of fields that fill octets

-- they are read as they are spelled
pub read-spelled : (fields : List (ℕ × ℕ)) (rest : List ℕ) → bits (widths fields) % 8 ≡ 0 → FitWidths fields
    → numbers_in (widths fields) (octets_of fields ++ rest) ≡ values fields
read-spelled fields rest whole fit =
    let xs : List ℕ = octets_of fields in
    let n : ℕ = bits (widths fields) / 8 in
    let begins = spelled-begins fields whole fit in
    numbers-first 0 (widths fields) xs rest (omega (arith, begins.len))
    ∙ numbers-digits 0 (widths fields) n xs (octets-fields fields) (omega arith)
    ∙ ap (digits (widths fields)) (ap (big_from 0 n) (sym (append-nil (octets_of fields))) ∙ begins.is [])
    ∙ digits-packed fields 0 fit

-- and they spell what they are read of
pub spelled-read : (fields : List (ℕ × ℕ)) (xs : List ℕ) → AreOctets xs → bits (widths fields) % 8 ≡ 0 → bits (widths fields) / 8 ≤ length xs
    → values fields ≡ numbers_in (widths fields) xs → octets_of fields ≡ take (bits (widths fields) / 8) xs
spelled-read fields xs octets whole long same =
    let n : ℕ = bits (widths fields) / 8 in
    let front : List ℕ = take n xs in
    let octets' : AreOctets front = All-take (λ x. x < 256) n xs octets in
    let len : length front ≡ n = length-take-le n xs long in
    let same' : values fields ≡ digits (widths fields) (big_from 0 n front) =
    same
    ∙ ap (numbers_in (widths fields)) (sym (take-append-drop n xs))
    ∙ numbers-first 0 (widths fields) front (drop n xs) (omega arith)
    ∙ numbers-digits 0 (widths fields) n front octets' (omega arith) in
    let fit = fit-digits fields (big_from 0 n front) same' in
    let begins = spelled-begins fields whole fit in
    let power : 256 ^ n ≡ 2 ^ bits (widths fields) = pow256 n ∙ ap (λ k. 2 ^ k) (omega arith) in
    let below : big_from 0 n front < 2 ^ bits (widths fields) = subst (λ k. big_from 0 n front < k) power (big_from-lt 0 n front (octet_at front octets')) in
    let number : big_from 0 n (octets_of fields) ≡ big_from 0 n front =
    ap (big_from 0 n) (sym (append-nil (octets_of fields))) ∙ begins.is [] ∙ omega arith
    ∙ packed-digits fields (big_from 0 n front) same' ∙ mod-eq_of_lt below in
    same_octets (octets_of fields) front (octets-fields fields) octets' (begins.len ∙ sym len)
    (ap (λ k. big_from 0 k (octets_of fields)) begins.len ∙ number ∙ ap (λ k. big_from 0 k front) (sym len))

-- ---- the laws of formats

-- what makes a format of fields and values. Each part is `refl` of a format that is written out.
pub record IsFormat {T : Type 0} (format : Format T) : Type 0 where
  pub whole : bits (layout format) % 8 ≡ 0
  pub same_widths : (value : T) → widths (format.fields value) ≡ layout format
  pub same_value : (value : T) → format.of_values (values (format.fields value)) ≡ value
  pub same_values : (xs : List ℕ) → values (format.fields (read format xs)) ≡ numbers_in (layout format) xs

pub reads-back : {T : Type 0} (format : Format T) → IsFormat format → ReadsBack format
reads-back format is value rest fit =
    let ws : List ℕ = widths (format.fields value) in
    let e : ws ≡ layout format = is.same_widths value in
    let whole : bits ws % 8 ≡ 0 = ap (λ ws. bits ws % 8) e ∙ is.whole in
    ap (λ ws. format.of_values (numbers_in ws (octets_of (format.fields value) ++ rest))) (sym e)
    ∙ ap format.of_values (read-spelled (format.fields value) rest whole fit)
    ∙ is.same_value value

pub spells : {T : Type 0} (format : Format T) → IsFormat format → SpellsHeader format
spells format is xs octets long =
    let fields : List (ℕ × ℕ) = format.fields (read format xs) in
    let e : widths fields ≡ layout format = is.same_widths (read format xs) in
    let whole : bits (widths fields) % 8 ≡ 0 = ap (λ ws. bits ws % 8) e ∙ is.whole in
    let within : bits (widths fields) / 8 ≤ length xs = subst (λ ws. bits ws / 8 ≤ length xs) (sym e) long in
    let same : values fields ≡ numbers_in (widths fields) xs = is.same_values xs ∙ ap (λ ws. numbers_in ws xs) (sym e) in
    spelled-read fields xs octets whole within same ∙ ap (λ ws. take (bits ws / 8) xs) e

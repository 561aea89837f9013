-- The decimal digits of a number, and the number that they spell.
use Rattle.std.proofs.Common.{◌==◌, ◌≡◌, not, ◌≢◌, ℕ, zero, suc, ◌<◌, ◌≤◌, ◌+◌, ◌^◌, Bool, true, false, cond, ◌&&◌, List, [], ◌∷◌, length, get_or, Option, Some, None, Result, Ok, Err, refl, sym, ap, ◌∙◌, arith}
use Rattle.std.specs.Prelude.{nat_le, decimal, IfSome}
use Rattle.std.specs.Result.{result_ok, OkIff}
use Rattle.std.specs.Char.{is_ascii_digit}
use Rattle.std.specs.List.{list_all}
use Rattle.std.specs.Str.{all_ascii_digits, IsUtf8}
use Rattle.std.specs.Str.Parse.{digits_value, ParsesUnsigned}
use Rattle.std.proofs.lemmas.Bool.{and_parts, and_from, eqb-true, true≢false}
use Rattle.std.proofs.lemmas.Bool.Decides.{nat_tests}
use Rattle.std.proofs.lemmas.Str.{IsUtf8-from_ascii}
use Rattle.std.proofs.lemmas.Str.Parse.{IsNumeralModel, numerals_by_value, tells_all_ascii_digits, parse_digits}
use Rattle.std.proofs.lemmas.Fmt.{IsAscii-from_digits, digits_decimal, digits_value-decimal, decimal-digits_value, decimal_nonempty, first_decimal, decimal_digit}
use Rattle.vn_types.specs.Octets.{zero_digit}
use Rattle.vn_types.proofs.Options.{none_some}
use Rattle.vn_types.specs.NumberWords.{is_numeral, number_up_to, number_of}

digits_all : (t : List ℕ) → list_all is_ascii_digit t ≡ all_ascii_digits t
digits_all [] = refl
digits_all (c ∷ t) = ap (λ b. is_ascii_digit c && b) (digits_all t)

own : IsNumeralModel (λ ds. all_ascii_digits ds ≡ true) (digits_value 10)
own = numerals_by_value _ tells_all_ascii_digits

-- digits, of which a leading `0` is the only one
record IsNumeralText (t : List ℕ) : Type 0 where
  digits : all_ascii_digits t ≡ true
  filled : 0 < length t
  leads : get_or t 0 0 ≡ zero_digit → length t ≡ 1

numeral_text : (t : List ℕ) → is_numeral t ≡ true → IsNumeralText t
unfolding is_numeral
numeral_text [] h = cc
numeral_text (c ∷ []) h = record { digits = grind arith; filled = omega arith; leads = λ e. refl }
numeral_text (c ∷ d ∷ cs) h = record { digits = sym (digits_all (c ∷ d ∷ cs)) ∙ (and_parts _ _ h).1; filled = omega arith; leads = λ e. absurd (grind (arith, nat_tests)) }

text_numeral : (t : List ℕ) → IsNumeralText t → is_numeral t ≡ true
unfolding is_numeral
text_numeral [] h = absurd (omega (arith, h.filled))
text_numeral (c ∷ []) h = let d = h.digits in grind arith
text_numeral (c ∷ d ∷ cs) h = let f = digits_all (c ∷ d ∷ cs) ∙ h.digits in let l : c ≡ zero_digit → length cs + 2 ≡ 1 = λ e. omega (arith, h.leads e) in grind (arith, nat_tests)

-- where the first digit is not `0`, there may be any number of them
pub long_numeral : (t : List ℕ) → 1 ≤ length t → get_or t 0 0 ≢ zero_digit → list_all is_ascii_digit t ≡ is_numeral t
unfolding is_numeral
long_numeral [] h ne = absurd (omega arith)
long_numeral (c ∷ []) h ne = grind arith
long_numeral (c ∷ d ∷ cs) h ne = grind (arith, nat_tests)

-- what a number word is made of
pub number_parts : (most : ℕ) (t : List ℕ) (n : ℕ) → number_up_to most t ≡ Some n → (is_numeral t ≡ true) × (digits_value 10 t ≡ n) × (n ≤ most)
unfolding number_up_to
number_parts most t n h = by (is_numeral t) (nat_le (digits_value 10 t) most) refl refl h
  where
    by : (a b : Bool) → is_numeral t ≡ a → nat_le (digits_value 10 t) most ≡ b → cond (a && b) (Some (digits_value 10 t)) None ≡ Some n → (is_numeral t ≡ true) × (digits_value 10 t ≡ n) × (n ≤ most)
    by true true e f g = let s : digits_value 10 t ≡ n = cc in (e, s, grind (arith, nat_tests))
    by true false e f g = absurd (none_some _ g)
    by false b e f g = absurd (none_some _ g)

-- what reads as a number is the number's own text
pub decimal-number : (most : ℕ) (t : List ℕ) (n : ℕ) → most < 2 ^ 64 → number_up_to most t ≡ Some n → decimal n ≡ t
decimal-number most t n small h =
    let p = number_parts most t n h in
    let w = numeral_text t p.0 in
    let v : digits_value 10 t < 2 ^ 64 = omega (arith, p.1, p.2) in
    ap decimal (sym p.1) ∙ decimal-digits_value own t w.digits w.filled w.leads v

decimal_leads : (n : ℕ) → n < 2 ^ 64 → get_or (decimal n) 0 0 ≡ zero_digit → length (decimal n) ≡ 1
decimal_leads zero h e = ap length (decimal_digit 0 (omega arith))
decimal_leads (suc n) h e = absurd (omega (arith, first_decimal (suc n) (omega arith) h))

decimal_text : (n : ℕ) → n < 2 ^ 64 → IsNumeralText (decimal n)
decimal_text n h = record { digits = digits_decimal own n h; filled = decimal_nonempty n h; leads = decimal_leads n h }

-- a number's text reads as the number
pub number-decimal : (most n : ℕ) → n ≤ most → n < 2 ^ 64 → number_up_to most (decimal n) ≡ Some n
unfolding number_up_to
number-decimal most n le h = rw (text_numeral (decimal n) (decimal_text n h), digits_value-decimal own n h) (grind (arith, nat_tests))

pub number_read_back : (n : ℕ) → n < 2 ^ 64 → number_of (decimal n) ≡ Some n
unfolding number_of
number_read_back n h = number-decimal 18446744073709551615 n (omega arith) h

-- digits are text
pub numeral_utf8 : (t : List ℕ) → is_numeral t ≡ true → IsUtf8 t
numeral_utf8 t h = IsUtf8-from_ascii t (IsAscii-from_digits t (own.to t (numeral_text t h).digits))

-- what std reads of them
pub parsed_number : {E : Type 0} (t s : List ℕ) (r : Result ℕ E) → is_numeral t ≡ true → s ≡ t → ParsesUnsigned 64 10 s r → result_ok r ≡ number_of t
unfolding number_of number_up_to
parsed_number {E} t s r h same q = let p = rw same at q in rw h (by r (parse_digits own 64 t r p (numeral_text t h).digits))
  where
    by : (r : Result ℕ E) → OkIff r ((0 < length t) × (digits_value 10 t < 2 ^ 64)) (digits_value 10 t) → result_ok r ≡ cond (nat_le (digits_value 10 t) 18446744073709551615) (Some (digits_value 10 t)) None
    by (Ok x) q = rw q.1 (grind (arith, nat_tests, q.0.1))
    by (Err e) q = grind (arith, nat_tests, q, (numeral_text t h).filled)

pub no_number : (t : List ℕ) → is_numeral t ≡ false → number_of t ≡ None
unfolding number_of number_up_to
no_number t h = rw h refl

pub canonical_number : (t : List ℕ) (o : Option ℕ) → o ≡ number_of t → IfSome o (λ n. decimal n ≡ t)
unfolding number_of
canonical_number t None e = tt
canonical_number t (Some n) e = decimal-number 18446744073709551615 t n (omega arith) (sym e)

-- ---- a number within a bound

numeral_number : (most : ℕ) (t : List ℕ) (n : ℕ) → number_up_to most t ≡ Some n → (more : ℕ) → n ≤ more → number_up_to more t ≡ Some n
unfolding number_up_to
numeral_number most t n h more le = let p = number_parts most t n h in rw (p.0, p.1) (grind (arith, nat_tests))

pub number_within : (most n : ℕ) (t : List ℕ) → Some n ≡ number_of t → n ≤ most → Some n ≡ number_up_to most t
unfolding number_of
number_within most n t h le = sym (numeral_number 18446744073709551615 t n (sym h) most le)

pub number_beyond : (most n : ℕ) (t : List ℕ) → Some n ≡ number_of t → most < n → None ≡ number_up_to most t
unfolding number_of number_up_to
number_beyond most n t h lt = let p = number_parts 18446744073709551615 t n (sym h) in rw (p.0, p.1) (grind (arith, nat_tests))

pub number_nowhere : (most : ℕ) (t : List ℕ) → None ≡ number_of t → most < 2 ^ 64 → None ≡ number_up_to most t
unfolding number_of
number_nowhere most t h small = by (number_up_to most t) refl
  where
    by : (o : Option ℕ) → number_up_to most t ≡ o → None ≡ o
    by None e = refl
    by (Some n) e = let there : number_up_to 18446744073709551615 t ≡ Some n = numeral_number most t n e 18446744073709551615 (omega (arith, (number_parts most t n e).2)) in cc

-- ---- no octet but a digit stands in a number's text

pub digits_lack : (c : ℕ) (ds : List ℕ) → is_ascii_digit c ≡ false → list_all is_ascii_digit ds ≡ true → list_all (λ d. not (d == c)) ds ≡ true
digits_lack c [] other h = refl
digits_lack c (d ∷ ds) other h = let p = and_parts (is_ascii_digit d) (list_all is_ascii_digit ds) h in and_from _ _ (apart p.0) (digits_lack c ds other p.1)
  where
    apart : is_ascii_digit d ≡ true → not (d == c) ≡ true
    apart e = by (d == c) refl
      where
        by : (b : Bool) → (d == c) ≡ b → not b ≡ true
        by false f = refl
        by true f = let same : d ≡ c = eqb-true d c f in absurd (true≢false (sym e ∙ ap is_ascii_digit same ∙ other))

pub decimal_lacks : (c n : ℕ) → is_ascii_digit c ≡ false → n < 2 ^ 64 → list_all (λ d. not (d == c)) (decimal n) ≡ true
decimal_lacks c n other h = digits_lack c (decimal n) other (digits_all (decimal n) ∙ digits_decimal own n h)

pub number_lacks : (most : ℕ) (t : List ℕ) (n c : ℕ) → is_ascii_digit c ≡ false → number_up_to most t ≡ Some n → list_all (λ d. not (d == c)) t ≡ true
number_lacks most t n c other h = digits_lack c t other (digits_all t ∙ (numeral_text t (number_parts most t n h).0).digits)

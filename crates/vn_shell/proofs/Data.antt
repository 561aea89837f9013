-- The data of a datagram reads as it is written.
use Rattle.std.proofs.Common.{zero, suc, ◌≡◌, ℕ, ◌+◌, ◌*◌, ◌/◌, ◌%◌, ◌^◌, ◌<◌, ◌≤◌, Bool, true, false, cond, ◌&&◌, not, List, [], ◌∷◌, ◌++◌, length, get_or, take, drop, Option, Some, None, Result, refl, sym, ap, ap₂, subst, ◌∙◌, arith}
use Rattle.std.specs.Prelude.{codes, decimal, nat_le, slice_index}
use Rattle.std.specs.Char.{digit_char}
use Rattle.std.specs.List.{list_all, flat_map}
use Rattle.std.specs.Option.{option_map, option_map_or}
use Rattle.std.specs.Result.{result_ok}
use Rattle.std.proofs.lemmas.Bool.{and_parts, and_from, ltb-true, leb-true, le-leb}
use Rattle.hex.specs.Hex.{decode_of, encode_lower, encode_with, lower_digits}
use Rattle.hex.proofs.HexLemmas.{decode_of-encode_lower, length-encode_with}
use Rattle.vn_types.specs.AddressWords.{hex_octet}
use Rattle.vn_types.specs.NumberWords.{number_of}
use Rattle.vn_cells.specs.declared.command.Payload.{Payload}
use Rattle.vn_cells.specs.declared.command.Payload.TheVariants as payload
use Rattle.vn_cells.specs.machine.Bounds.{is_octet}
use Rattle.vn_cells.specs.machine.Events.{is_valid_payload}
use Rattle.vn_cells.specs.texts.Programs.{payload_text}
use Rattle.vn_shell.specs.Words.{such_that, is_filled, behind}
use Rattle.vn_shell.specs.Commands.Udp.{digits_of, zeros_of, payload_of}
use Rattle.vn_shell.proofs.ReadBack.{not_same, number_back, such_back}
use Rattle.vn_shell.proofs.SpacedWords.{is_between, is_hex, hex_all, number_graphic, octets_graphic}

-- a digit that is written is that of the table
digit_is : (d : ℕ) → d < 16 → digit_char d ≡ slice_index lower_digits d
digit_is zero h = refl
digit_is (suc zero) h = refl
digit_is (suc (suc zero)) h = refl
digit_is (suc (suc (suc zero))) h = refl
digit_is (suc (suc (suc (suc zero)))) h = refl
digit_is (suc (suc (suc (suc (suc zero))))) h = refl
digit_is (suc (suc (suc (suc (suc (suc zero)))))) h = refl
digit_is (suc (suc (suc (suc (suc (suc (suc zero))))))) h = refl
digit_is (suc (suc (suc (suc (suc (suc (suc (suc zero)))))))) h = refl
digit_is (suc (suc (suc (suc (suc (suc (suc (suc (suc zero))))))))) h = refl
digit_is (suc (suc (suc (suc (suc (suc (suc (suc (suc (suc zero)))))))))) h = refl
digit_is (suc (suc (suc (suc (suc (suc (suc (suc (suc (suc (suc zero))))))))))) h = refl
digit_is (suc (suc (suc (suc (suc (suc (suc (suc (suc (suc (suc (suc zero)))))))))))) h = refl
digit_is (suc (suc (suc (suc (suc (suc (suc (suc (suc (suc (suc (suc (suc zero))))))))))))) h = refl
digit_is (suc (suc (suc (suc (suc (suc (suc (suc (suc (suc (suc (suc (suc (suc zero)))))))))))))) h = refl
digit_is (suc (suc (suc (suc (suc (suc (suc (suc (suc (suc (suc (suc (suc (suc (suc zero))))))))))))))) h = refl
digit_is (suc (suc (suc (suc (suc (suc (suc (suc (suc (suc (suc (suc (suc (suc (suc (suc n)))))))))))))))) h = absurd (omega (arith, h))

hex_is : (octets : List ℕ) → list_all is_octet octets ≡ true → flat_map hex_octet octets ≡ encode_lower octets
unfolding encode_with
hex_is [] h = refl
hex_is (n ∷ octets) h =
    let at = and_parts (is_octet n) (list_all is_octet octets) h in
    let small = ltb-true n 256 at.0 in
    ap₂ (λ a b. a ∷ b) (digit_is (n / 16) (omega (arith, small))) (ap₂ (λ a b. a ∷ b) (digit_is (n % 16) (omega (arith, small))) (hex_is octets at.1))

octet_index : (octets : List ℕ) → list_all is_octet octets ≡ true → (k : ℕ) → slice_index octets k < 256
octet_index [] h k = omega arith
octet_index (n ∷ octets) h zero = ltb-true n 256 (and_parts (is_octet n) (list_all is_octet octets) h).0
octet_index (n ∷ octets) h (suc k) = octet_index octets (and_parts (is_octet n) (list_all is_octet octets) h).1 k

digits_back : (octets : List ℕ) → list_all is_octet octets ≡ true → 1 ≤ length octets → length octets ≤ 2048 → digits_of (flat_map hex_octet octets) ≡ Some (payload.Digits octets)
unfolding digits_of
digits_back octets h least most = subst (λ word. digits_of word ≡ Some (payload.Digits octets)) (sym (hex_is octets h)) read
  where
    twice : length (encode_lower octets) ≡ 2 * length octets
    twice = length-encode_with lower_digits octets

    read : digits_of (encode_lower octets) ≡ Some (payload.Digits octets)
    read =
        ap₂ (λ a b. cond (a && b) (option_map payload.Digits (result_ok (decode_of (encode_lower octets)))) None)
        (le-leb 2 (length (encode_lower octets)) (omega (arith, twice, least))) (le-leb (length (encode_lower octets)) 4096 (omega (arith, twice, most)))
        ∙ ap (λ r. option_map payload.Digits (result_ok r)) (decode_of-encode_lower octets (octet_index octets h))

all_take : (p : ℕ → Bool) (n : ℕ) (xs : List ℕ) → list_all p xs ≡ true → list_all p (take n xs) ≡ true
all_take p zero xs h = refl
all_take p (suc n) [] h = refl
all_take p (suc n) (x ∷ xs) h = let at = and_parts (p x) (list_all p xs) h in and_from _ _ at.0 (all_take p n xs at.1)

hex_word : List ℕ → Option (List ℕ)
hex_word word = such_that (list_all is_hex) word

no_hex : hex_word (codes "zero:") ≡ None
unfolding hex_word
no_hex = refl

no_zero : (word : List ℕ) → list_all is_hex word ≡ true → behind (codes "zero:") word ≡ None
unfolding hex_word
no_zero word h =
    ap (λ b. cond b (Some (drop 5 word)) None)
    (not_same hex_word (take 5 word) (take 5 word) (codes "zero:") no_hex (such_back (list_all is_hex) (take 5 word) (all_take is_hex 5 word h)))

pub payload_back : (body : Payload) → is_valid_payload body ≡ true → payload_of (payload_text body) ≡ Some body
unfolding payload_of payload_text zeros_of is_valid_payload
payload_back (payload.Digits octets) h =
    let at = and_parts (list_all is_octet octets && nat_le 1 (length octets)) (nat_le (length octets) 2048) h in
    let one = and_parts (list_all is_octet octets) (nat_le 1 (length octets)) at.0 in
    ap (λ o. option_map_or zeros_of o (digits_of (flat_map hex_octet octets))) (no_zero (flat_map hex_octet octets) (hex_all octets one.0))
    ∙ digits_back octets one.0 (leb-true 1 (length octets) one.1) (leb-true (length octets) 2048 at.1)
payload_back (payload.Zero n) h =
    ap (option_map payload.Zero) (number_back (λ number. nat_le number 20000) n (omega (arith, leb-true n 20000 h)) h)

first_filled : (octets : List ℕ) → 1 ≤ length octets → is_filled (flat_map hex_octet octets) ≡ true
first_filled [] h = absurd (omega (arith, h))
first_filled (n ∷ octets) h = refl

pub payload_word : (body : Payload) → is_valid_payload body ≡ true → is_between (payload_text body) ≡ true
unfolding payload_text is_valid_payload
payload_word (payload.Digits octets) h =
    let at = and_parts (list_all is_octet octets && nat_le 1 (length octets)) (nat_le (length octets) 2048) h in
    let one = and_parts (list_all is_octet octets) (nat_le 1 (length octets)) at.0 in
    and_from _ _ (octets_graphic octets one.0) (first_filled octets (leb-true 1 (length octets) one.1))
payload_word (payload.Zero n) h = and_from _ _ (number_graphic n (omega (arith, leb-true n 20000 h))) refl

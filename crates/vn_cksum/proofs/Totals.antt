-- The plain total of words, and the sum that it folds into.
use Rattle.std.proofs.Common.{◌≡◌, ℕ, ◌+◌, ◌*◌, ◌%◌, ◌<◌, ◌≤◌, List, [], ◌∷◌, ◌++◌, length, take, drop, slice_index, refl, sym, ap, ◌∙◌, arith, sum}
use Rattle.std.proofs.lemmas.List.Elements.{All-append, All-cons, All-head, All-nil, All-tail}
use Rattle.std.proofs.lemmas.List.Sums.{sum_by-cons}
use Rattle.byteorder.specs.Endian.{big_number}
use Rattle.vn_types.specs.Fields.{AreOctets}
use Rattle.vn_cksum.specs.Sums.{plus16, sum_words, words_of, sum_of, folded, AreWords}

pub sum-cons : (w : ℕ) (ws : List ℕ) → sum (w ∷ ws) ≡ w + sum ws
sum-cons w ws = sum_by-cons (λ x. x) w ws

pub octets-head : (a : ℕ) (xs : List ℕ) → AreOctets (a ∷ xs) → a < 256
octets-head a xs octets = All-head (λ x. x < 256) a xs octets

pub octets-tail : (a : ℕ) (xs : List ℕ) → AreOctets (a ∷ xs) → AreOctets xs
octets-tail a xs octets = All-tail (λ x. x < 256) a xs octets

-- the first word of octets, and the others
pub first_word : (xs : List ℕ) → 1 < length xs → sum (words_of xs) ≡ big_number 2 (take 2 xs) + sum (words_of (drop 2 xs))
unfolding words_of
first_word [] h = absurd (omega arith)
first_word (a ∷ []) h = absurd (omega arith)
first_word (a ∷ b ∷ rest) h = let first = sum-cons (256 * a + b) (words_of rest) in omega (arith, first)

pub last_word : (xs : List ℕ) → length xs ≡ 1 → sum (words_of xs) ≡ 256 * slice_index xs 0
unfolding words_of
last_word [] h = absurd (omega arith)
last_word (a ∷ []) h = omega arith
last_word (a ∷ b ∷ rest) h = absurd (omega arith)

pub no_word : (xs : List ℕ) → length xs ≡ 0 → sum (words_of xs) ≡ 0
unfolding words_of
no_word [] h = refl
no_word (a ∷ rest) h = absurd (omega arith)

-- how large a total of octets is
pub twice_total : (xs : List ℕ) → AreOctets xs → 2 * sum (words_of xs) ≤ 65535 * (length xs + 1)
unfolding words_of
twice_total [] octets = omega arith
twice_total (a ∷ []) octets = let small : a < 256 = octets-head a [] octets in omega arith
twice_total (a ∷ b ∷ rest) octets =
    let first = sum-cons (256 * a + b) (words_of rest) in
    let small : a < 256 = octets-head a (b ∷ rest) octets in
    let small' : b < 256 = octets-head b rest (octets-tail a (b ∷ rest) octets) in
    let others = twice_total rest (octets-tail b rest (octets-tail a (b ∷ rest) octets)) in
    omega (arith, first, others)

-- the total of octets in a row, where the first have an even length
pub total-append : (xs ys : List ℕ) → length xs % 2 ≡ 0 → sum (words_of (xs ++ ys)) ≡ sum (words_of xs) + sum (words_of ys)
unfolding words_of
total-append [] ys even = omega arith
total-append (a ∷ []) ys even = absurd (omega arith)
total-append (a ∷ b ∷ rest) ys even =
    let whole = sum-cons (256 * a + b) (words_of (rest ++ ys)) in
    let first = sum-cons (256 * a + b) (words_of rest) in
    let others = total-append rest ys (omega arith) in
    omega (arith, whole, first, others)

-- ---- folding

-- a word more, in the sum and in the total
pub plus16-folded : (w t : ℕ) → w < 65536 → plus16 w (folded t) ≡ folded (w + t)
unfolding plus16
plus16-folded w t h = grind arith

-- two totals, folded apart
pub folded-folded : (s t : ℕ) → plus16 (folded s) (folded t) ≡ folded (s + t)
unfolding plus16
folded-folded s t = grind arith

-- the carries may be left to the end
pub sum_words-total : (ws : List ℕ) → AreWords ws → sum_words ws ≡ folded (sum ws)
unfolding sum_words
sum_words-total [] words = refl
sum_words-total (w ∷ ws) words =
    ap (plus16 w) (sum_words-total ws (All-tail (λ w. w < 65536) w ws words)) ∙ plus16-folded w (sum ws) (All-head (λ w. w < 65536) w ws words) ∙ ap folded (sym (sum-cons w ws))

pub words-small : (xs : List ℕ) → AreOctets xs → AreWords (words_of xs)
unfolding words_of
words-small [] octets = All-nil (λ w. w < 65536)
words-small (a ∷ []) octets =
    let small : a < 256 = octets-head a [] octets in
    All-cons (λ w. w < 65536) (256 * a) [] (omega arith) (All-nil (λ w. w < 65536))
words-small (a ∷ b ∷ rest) octets =
    let small : a < 256 = octets-head a (b ∷ rest) octets in
    let small' : b < 256 = octets-head b rest (octets-tail a (b ∷ rest) octets) in
    All-cons (λ w. w < 65536) (256 * a + b) (words_of rest) (omega arith) (words-small rest (octets-tail b rest (octets-tail a (b ∷ rest) octets)))

-- the sum of octets is their total, folded
pub sum_of-total : (xs : List ℕ) → AreOctets xs → sum_of xs ≡ folded (sum (words_of xs))
unfolding sum_of
sum_of-total xs octets = sum_words-total (words_of xs) (words-small xs octets)

-- the sum of octets in a row, where the first have an even length, in totals
pub sum_of-totals : (xs ys : List ℕ) → AreOctets xs → AreOctets ys → length xs % 2 ≡ 0 → sum_of (xs ++ ys) ≡ folded (sum (words_of xs) + sum (words_of ys))
sum_of-totals xs ys first second even =
    sum_of-total (xs ++ ys) (All-append (λ x. x < 256) xs ys first second) ∙ ap folded (total-append xs ys even)

-- The laws of the sum, by totals.
use Rattle.std.proofs.Common.{◌≡◌, ◌≢◌, ℕ, ◌+◌, ◌*◌, ◌-◌, ◌/◌, ◌%◌, ◌<◌, List, [], ◌∷◌, ◌++◌, length, refl, sym, ap, ◌∙◌, arith, All, sum}
use Rattle.std.proofs.lemmas.List.Elements.{All-append, All-cons, All-head, All-nil, All-tail}
use Rattle.std.proofs.lemmas.List.Sorted.{All-permutation, sum_by-IsPermutation}
use Rattle.std.proofs.lemmas.List.Sums.{sum_by-append}
use Rattle.byteorder.specs.Endian.{big_bytes}
use Rattle.vn_types.specs.Fields.{AreOctets}
use Rattle.vn_cksum.specs.Sums.{plus16, sum_words, words_of, sum_of, complement, folded, AreWords}
use Rattle.vn_cksum.specs.Laws.{HasSixteenBits, KeepsNoOrder, AddsRows, StandsForRow, ReplacesWord, Completes, IsZeroOfZeros, HasTwoZeros}
use Rattle.vn_cksum.proofs.Totals.{sum-cons, total-append, folded-folded, sum_words-total, sum_of-total, sum_of-totals}

folded-small : (t : ℕ) → folded t < 65536
folded-small t = grind arith

pub sixteen_bits : HasSixteenBits
sixteen_bits xs octets = rw (sum_of-total xs octets) (folded-small (sum (words_of xs)))

pub no_order : KeepsNoOrder
no_order ws vs words same =
    let others : AreWords vs = All-permutation (λ w. w < 65536) ws vs same words in
    sum_words-total vs others ∙ ap folded (sum_by-IsPermutation (λ x. x) ws vs same) ∙ sym (sum_words-total ws words)

pub rows : AddsRows
rows xs ys first second even =
    sum_of-totals xs ys first second even
    ∙ sym (folded-folded (sum (words_of xs)) (sum (words_of ys)))
    ∙ (rw (← sum_of-total xs first, ← sum_of-total ys second) refl)

-- the two octets of a word
pub octets-word : (w : ℕ) → AreOctets (big_bytes 2 w)
octets-word w = All-cons (λ x. x < 256) (w / 256 % 256) (w % 256 ∷ []) (omega arith) (All-cons (λ x. x < 256) (w % 256) [] (omega arith) (All-nil (λ x. x < 256)))

pub total-word : (w : ℕ) → w < 65536 → sum (words_of (big_bytes 2 w)) ≡ w
unfolding words_of
total-word w h = omega arith

folded-again : (t : ℕ) → folded (folded t) ≡ folded t
folded-again t = grind arith

sum-word : (w : ℕ) → w < 65536 → sum_of (big_bytes 2 w) ≡ w
sum-word w h = sum_of-total (big_bytes 2 w) (octets-word w) ∙ (rw (total-word w h) (grind arith))

pub stands_for : StandsForRow
stands_for xs ys first second even =
    rows (big_bytes 2 (sum_of xs)) ys (octets-word (sum_of xs)) second refl
    ∙ ap (λ s. plus16 s (sum_of ys)) (sum-word (sum_of xs) (sixteen_bits xs first))
    ∙ sym (rows xs ys first second even)

-- ---- a word in another's place

plus16-comm : (a b : ℕ) → plus16 a b ≡ plus16 b a
unfolding plus16
plus16-comm a b = let e : a + b ≡ b + a = omega arith in rw e refl

folded-plus16 : (t w : ℕ) → w < 65536 → plus16 (folded t) w ≡ folded (t + w)
unfolding plus16
folded-plus16 t w h = grind arith

-- the total of words round one
total-round : (front back : List ℕ) (w : ℕ) → sum (front ++ w ∷ back) ≡ sum front + (w + sum back)
total-round front back w =
    let whole = sum_by-append (λ x. x) front (w ∷ back) in
    let last = sum-cons w back in
    omega (arith, whole, last)

words-round : (front back : List ℕ) (w : ℕ) → AreWords front → AreWords back → w < 65536 → AreWords (front ++ w ∷ back)
words-round front back w first last small =
    All-append (λ x. x < 65536) front (w ∷ back) first (All-cons (λ x. x < 65536) w back small last)

-- a total that is not 0 folds as if 65535 were not in it
folded-more : (t : ℕ) → folded t ≢ 0 → folded (t + 65535) ≡ folded t
folded-more t some = grind arith

pub replaced : ReplacesWord
replaced front back old new first last small small' some =
    let before : sum_words (front ++ old ∷ back) ≡ folded (sum front + (old + sum back)) =
    sum_words-total (front ++ old ∷ back) (words-round front back old first last small) ∙ ap folded (total-round front back old) in
    let after : sum_words (front ++ new ∷ back) ≡ folded (sum front + (new + sum back)) =
    sum_words-total (front ++ new ∷ back) (words-round front back new first last small') ∙ ap folded (total-round front back new) in
    let less : plus16 (folded (sum front + (old + sum back))) (complement old) ≡ folded (sum front + (old + sum back) + complement old) =
    folded-plus16 (sum front + (old + sum back)) (complement old) (omega arith) in
    let more : plus16 (folded (sum front + (old + sum back) + complement old)) new ≡ folded (sum front + (old + sum back) + complement old + new) =
    folded-plus16 (sum front + (old + sum back) + complement old) new small' in
    let shape : sum front + (old + sum back) + complement old + new ≡ sum front + (new + sum back) + 65535 = omega arith in
    let gone : folded (sum front + (new + sum back) + 65535) ≡ folded (sum front + (new + sum back)) =
    folded-more (sum front + (new + sum back)) (λ e. some (after ∙ e)) in
    after ∙ sym (ap (λ s. plus16 (plus16 s (complement old)) new) before ∙ ap (λ s. plus16 s new) less ∙ more ∙ ap folded shape ∙ gone)

-- ---- the field of the checksum

-- the total of octets round a word at an even place
pub total-field : (front back : List ℕ) (w : ℕ) → w < 65536 → length front % 2 ≡ 0
    → sum (words_of (front ++ (big_bytes 2 w ++ back))) ≡ sum (words_of front) + (w + sum (words_of back))
unfolding words_of
total-field front back w small even =
    let whole = total-append front (big_bytes 2 w ++ back) even in
    let word = sum-cons (256 * (w / 256 % 256) + w % 256) (words_of back) in
    omega (arith, whole, word)

pub octets-field : (front back : List ℕ) (w : ℕ) → AreOctets front → AreOctets back → AreOctets (front ++ (big_bytes 2 w ++ back))
octets-field front back w first last =
    All-append (λ x. x < 256) front (big_bytes 2 w ++ back) first (All-append (λ x. x < 256) (big_bytes 2 w) back (octets-word w) last)

folded-complement : (t : ℕ) → folded (t + (65535 - folded t)) ≡ 65535
folded-complement t = grind arith

pub completed : Completes
completed front back first last even =
    let before : sum_of (front ++ 0 ∷ 0 ∷ back) ≡ folded (sum (words_of front) + (0 + sum (words_of back))) =
    sum_of-total (front ++ (big_bytes 2 0 ++ back)) (octets-field front back 0 first last) ∙ ap folded (total-field front back 0 (omega arith) even) in
    let field : ℕ = complement (sum_of (front ++ 0 ∷ 0 ∷ back)) in
    let is : field ≡ 65535 - folded (sum (words_of front) + sum (words_of back)) =
    ap complement before ∙ ap (λ t. 65535 - folded (sum (words_of front) + t)) (omega arith) in
    let after : sum_of (front ++ (big_bytes 2 field ++ back)) ≡ folded (sum (words_of front) + (field + sum (words_of back))) =
    sum_of-total (front ++ (big_bytes 2 field ++ back)) (octets-field front back field first last) ∙ ap folded (total-field front back field (omega arith) even) in
    let shape : sum (words_of front) + (field + sum (words_of back)) ≡ sum (words_of front) + sum (words_of back) + (65535 - folded (sum (words_of front) + sum (words_of back))) = omega arith in
    after ∙ ap folded shape ∙ folded-complement (sum (words_of front) + sum (words_of back))

-- ---- zeros

none-left : (a b : ℕ) → plus16 a b ≡ 0 → (a ≡ 0) × (b ≡ 0)
unfolding plus16
none-left a b none = (omega arith, omega arith)

all-zeros : (xs : List ℕ) → sum_of xs ≡ 0 → All (λ x. x ≡ 0) xs
unfolding sum_of sum_words words_of plus16
all-zeros [] none = All-nil (λ x. x ≡ 0)
all-zeros (a ∷ []) none =
    let word = none-left (256 * a) 0 none in
    All-cons (λ x. x ≡ 0) a [] (omega (arith, word.0)) (All-nil (λ x. x ≡ 0))
all-zeros (a ∷ b ∷ rest) none =
    let word = none-left (256 * a + b) (sum_of rest) none in
    let others = all-zeros rest word.1 in
    All-cons (λ x. x ≡ 0) a (b ∷ rest) (omega (arith, word.0)) (All-cons (λ x. x ≡ 0) b rest (omega (arith, word.0)) others)

no-sum : (xs : List ℕ) → All (λ x. x ≡ 0) xs → sum_of xs ≡ 0
unfolding sum_of sum_words words_of plus16
no-sum [] zeros = refl
no-sum (a ∷ []) zeros = let none = All-head (λ x. x ≡ 0) a [] zeros in rw none refl
no-sum (a ∷ b ∷ rest) zeros =
    let none : a ≡ 0 = All-head (λ x. x ≡ 0) a (b ∷ rest) zeros in
    let more = All-tail (λ x. x ≡ 0) a (b ∷ rest) zeros in
    let none' : b ≡ 0 = All-head (λ x. x ≡ 0) b rest more in
    let others : sum_of rest ≡ 0 = no-sum rest (All-tail (λ x. x ≡ 0) b rest more) in
    rw (none, none', others) refl

pub zeros : IsZeroOfZeros
zeros xs = (all-zeros xs, no-sum xs)

pub two_zeros : HasTwoZeros
two_zeros front back first last even some =
    let zero : sum_of (front ++ 0 ∷ 0 ∷ back) ≡ folded (sum (words_of front) + (0 + sum (words_of back))) =
    sum_of-total (front ++ (big_bytes 2 0 ++ back)) (octets-field front back 0 first last) ∙ ap folded (total-field front back 0 (omega arith) even) in
    let ones : sum_of (front ++ 255 ∷ 255 ∷ back) ≡ folded (sum (words_of front) + (65535 + sum (words_of back))) =
    sum_of-total (front ++ (big_bytes 2 65535 ++ back)) (octets-field front back 65535 first last) ∙ ap folded (total-field front back 65535 (omega arith) even) in
    let shape : sum (words_of front) + (65535 + sum (words_of back)) ≡ sum (words_of front) + (0 + sum (words_of back)) + 65535 = omega arith in
    ones ∙ ap folded shape ∙ folded-more (sum (words_of front) + (0 + sum (words_of back))) (λ none. some (zero ∙ none)) ∙ sym zero

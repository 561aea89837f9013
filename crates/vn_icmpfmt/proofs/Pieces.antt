-- A sum, as the two octets of a word, stands for all octets before a piece.
use Rattle.std.proofs.Common.{◌≡◌, ℕ, ◌+◌, ◌%◌, ◌<◌, ◌≤◌, List, [], ◌++◌, length, take, drop, refl, sym, ap, ◌∙◌, append_assoc, length-append, arith}
use Rattle.std.proofs.lemmas.List.{take-append-drop, length-take-le}
use Rattle.std.proofs.lemmas.List.Elements.{All-append, All-take, All-drop, All-nil}
use Rattle.byteorder.specs.Endian.{big_bytes}
use Rattle.vn_cksum.specs.Sums.{sum_words, words_of, sum_of}
use Rattle.vn_types.specs.Fields.{AreOctets}
use Rattle.vn_cksum.proofs.SumLaws.{octets-word, stands_for}

sum_of-nil : sum_of [] ≡ 0
unfolding sum_of words_of sum_words
sum_of-nil = refl

pub none_before : (xs : List ℕ) → AreOctets xs → sum_of (big_bytes 2 0 ++ xs) ≡ sum_of xs
none_before xs octets =
    ap (λ s. sum_of (big_bytes 2 s ++ xs)) (sym sum_of-nil) ∙ stands_for [] xs (All-nil (λ x. x < 256)) octets refl

pub piece_summed : (s n : ℕ) (xs : List ℕ) → AreOctets xs → n % 2 ≡ 0 → n ≤ length xs
    → sum_of (big_bytes 2 (sum_of (big_bytes 2 s ++ take n xs)) ++ drop n xs) ≡ sum_of (big_bytes 2 s ++ xs)
piece_summed s n xs octets even within =
    let piece : AreOctets (take n xs) = All-take (λ x. x < 256) n xs octets in
    let tail : AreOctets (drop n xs) = All-drop (λ x. x < 256) n xs octets in
    let front : AreOctets (big_bytes 2 s ++ take n xs) = All-append (λ x. x < 256) (big_bytes 2 s) (take n xs) (octets-word s) piece in
    let longer : length (big_bytes 2 s ++ take n xs) % 2 ≡ 0 =
    ap (λ k. k % 2) (length-append (big_bytes 2 s) (take n xs)) ∙ ap (λ k. (2 + k) % 2) (length-take-le n xs within) ∙ omega arith in
    stands_for (big_bytes 2 s ++ take n xs) (drop n xs) front tail longer
    ∙ ap sum_of (append_assoc (big_bytes 2 s) (take n xs) (drop n xs))
    ∙ ap (λ ys. sum_of (big_bytes 2 s ++ ys)) (take-append-drop n xs)

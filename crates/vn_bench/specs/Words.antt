-- The words of the command line.
use Rattle.std.specs.Prelude.{ℕ, if◌then◌else◌, codes, List, [], ◌∷◌, None, Option, Some, String, option_map, string_bytes}
use Rattle.std.specs.Option.{option_and_then}
use Rattle.std.specs.Str.{bytes_eq}
use Rattle.vn_bench.specs.declared.words.Part.{Part}
use Rattle.vn_bench.specs.declared.words.Part.TheVariants as part
use Rattle.vn_bench.specs.declared.words.TheConstants.{ROUNDS}
use Rattle.vn_types.specs.NumberWords.{number_of}

-- the part that a word names
abbrev pub part_of : List ℕ → Option Part
part_of word =
    if bytes_eq word (codes "sum") then Some part.Sum
    else (if bytes_eq word (codes "headers") then Some part.Headers else None)

-- what the words ask for, of which the first is the program's name: a part, and how many rounds
abbrev pub task_of : {A : Type 0} → List (String A) → Option (Part × ℕ)
task_of [] = Some (part.Both, ROUNDS)
task_of (program ∷ []) = Some (part.Both, ROUNDS)
task_of (program ∷ name ∷ []) = option_map (λ p. (p, ROUNDS)) (part_of (string_bytes name))
task_of (program ∷ name ∷ rounds ∷ []) =
    option_and_then (λ p. option_map (λ n. (p, n)) (number_of (string_bytes rounds)))
    (part_of (string_bytes name))
task_of (program ∷ name ∷ rounds ∷ another ∷ words) = None

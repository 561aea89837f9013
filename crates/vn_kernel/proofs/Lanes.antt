-- The first reader of a lane, and the readers that are not its own.
use Rattle.std.proofs.Common.{◌≡◌, ℕ, ◌≤◌, Bool, true, false, List, [], ◌∷◌, ◌++◌, map, length, suc, Option, Some, None, refl, sym, ap, ◌∙◌, arith}
use Rattle.std.specs.Prelude.{drop, not, slice_get, nat_lt, if◌then◌else◌}
use Rattle.std.specs.Option.{is_some, option_map, option_to_list}
use Rattle.std.proofs.lemmas.Bool.{le-ltb, lt-ltb, ltb-false, ltb-true}
use Rattle.vn_kernel.specs.Readers.{OpenReader, is_of, next_line, of_lane, read_on, without}

module _ (lane : ℕ) where
  -- where there is none
  pub next-none : (readers : List OpenReader) → length readers ≡ 0 → next_line lane readers ≡ None
  unfolding of_lane
  next-none [] none = refl
  next-none (r ∷ rs) none = cc

  pub read-none : (readers : List OpenReader) → length readers ≡ 0 → map (read_on lane) readers ≡ readers
  read-none [] none = refl
  read-none (r ∷ rs) none = cc

  -- by the first
  pub of_lane-first : (r : OpenReader) (rs : List OpenReader) → of_lane lane (r ∷ rs) ≡ (if is_of lane r then Some r else of_lane lane rs)
  unfolding of_lane
  of_lane-first r rs = refl

  pub next-own : (r : OpenReader) (rs all : List OpenReader) → all ≡ r ∷ rs → is_of lane r ≡ true → next_line lane all ≡ Some (slice_get r.lines 0)
  unfolding of_lane
  next-own r rs all is own = ap (next_line lane) is ∙ ap (λ b. option_map (λ (x : OpenReader). slice_get x.lines 0) (if b then Some r else of_lane lane rs)) own

  pub next-other : (r : OpenReader) (rs all : List OpenReader) → all ≡ r ∷ rs → is_of lane r ≡ false → next_line lane all ≡ next_line lane rs
  unfolding of_lane
  next-other r rs all is other = ap (next_line lane) is ∙ ap (λ b. option_map (λ (x : OpenReader). slice_get x.lines 0) (if b then Some r else of_lane lane rs)) other

  pub read-own : (r : OpenReader) (rs all : List OpenReader) → all ≡ r ∷ rs → is_of lane r ≡ true
      → map (read_on lane) all ≡ record r { lines = drop 1 r.lines } ∷ map (read_on lane) rs
  unfolding read_on
  read-own r rs all is own = ap (map (read_on lane)) is ∙ ap (λ b. (if b then record r { lines = drop 1 r.lines } else r) ∷ map (read_on lane) rs) own

  pub read-other : (r : OpenReader) (rs all : List OpenReader) → all ≡ r ∷ rs → is_of lane r ≡ false
      → map (read_on lane) all ≡ r ∷ map (read_on lane) rs
  unfolding read_on
  read-other r rs all is other = ap (map (read_on lane)) is ∙ ap (λ b. (if b then record r { lines = drop 1 r.lines } else r) ∷ map (read_on lane) rs) other

  -- ---- without its own

  no-longer-by : (r : OpenReader) (rs : List OpenReader) (b : Bool) → length (without lane rs) ≤ length rs
      → length (if not b then r ∷ without lane rs else without lane rs) ≤ length (r ∷ rs)
  no-longer-by r rs true more = omega arith
  no-longer-by r rs false more = omega arith

  no-longer : (readers : List OpenReader) → length (without lane readers) ≤ length readers
  no-longer [] = omega arith
  no-longer (r ∷ rs) = no-longer-by r rs (is_of lane r) (no-longer rs)

  -- the number of its lines
  abbrev pub left_to : List OpenReader → Option ℕ
  left_to readers = option_map (λ (r : OpenReader). length r.lines) (of_lane lane readers)

  pub left-none : (readers : List OpenReader) → length readers ≡ 0 → left_to readers ≡ None
  unfolding of_lane
  left-none [] none = refl
  left-none (r ∷ rs) none = cc

  pub left-first : (r : OpenReader) (rs all : List OpenReader) (b : Bool) → all ≡ r ∷ rs → is_of lane r ≡ b → left_to all ≡ (if b then Some (length r.lines) else left_to rs)
  unfolding of_lane
  left-first r rs all b is own = ap left_to is ∙ ap (λ b. option_map (λ (x : OpenReader). length x.lines) (if b then Some r else of_lane lane rs)) own ∙ by b
    where
      by : (b : Bool) → option_map (λ (x : OpenReader). length x.lines) (if b then Some r else of_lane lane rs) ≡ (if b then Some (length r.lines) else left_to rs)
      by true = refl
      by false = refl

  by_both : (m n : ℕ) (b : Bool) → nat_lt m n ≡ b → nat_lt (suc m) (suc n) ≡ nat_lt m n
  by_both m n true e = lt-ltb (suc m) (suc n) (let less = ltb-true m n e in omega arith) ∙ sym e
  by_both m n false e = le-ltb (suc m) (suc n) (let more = ltb-false m n e in omega arith) ∙ sym e

  -- they are fewer exactly where it had one
  pub fewer : (readers : List OpenReader) → nat_lt (length (without lane readers)) (length readers) ≡ is_some (of_lane lane readers)
  unfolding of_lane
  fewer [] = refl
  fewer (r ∷ rs) = by (is_of lane r) (no-longer rs) (fewer rs)
    where
      by : (b : Bool) → length (without lane rs) ≤ length rs → nat_lt (length (without lane rs)) (length rs) ≡ is_some (of_lane lane rs)
          → nat_lt (length (if not b then r ∷ without lane rs else without lane rs)) (length (r ∷ rs)) ≡ is_some (if b then Some r else of_lane lane rs)
      by true few more = lt-ltb (length (without lane rs)) (length (r ∷ rs)) (omega (arith, few))
      by false few more = by_both (length (without lane rs)) (length rs) (nat_lt (length (without lane rs)) (length rs)) refl ∙ more

-- what was taken from the front of a queue
pub taken-first : {A : Type 0} (o : Option A) (items left : List A) → items ≡ option_to_list o ++ left → left ≡ drop 1 items → o ≡ slice_get items 0
taken-first None [] left is rest = refl
taken-first None (x ∷ xs) left is rest = absurd (omega (arith, ap length is, ap length rest))
taken-first (Some x) items left is rest = sym (ap (λ xs. slice_get xs 0) is)

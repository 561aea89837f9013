-- The versions that are kept are those that were retired since the first reader was opened that is open at the end.
use Rattle.std.proofs.Common.{◌≡◌, ℕ, ◌+◌, Bool, true, false, ◌&&◌, List, [], ◌∷◌, map, cond, Option, Some, None, refl, sym, ap, ap₂, ◌∙◌, arith}
use Rattle.std.specs.Prelude.{filter, if◌then◌else◌}
use Rattle.std.specs.List.{list_any}
use Rattle.std.specs.Option.{option_map}
use Rattle.std.proofs.lemmas.Bool.{and_parts}
use Rattle.vn_rules.specs.Timers.{lesser}
use Rattle.vn_cells.specs.declared.event.Event.{Event}
use Rattle.vn_cells.specs.declared.world.World.{World}
use Rattle.vn_cells.specs.world.Names.{Path}
use Rattle.vn_cells.specs.machine.Step.{run_from, step, opening}
use Rattle.vn_cells.specs.machine.Versions.{has_reader, kept, kept_if_any, left_by, readers_in, retired}
use Rattle.vn_laws.specs.Versions.{stays_open, retired_by, retired_before, least_of, since, kept_since}

abbrev Named : Type 0
Named = Path × ℕ

-- ---- the least of some numbers

lesser-zero : (o : Option ℕ) → lesser (Some 0) o ≡ Some 0
lesser-zero None = refl
lesser-zero (Some n) = ap Some (omega arith)

zero-lesser : (n : ℕ) → lesser (Some n) (Some 0) ≡ Some 0
zero-lesser n = ap Some (omega arith)

module _ (P : Named → Bool) where
  any_of : (rs : List Named) (r : Named) (more : List Named) → filter P rs ≡ r ∷ more → list_any P rs ≡ true
  any_of [] r more e = cc
  any_of (x ∷ rs) r more e = by (P x) refl e (any_of rs r more)
    where
      by : (b : Bool) → P x ≡ b → cond b (x ∷ filter P rs) (filter P rs) ≡ r ∷ more → (filter P rs ≡ r ∷ more → list_any P rs ≡ true)
          → list_any P (x ∷ rs) ≡ true
      by true f e rest = grind (arith, f)
      by false f e rest = grind (arith, rest e)

  zero_least : (f : Named → ℕ) → ((r : Named) → P r ≡ true → f r ≡ 0) → (rs : List Named) → list_any P rs ≡ true
      → least_of (map f rs) ≡ Some 0
  zero_least f zeros [] e = cc
  zero_least f zeros (x ∷ rs) e = by (P x) refl (zero_least f zeros rs)
    where
      by : (b : Bool) → P x ≡ b → (list_any P rs ≡ true → least_of (map f rs) ≡ Some 0) → lesser (Some (f x)) (least_of (map f rs)) ≡ Some 0
      by true g rest = ap (λ n. lesser (Some n) (least_of (map f rs))) (zeros x g) ∙ lesser-zero (least_of (map f rs))
      by false g rest = ap (lesser (Some (f x))) (rest (grind (arith, e, g))) ∙ zero-lesser (f x)

  shift_lesser : (n a : ℕ) (o : Option ℕ) → lesser (Some (n + a)) (option_map (λ k. n + k) o) ≡ option_map (λ k. n + k) (lesser (Some a) o)
  shift_lesser n a None = refl
  shift_lesser n a (Some b) = ap Some (omega arith)

  shift_least : (n : ℕ) (f g : Named → ℕ) → ((r : Named) → P r ≡ false → f r ≡ n + g r) → (rs : List Named) → filter P rs ≡ []
      → least_of (map f rs) ≡ option_map (λ k. n + k) (least_of (map g rs))
  shift_least n f g shifts [] e = refl
  shift_least n f g shifts (x ∷ rs) e = by (P x) refl e (shift_least n f g shifts rs)
    where
      by : (b : Bool) → P x ≡ b → cond b (x ∷ filter P rs) (filter P rs) ≡ []
          → (filter P rs ≡ [] → least_of (map f rs) ≡ option_map (λ k. n + k) (least_of (map g rs)))
          → lesser (Some (f x)) (least_of (map f rs)) ≡ option_map (λ k. n + k) (lesser (Some (g x)) (least_of (map g rs)))
      by true h e rest = cc
      by false h e rest =
          ap₂ (λ k o. lesser (Some k) o) (shifts x h) (rest e)
          ∙ shift_lesser n (g x) (least_of (map g rs))

-- ---- the readers that are open all along, among those of the end

filter_all : (rs : List Named) → filter (λ r. true) rs ≡ rs
filter_all [] = refl
filter_all (r ∷ rs) = ap (λ xs. r ∷ xs) (filter_all rs)

filter_twice : (f g : Named → Bool) (rs : List Named) → filter f (filter g rs) ≡ filter (λ r. f r && g r) rs
filter_twice f g [] = refl
filter_twice f g (r ∷ rs) = by (f r) (g r) refl (filter_twice f g rs)
  where
    by : (a b : Bool) → f r ≡ a → filter f (filter g rs) ≡ filter (λ r. f r && g r) rs
        → filter f (cond b (r ∷ filter g rs) (filter g rs)) ≡ cond (a && b) (r ∷ filter (λ r. f r && g r) rs) (filter (λ r. f r && g r) rs)
    by true true e rest = ap (λ c. cond c (r ∷ filter f (filter g rs)) (filter f (filter g rs))) e ∙ ap (λ xs. r ∷ xs) rest
    by false true e rest = ap (λ c. cond c (r ∷ filter f (filter g rs)) (filter f (filter g rs))) e ∙ rest
    by true false e rest = rest
    by false false e rest = rest

left_readers : (w : World) (events : List Event)
    → (left_by w events).readers ≡ filter (λ r. stays_open r w events) (readers_in (run_from w events))
unfolding left_by run_from stays_open
left_readers w [] = sym (filter_all (readers_in w))
left_readers w (event ∷ events) =
    ap (filter (has_reader w)) (left_readers (step w event) events)
    ∙ filter_twice (has_reader w) (λ r. stays_open r (step w event) events) (readers_in (run_from (step w event) events))

-- ---- the count

-- the versions that are kept for some readers
unfoldable kept_for : List Named → World → List Event → ℕ
kept_for rs w [] = 0
kept_for rs w (event ∷ events) =
    kept_if_any (filter (λ r. stays_open r w (event ∷ events)) rs) (retired w event) + kept_for rs (step w event) events

left_kept : (w : World) (events : List Event) → (left_by w events).versions ≡ kept_for (readers_in (run_from w events)) w events
unfolding left_by run_from kept_for
left_kept w [] = refl
left_kept w (event ∷ events) =
    ap₂ (λ rs n. kept_if_any rs (retired w event) + n) (left_readers w (event ∷ events)) (left_kept (step w event) events)

since_none : (o : Option ℕ) → 0 ≡ since 0 o
since_none None = refl
since_none (Some b) = omega arith

since_shift : (n a : ℕ) (o : Option ℕ) → since a o ≡ since (n + a) (option_map (λ k. n + k) o)
since_shift n a None = refl
since_shift n a (Some b) = omega arith

none_more : (n : ℕ) → 0 + n ≡ n
none_more n = omega arith

from_start : (n a : ℕ) → n + since a (Some 0) ≡ since (n + a) (Some 0)
from_start n a = omega arith

-- a reader that is open from the start has nothing before it
none_before : (r : Named) (w : World) (events : List Event) → stays_open r w events ≡ true → retired_before r w events ≡ 0
unfolding retired_before
none_before r w [] e = refl
none_before r w (event ∷ events) e = ap (λ b. if b then 0 else retired w event + retired_before r (step w event) events) e

module _ (w : World) (event : Event) (events : List Event) where
  abbrev all_along : Named → Bool
  all_along r = stays_open r w (event ∷ events)

  abbrev before_now : Named → ℕ
  before_now r = retired_before r w (event ∷ events)

  abbrev before_then : Named → ℕ
  before_then r = retired_before r (step w event) events

  -- a reader that is open all along was opened before, and so it was then
  zero_now : (r : Named) → all_along r ≡ true → before_now r ≡ 0
  zero_now r e = none_before r w (event ∷ events) e

  zero_then : (r : Named) → all_along r ≡ true → before_then r ≡ 0
  unfolding stays_open
  zero_then r e = none_before r (step w event) events (and_parts _ _ e).1

  later_now : (r : Named) → all_along r ≡ false → before_now r ≡ retired w event + before_then r
  unfolding retired_before
  later_now r e = ap (λ b. if b then 0 else retired w event + retired_before r (step w event) events) e

  counted_step : (rs xs : List Named) → filter all_along rs ≡ xs
      → kept_for rs (step w event) events ≡ since (retired_by (step w event) events) (least_of (map before_then rs))
      → kept_if_any xs (retired w event) + kept_for rs (step w event) events
      ≡ since (retired w event + retired_by (step w event) events) (least_of (map before_now rs))
  counted_step rs [] e more =
      none_more (kept_for rs (step w event) events) ∙ more ∙ since_shift (retired w event) (retired_by (step w event) events) (least_of (map before_then rs))
      ∙ ap (since (retired w event + retired_by (step w event) events))
      (sym (shift_least all_along (retired w event) before_now before_then later_now rs e))
  counted_step rs (r ∷ xs) e more =
      let some = any_of all_along rs r xs e in
      ap (λ n. retired w event + n) (more ∙ ap (since (retired_by (step w event) events)) (zero_least all_along before_then zero_then rs some))
      ∙ from_start (retired w event) (retired_by (step w event) events)
      ∙ sym (ap (since (retired w event + retired_by (step w event) events)) (zero_least all_along before_now zero_now rs some))

counted : (rs : List Named) (w : World) (events : List Event)
    → kept_for rs w events ≡ since (retired_by w events) (least_of (map (λ r. retired_before r w events) rs))
unfolding kept_for retired_by
counted rs w [] = since_none (least_of (map (λ r. retired_before r w []) rs))
counted rs w (event ∷ events) =
    counted_step w event events rs (filter (λ r. stays_open r w (event ∷ events)) rs) refl (counted rs (step w event) events)

pub kept_is : (events : List Event) → kept events ≡ kept_since opening events
kept_is events = left_kept opening events ∙ counted (readers_in (run_from opening events)) opening events

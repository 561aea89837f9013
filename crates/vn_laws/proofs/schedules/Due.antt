-- Where the least deadline of all has come, the timer of some stack is due.
use Rattle.std.proofs.Common.{◌≡◌, ℕ, ◌<◌, ◌≤◌, Bool, true, false, cond, List, [], ◌∷◌, find, Option, Some, None, is_some, min, refl, ap, ⊎_elim, arith}
use Rattle.std.specs.List.{filter, filter_map, cons_option}
use Rattle.std.specs.Option.{option_map}
use Rattle.std.specs.Ordering.{is_lt}
use Rattle.std.proofs.lemmas.Bool.{both_ways, le-leb, cases_lt}
use Rattle.vn_types.proofs.Options.{none_some, some_same}
use Rattle.vn_types.specs.declared.half.Half.{Half}
use Rattle.vn_rules.specs.declared.timer.TimersOf.{TimersOf}
use Rattle.vn_rules.specs.Timers.{turn_cmp, Timed, earlier, earliest, is_due, soonest, lesser, least}
use Rattle.vn_cells.specs.declared.world.Live.{Live}
use Rattle.vn_cells.specs.declared.world.Stack.{Stack}
use Rattle.vn_cells.specs.machine.Queues.{has_due}
use Rattle.vn_cells.specs.world.Names.{Path}

module _ (now d : ℕ) (come : d ≤ now) where
  -- of one stack
  earliest-due : (es : List (Timed Half)) → option_map (λ (e : Timed Half). e.0.0) (earliest es) ≡ Some d
      → is_some (earliest (filter (is_due now) es)) ≡ true
  earliest-due [] is = absurd (none_some d is)
  earliest-due (e ∷ es) is = by (is_due now e) refl (earliest es) is (earliest-due es)
    where
      late : is_due now e ≡ false → e.0.0 ≡ d → ⊥
      late not same = both_ways (is_due now e) not (le-leb e.0.0 now (omega (arith, come, same)))

      other : (f : Timed Half) (b : Bool) → is_due now e ≡ false → (cond b f e).0.0 ≡ d → f.0.0 ≡ d
      other f true not same = same
      other f false not same = absurd (late not same)

      by : (b : Bool) → is_due now e ≡ b → (o : Option (Timed Half)) → Some (earlier e o).0.0 ≡ Some d
          → (option_map (λ (f : Timed Half). f.0.0) o ≡ Some d → is_some (earliest (filter (is_due now) es)) ≡ true)
          → is_some (earliest (cond b (e ∷ filter (is_due now) es) (filter (is_due now) es))) ≡ true
      by true due o is more = refl
      by false not None is more = absurd (late not (some_same e.0.0 d is))
      by false not (Some f) is more = more (ap Some (other f (is_lt (turn_cmp f.0 e.0)) not (some_same (earlier e (Some f)).0.0 d is)))

  abbrev timers_of : Option Live → Option (TimersOf Half)
  timers_of o = option_map (λ (live : Live). live.parts.timers) o

  abbrev waiting : List (Path × Stack) → Option (Path × Stack)
  waiting es = find (λ (s : Path × Stack). has_due now s.1.live) es

  -- the least of two is one of them
  either : (a b : Option ℕ) (P : Type 0) → lesser a b ≡ Some d → (a ≡ Some d → P) → (b ≡ Some d → P) → P
  either None b P is first second = second is
  either (Some x) None P is first second = first is
  either (Some x) (Some y) P is first second =
      let same : min x y ≡ d = some_same (min x y) d is in
      ⊎_elim (λ (less : x < y). first (ap Some (omega (arith, same, less)))) (λ (le : y ≤ x). second (ap Some (omega (arith, same, le)))) (cases_lt x y)

  -- of several
  pub due-somewhere : (es : List (Path × Stack)) → least (filter_map (λ (s : Path × Stack). timers_of s.1.live) es) ≡ Some d
      → is_some (waiting es) ≡ true
  due-somewhere [] is = absurd (none_some d is)
  due-somewhere (s ∷ es) is = by s.1.live is (due-somewhere es)
    where
      later : (b : Bool) → is_some (waiting es) ≡ true → is_some (cond b (Some s) (waiting es)) ≡ true
      later true there = refl
      later false there = there

      by : (o : Option Live) → least (cons_option (timers_of o) (filter_map (λ (t : Path × Stack). timers_of t.1.live) es)) ≡ Some d
          → (least (filter_map (λ (t : Path × Stack). timers_of t.1.live) es) ≡ Some d → is_some (waiting es) ≡ true)
          → is_some (cond (has_due now o) (Some s) (waiting es)) ≡ true
      by None is more = more is
      by (Some live) is more =
          either (soonest live.parts.timers) (least (filter_map (λ (t : Path × Stack). timers_of t.1.live) es)) _ is
          (λ here. ap (λ b. is_some (cond b (Some s) (waiting es))) (earliest-due live.parts.timers.standing here))
          (λ there. later (has_due now (Some live)) (more there))

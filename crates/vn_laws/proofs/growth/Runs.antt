-- A run: all numbers are bounded by the events.
use Rattle.std.proofs.Common.{◌≡◌, ℕ, ◌+◌, ◌-◌, ◌≤◌, Bool, true, false, List, [], ◌∷◌, length, Option, Some, None, refl, ap, ◌∙◌, subst, arith}
use Rattle.std.specs.Prelude.{nat_le, if◌then◌else◌}
use Rattle.std.specs.List.{list_all}
use Rattle.std.proofs.lemmas.Bool.{and_parts}
use Rattle.std.proofs.Math.Nat.{sub-add_cancel}
use Rattle.vn_cells.specs.declared.event.Event.{Event}
use Rattle.vn_cells.specs.declared.world.Live.{Live}
use Rattle.vn_cells.specs.declared.world.Stack.{Stack}
use Rattle.vn_cells.specs.declared.world.World.{World}
use Rattle.vn_cells.specs.world.Names.{is_host}
use Rattle.vn_cells.specs.world.World.{no_stack, stack_at}
use Rattle.vn_cells.specs.commands.Jails.{construct}
use Rattle.vn_cells.specs.keeping.Standing.{passes}
use Rattle.vn_cells.specs.machine.Events.{IsValid, is_valid_event}
use Rattle.vn_cells.specs.keeping.Sound.{IsSound}
use Rattle.vn_cells.specs.machine.Step.{opening, run, run_from, step}
use Rattle.vn_laws.specs.Growth.{IsSmall, counts_at_most, most_armed, most_counted}
use Rattle.vn_laws.proofs.Opening.{opening_stack, sound-opening}
use Rattle.vn_laws.proofs.Steps.{fine-step}
use Rattle.vn_laws.proofs.schedules.Clock.{clock_grows}
use Rattle.vn_laws.proofs.growth.Edits.{Counted, live_counted}
use Rattle.vn_laws.proofs.growth.Numbers.{on_halves, is_small, none-small}
use Rattle.vn_laws.proofs.growth.Steps.{small-step}

-- what just opened is small after no event, and after any number
small-opening : (n : ℕ) → Counted (is_small n) opening
small-opening n = record { of = λ q. ap (λ (s : Stack). live_counted (is_small n) s.live) (opening_stack q) ∙ by (is_host q) }
  where
    by : (b : Bool) → live_counted (is_small n) (if b then construct 0 None no_stack else no_stack).live ≡ true
    by true = none-small n
    by false = refl

-- so many events more
small-run : (events : List Event) (n : ℕ) {v : World} → IsSound v → list_all is_valid_event events ≡ true → Counted (is_small n) v
    → Counted (is_small (n + length events)) (run_from v events)
unfolding run_from
small-run [] n {v} s valid c = subst (λ m. Counted (is_small m) v) (omega arith) c
small-run (event ∷ events) n {v} s valid c =
    let ok = and_parts (is_valid_event event) (list_all is_valid_event events) valid in
    subst (λ m. Counted (is_small m) (run_from (step v event) events)) (omega arith)
    (small-run events (n + 1) (fine-step s event ok.0).sound ok.1 (small-step n s c event))

-- both numbers of what lives
both_small : (n : ℕ) (o : Option Live) → live_counted (is_small n) o ≡ true
    → (passes (λ parts. nat_le parts.timers.armed (most_armed n)) o ≡ true)
    × (passes (λ parts. counts_at_most (most_counted n) parts.drops) o ≡ true)
both_small n None e = (refl, refl)
both_small n (Some live) e = and_parts _ _ (and_parts _ (nat_le (on_halves live.parts.addresses) n) e).0

pub all_small : (events : List Event) (n : ℕ) → IsValid events → length events ≤ n → IsSmall n (run events)
all_small events n valid less = record {
  clock = let grown = clock_grows events valid in omega (arith, grown, less);
  armed = λ p. (both_small n (stack_at (run events) p).live (small.of p)).0;
  counted = λ p. (both_small n (stack_at (run events) p).live (small.of p)).1;
}
  where
    small : Counted (is_small n) (run events)
    small =
        subst (λ m. Counted (is_small m) (run events)) (sub-add_cancel less)
        (small-run events (n - length events) sound-opening valid (small-opening (n - length events)))

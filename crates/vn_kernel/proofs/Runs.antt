-- Runs with one event more, and what a kernel keeps then.
use Rattle.std.proofs.Common.{◌≡◌, ℕ, Bool, true, false, List, [], ◌∷◌, ◌++◌, Some, length, suc, ◌<◌, arith, refl, sym, ap, ◌∙◌, subst}
use Rattle.std.proofs.lemmas.List.Folds.{list_all-append}
use Rattle.vn_cells.specs.declared.event.Event.{Event}
use Rattle.vn_cells.specs.declared.event.TheConstants.{EVENTS_MAX}
use Rattle.vn_cells.specs.declared.world.World.{World}
use Rattle.vn_cells.specs.machine.Events.{IsBuilt, IsValid, IsValidEvent, is_built, is_valid_event}
use Rattle.vn_cells.specs.machine.Step.{opening, run, run_from, step}
use Rattle.vn_laws.proofs.Cleaned.{run-last}
use Rattle.vn_kernel.specs.Fields.{Fields}
use Rattle.vn_kernel.specs.Machines.{IsHeld, IsKept, IsRun, kept}
use Rattle.vn_kernel.specs.Stands.{AreFew, HasRoom, IsOpen, Stepped}
use Rattle.vn_kernel.specs.Worlds.{world_of}
use Rattle.vn_kernel.proofs.Counted.{counted}

pub still_run : (spent : Bool) (w after : World) (events now : List Event) (event : Event) → spent ≡ false → IsRun (kept spent w) events → after ≡ step w event → now ≡ events ++ event ∷ [] → after ≡ run now
still_run false w after events now event is ran moved put_is = moved ∙ ap (λ v. step v event) ran ∙ sym (run-last opening events event) ∙ ap run (sym put_is)
still_run true w after events now event is ran moved put_is = cc

length_snoc : (events : List Event) (event : Event) → length (events ++ event ∷ []) ≡ suc (length events)
length_snoc [] event = refl
length_snoc (e ∷ es) event = ap suc (length_snoc es event)

valid_snoc : (events : List Event) (event : Event) → IsValid events → IsValidEvent event → IsValid (events ++ event ∷ [])
valid_snoc events event valid more = list_all-append is_valid_event events (event ∷ []) ∙ grind (arith, valid, more)

built_snoc : (events : List Event) (event : Event) → IsBuilt events → is_built event ≡ true → IsBuilt (events ++ event ∷ [])
built_snoc events event built more = list_all-append is_built events (event ∷ []) ∙ grind (arith, built, more)

-- after one event more
pub still_kept : (spent : Bool) (w after : World) (events now : List Event) (event : Event) (count : ℕ) → spent ≡ false → IsKept (kept spent w) events
    → after ≡ step w event → now ≡ events ++ event ∷ [] → count ≡ length events → count < EVENTS_MAX → IsValidEvent event → is_built event ≡ true → IsKept (Some after) now
still_kept spent w after events now event count is k moved put_is counted few more built = record {
  ran = still_run spent w after events now event is k.ran moved put_is;
  short = rw (put_is) (grind (arith, length_snoc events event));
  valid = subst IsValid (sym put_is) (valid_snoc events event k.valid more);
  built = subst IsBuilt (sym put_is) (built_snoc events event k.built built);
}

pub none_kept : (w : World) (events : List Event) → w ≡ run events → events ≡ [] → IsKept (Some w) events
none_kept w events ran none = record {
  ran = ran;
  short = rw (none) (omega arith);
  valid = rw (none) refl;
  built = rw (none) refl;
}

-- ---- with its state

pub has_room : (spent : Bool) (f : Fields) (events : List Event) → spent ≡ false → IsHeld spent f events → HasRoom f
has_room spent f events is held =
    let few = held.few is in
    record {
      jails = omega (arith, few.jails, held.machine.short);
      pairs = omega (arith, few.pairs, held.machine.short);
      counted = counted spent f events is held;
    }

pub still_held : (spent : Bool) (f g : Fields) (events now : List Event) (event : Event) (count : ℕ) → spent ≡ false → IsHeld spent f events → Stepped event f g
    → now ≡ events ++ event ∷ [] → count ≡ length events → count < EVENTS_MAX → IsValidEvent event → is_built event ≡ true → IsHeld false g now
still_held spent f g events now event count is held stepped put_is counted few more built = record {
  machine = still_kept spent (world_of f) (world_of g) events now event count is held.machine stepped.world put_is counted few more built;
  stands = λ _. stepped.stands;
  few = λ _. record {
    jails = omega (arith, (held.few is).jails, stepped.grows.jails, ap length put_is, length_snoc events event);
    pairs = omega (arith, (held.few is).pairs, stepped.grows.pairs, ap length put_is, length_snoc events event);
  };
}

pub opened_held : (f : Fields) (events : List Event) → IsOpen f → events ≡ [] → IsHeld false f events
unfolding run_from
opened_held f events begun none = record {
  machine = none_kept (world_of f) events (begun.world ∙ ap run (sym none)) none;
  stands = λ _. begun.stands;
  few = λ _. subst (λ es. AreFew (length es) f) (sym none) begun.few;
}

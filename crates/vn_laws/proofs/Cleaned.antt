-- Every prefix of a valid history is clean.
use Rattle.std.proofs.Common.{◌≡◌, ℕ, zero, suc, true, ◌&&◌, List, [], ◌∷◌, ◌++◌, take, refl, sym, ap, ◌∙◌, subst}
use Rattle.std.specs.List.{list_all}
use Rattle.std.proofs.lemmas.Bool.{and_parts, and_from}
use Rattle.std.proofs.lemmas.List.Folds.{list_all-append}
use Rattle.vn_cells.specs.declared.event.Event.{Event}
use Rattle.vn_cells.specs.declared.world.World.{World}
use Rattle.vn_cells.specs.machine.Events.{is_valid_event, IsValid}
use Rattle.vn_cells.specs.machine.Step.{step, run, run_from, opening}
use Rattle.vn_cells.specs.keeping.Sound.{IsSound}
use Rattle.vn_cells.specs.keeping.Clean.{IsClean, IsEachPrefixClean}
use Rattle.vn_cells.specs.keeping.Moved.{LeavesNothing}
use Rattle.vn_laws.proofs.edits.NamesOnce.{name_once}
use Rattle.vn_laws.proofs.Steps.{fine-step}
use Rattle.vn_laws.proofs.Opening.{sound-opening}

pub sound-run_from : (w : World) (events : List Event) → IsSound w → list_all is_valid_event events ≡ true → IsSound (run_from w events)
unfolding run_from
sound-run_from w [] s valid = s
sound-run_from w (event ∷ events) s valid =
    let parts = and_parts _ _ valid in sound-run_from (step w event) events (fine-step s event parts.0).sound parts.1

-- the last event of a history
pub run-last : (w : World) (before : List Event) (event : Event) → run_from w (before ++ event ∷ []) ≡ step (run_from w before) event
unfolding run_from
run-last w [] event = refl
run-last w (e ∷ before) event = run-last (step w e) before event

valid-take : (n : ℕ) (events : List Event) → list_all is_valid_event events ≡ true → list_all is_valid_event (take n events) ≡ true
valid-take zero [] valid = refl
valid-take (suc n) [] valid = refl
valid-take zero (e ∷ events) valid = refl
valid-take (suc n) (e ∷ events) valid =
    let parts = and_parts _ _ valid in and_from _ _ parts.0 (valid-take n events parts.1)

clean : (events : List Event) → list_all is_valid_event events ≡ true → IsClean events
clean events valid = record {
  sound = sound-run_from opening events sound-opening valid;
  once = name_once (sound-run_from opening events sound-opening valid);
  last = last;
}
  where
    last : (before : List Event) (event : Event) → events ≡ before ++ event ∷ [] → LeavesNothing (run before) (run events)
    last before event e =
        let all : (list_all is_valid_event before && list_all is_valid_event (event ∷ [])) ≡ true =
        sym (list_all-append is_valid_event before (event ∷ [])) ∙ ap (list_all is_valid_event) (sym e) ∙ valid in
        let parts = and_parts (list_all is_valid_event before) (list_all is_valid_event (event ∷ [])) all in
        subst (λ w. LeavesNothing (run before) w) (sym (ap run e ∙ run-last opening before event))
        (fine-step (sound-run_from opening before sound-opening parts.0) event (and_parts (is_valid_event event) true parts.1).0).nothing

pub each_prefix : (events : List Event) → IsValid events → IsEachPrefixClean events
each_prefix events valid n = clean (take n events) (valid-take n events valid)

-- Histories in which no reader is opened: none is open after them, and no version is kept.
use Rattle.std.proofs.Common.{◌≡◌, ◌+◌, Bool, true, false, List, [], ◌∷◌, ◌++◌, map, length, None, refl, ap, ◌∙◌}
use Rattle.std.specs.Prelude.{filter, if◌then◌else◌}
use Rattle.std.specs.List.{list_all, flat_map}
use Rattle.std.specs.Map.{keys_of}
use Rattle.std.proofs.lemmas.Bool.{and_parts, and_from}
use Rattle.vn_cells.specs.declared.event.Event.{Event}
use Rattle.vn_cells.specs.declared.event.Event.TheVariants as event
use Rattle.vn_cells.specs.declared.world.Stack.{Stack}
use Rattle.vn_cells.specs.declared.world.World.{World}
use Rattle.vn_cells.specs.world.Names.{Path, is_host}
use Rattle.vn_cells.specs.world.World.{no_stack, stack_at}
use Rattle.vn_cells.specs.machine.Events.{is_built, IsBuilt}
use Rattle.vn_cells.specs.commands.Jails.{construct}
use Rattle.vn_cells.specs.machine.Step.{step, run, run_from, opening}
use Rattle.vn_cells.specs.machine.Versions.{Left, has_reader, kept_if_any, lane_at, left_by, readers_at, readers_in, open_readers, retired, kept}
use Rattle.vn_laws.specs.Versions.{is_command}
use Rattle.vn_laws.proofs.Opening.{opening_stack}
use Rattle.vn_laws.proofs.versions.SameReaders.{readers-commanded}

abbrev pub Unread : World → Type 0
Unread w = (q : Path) → (stack_at w q).readers ≡ []

-- ---- built events open none

pub unread-step : (w : World) (event : Event) → is_command event ≡ true → Unread w → Unread (step w event)
unfolding step is_command
unread-step w (event.Cmd lane issuer command) built u = λ q. (readers-commanded lane issuer command w).of q ∙ u q
unread-step w _ built u = cc

pub unread-opening : Unread opening
unread-opening q = ap (λ (s : Stack). s.readers) (opening_stack q) ∙ by (is_host q)
  where
    by : (b : Bool) → (if b then construct 0 None no_stack else no_stack).readers ≡ []
    by true = refl
    by false = refl

unread-run : (w : World) (events : List Event) → list_all is_command events ≡ true → Unread w → Unread (run_from w events)
unfolding run_from
unread-run w [] built u = u
unread-run w (event ∷ events) built u =
    let parts = and_parts _ _ built in unread-run (step w event) events parts.1 (unread-step w event parts.0 u)

-- ---- none is open, none is kept

readers_none : (w : World) → Unread w → readers_in w ≡ []
unfolding readers_in
readers_none w u = none (keys_of w.stacks)
  where
    none : (ps : List Path) → flat_map (readers_at w) ps ≡ []
    none [] = refl
    none (p ∷ ps) = ap (λ rs. map (lane_at p) rs ++ flat_map (readers_at w) ps) (u p) ∙ none ps

left_none : (w : World) (events : List Event) → list_all is_command events ≡ true → Unread w
    → left_by w events ≡ record { readers = []; versions = 0 }
unfolding left_by
left_none w [] built u = ap (λ rs. record { readers = rs; versions = 0 }) (readers_none w u)
left_none w (event ∷ events) built u =
    let parts = and_parts _ _ built in
    ap (λ (l : Left). record { readers = filter (has_reader w) l.readers; versions = kept_if_any (filter (has_reader w) l.readers) (retired w event) + l.versions })
    (left_none (step w event) events parts.1 (unread-step w event parts.0 u))

pub none_open : (events : List Event) → list_all is_command events ≡ true → open_readers (run events) ≡ 0
none_open events all = ap length (readers_none (run events) (unread-run opening events all unread-opening))

pub none_kept : (events : List Event) → list_all is_command events ≡ true → kept events ≡ 0
none_kept events all = ap (λ (l : Left). l.versions) (left_none opening events all unread-opening)

-- what the program runs so far are commands
built_command : (event : Event) → is_built event ≡ true → is_command event ≡ true
unfolding is_built is_command
built_command (event.Cmd lane path command) built = refl
built_command _ built = cc

pub are_commands : (events : List Event) → IsBuilt events → list_all is_command events ≡ true
are_commands [] built = refl
are_commands (event ∷ events) built =
    let parts = and_parts _ _ built in and_from _ _ (built_command event parts.0) (are_commands events parts.1)

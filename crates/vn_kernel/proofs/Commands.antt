-- What a command is answered, and its entry, together as the machine's step.
use Rattle.std.proofs.Common.{◌≡◌, ℕ, ◌+◌, ◌≤◌, Bool, true, false, length, map, not, IsTrue, List, [], ◌∷◌, Some, None, refl, sym, ap, ap₂, ◌∙◌, subst, arith}
use Rattle.std.specs.Prelude.{if◌then◌else◌}
use Rattle.std.proofs.lemmas.Bool.{and_parts, false≢true}
use Rattle.vn_types.specs.Paths.{Path, above, parent}
use Rattle.vn_types.specs.declared.errno.Errno.{Errno}
use Rattle.vn_types.specs.declared.errno.Errno.TheVariants as errno
use Rattle.vn_types.specs.Refusals.{first_refusal}
use Rattle.vn_rules.specs.declared.outcome.Outcome.{Outcome}
use Rattle.vn_rules.specs.declared.outcome.Outcome.TheVariants.{Done, Refused}
use Rattle.vn_rules.specs.Rules.{Rule, answer, refused}
use Rattle.vn_jail.specs.declared.jail.Jail.{Jail}
use Rattle.vn_jail.specs.Kept.{IsLinked, IsTree}
use Rattle.vn_jail.specs.Tree.{any_full, create_refusal, created as created_of, is_alive, number_of}
use Rattle.vn_vmove.specs.declared.tables.Tables.{Tables}
use Rattle.vn_vmove.specs.Parts.{lives}
use Rattle.vn_cells.specs.declared.command.Command.{Command}
use Rattle.vn_cells.specs.declared.event.Event.{Event}
use Rattle.vn_cells.specs.declared.event.Event.TheVariants as event
use Rattle.vn_cells.specs.declared.transcript.Entry.{Entry}
use Rattle.vn_cells.specs.declared.transcript.What.TheVariants as what
use Rattle.vn_cells.specs.declared.world.World.{World}
use Rattle.vn_cells.specs.machine.Events.{IsValidEvent, is_at_path, is_built, is_built_command, is_valid_event, is_valid_command}
use Rattle.vn_cells.specs.world.Names.{is_host}
use Rattle.vn_cells.specs.world.World.{common_of}
use Rattle.vn_cells.specs.machine.Commands.{far_rule}
use Rattle.vn_cells.specs.commands.Jails.{created, creation, init_entry, rows}
use Rattle.vn_cells.specs.machine.Reach.{Near, Reach, reach}
use Rattle.vn_cells.specs.machine.Step.{commanded, entered, ran_by, step}
use Rattle.vn_kernel.specs.Construction.{Constructs}
use Rattle.vn_kernel.specs.Fields.{Fields}
use Rattle.vn_kernel.specs.Reading.{Turns}
use Rattle.vn_kernel.specs.Stands.{Answered, Leaves, Ran, Stands, Stepped}
use Rattle.vn_kernel.specs.Worlds.{logged, with_entry, world_of}
use Rattle.vn_kernel.proofs.Answering.{answered-done, answered-refused, grows_not}
use Rattle.vn_kernel.proofs.Created.{leaves-created}
use Rattle.vn_kernel.proofs.Jails.{free-number}
use Rattle.vn_kernel.proofs.Refusals.{refusal-is}
use Rattle.vn_kernel.proofs.Views.{alive-is, stands-entry, world-entry}

-- ---- creation of a jail

module _ (f : Fields) (s : Stands f) (p : Path) (limit : ℕ) where
  abbrev rule : Rule World
  rule = creation (common_of (world_of f)) p limit (world_of f)

  -- a creation that is refused leaves all as it was
  pub refused_creation : (e : Errno) (js : List Jail) → create_refusal p f.jails ≡ Some e → js ≡ f.jails
      → Answered (answer (world_of f) (creation (common_of (world_of f)) p limit (world_of f))) (Refused e) f (record f { jails = js })
  refused_creation e js refusal same =
      subst (λ js. Answered (answer (world_of f) rule) (Refused e) f (record f { jails = js })) (sym same)
      (answered-refused f rule s e (refusal-is f s (common_of (world_of f)) p limit ∙ refusal))

  -- one that is not leaves the jail constructed
  pub done_creation : (g : Fields) → create_refusal p f.jails ≡ None → Leaves (created f.clock p limit (world_of f)) f g
      → Answered (answer (world_of f) (creation (common_of (world_of f)) p limit (world_of f))) Done f g
  unfolding world_of
  done_creation g refusal leaves = answered-done f rule g Done (refusal-is f s (common_of (world_of f)) p limit ∙ refusal) refl leaves

-- what is not refused doesn't live
pub free-dead : (p : Path) (jails : List Jail) → create_refusal p jails ≡ None → is_alive p jails ≡ false
free-dead p jails free = by (is_alive (parent p) jails) (is_alive p jails) free
  where
    by : (up here : Bool) → first_refusal ((not up, errno.NoEnt) ∷ (here, errno.Exist) ∷ (any_full jails (above p), errno.Perm) ∷ []) ≡ None → here ≡ false
    by up false free = refl
    by true true free = cc
    by false true free = cc

-- the stack that is constructed did not live
pub free_lives : (f : Fields) (s : Stands f) (p : Path) (label : is_host p ≡ false) (n : ℕ) → create_refusal p f.jails ≡ None → n ≡ number_of p f.jails → lives f.tables n ≡ false
free_lives f s p label n free is = ap (lives f.tables) is ∙ s.living (number_of p f.jails) ∙ free-number f.jails s.linked p label (free-dead p f.jails free) 0

-- what a creation leaves that is not refused
pub created_as : (f : Fields) (s : Stands f) (p : Path) (limit : ℕ) (label : is_host p ≡ false) (free : create_refusal p f.jails ≡ None)
    (js : List Jail) → js ≡ created_of p limit f.jails → IsLinked js → IsTree js → length js ≤ length f.jails + 1
    → (n : ℕ) → n ≡ number_of p f.jails → (u : Tables) → Constructs n f.tables u
    → (logs : List (Path × List Entry)) → logs ≡ logged p (map (init_entry f.clock) rows) f.logs
    → Answered (answer (world_of f) (creation (common_of (world_of f)) p limit (world_of f))) Done f (record f { jails = js; logs = logs; tables = u })
created_as f s p limit label free js made linked tree few n number u c logs noted =
    done_creation f s p limit (record f { jails = js; logs = logs; tables = u }) free
    (subst (Leaves (created f.clock p limit (world_of f)) f) (λ i. record f { jails = sym made i; logs = sym noted i; tables = u })
    (leaves-created f s p label (free-dead p f.jails free) limit (subst IsLinked made linked) (subst IsTree made tree) (subst (λ (js : List Jail). length js ≤ length f.jails + 1) made few)
    u (subst (λ n. Constructs n f.tables u) number c)))

-- ---- a command

-- at a path that does not live
pub dead : (f : Fields) (issuer : Path) (command : Command) → Stands f → is_alive issuer f.jails ≡ false → Ran issuer command (Refused errno.NoEnt) f f
unfolding commanded world_of
dead f issuer command s gone = record {
  entered = λ lane. sym (ap (λ b. if b then ran_by lane issuer command (reach issuer command) (world_of f) else entered f.clock lane issuer command (refused errno.NoEnt (world_of f))) (alive-is f s issuer ∙ gone));
  stands = s;
  grows = grows_not f;
  read = refl;
}

far : (r : Reach) (lane : ℕ) (issuer : Path) (command : Command) (w : World) → (r ≡ Near → ⊥) → ran_by lane issuer command r w ≡ entered w.clock lane issuer command (answer w (far_rule (common_of w) issuer r w))
unfolding ran_by
far Near lane issuer command w beyond = absurd (beyond refl)
far _ lane issuer command w beyond = refl

-- at a living path, a command that reaches beyond its stack
pub reached : (f g : Fields) (issuer : Path) (command : Command) (given : Outcome) → Stands f → is_alive issuer f.jails ≡ true → (reach issuer command ≡ Near → ⊥)
    → Answered (answer (world_of f) (far_rule (common_of (world_of f)) issuer (reach issuer command) (world_of f))) given f g → Ran issuer command given f g
unfolding commanded world_of
reached f g issuer command given s alive beyond a = record {
  entered = λ lane.
      (λ i. entered f.clock lane issuer command (record { left = a.leaves.world i; outcome = a.outcome i }))
      ∙ sym (far (reach issuer command) lane issuer command (world_of f) beyond)
      ∙ sym (ap (λ b. if b then ran_by lane issuer command (reach issuer command) (world_of f) else entered f.clock lane issuer command (refused errno.NoEnt (world_of f))) (alive-is f s issuer ∙ alive));
  stands = a.leaves.stands;
  grows = a.leaves.grows;
  read = a.leaves.read;
}

-- the outcome is noted
pub noted : (f g : Fields) (clock lane : ℕ) (issuer : Path) (command copy : Command) (given : Outcome) → clock ≡ f.clock → copy ≡ command → Ran issuer command given f g
    → (after : Fields) → after ≡ with_entry issuer (record { clock = clock; what = what.Cmd lane copy given }) g → Leaves (commanded lane issuer command (world_of f)) f after
noted f g clock lane issuer command copy given now same ran after is =
    subst (Leaves (commanded lane issuer command (world_of f)) f) (sym (is ∙ ap₂ (λ (n : ℕ) (c : Command). with_entry issuer (record { clock = n; what = what.Cmd lane c given }) g) now same))
    (record {
      world = world-entry g ran.stands issuer (record { clock = f.clock; what = what.Cmd lane command given }) ∙ ran.entered lane;
      stands = stands-entry g ran.stands issuer (record { clock = f.clock; what = what.Cmd lane command given });
      grows = record { jails = ran.grows.jails; pairs = ran.grows.pairs };
      read = ran.read;
    })

-- ---- an event

pub valid_of : (e : Event) (lane : ℕ) (path : Path) (command : Command) → e ≡ event.Cmd lane path command → IsValidEvent e → IsTrue (is_valid_command path command)
unfolding is_valid_event
valid_of e lane path command is valid = (and_parts (is_at_path lane path) (is_valid_command path command) (subst (λ e. IsValidEvent e) is valid)).1

pub built_of : (e : Event) (lane : ℕ) (path : Path) (command : Command) → e ≡ event.Cmd lane path command → is_built e ≡ true → is_built_command command ≡ true
unfolding is_built
built_of e lane path command is built = sym (ap is_built is) ∙ built

pub only_commands : (e : Event) → ((lane : ℕ) (path : Path) (command : Command) → e ≡ event.Cmd lane path command → ⊥) → is_built e ≡ true → ⊥
unfolding is_built
only_commands (event.Cmd lane path command) other built = other lane path command refl
only_commands _ other built = false≢true built

pub step_of : (f g : Fields) (e : Event) (lane : ℕ) (path : Path) (command : Command) → e ≡ event.Cmd lane path command → Leaves (commanded lane path command (world_of f)) f g → Stepped e f g
unfolding step
step_of f g e lane path command is leaves = subst (λ e. Stepped e f g) (sym is) (record {
  world = leaves.world;
  stands = leaves.stands;
  grows = leaves.grows;
})

-- a reader's event
pub turn_of : (f g : Fields) (e turn : Event) → e ≡ turn → Turns turn f g → Stepped e f g
turn_of f g e turn is t = subst (λ e. Stepped e f g) (sym is) (record {
  world = t.world;
  stands = t.stands;
  grows = record {
    jails = omega (arith, ap (λ (x : Fields). length x.jails) t.others);
    pairs = omega (arith, ap (λ (x : Fields). length x.tables.pairs) t.others);
  };
})

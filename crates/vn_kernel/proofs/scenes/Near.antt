-- A command near its stack that was answered over the tables is the machine's step.
use Rattle.std.proofs.Common.{◌≡◌, ℕ, ◌++◌, true, [], ◌∷◌, Some, None, refl, sym, ap, ◌∙◌, subst, arith}
use Rattle.std.specs.Prelude.{if◌then◌else◌}
use Rattle.vn_types.specs.declared.interface.HalfId.{HalfId}
use Rattle.vn_types.specs.declared.errno.Errno.{Errno}
use Rattle.vn_types.specs.declared.errno.Errno.TheVariants as errno
use Rattle.vn_types.specs.Entries.{put}
use Rattle.vn_types.specs.Paths.{Path, path_cmp}
use Rattle.vn_types.specs.Refusals.{first_refusal}
use Rattle.vn_rules.specs.Renamed.{renamed}
use Rattle.vn_rules.specs.declared.outcome.Outcome.{Outcome}
use Rattle.vn_rules.specs.declared.outcome.Outcome.TheVariants.{Refused}
use Rattle.vn_rules.specs.Rules.{Answer, Rule, answer, answer_by, refused}
use Rattle.vn_rules.specs.Scenes.{SceneOf}
use Rattle.vn_rules.proofs.RuleLaws.{answer-over, over}
use Rattle.vn_packets.specs.Renamed.{as_rule}
use Rattle.vn_jail.specs.Tree.{at as jail_at, is_alive, number_of, path_at}
use Rattle.vn_vmove.specs.declared.tables.Tables.{Tables}
use Rattle.vn_cells.specs.declared.command.Command.{Command}
use Rattle.vn_cells.specs.declared.event.Event.TheVariants as event
use Rattle.vn_cells.specs.declared.transcript.What.{What}
use Rattle.vn_cells.specs.declared.transcript.What.TheVariants as what
use Rattle.vn_cells.specs.declared.world.Stack.{Stack}
use Rattle.vn_cells.specs.machine.Commands.{near_rule}
use Rattle.vn_cells.specs.machine.Local.{act, act_by, heard_by, here_at, halves_at, local, near_answer, placed, placed_if, returned, told}
use Rattle.vn_cells.specs.machine.Reach.{Near, reach}
use Rattle.vn_cells.specs.machine.Step.{commanded, entered, ran, ran_by}
use Rattle.vn_cells.specs.world.Names.{half_eq, half_name, halves_of}
use Rattle.vn_cells.specs.world.World.{edit_stack, entry_of, ifs_in, noting, stack_at}
use Rattle.vn_ipcore.specs.Scenes.{Replaces}
use Rattle.vn_ipcore.proofs.Back.{replaces_same}
use Rattle.vn_kernel.specs.Fields.{Fields}
use Rattle.vn_kernel.specs.Naming.{name_of}
use Rattle.vn_kernel.specs.Stands.{Ran, Stands}
use Rattle.vn_kernel.specs.Worlds.{live_of, readers_of, stack_of, world_of}
use Rattle.vn_kernel.proofs.Views.{alive-is, live-here, stack-here}
use Rattle.vn_kernel.proofs.moving.Refused.{number-lives, number-path}
use Rattle.vn_kernel.proofs.scenes.Back.{goes_back, stands_back}
use Rattle.vn_kernel.proofs.scenes.Seen.{common_in, halves_here, named_scene, scene_at, scene_here}

module _ (f : Fields) (s : Stands f) (p : Path) where
  -- the open readers of the path
  readers-here : (stack_at (world_of f) p).readers ≡ readers_of f p
  unfolding stack_of
  readers-here = ap (λ (x : Stack). x.readers) (stack-here f s p)

  -- so a line that is told is an entry more
  told-entry : (line : What) → told (common_in f) p (readers_of f p) (line ∷ []) (world_of f) ≡ edit_stack p (noting (entry_of f.clock line)) (world_of f)
  unfolding told edit_stack
  told-entry line i = record (world_of f) {
    stacks = put path_cmp p (record (stack_at (world_of f) p) {
      entries = (stack_at (world_of f) p).entries ++ entry_of f.clock line ∷ [];
      readers = sym readers-here i;
    }) (world_of f).stacks;
  }

module _ {f : Fields} (s : Stands f) (issuer : Path) (alive : is_alive issuer f.jails ≡ true) (number : ℕ) (at : number ≡ number_of issuer f.jails) where
  halves-seen : halves_at (world_of f) issuer ≡ halves_here f number
  unfolding renamed
  halves-seen = ap (λ o. halves_of (ifs_in o)) (live-here f s issuer ∙ (λ i. if alive i then Some (live_of f (sym at i)) else None))

  module _ (command : Command) (rule : Rule (SceneOf HalfId)) (same : near_rule half_eq half_name (common_in f) command (named_scene f (scene_at f number)) ≡ as_rule (name_of f) rule) where
    abbrev answered : Answer (SceneOf HalfId)
    answered = answer (scene_at f number) rule

    -- the answer, under the names of halves
    answer-is : answer (named_scene f (scene_at f number)) (near_rule half_eq half_name (common_in f) command (named_scene f (scene_at f number))) ≡ over (named_scene f) answered
    answer-is = answer-over (named_scene f) (scene_at f number) rule (near_rule half_eq half_name (common_in f) command (named_scene f (scene_at f number))) (λ i. (same i).refusals) (λ i. (same i).otherwise)

    -- what the machine makes of the scene, and tells
    heard-is : (lane : ℕ) → local (common_in f) issuer (here_at (world_of f) issuer) (event.Cmd lane issuer command)
        ≡ heard_by lane command (readers_of f issuer) (record { left = Some (named_scene f answered.left); outcome = answered.outcome })
    unfolding local near_answer
    heard-is lane =
        (λ i. heard_by lane command (readers-here f s issuer i) (near_answer (common_in f) command ((scene_here s issuer alive ∙ ap (λ n. Some (named_scene f (scene_at f n))) (sym at)) i)))
        ∙ (λ i. heard_by lane command (readers_of f issuer) (record { left = Some (answer-is i).left; outcome = (answer-is i).outcome }))

    module _ (u : Tables) (replaces : Replaces number answered.left f.tables u) where
      abbrev after : Fields
      after = record f { tables = u }

      back : world_of after ≡ placed issuer (halves_here f number) (named_scene f answered.left) (world_of f)
      back =
          goes_back s number answered.left u replaces (ap (λ n. (jail_at f.jails n).alive) at ∙ number-lives s issuer alive)
          ∙ ap (λ p. placed p (halves_here f number) (named_scene f answered.left) (world_of f)) (ap (path_at f.jails) at ∙ number-path s issuer alive)

      acts : (lane : ℕ) → act (world_of f) issuer (event.Cmd lane issuer command) ≡ edit_stack issuer (ran f.clock lane command answered.outcome) (world_of after)
      unfolding act_by placed_if world_of
      acts lane =
          (λ i. returned (common_in f) issuer (halves-seen i) (heard-is lane i) (world_of f))
          ∙ ap (told (common_in f) issuer (readers_of f issuer) (what.Cmd lane command answered.outcome ∷ [])) (sym back)
          ∙ told-entry after (stands_back s number answered.left u replaces) issuer (what.Cmd lane command answered.outcome)

      -- by the answer
      pub near_ran : reach issuer command ≡ Near → (given : Outcome) → given ≡ answered.outcome → Ran issuer command given f after
      unfolding commanded ran_by world_of
      near_ran near given is = record {
        entered = λ lane.
            ap (λ o. edit_stack issuer (ran f.clock lane command o) (world_of after)) is ∙ sym (acts lane)
            ∙ ap (λ r. ran_by lane issuer command r (world_of f)) (sym near)
            ∙ ap (λ b. if b then ran_by lane issuer command (reach issuer command) (world_of f) else entered f.clock lane issuer command (refused errno.NoEnt (world_of f))) (sym (alive-is f s issuer ∙ alive));
        stands = stands_back s number answered.left u replaces;
        grows = record { jails = omega arith; pairs = omega (arith, replaces.becomes.numbers) };
        read = refl;
      }

    module _ (near : reach issuer command ≡ Near) where
      -- what is refused leaves all as it was
      pub near_refused : (e : Errno) → first_refusal rule.refusals ≡ Some e → Ran issuer command (Refused e) f f
      unfolding answer_by
      near_refused e is =
          let said : answered ≡ refused e (scene_at f number) = ap (λ o. answer_by o (scene_at f number) rule.otherwise) is in
          near_ran f.tables (subst (λ (a : Answer (SceneOf HalfId)). Replaces number a.left f.tables f.tables) (sym said) (replaces_same s.sound number)) near (Refused e) (λ i. (sym said i).outcome)

      -- what is not becomes what the rule says
      pub near_done : (u : Tables) → first_refusal rule.refusals ≡ None → Replaces number rule.otherwise.left f.tables u → Ran issuer command rule.otherwise.outcome f (record f { tables = u })
      unfolding answer_by
      near_done u none replaces =
          let said : answered ≡ rule.otherwise = ap (λ o. answer_by o (scene_at f number) rule.otherwise) none in
          near_ran u (subst (λ (a : Answer (SceneOf HalfId)). Replaces number a.left f.tables u) (sym said) replaces) near rule.otherwise.outcome (λ i. (sym said i).outcome)

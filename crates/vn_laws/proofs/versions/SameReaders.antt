-- No command opens, moves on or closes a reader.
use Rattle.std.proofs.Common.{◌≡◌, ℕ, Bool, true, false, List, [], ◌∷◌, Option, Some, None, refl, sym, ap, ◌∙◌}
use Rattle.std.specs.Prelude.{if◌then◌else◌}
use Rattle.vn_types.specs.PathOrder.{path_eq-Decides}
use Rattle.vn_types.specs.declared.half.Half.{Half}
use Rattle.vn_rules.specs.Rules.{Common}
use Rattle.vn_rules.specs.Scenes.{SceneOf}
use Rattle.vn_packets.specs.Fired.{fired}
use Rattle.vn_packets.specs.Reception.{frame_received, loop_received}
use Rattle.vn_cells.specs.declared.command.Command.{Command}
use Rattle.vn_cells.specs.declared.event.Event.{Event}
use Rattle.vn_cells.specs.declared.event.Event.TheVariants as event
use Rattle.vn_cells.specs.declared.transcript.What.{What}
use Rattle.vn_cells.specs.declared.world.Reader.{Reader}
use Rattle.vn_cells.specs.declared.world.Stack.{Stack}
use Rattle.vn_cells.specs.declared.world.World.{World}
use Rattle.vn_cells.specs.world.Names.{Path, path_eq, half_eq}
use Rattle.vn_cells.specs.world.World.{stack_at, common_of, live_map, edit_stack}
use Rattle.vn_cells.specs.machine.Reach.{Reach, reach}
use Rattle.vn_cells.specs.machine.Commands.{far_rule}
use Rattle.vn_cells.specs.machine.Local.{Here, Heard, LocalRule, here_at, live_after, halves_at, placed_if, told, heard_in, fired_in, heard_where, hearing, local, act, act_by}
use Rattle.vn_cells.specs.machine.Queues.{taken}
use Rattle.vn_cells.specs.machine.Step.{ran, delivered, commanded}
use Rattle.vn_laws.proofs.Commands.{goes-far}
use Rattle.vn_laws.proofs.edits.Cells.{stack_at-edit_stack, stack_at-each_pair}
use Rattle.vn_laws.proofs.edits.Goes.{SameReaders, readers-none, readers-then, edit_keeps, readers-edit_stack}
use Rattle.vn_laws.proofs.local.Delivered.{either_heard}
use Rattle.vn_laws.proofs.local.Placed.{placed_stack}
use Rattle.vn_laws.proofs.rule.Answers.{commanded-keeps}

-- ---- a command

readers-far : (common : Common) (issuer : Path) (r : Reach) (w : World) → SameReaders w (far_rule common issuer r w).otherwise.left
readers-far common issuer r w = (goes-far common issuer r w).readers

readers-placed_if : (p : Path) (halves : List Half) (o : Option (SceneOf Half)) (w : World) → SameReaders w (placed_if p halves o w)
unfolding placed_if
readers-placed_if p halves None w = readers-none w
readers-placed_if p halves (Some s) w = record {
  of = λ q. ap (λ (t : Stack). t.readers) (placed_stack p halves s w q) ∙ edit_keeps (live_map (live_after s)) (stack_at w q) refl (path_eq q p);
}

-- an edit that gives the readers that a path had
readers-told : (p : Path) (f : Stack → Stack) (v w : World) → ((s : Stack) → (f s).readers ≡ (stack_at w p).readers) → SameReaders w v
    → SameReaders w (edit_stack p f v)
readers-told p f v w told same = record {
  of = λ q. ap (λ (s : Stack). s.readers) (stack_at-edit_stack p f v q) ∙ by q (path_eq q p) refl;
}
  where
    by : (q : Path) (b : Bool) → path_eq q p ≡ b → (if b then f (stack_at v q) else stack_at v q).readers ≡ (stack_at w q).readers
    by q true e = told (stack_at v q) ∙ ap (λ r. (stack_at w r).readers) (sym ((path_eq-Decides q p).0 e))
    by q false e = same.of q

-- what is told gives the readers that a path had
readers-all_told : (common : Common) (p : Path) (readers : List Reader) (whats : List What) (v w : World) → readers ≡ (stack_at w p).readers → SameReaders w v
    → SameReaders w (told common p readers whats v)
unfolding told
readers-all_told common p readers [] v w is same = same
readers-all_told common p readers (what ∷ more) v w is same = readers-told p _ v w (λ s. is) same

-- a rule that leaves the readers as they were
pub readers-act_by : (rule : LocalRule) (p : Path) (event : Event) (w : World) → (rule (common_of w) p (here_at w p) event).readers ≡ (stack_at w p).readers
    → SameReaders w (act_by rule w p event)
unfolding act_by
readers-act_by rule p event w is =
    let heard = rule (common_of w) p (here_at w p) event in
    readers-all_told (common_of w) p heard.readers heard.told (placed_if p (halves_at w p) heard.scene w) w is (readers-placed_if p (halves_at w p) heard.scene w)

readers-act : (p : Path) (lane : ℕ) (command : Command) (w : World) → SameReaders w (act w p (event.Cmd lane p command))
unfolding local
readers-act p lane command w = readers-act_by local p (event.Cmd lane p command) w refl

pub readers-commanded : (lane : ℕ) (issuer : Path) (command : Command) (w : World) → SameReaders w (commanded lane issuer command w)
readers-commanded lane issuer command w =
    commanded-keeps (SameReaders w) lane issuer command w (readers-none w)
    (λ a same. readers-then same (readers-edit_stack issuer (ran w.clock lane command a.outcome) a.left (λ s. refl)))
    (readers-act issuer lane command w)
    (λ none. readers-far (common_of w) issuer (reach issuer command) w)

-- ---- deliveries and timers

where-readers : (rule : SceneOf Half → List Reader → Heard) → ((s : SceneOf Half) (readers : List Reader) → (rule s readers).readers ≡ readers) → (here : Here)
    → (heard_where rule here).readers ≡ here.readers
where-readers rule keeps here = by here.scene
  where
    by : (o : Option (SceneOf Half)) → (heard_where rule (record here { scene = o })).readers ≡ here.readers
    by None = refl
    by (Some s) = keeps s here.readers

pub readers-looped : (p q : Path) (w : World) → SameReaders w (act w p (event.LoopDeliver q))
unfolding local
readers-looped p q w = readers-act_by local p (event.LoopDeliver q) w (where-readers (λ s. heard_in (loop_received half_eq (common_of w) s)) (λ s readers. refl) (here_at w p))

pub readers-fired : (p q : Path) (w : World) → SameReaders w (act w p (event.Fire q))
unfolding local
readers-fired p q w = readers-act_by local p (event.Fire q) w (where-readers (λ s. fired_in (fired half_eq (common_of w) s)) (λ s readers. refl) (here_at w p))

readers-heard : (h : Half) (frame : List ℕ) (p : Path) (w : World) → SameReaders w (act_by (hearing h frame) w p (event.Deliver h))
unfolding hearing
readers-heard h frame p w = readers-act_by (hearing h frame) p (event.Deliver h) w (where-readers (λ s. heard_in (frame_received half_eq (common_of w) h frame s)) (λ s readers. refl) (here_at w p))

readers-taken : (h : Half) (w : World) → SameReaders w (taken h w)
unfolding taken
readers-taken h w = record { of = λ q. ap (λ (s : Stack). s.readers) (stack_at-each_pair _ w q) }

pub readers-delivered : (h : Half) (w : World) → SameReaders w (delivered h w)
readers-delivered h w = either_heard (SameReaders w) h w (readers-none w) (λ p frame is. readers-then (readers-taken h w) (readers-heard h frame p (taken h w)))

-- Edits that leave the clock and all readers as they are, and under which transcripts go on.
use Rattle.std.proofs.Common.{◌≡◌, ◌≤◌, Bool, true, false, length, refl, sym, ap, ◌∙◌, subst, arith}
use Rattle.std.specs.Prelude.{if◌then◌else◌}
use Rattle.vn_cells.specs.declared.world.Live.{Live}
use Rattle.vn_cells.specs.declared.world.Pair.{Pair}
use Rattle.vn_cells.specs.declared.world.Stack.{Stack}
use Rattle.vn_cells.specs.declared.world.World.{World}
use Rattle.vn_cells.specs.world.Names.{Path, Key, path_eq}
use Rattle.vn_cells.specs.world.World.{no_stack, stack_at, live_map, edit_stack, each_stack, edit_live, add_pair, drop_pair, each_pair}
use Rattle.vn_laws.proofs.edits.Cells.{none_lives, stack_at-edit_stack, stack_at-each_stack, clock-edit_stack, clock-each_stack}

-- every stack has the readers that it had
pub record SameReaders (v w : World) : Type 0 where
  pub of : (q : Path) → (stack_at w q).readers ≡ (stack_at v q).readers

pub readers-none : (w : World) → SameReaders w w
readers-none w = record { of = λ q. refl }

pub readers-then : {u v w : World} → SameReaders u v → SameReaders v w → SameReaders u w
readers-then a b = record { of = λ q. b.of q ∙ a.of q }

-- a stack is edited, or none
pub edit_keeps : (f : Stack → Stack) (s : Stack) → (f s).readers ≡ s.readers → (b : Bool) → (if b then f s else s).readers ≡ s.readers
edit_keeps f s keeps true = keeps
edit_keeps f s keeps false = refl

pub readers-edit_stack : (p : Path) (f : Stack → Stack) (w : World) → ((s : Stack) → (f s).readers ≡ s.readers) → SameReaders w (edit_stack p f w)
readers-edit_stack p f w keeps = record {
  of = λ q. ap (λ (s : Stack). s.readers) (stack_at-edit_stack p f w q) ∙ edit_keeps f (stack_at w q) (keeps (stack_at w q)) (path_eq q p);
}

-- the stack has as many entries as the other, or more
abbrev pub TellsMore : Stack → Stack → Type 0
TellsMore s t = length s.entries ≤ length t.entries

pub record Goes (v w : World) : Type 0 where
  pub clock : w.clock ≡ v.clock
  pub told : (q : Path) → TellsMore (stack_at v q) (stack_at w q)
  pub readers : SameReaders v w

pub goes-none : (v : World) → Goes v v
goes-none v = record { clock = refl; told = λ q. omega arith; readers = readers-none v }

pub goes-then : {u v w : World} → Goes u v → Goes v w → Goes u w
goes-then {u} {v} {w} a b = record {
  clock = b.clock ∙ a.clock;
  told = λ q. let m = a.told q in let n = b.told q in omega arith;
  readers = readers-then a.readers b.readers;
}

-- the stacks are as they were
goes-stacks : {v w : World} → w.clock ≡ v.clock → ((q : Path) → stack_at w q ≡ stack_at v q) → Goes v w
goes-stacks {v} c e = record {
  clock = c;
  told = λ q. subst (TellsMore (stack_at v q)) (sym (e q)) (omega arith);
  readers = record { of = λ q. ap (λ (s : Stack). s.readers) (e q) };
}

module _ (v : World) where
  pub goes-edit_stack : (p : Path) (f : Stack → Stack) → ((s : Stack) → TellsMore s (f s)) → ((s : Stack) → (f s).readers ≡ s.readers)
      → Goes v (edit_stack p f v)
  goes-edit_stack p f more same = record {
    clock = clock-edit_stack p f v;
    told = λ q. subst (TellsMore (stack_at v q)) (sym (stack_at-edit_stack p f v q)) (by (path_eq q p) (stack_at v q));
    readers = readers-edit_stack p f v same;
  }
    where
      by : (b : Bool) (s : Stack) → TellsMore s (if b then f s else s)
      by true s = more s
      by false s = omega arith

  pub goes-each_stack : (f : Path → Stack → Stack) → ((q : Path) → f q no_stack ≡ no_stack)
      → ((q : Path) (s : Stack) → TellsMore s (f q s)) → ((q : Path) (s : Stack) → (f q s).readers ≡ s.readers)
      → Goes v (each_stack f v)
  goes-each_stack f none more same = record {
    clock = clock-each_stack f v;
    told = λ q. subst (TellsMore (stack_at v q)) (sym (stack_at-each_stack f v q (none q))) (more q (stack_at v q));
    readers = record { of = λ q. ap (λ (s : Stack). s.readers) (stack_at-each_stack f v q (none q)) ∙ same q (stack_at v q) };
  }

  pub goes-edit_live : (p : Path) (f : Live → Live) → Goes v (edit_live p f v)
  goes-edit_live p f =
      goes-each_stack (λ q s. if path_eq q p then live_map f s else s) (λ q. none_lives (path_eq q p) f) (λ q s. by (path_eq q p) s)
      (λ q s. edit_keeps (live_map f) s refl (path_eq q p))
    where
      by : (b : Bool) (s : Stack) → TellsMore s (if b then live_map f s else s)
      by true s = omega arith
      by false s = omega arith

  pub goes-add_pair : (k : Key) (pair : Pair) → Goes v (add_pair k pair v)
  unfolding add_pair stack_at
  goes-add_pair k pair = goes-stacks refl (λ q. refl)

  pub goes-drop_pair : (k : Key) → Goes v (drop_pair k v)
  unfolding drop_pair stack_at
  goes-drop_pair k = goes-stacks refl (λ q. refl)

  pub goes-each_pair : (f : Key → Pair → Pair) → Goes v (each_pair f v)
  unfolding each_pair stack_at
  goes-each_pair f = goes-stacks refl (λ q. refl)

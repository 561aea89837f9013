-- Worlds in which the numbers of each living stack pass a test, and the edits that leave them so.
use Rattle.std.proofs.Common.{◌≡◌, Bool, true, false, Option, Some, None, refl, ap, ◌∙◌}
use Rattle.std.specs.Prelude.{if◌then◌else◌}
use Rattle.std.specs.Option.{option_map}
use Rattle.vn_types.specs.declared.half.Half.{Half}
use Rattle.vn_rules.specs.declared.parts.PartsOf.{PartsOf}
use Rattle.vn_cells.specs.declared.world.Live.{Live}
use Rattle.vn_cells.specs.declared.world.Pair.{Pair}
use Rattle.vn_cells.specs.declared.world.Stack.{Stack}
use Rattle.vn_cells.specs.declared.world.World.{World}
use Rattle.vn_cells.specs.world.Names.{Path, Key, path_eq}
use Rattle.vn_cells.specs.world.World.{stack_at, live_map, on_parts, edit_live, add_pair, drop_pair, each_pair}
use Rattle.vn_cells.specs.keeping.Standing.{passes}
use Rattle.vn_laws.proofs.edits.Cells.{stack_at-edit_live}
use Rattle.vn_laws.proofs.edits.Shapes.{SameShape}
use Rattle.vn_laws.proofs.growth.Numbers.{Numbers, numbers, Less, Falls}

-- whether the numbers of what lives pass the test
abbrev pub live_counted : (Numbers → Bool) → Option Live → Bool
live_counted test o = passes (λ p. test (numbers p)) o

-- those of each living stack
pub record Counted (test : Numbers → Bool) (w : World) : Type 0 where
  pub of : (q : Path) → live_counted test (stack_at w q).live ≡ true

-- a weaker test
pub counted-weaker : {strict test : Numbers → Bool} → ((x : Numbers) → strict x ≡ true → test x ≡ true) → {w : World}
    → Counted strict w → Counted test w
counted-weaker {strict} {test} weaker {w} c = record { of = λ q. by (stack_at w q).live (c.of q) }
  where
    by : (o : Option Live) → live_counted strict o ≡ true → live_counted test o ≡ true
    by None e = refl
    by (Some live) e = weaker (numbers live.parts) e

module _ {test : Numbers → Bool} where
  pub counted-stacks : {v w : World} → Counted test v → ((q : Path) → stack_at w q ≡ stack_at v q) → Counted test w
  counted-stacks c same = record { of = λ q. ap (λ (s : Stack). live_counted test s.live) (same q) ∙ c.of q }

  pub counted-shape : {v w : World} → Counted test v → SameShape v w → Counted test w
  counted-shape c t = record { of = λ q. ap (live_counted test) (t.lives q) ∙ c.of q }

  -- the tables at a path change, and their numbers are no more
  pub counted-on_parts : Falls test → {v : World} → Counted test v → (p : Path) (f : PartsOf Half → PartsOf Half)
      → ((parts : PartsOf Half) → Less (numbers (f parts)) (numbers parts)) → Counted test (edit_live p (on_parts f) v)
  counted-on_parts falls {v} c p f less = record {
    of = λ q. ap (λ (s : Stack). live_counted test s.live) (stack_at-edit_live p (on_parts f) v q)
        ∙ by (path_eq q p) (stack_at v q) (c.of q);
  }
    where
      lives : (o : Option Live) → live_counted test o ≡ true → live_counted test (option_map (on_parts f) o) ≡ true
      lives None e = refl
      lives (Some live) e = falls (numbers live.parts) (numbers (f live.parts)) (less live.parts) e

      by : (b : Bool) (s : Stack) → live_counted test s.live ≡ true
          → live_counted test (if b then live_map (on_parts f) s else s).live ≡ true
      by true s e = lives s.live e
      by false s e = e

  pub counted-add_pair : {v : World} → Counted test v → (k : Key) (pair : Pair) → Counted test (add_pair k pair v)
  unfolding add_pair stack_at
  counted-add_pair c k pair = record { of = c.of }

  pub counted-drop_pair : {v : World} → Counted test v → (k : Key) → Counted test (drop_pair k v)
  unfolding drop_pair stack_at
  counted-drop_pair c k = record { of = c.of }

  pub counted-each_pair : {v : World} → Counted test v → (f : Key → Pair → Pair) → Counted test (each_pair f v)
  unfolding each_pair stack_at
  counted-each_pair c f = record { of = c.of }

-- A stack is destroyed: its halves go home, its pairs end, and the rest is buried.
use Rattle.std.proofs.Common.{◌≡◌, ◌≢◌, ◌⊎◌, inl, inr, ℕ, true, List, length, Option, Some, None, IfSome, refl, sym, ap, ◌∙◌, subst}
use Rattle.std.proofs.lemmas.Bool.{false_from_ne_true, false≢true}
use Rattle.vn_types.specs.declared.interface.HalfId.{HalfId}
use Rattle.vn_types.specs.Paths.{Path}
use Rattle.vn_epair.specs.Halves.{Pair}
use Rattle.vn_jail.specs.declared.jail.Jail.{Jail}
use Rattle.vn_jail.specs.Tree.{at, path_at, removed}
use Rattle.vn_vmove.specs.declared.tables.Tables.{Tables}
use Rattle.vn_vmove.specs.Parts.{pair_at}
use Rattle.vn_vmove.specs.Sound.{stands_at}
use Rattle.vn_cells.specs.declared.world.World.{World}
use Rattle.vn_cells.specs.commands.Removal.{destroyed, homed_at, killed, lent_here, run_down, sent_home, torn_down, without_pairs}
use Rattle.vn_cells.specs.world.World.{edit_stack, noting}
use Rattle.vn_kernel.specs.Fields.{Fields}
use Rattle.vn_kernel.specs.Removal.{Buries, EndsHomed, EndsStack, GivesNoNumber, IsAlone, SendsLentHome, return_entry, rows_before_return}
use Rattle.vn_kernel.specs.Stands.{HasStack, Stands, reading}
use Rattle.vn_kernel.specs.Worlds.{with_entry, world_of}
use Rattle.vn_kernel.proofs.Views.{stands-entry, world-entry}
use Rattle.vn_kernel.proofs.removing.Rest.{as-many-left, leaves-same, same-jails}

-- ---- nothing but lo0 is left

-- what stands there is homed there, and what is homed there is gone
pub alone : (q : ℕ) (t u : Tables) → ((h : HalfId) → stands_at q h.side (pair_at t h.pair) ≡ true → IfSome (pair_at t h.pair) (λ pair. pair.home ≡ q))
    → ((n : ℕ) → (pair_at u n ≡ pair_at t n) ⊎ (pair_at u n ≡ None)) → ((n : ℕ) → IfSome (pair_at u n) (λ pair. pair.home ≢ q)) → IsAlone q u
alone q t u own fewer none = record {
  empty = λ h. false_from_ne_true _ (λ stands. gone h stands (fewer h.pair));
  homeless = none;
}
  where
    clash : (o : Option Pair) (h : HalfId) → stands_at q h.side o ≡ true → IfSome o (λ pair. pair.home ≡ q) → IfSome o (λ pair. pair.home ≢ q) → ⊥
    clash None h stands home away = false≢true stands
    clash (Some pair) h stands home away = away home

    gone : (h : HalfId) → stands_at q h.side (pair_at u h.pair) ≡ true → (pair_at u h.pair ≡ pair_at t h.pair) ⊎ (pair_at u h.pair ≡ None) → ⊥
    gone h stands (inl same) =
        let there = sym (ap (stands_at q h.side) same) ∙ stands in
        clash (pair_at t h.pair) h there (own h there) (subst (λ o. IfSome o (λ pair. pair.home ≢ q)) same (none h.pair))
    gone h stands (inr e) = false≢true (sym (ap (stands_at q h.side) e) ∙ stands)

-- ---- the world

-- what is destroyed after vnet_if_return doesn't see whether the pairs that are homed there have ended
abbrev pub Vanish : Type 0
Vanish = (clock : ℕ) (p : Path) (w : World)
    → killed p (torn_down clock p rows_before_return w) ≡ killed p (torn_down clock p rows_before_return (without_pairs (homed_at w p) w))

return-first : (clock : ℕ) (p : Path) (w : World)
    → destroyed clock p w ≡ killed p (torn_down clock p rows_before_return (edit_stack p (noting (return_entry clock)) (sent_home p (lent_here w p) w)))
unfolding torn_down run_down
return-first clock p w = refl

-- its halves are home, and the first destructor is entered
module _ (q : ℕ) (f g h : Fields) (sent : SendsLentHome q f g) (entry : h ≡ with_entry (path_at g.jails q) (return_entry g.clock) g) where
  jails-g : g.jails ≡ f.jails
  jails-g = same-jails f g sent.others

  clock-g : g.clock ≡ f.clock
  clock-g = ap (λ (x : Fields). x.clock) sent.others

  jails-h : h.jails ≡ f.jails
  jails-h = ap (λ (x : Fields). x.jails) entry ∙ jails-g

  clock-h : h.clock ≡ f.clock
  clock-h = ap (λ (x : Fields). x.clock) entry ∙ clock-g

  abbrev p : Path
  p = path_at f.jails q

  world-h : world_of h ≡ edit_stack p (noting (return_entry f.clock)) (sent_home p (lent_here (world_of f) p) (world_of f))
  world-h =
      ap world_of entry ∙ world-entry g sent.leaves.stands (path_at g.jails q) (return_entry g.clock)
      ∙ (λ i. edit_stack (path_at (jails-g i) q) (noting (return_entry (clock-g i))) (sent.leaves.world i))

  pub stack-noted : (at f.jails q).alive ≡ true → HasStack q h
  stack-noted alive = record {
    stands = subst Stands (sym entry) (stands-entry g sent.leaves.stands (path_at g.jails q) (return_entry g.clock));
    alive = ap (λ (jails : List Jail). (at jails q).alive) jails-h ∙ alive;
  }

  -- ---- no pair is homed there

  module _ (k : Fields) (homed : EndsHomed q h k) where
    jails-k : k.jails ≡ f.jails
    jails-k = same-jails h k homed.ended.others ∙ jails-h

    clock-k : k.clock ≡ f.clock
    clock-k = ap (λ (x : Fields). x.clock) homed.ended.others ∙ clock-h

    world-k : world_of k ≡ without_pairs (homed_at (world_of h) p) (world_of h)
    world-k = homed.leaves.world ∙ (λ i. without_pairs (homed_at (world_of h) (path_at (jails-h i) q)) (world_of h))

    pub stack-homeless : (at f.jails q).alive ≡ true → HasStack q k
    stack-homeless alive = record {
      stands = homed.leaves.stands;
      alive = ap (λ (jails : List Jail). (at jails q).alive) jails-k ∙ alive;
    }

    pub alone-there : IsAlone q k.tables
    alone-there =
        alone q h.tables k.tables
        (λ half. subst (λ (t : Tables). stands_at q half.side (pair_at t half.pair) ≡ true → IfSome (pair_at t half.pair) (λ pair. pair.home ≡ q)) (sym (ap (λ (x : Fields). x.tables) entry)) (sent.own half))
        homed.ended.fewer homed.none

    -- ---- it is buried

    module _ (m : Fields) (buried : Buries q k m) (vanish : Vanish) where
      numbers : GivesNoNumber f m
      numbers = buried.ended.numbers ∙ homed.ended.numbers ∙ ap (λ (x : Fields). length x.tables.pairs) entry ∙ sent.numbers

      world-m : world_of m ≡ destroyed f.clock p (world_of f)
      world-m =
          buried.leaves.world ∙ (λ i. killed (path_at (jails-k i) q) (torn_down (clock-k i) (path_at (jails-k i) q) rows_before_return (world-k i)))
          ∙ sym (vanish f.clock p (world_of h)) ∙ (λ i. killed p (torn_down f.clock p rows_before_return (world-h i)))
          ∙ sym (return-first f.clock p (world_of f))

      pub stack-ended : EndsStack q f m
      stack-ended = record {
        leaves = leaves-same world-m buried.leaves.stands (as-many-left (path_at k.jails q) k.jails buried.ended.jails ∙ ap (λ (jails : List Jail). length jails) jails-k) numbers
            (buried.leaves.read ∙ homed.leaves.read ∙ ap reading entry ∙ sent.leaves.read);
        ended = record {
          jails = buried.ended.jails ∙ (λ i. removed (path_at (jails-k i) q) (jails-k i));
          numbers = numbers;
          clock = buried.ended.clock ∙ clock-k;
        };
      }

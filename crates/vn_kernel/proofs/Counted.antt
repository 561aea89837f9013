-- The clock, the timers that were armed and the counters stay small, since the events are few.
use Rattle.std.proofs.Common.{◌≡◌, ℕ, ◌<◌, ◌≤◌, ◌^◌, Bool, true, false, List, Some, None, refl, sym, ap, ◌∙◌, subst, arith}
use Rattle.std.specs.Prelude.{if◌then◌else◌, nat_le}
use Rattle.std.proofs.lemmas.Bool.{leb-true}
use Rattle.vn_types.specs.declared.half.Half.{Half}
use Rattle.vn_types.specs.declared.interface.HalfId.{HalfId}
use Rattle.vn_types.specs.Paths.{Path}
use Rattle.vn_rules.specs.Construction.{bare_parts}
use Rattle.vn_rules.specs.declared.parts.Drops.{Drops}
use Rattle.vn_rules.specs.declared.parts.PartsOf.{PartsOf}
use Rattle.vn_rules.specs.Renamed.{renamed}
use Rattle.vn_packets.specs.declared.tally.Tally.{Tally}
use Rattle.vn_packets.specs.declared.tally.Tally.TheVariants.{Link, Arp, Ip, Icmp, Udp, Full}
use Rattle.vn_jail.specs.Tree.{at, number_of, path_at}
use Rattle.vn_jail.proofs.Numbers.{is-alive, number-is, within}
use Rattle.vn_vmove.specs.Parts.{lives, parts}
use Rattle.vn_vmove.specs.Tallies.{drops_of}
use Rattle.vn_cells.specs.declared.event.Event.{Event}
use Rattle.vn_cells.specs.declared.event.TheConstants.{EVENTS_MAX}
use Rattle.vn_cells.specs.world.World.{stack_at}
use Rattle.vn_cells.specs.keeping.Standing.{passes}
use Rattle.vn_laws.specs.Growth.{IsSmall, counts_at_most, most_armed, most_counted}
use Rattle.vn_laws.proofs.growth.Runs.{all_small}
use Rattle.vn_kernel.specs.Fields.{Fields}
use Rattle.vn_kernel.specs.Machines.{IsHeld}
use Rattle.vn_kernel.specs.Naming.{name_of}
use Rattle.vn_kernel.specs.Stands.{AreCounted, Stands}
use Rattle.vn_kernel.specs.Worlds.{live_of, world_of}
use Rattle.vn_kernel.proofs.Views.{live-here}

-- each counter, by its cause
counter-small : (most : ℕ) (d : Drops) → counts_at_most most d ≡ true → (cause : Tally) → drops_of cause d ≤ most
counter-small most d e Link = grind (arith, e)
counter-small most d e Arp = grind (arith, e)
counter-small most d e Ip = grind (arith, e)
counter-small most d e Icmp = grind (arith, e)
counter-small most d e Udp = grind (arith, e)
counter-small most d e Full = grind (arith, e)

module _ (f : Fields) (s : Stands f) where
  -- what passes in each living stack of the world, and where nothing is kept, passes in all tables
  passed : (test : PartsOf Half → Bool) → test bare_parts ≡ true → ((p : Path) → passes test (stack_at (world_of f) p).live ≡ true)
      → (number : ℕ) → test (renamed (name_of f) (parts f.tables number)) ≡ true
  unfolding renamed
  passed test bare pass number = by (lives f.tables number) refl
    where
      path : Path
      path = path_at f.jails number

      by : (b : Bool) → lives f.tables number ≡ b → test (renamed (name_of f) (parts f.tables number)) ≡ true
      by true alive =
          let living : (at f.jails number).alive ≡ true = sym (s.living number) ∙ alive in
          let there = within f.jails number living in
          sym (ap (passes test)
          (live-here f s path ∙ ap (λ b. if b then Some (live_of f (number_of path f.jails)) else None) (is-alive f.jails s.linked path number there refl ∙ living)
          ∙ ap (λ n. Some (live_of f n)) (number-is f.jails s.linked path number there refl)))
          ∙ pass path
      by false dead = ap (λ (p : PartsOf HalfId). test (renamed (name_of f) p)) (s.sound.bare number dead) ∙ bare

  module _ (small : IsSmall EVENTS_MAX (world_of f)) where
    few_armed : (number : ℕ) → (parts f.tables number).timers.armed < 2 ^ 63
    unfolding renamed
    few_armed number =
        let few = leb-true _ (most_armed EVENTS_MAX) (passed (λ p. nat_le p.timers.armed (most_armed EVENTS_MAX)) refl small.armed number) in
        omega (arith, few)

    few_counted : (number : ℕ) (cause : Tally) → drops_of cause (parts f.tables number).drops < 2 ^ 63
    unfolding renamed
    few_counted number cause =
        let few = counter-small (most_counted EVENTS_MAX) (parts f.tables number).drops (passed (λ p. counts_at_most (most_counted EVENTS_MAX) p.drops) refl small.counted number) cause in
        omega (arith, few)

    are_counted : AreCounted f
    unfolding world_of
    are_counted = let few = small.clock in record { clock = omega (arith, few); armed = few_armed; counters = few_counted }

-- after so many events as a history may have
pub counted : (spent : Bool) (f : Fields) (events : List Event) → spent ≡ false → IsHeld spent f events → AreCounted f
counted true f events is held = cc
counted false f events is held =
    are_counted f (held.stands refl) (subst (IsSmall EVENTS_MAX) (sym held.machine.ran) (all_small events EVENTS_MAX held.machine.valid held.machine.short))

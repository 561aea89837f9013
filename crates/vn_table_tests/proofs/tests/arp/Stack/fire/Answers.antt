use Rattle.std.proofs.Common.{◌≡◌, ℕ, ◌<◌, ◌≤◌, List, Some, None, sym, ap, subst, ◌∙◌, arith}
use Rattle.vn_types.specs.declared.address.Ip4.{Ip4}
use Rattle.vn_types.specs.declared.interface.HalfId.{HalfId}
use Rattle.vn_types.specs.Interfaces.{half_id_eq}
use Rattle.vn_rules.specs.declared.timer.TimerOf.TheVariants.{Arp}
use Rattle.vn_rules.specs.declared.timer.TimersOf.{TimersOf}
use Rattle.vn_rules.specs.Arp.{timer_at}
use Rattle.vn_rules.specs.Timers.{after_due, due}
use Rattle.vn_callout.specs.Stacks.{of as timers_of}
use Rattle.vn_arp.specs.Kept.{KnowsArms}
use Rattle.vn_arp.specs.Stacks.{of}
use Rattle.vn_arp.proofs.Armed.{armed-turn}
use Rattle.vn_arp.proofs.Edits.{Kept}
use Rattle.vn_arp.proofs.Known.{knows-due, due-there, due-taken}
use Rattle.vn_table_tests.proofs.Unarmed.{unarmed-due}
use Rattle.vn_table_tests.proofs.tests.arp.Stack.fire.Goals as goal

-- once the next timer is taken
module _ (rows : List Kept) (t u : TimersOf HalfId) (known : KnowsArms half_id_eq rows t) (now : ℕ) (taken : u ≡ after_due now t) where
  knows : KnowsArms half_id_eq rows u
  knows = subst (λ (x : TimersOf HalfId). KnowsArms half_id_eq rows x) (sym taken) (knows-due rows t known now)

  untimed : (half : HalfId) (ip : Ip4) → due now t ≡ Some (Arp half ip) → timer_at half_id_eq half ip u ≡ None
  untimed half ip is = ap (timer_at half_id_eq half ip) taken ∙ due-taken rows t known now half ip is

  as-many : (n : ℕ) → t.armed ≤ n → u.armed ≤ n
  as-many n most = subst (λ m. m ≤ n) (sym (ap (λ (x : TimersOf HalfId). x.armed) taken ∙ unarmed-due now t)) most

pub turn-answer-requires-clause-timing : goal.turn-answer-requires-clause-timing
turn-answer-requires-clause-timing g c = record {
  clock = omega (arith, c.from-now.ensures, c.ranges.now.fits);
  armed = let few : c.self.inside.armed < 100 = search in omega (arith, few, as-many (of c.self.inside.arps c.self.inside.sid.0) (timers_of c.self.inside.wheel c.self.inside.sid.0) (timers_of c.due.new.self c.self.inside.sid.0) c.self.invariant.0 c.from-now.result c.due.ensures.taken c.self.inside.armed c.self.invariant.1);
  knows = knows (of c.self.inside.arps c.self.inside.sid.0) (timers_of c.self.inside.wheel c.self.inside.sid.0) (timers_of c.due.new.self c.self.inside.sid.0) c.self.invariant.0 c.from-now.result c.due.ensures.taken;
}

pub turn-answer-requires-clause-there : goal.turn-answer-requires-clause-there
turn-answer-requires-clause-there g c =
    due-there (of c.self.inside.arps c.self.inside.sid.0) (timers_of c.self.inside.wheel c.self.inside.sid.0) c.self.invariant.0 c.from-now.result c.in-Some-Arp.half c.in-Some-Arp.ip (cc)

pub turn-answer-requires-clause-taken : goal.turn-answer-requires-clause-taken
turn-answer-requires-clause-taken g c =
    untimed (of c.self.inside.arps c.self.inside.sid.0) (timers_of c.self.inside.wheel c.self.inside.sid.0) (timers_of c.due.new.self c.self.inside.sid.0) c.self.invariant.0 c.from-now.result c.due.ensures.taken c.in-Some-Arp.half
    c.in-Some-Arp.ip (cc)

pub invariant_of-self : goal.invariant_of-self
invariant_of-self g c =
    let before = as-many (of c.self.inside.arps c.self.inside.sid.0) (timers_of c.self.inside.wheel c.self.inside.sid.0) (timers_of c.due.new.self c.self.inside.sid.0) c.self.invariant.0 c.from-now.result c.due.ensures.taken c.self.inside.armed c.self.invariant.1 in
    (c.turn-answer.ensures.knows, omega (arith, armed-turn _ _ _ _ _ _ _ c.in-Ok.ensures.here, before))

-- How much a rule adds to the counters of a scene, and how many timers it arms.
use Rattle.std.proofs.Common.{◌≡◌, ℕ, ◌+◌, ◌≤◌, Bool, true, false, cond, not, List, refl, sym, subst, ◌∙◌, arith}
use Rattle.vn_rules.specs.declared.parts.Drops.{Drops}
use Rattle.vn_rules.specs.declared.parts.PartsOf.{PartsOf}
use Rattle.vn_rules.specs.Scenes.{LinkOf, SceneOf, link_of, on_link}
use Rattle.vn_packets.specs.declared.tally.Tally.{Tally}
use Rattle.vn_packets.specs.declared.tally.Tally.TheVariants.{Link, Arp, Ip, Icmp, Udp, Full}
use Rattle.vn_packets.specs.Drops.{with_drops, counted, lost, lost_if}
use Rattle.vn_packets.specs.Growth.{CountsGrow, Grows}
use Rattle.vn_packets.specs.Links.{is_link_full, enqueued, sent_by, sent}

-- ---- counters

pub counts-same : {k : ℕ} (d e : Drops) → e ≡ d → CountsGrow k d e
counts-same {k} d e same = subst (CountsGrow k d) (sym same) (record { link = omega arith; arp = omega arith; ip = omega arith; icmp = omega arith; udp = omega arith; full = omega arith })

pub counts-then : {k l : ℕ} (d e f : Drops) → CountsGrow k d e → CountsGrow l e f → CountsGrow (k + l) d f
counts-then d e f first next = record {
  link = omega (arith, first.link, next.link);
  arp = omega (arith, first.arp, next.arp);
  ip = omega (arith, first.ip, next.ip);
  icmp = omega (arith, first.icmp, next.icmp);
  udp = omega (arith, first.udp, next.udp);
  full = omega (arith, first.full, next.full);
}

pub counts-more : {k l : ℕ} (d e : Drops) → k ≤ l → CountsGrow k d e → CountsGrow l d e
counts-more d e less g = record {
  link = omega (arith, less, g.link);
  arp = omega (arith, less, g.arp);
  ip = omega (arith, less, g.ip);
  icmp = omega (arith, less, g.icmp);
  udp = omega (arith, less, g.udp);
  full = omega (arith, less, g.full);
}

counts-one : (what : Tally) (n : ℕ) (d : Drops) → CountsGrow n d (with_drops what n d)
counts-one Link n d = record { link = omega arith; arp = omega arith; ip = omega arith; icmp = omega arith; udp = omega arith; full = omega arith }
counts-one Arp n d = record { link = omega arith; arp = omega arith; ip = omega arith; icmp = omega arith; udp = omega arith; full = omega arith }
counts-one Ip n d = record { link = omega arith; arp = omega arith; ip = omega arith; icmp = omega arith; udp = omega arith; full = omega arith }
counts-one Icmp n d = record { link = omega arith; arp = omega arith; ip = omega arith; icmp = omega arith; udp = omega arith; full = omega arith }
counts-one Udp n d = record { link = omega arith; arp = omega arith; ip = omega arith; icmp = omega arith; udp = omega arith; full = omega arith }
counts-one Full n d = record { link = omega arith; arp = omega arith; ip = omega arith; icmp = omega arith; udp = omega arith; full = omega arith }

-- ---- scenes

module _ {N : Type 0} where
  -- nothing is counted, and so many timers are armed at most
  pub grows-armed : {a : ℕ} (p q : PartsOf N) → q.drops ≡ p.drops → q.addresses ≡ p.addresses → q.timers.armed ≤ p.timers.armed + a → Grows 0 a p q
  grows-armed p q drops addresses armed = record { armed = armed; drops = counts-same p.drops q.drops drops; addresses = addresses }

  pub grows-refl : (p : PartsOf N) → Grows 0 0 p p
  grows-refl p = grows-armed p p refl refl (omega arith)

  pub grows-then : {k l a b : ℕ} (p q r : PartsOf N) → Grows k a p q → Grows l b q r → Grows (k + l) (a + b) p r
  grows-then p q r first next = record {
    armed = omega (arith, first.armed, next.armed);
    drops = counts-then p.drops q.drops r.drops first.drops next.drops;
    addresses = next.addresses ∙ first.addresses;
  }

  pub grows-more : {k l a b : ℕ} (p q : PartsOf N) → k ≤ l → a ≤ b → Grows k a p q → Grows l b p q
  grows-more p q less fewer g = record {
    armed = omega (arith, fewer, g.armed);
    drops = counts-more p.drops q.drops less g.drops;
    addresses = g.addresses;
  }

  pub grows-either : {k a : ℕ} (s t u : SceneOf N) (b : Bool) → Grows k a s.parts t.parts → Grows k a s.parts u.parts → Grows k a s.parts (cond b t u).parts
  grows-either s t u true left right = left
  grows-either s t u false left right = right

  pub grows-by : {k a : ℕ} (s t u : SceneOf N) (b : Bool) → (b ≡ true → Grows k a s.parts t.parts) → (b ≡ false → Grows k a s.parts u.parts) → Grows k a s.parts (cond b t u).parts
  grows-by s t u true left right = left refl
  grows-by s t u false left right = right refl

  counted-grows : (what : Tally) (n : ℕ) (p : PartsOf N) → Grows n 0 p (counted what n p)
  unfolding counted
  counted-grows what n p = record { armed = omega arith; drops = counts-one what n p.drops; addresses = refl }

  pub lost-grows : (what : Tally) (n : ℕ) (s : SceneOf N) → Grows n 0 s.parts (lost what n s).parts
  lost-grows what n s = counted-grows what n s.parts

  pub lost_if-grows : (b : Bool) (what : Tally) (s : SceneOf N) → Grows 1 0 s.parts (lost_if b what s).parts
  lost_if-grows b what s = grows-either s (lost what 1 s) s b (lost-grows what 1 s) (grows-more s.parts s.parts (omega arith) (omega arith) (grows-refl s.parts))

module _ {N : Type 0} (same : N → N → Bool) where
  enqueued-grows : (h : N) (frame : List ℕ) (s : SceneOf N) → Grows 1 0 s.parts (enqueued same h frame s).parts
  unfolding enqueued on_link
  enqueued-grows h frame s = grows-more s.parts s.parts (omega arith) (omega arith) (grows-refl s.parts)

  sent_by-grows : (l : LinkOf N) (h : N) (frame : List ℕ) (s : SceneOf N) → Grows 1 0 s.parts (sent_by same l h frame s).parts
  sent_by-grows l h frame s =
      grows-either s (lost Link 1 s) (cond (is_link_full l) (lost Full 1 s) (enqueued same h frame s)) (not l.up) (lost-grows Link 1 s)
      (grows-either s (lost Full 1 s) (enqueued same h frame s) (is_link_full l) (lost-grows Full 1 s) (enqueued-grows h frame s))

  pub sent-grows : (h : N) (frame : List ℕ) (s : SceneOf N) → Grows 1 0 s.parts (sent same h frame s).parts
  unfolding sent
  sent-grows h frame s = sent_by-grows (link_of same h s) h frame s

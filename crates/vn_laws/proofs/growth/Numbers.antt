-- The numbers of a stack's tables: they are 0 where the stack was just constructed, and events raise them little.
use Rattle.std.proofs.Common.{◌≡◌, ℕ, ◌+◌, ◌*◌, ◌≤◌, Bool, true, ◌&&◌, List, length, refl, ap, ◌∙◌, arith}
use Rattle.std.specs.Prelude.{nat_le, filter}
use Rattle.std.proofs.lemmas.Bool.{and_parts, and_from, le-leb, leb-true}
use Rattle.vn_types.specs.declared.half.Half.{Half}
use Rattle.vn_rules.specs.declared.address.AddrOf.{AddrOf}
use Rattle.vn_rules.specs.declared.parts.Drops.{Drops}
use Rattle.vn_rules.specs.declared.parts.PartsOf.{PartsOf}
use Rattle.vn_rules.specs.Addresses.{is_half}
use Rattle.vn_rules.specs.Construction.{no_drops}
use Rattle.vn_packets.specs.Growth.{CountsGrow, Grows}
use Rattle.vn_packets.proofs.SceneGrowth.{counts-same, counts-then, counts-more}
use Rattle.vn_laws.specs.Growth.{counts_at_most, most_armed, most_counted}

-- timers armed, counters, and how many addresses halves have
abbrev pub Numbers : Type 0
Numbers = ℕ × (Drops × ℕ)

abbrev pub on_halves : List (AddrOf Half) → ℕ
on_halves addresses = length (filter (λ (a : AddrOf Half). is_half a.on) addresses)

abbrev pub numbers : PartsOf Half → Numbers
numbers p = (p.timers.armed, (p.drops, on_halves p.addresses))

-- as after so many events, or less
abbrev pub is_small : ℕ → Numbers → Bool
is_small n x = nat_le x.0 (most_armed n) && counts_at_most (most_counted n) x.1.0 && nat_le x.1.1 n

-- ---- the test as facts

record Counted (most : ℕ) (d : Drops) : Type 0 where
  link : d.link ≤ most
  arp : d.arp ≤ most
  ip : d.ip ≤ most
  icmp : d.icmp ≤ most
  udp : d.udp ≤ most
  full : d.full ≤ most

record Small (n : ℕ) (x : Numbers) : Type 0 where
  armed : x.0 ≤ most_armed n
  drops : Counted (most_counted n) x.1.0
  addresses : x.1.1 ≤ n

facts : (n : ℕ) (x : Numbers) → is_small n x ≡ true → Small n x
facts n x e =
    let most = most_counted n in
    let d = x.1.0 in
    let last = and_parts _ (nat_le x.1.1 n) e in
    let two = and_parts (nat_le x.0 (most_armed n)) (counts_at_most most d) last.0 in
    let full = and_parts _ (nat_le d.full most) two.1 in
    let udp = and_parts _ (nat_le d.udp most) full.0 in
    let icmp = and_parts _ (nat_le d.icmp most) udp.0 in
    let ip = and_parts _ (nat_le d.ip most) icmp.0 in
    let both = and_parts (nat_le d.link most) (nat_le d.arp most) ip.0 in
    record {
      armed = leb-true x.0 (most_armed n) two.0;
      drops = record {
        link = leb-true d.link most both.0;
        arp = leb-true d.arp most both.1;
        ip = leb-true d.ip most ip.1;
        icmp = leb-true d.icmp most icmp.1;
        udp = leb-true d.udp most udp.1;
        full = leb-true d.full most full.1;
      };
      addresses = leb-true x.1.1 n last.1;
    }

from_facts : (n : ℕ) (x : Numbers) → Small n x → is_small n x ≡ true
from_facts n x f =
    let most = most_counted n in
    let d = x.1.0 in
    and_from _ _
    (and_from _ _ (le-leb x.0 (most_armed n) f.armed)
    (and_from _ _
    (and_from _ _
    (and_from _ _
    (and_from _ _ (and_from _ _ (le-leb d.link most f.drops.link) (le-leb d.arp most f.drops.arp)) (le-leb d.ip most f.drops.ip))
    (le-leb d.icmp most f.drops.icmp))
    (le-leb d.udp most f.drops.udp))
    (le-leb d.full most f.drops.full)))
    (le-leb x.1.1 n f.addresses)

pub held_few : (n : ℕ) (x : Numbers) → is_small n x ≡ true → x.1.1 ≤ n
held_few n x e = (facts n x e).addresses

-- ---- more events

-- at most so much more
pub record Raised (counts armed addresses : ℕ) (x y : Numbers) : Type 0 where
  pub timers : y.0 ≤ x.0 + armed
  pub drops : CountsGrow counts x.1.0 y.1.0
  pub held : y.1.1 ≤ x.1.1 + addresses

fits : (x y more most next : ℕ) → x ≤ most → y ≤ x + more → most + more ≤ next → y ≤ next
fits x y more most next small grown room = omega (arith, small, grown, room)

counted-room : (n : ℕ) → most_counted n + (2 * n + 18) ≤ most_counted (n + 1)
counted-room n = grind arith

-- an event adds no more
pub small-raised : (n : ℕ) (x y : Numbers) → is_small n x ≡ true → Raised (2 * n + 18) 2 1 x y → is_small (n + 1) y ≡ true
small-raised n x y e g =
    let f = facts n x e in
    let most = most_counted n in
    let next = most_counted (n + 1) in
    let more = 2 * n + 18 in
    from_facts (n + 1) y (record {
      armed = fits x.0 y.0 2 (most_armed n) (most_armed (n + 1)) f.armed g.timers (omega arith);
      drops = record {
        link = fits x.1.0.link y.1.0.link more most next f.drops.link g.drops.link (counted-room n);
        arp = fits x.1.0.arp y.1.0.arp more most next f.drops.arp g.drops.arp (counted-room n);
        ip = fits x.1.0.ip y.1.0.ip more most next f.drops.ip g.drops.ip (counted-room n);
        icmp = fits x.1.0.icmp y.1.0.icmp more most next f.drops.icmp g.drops.icmp (counted-room n);
        udp = fits x.1.0.udp y.1.0.udp more most next f.drops.udp g.drops.udp (counted-room n);
        full = fits x.1.0.full y.1.0.full more most next f.drops.full g.drops.full (counted-room n);
      };
      addresses = fits x.1.1 y.1.1 1 n (n + 1) f.addresses g.held (omega arith);
    })

pub raised-more : {k l a b c d : ℕ} (x y : Numbers) → k ≤ l → a ≤ b → c ≤ d → Raised k a c x y → Raised l b d x y
raised-more x y counts armed addresses g = record {
  timers = omega (arith, g.timers, armed);
  drops = counts-more x.1.0 y.1.0 counts g.drops;
  held = omega (arith, g.held, addresses);
}

pub raised-then : {k l a b c d : ℕ} (x y z : Numbers) → Raised k a c x y → Raised l b d y z → Raised (k + l) (a + b) (c + d) x z
raised-then x y z g h = record {
  timers = omega (arith, g.timers, h.timers);
  drops = counts-then x.1.0 y.1.0 z.1.0 g.drops h.drops;
  held = omega (arith, g.held, h.held);
}

-- what a rule of packets adds
pub raised-grows : {k a : ℕ} (p q : PartsOf Half) → Grows k a p q → Raised k a 0 (numbers p) (numbers q)
raised-grows p q g =
    let same : on_halves q.addresses ≡ on_halves p.addresses = ap on_halves g.addresses in
    record { timers = g.armed; drops = g.drops; held = omega (arith, same) }

-- ---- the same, or fewer addresses

pub record Less (y x : Numbers) : Type 0 where
  pub timers : y.0 ≡ x.0
  pub drops : y.1.0 ≡ x.1.0
  pub held : y.1.1 ≤ x.1.1

-- a test that less passes too
abbrev pub Falls : (Numbers → Bool) → Type 0
Falls test = (x y : Numbers) → Less y x → test x ≡ true → test y ≡ true

pub less-refl : (x : Numbers) → Less x x
less-refl x = record { timers = refl; drops = refl; held = omega arith }

pub less-then : (x y z : Numbers) → Less y x → Less z y → Less z x
less-then x y z g h = record { timers = h.timers ∙ g.timers; drops = h.drops ∙ g.drops; held = omega (arith, g.held, h.held) }

pub raised-less : (x y : Numbers) → Less y x → Raised 0 0 0 x y
raised-less x y g =
    let timers = g.timers in record { timers = omega (arith, timers); drops = counts-same x.1.0 y.1.0 g.drops; held = omega (arith, g.held) }

pub small-more : (n : ℕ) (x : Numbers) → is_small n x ≡ true → is_small (n + 1) x ≡ true
small-more n x e = small-raised n x x e (raised-more x x (omega arith) (omega arith) (omega arith) (raised-less x x (less-refl x)))

pub small-falls : (n : ℕ) → Falls (is_small n)
small-falls n x y g e =
    let f = facts n x e in
    (λ i. is_small n (g.timers i, (g.drops i, y.1.1)))
    ∙ from_facts n (x.0, (x.1.0, y.1.1)) (record {
      armed = f.armed;
      drops = f.drops;
      addresses = omega (arith, f.addresses, g.held);
    })

-- ---- none yet

pub none-small : (n : ℕ) → is_small n (0, (no_drops, 0)) ≡ true
none-small n =
    from_facts n (0, (no_drops, 0)) (record { armed = omega arith; drops = record { link = omega arith; arp = omega arith; ip = omega arith; icmp = omega arith; udp = omega arith; full = omega arith }; addresses = omega arith })

-- How much is added to numbers that no limit of a table bounds: arm numbers of timers, and counters.
use Rattle.std.specs.Prelude.{◌≡◌, ℕ, ◌+◌, ◌≤◌}
use Rattle.vn_rules.specs.declared.parts.Drops.{Drops}
use Rattle.vn_rules.specs.declared.parts.PartsOf.{PartsOf}

-- each counter grows by at most so much
pub record CountsGrow (most : ℕ) (d e : Drops) : Type 0 where
  -- dropped at a half
  pub link : e.link ≤ d.link + most
  -- dropped by ARP
  pub arp : e.arp ≤ d.arp + most
  -- dropped by IP
  pub ip : e.ip ≤ d.ip + most
  -- dropped by ICMP
  pub icmp : e.icmp ≤ d.icmp + most
  -- dropped by UDP
  pub udp : e.udp ≤ d.udp + most
  -- lost at a full queue
  pub full : e.full ≤ d.full + most

module _ {N : Type 0} where
  -- each counter grows by at most `counts`, and at most `timers` are armed
  pub record Grows (counts timers : ℕ) (p q : PartsOf N) : Type 0 where
    -- timers that were armed
    pub armed : q.timers.armed ≤ p.timers.armed + timers
    -- what was dropped
    pub drops : CountsGrow counts p.drops q.drops
    -- and the addresses stay
    pub addresses : q.addresses ≡ p.addresses

-- How large the numbers become that no limit of a table bounds, but the number of events: the clock, arm numbers of
-- timers, and counters.
use Rattle.std.specs.Prelude.{◌≡◌, ℕ, ◌+◌, ◌*◌, ◌≤◌, Bool, true, ◌&&◌, nat_le}
use Rattle.vn_rules.specs.declared.parts.Drops.{Drops}
use Rattle.vn_cells.specs.declared.world.World.{World}
use Rattle.vn_cells.specs.world.Names.{Path}
use Rattle.vn_cells.specs.world.World.{stack_at}
use Rattle.vn_cells.specs.keeping.Standing.{passes}

-- no counter is more
abbrev pub counts_at_most : ℕ → Drops → Bool
counts_at_most most drops =
    nat_le drops.link most && nat_le drops.arp most && nat_le drops.ip most
    && nat_le drops.icmp most && nat_le drops.udp most && nat_le drops.full most

-- the most timers that so many events arm in a stack: two each
abbrev pub most_armed : ℕ → ℕ
most_armed n = 2 * n

-- the most that so many events add to a counter. An event adds at most 17, where a reply and 16 datagrams that
-- were held meet a full queue; but where an interface goes up, each of its addresses is announced, and there are
-- no more of them than events
abbrev pub most_counted : ℕ → ℕ
most_counted n = n * (n + 17)

-- what so many events come to at most
pub record IsSmall (n : ℕ) (w : World) : Type 0 where
  -- a day for each
  pub clock : w.clock ≤ 86400000 * n
  -- the timers that were armed in each living stack
  pub armed : (p : Path)
      → passes (λ parts. nat_le parts.timers.armed (most_armed n)) (stack_at w p).live ≡ true
  -- each of its counters
  pub counted : (p : Path)
      → passes (λ parts. counts_at_most (most_counted n) parts.drops) (stack_at w p).live ≡ true

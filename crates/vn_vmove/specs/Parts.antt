-- The tables of a stack, by its number.
use Rattle.std.specs.Prelude.{ℕ, Bool, [], map, Option, is_some, unwrap_or}
use Rattle.vn_types.specs.declared.interface.HalfId.{HalfId}
use Rattle.vn_rules.specs.declared.parts.PartsOf.{PartsOf}
use Rattle.vn_arp.specs.Kept.{entries_of}
use Rattle.vn_arp.specs.Stacks.{of as arp_of}
use Rattle.vn_callout.specs.Stacks.{of as timers_of}
use Rattle.vn_epair.specs.Halves.{Pair}
use Rattle.vn_epair.specs.Pairs.{of as pair_of}
use Rattle.vn_icmp.specs.Stacks.{of as pings_of}
use Rattle.vn_ifnet.specs.declared.interfaces.Attached.{Attached}
use Rattle.vn_ifnet.specs.Stacks.{Held, of as held_of}
use Rattle.vn_inaddr.specs.Stacks.{of as addresses_of}
use Rattle.vn_loop.specs.Queues.{queue_of}
use Rattle.vn_route.specs.Stacks.{of as routes_of}
use Rattle.vn_sock.specs.Stacks.{of as sockets_of}
use Rattle.vn_store.specs.Held.{of as variables_of}
use Rattle.vn_vmove.specs.declared.tables.Tables.{Tables}
use Rattle.vn_vmove.specs.Tallies.{counts_of, of as tallies_of}

-- what stands in a stack under which name, and which names are reserved there
abbrev pub held : Tables → ℕ → Held
held t q = held_of t.ifs q

-- what has the number of a pair: a pair, or none
abbrev pub pair_at : Tables → ℕ → Option Pair
pair_at t n = pair_of t.pairs n

-- whether a stack lives
abbrev pub lives : Tables → ℕ → Bool
lives t q = is_some (tallies_of t.tallies q)

-- the tables of a stack; all are empty where it does not live
abbrev pub parts : Tables → ℕ → PartsOf HalfId
parts t q = record {
  variables = unwrap_or (variables_of t.vars q) [];
  interfaces = map (λ (a : Attached). a.what) (held t q).attached;
  addresses = addresses_of t.addrs q;
  routes = routes_of t.routes q;
  arp = entries_of (arp_of t.arp q);
  sockets = sockets_of t.socks q;
  timers = timers_of t.wheel q;
  loopback = queue_of t.loops q;
  pings = pings_of t.pings q;
  ident = (counts_of t.tallies q).ident;
  drops = (counts_of t.tallies q).drops;
}

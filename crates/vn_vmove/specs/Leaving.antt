-- What leaves the tables of one stack with an address or with a half, and what stays.
use Rattle.std.specs.Prelude.{◌≡◌, ℕ}
use Rattle.std.specs.List.{filter}
use Rattle.vn_types.specs.declared.interface.HalfId.{HalfId}
use Rattle.vn_types.specs.declared.interface.IfOf.TheVariants.{Half}
use Rattle.vn_types.specs.Interfaces.{half_id_eq}
use Rattle.vn_types.specs.PerStack.{ChangesOnly}
use Rattle.vn_rules.specs.declared.address.AddrOf.{AddrOf}
use Rattle.vn_rules.specs.declared.parts.PartsOf.{PartsOf}
use Rattle.vn_rules.specs.Addresses.{is_on}
use Rattle.vn_rules.specs.Arp.{without_entries}
use Rattle.vn_rules.specs.Pings.{is_from, without_pings}
use Rattle.vn_rules.specs.Purge.{is_uncovered, routes_without, without_addrs}
use Rattle.vn_rules.specs.Sockets.{unbound_from}
use Rattle.vn_arp.specs.Kept.{KnowsArms}
use Rattle.vn_arp.specs.Stacks.{of as arp_of}
use Rattle.vn_callout.specs.Stacks.{of as timers_of}
use Rattle.vn_vmove.specs.declared.tables.Tables.{Tables}
use Rattle.vn_vmove.specs.Parts.{parts}

-- interfaces and the names that are taken, pairs, loopback queues, variables and counts are as before
pub record KeepsRest (old new : Tables) : Type 0 where
  -- the interfaces of each stack, with all names
  pub ifs : new.ifs ≡ old.ifs
  -- the pairs
  pub pairs : new.pairs ≡ old.pairs
  -- the loopback queues
  pub loops : new.loops ≡ old.loops
  -- the variables
  pub vars : new.vars ≡ old.vars
  -- what living stacks count
  pub tallies : new.tallies ≡ old.tallies

-- the arm numbers that are kept in a stack are those of its timers
abbrev pub KnowsTimers : Tables → ℕ → Type 0
KnowsTimers t q = KnowsArms half_id_eq (arp_of t.arp q) (timers_of t.wheel q)

-- where a stack's arm numbers were those of its timers, they are still
abbrev pub KeepsArms : Tables → Tables → Type 0
KeepsArms old new = (q : ℕ) → KnowsTimers old q → KnowsTimers new q

-- the tables of each other stack are as before
abbrev pub KeepsOthers : ℕ → Tables → Tables → Type 0
KeepsOthers sid old new = ChangesOnly sid (parts old) (parts new)

-- the tables of one stack become what a rule makes of them, and nothing else changes
pub record Leaves (rule : PartsOf HalfId → PartsOf HalfId) (sid : ℕ) (old new : Tables) : Type 0 where
  -- its own
  pub here : parts new sid ≡ rule (parts old sid)
  -- those of each other stack
  pub others : KeepsOthers sid old new
  -- the arm numbers that fitted the timers
  pub arms : KeepsArms old new
  -- what no rule of a purge touches
  pub rest : KeepsRest old new

-- ---- the steps of a purge

-- without what stood on an address alone, where the address itself is gone already
abbrev pub unfounded : AddrOf HalfId → PartsOf HalfId → PartsOf HalfId
unfounded a p =
    let routes = routes_without half_id_eq a p.addresses p.routes in
    let unused = without_pings (is_from a.ip) (unbound_from a.ip p) in
    record (without_entries (is_uncovered half_id_eq a.on routes) unused) { routes = routes }

-- without the addresses of a half, and without what stood on them
abbrev pub unaddressed : HalfId → PartsOf HalfId → PartsOf HalfId
unaddressed h p = without_addrs half_id_eq (filter (is_on half_id_eq (Half h)) p.addresses) p

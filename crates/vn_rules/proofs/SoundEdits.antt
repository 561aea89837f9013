-- A sound stack of which some parts are changed: what they touch is shown anew, and the rest is as it was.
use Rattle.std.proofs.Common.{◌≡◌, Bool, true, length, nat_le}
use Rattle.std.proofs.lemmas.Bool.{and_from}
use Rattle.vn_rules.specs.declared.parts.PartsOf.{PartsOf}
use Rattle.vn_rules.specs.declared.parts.TheConstants.{LOOPBACK_MAX}
use Rattle.vn_rules.specs.Interfaces.{is_among}
use Rattle.vn_rules.specs.Orders.{has_16_bits, keeps_orders, are_addresses, are_routes, are_arp_entries, are_sockets, are_timers, are_pings}
use Rattle.vn_rules.specs.Soundness.{names_own, binds_locally, sends_locally, times_pings, gave_arms, has_distinct_arms, owns_timers, times_arp, has_distinct_entries, covers_arp, founds_routes, is_sound_by, is_sound_parts}
use Rattle.vn_rules.specs.Variables.{declarations, are_declared}
use Rattle.vn_rules.proofs.Named.{NamesPass, own_names, names_from}
use Rattle.vn_rules.proofs.SoundFacts.{SoundFacts}

-- what is sound, where each interface that it names is its own
sound_from_names : {N : Type 0} (same : N → N → Bool) (times : PartsOf N → Bool) (p : PartsOf N) → NamesPass (is_among same p.interfaces) p
    → binds_locally p ≡ true → sends_locally p ≡ true → owns_timers same p ≡ true → times_pings p ≡ true → has_distinct_entries same p.arp ≡ true → times p ≡ true
    → covers_arp same p ≡ true → founds_routes same p ≡ true → gave_arms p ≡ true → has_distinct_arms p.pings.awaited ≡ true → keeps_orders p ≡ true → is_sound_by same times p ≡ true
unfolding names_own
sound_from_names same times p named bound sources owned pinged entries timed covered founded given arms orders =
    and_from _ _ (and_from _ _ (and_from _ _ (and_from _ _ (and_from _ _ (names_from (is_among same p.interfaces) p named) bound) sources) (and_from _ _ owned pinged))
    (and_from _ _ (and_from _ _ (and_from _ _ (and_from _ _ (and_from _ _ entries timed) covered) founded) given) arms)) orders

orders_from : {N : Type 0} (p : PartsOf N) → are_declared declarations p.variables ≡ true → are_addresses p.addresses ≡ true → are_routes p.routes ≡ true → are_arp_entries p.arp ≡ true
    → are_sockets p.sockets ≡ true → are_timers p.timers ≡ true → are_pings p.pings ≡ true → nat_le (length p.loopback) LOOPBACK_MAX ≡ true → has_16_bits p.ident ≡ true → keeps_orders p ≡ true
unfolding keeps_orders
orders_from p variables addresses routes arp sockets timers pings loopback ident =
    and_from _ _ (and_from _ _ (and_from _ _ (and_from _ _ (and_from _ _ (and_from _ _ (and_from _ _ (and_from _ _ variables addresses) routes) arp) sockets) timers) pings) loopback) ident

module _ {N : Type 0} (same : N → N → Bool) (p q : PartsOf N) where
  -- the parts with the variables, interfaces, addresses, routes and sockets of others
  abbrev tabled : PartsOf N
  tabled = record p { variables = q.variables; interfaces = q.interfaces; addresses = q.addresses; routes = q.routes; sockets = q.sockets }

  pub tabled-sound : SoundFacts same (times_arp same) p → NamesPass (is_among same q.interfaces) tabled
      → binds_locally tabled ≡ true → sends_locally tabled ≡ true → covers_arp same tabled ≡ true → founds_routes same tabled ≡ true
      → are_declared declarations q.variables ≡ true → are_addresses q.addresses ≡ true → are_routes q.routes ≡ true → are_sockets q.sockets ≡ true → is_sound_parts same tabled ≡ true
  unfolding owns_timers times_pings times_arp gave_arms
  tabled-sound f named bound sources covered founded variables addresses routes sockets =
      sound_from_names same (times_arp same) tabled named bound sources f.owned f.pings_timed f.entries_apart f.arp_timed covered founded f.arms_given f.arms_apart
      (orders_from tabled variables addresses routes f.arp sockets f.timers f.pings f.loopback f.ident)

  -- the parts with the ARP entries, timers and pings of others
  abbrev timed : PartsOf N
  timed = record p { arp = q.arp; timers = q.timers; pings = q.pings }

  -- by one test on the timers of ARP entries before, and another afterwards
  pub timing-sound : (times others : PartsOf N → Bool) → SoundFacts same times p → NamesPass (is_among same p.interfaces) timed → sends_locally timed ≡ true
      → owns_timers same timed ≡ true → times_pings timed ≡ true → has_distinct_entries same q.arp ≡ true → others timed ≡ true → covers_arp same timed ≡ true → gave_arms timed ≡ true
      → has_distinct_arms q.pings.awaited ≡ true → are_arp_entries q.arp ≡ true → are_timers q.timers ≡ true → are_pings q.pings ≡ true → is_sound_by same others timed ≡ true
  unfolding binds_locally founds_routes
  timing-sound times others f named sources owned pinged entries entries_timed covered given arms arp timers pings =
      sound_from_names same others timed named f.bound sources owned pinged entries entries_timed covered f.founded given arms
      (orders_from timed f.variables f.addresses f.routes arp f.sockets timers pings f.loopback f.ident)

-- by another test on the timers of ARP entries
pub retimed : {N : Type 0} (same : N → N → Bool) (times others : PartsOf N → Bool) (p : PartsOf N) → SoundFacts same times p → others p ≡ true → is_sound_by same others p ≡ true
retimed same times others p f timed =
    timing-sound same p p times others f (own_names same times p f) f.sources f.owned f.pings_timed f.entries_apart timed f.arp_covered f.arms_given f.arms_apart f.arp f.timers f.pings

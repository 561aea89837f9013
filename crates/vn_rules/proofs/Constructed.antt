-- The table of constructors, whatever names halves have: its names give its rows, and what they leave is sound.
use Rattle.std.proofs.Common.{◌≡◌, Bool, true, map, Some, refl}
use Rattle.vn_rules.specs.Networks.{network_of, lies_in}
use Rattle.vn_rules.specs.Interfaces.{named_ifs}
use Rattle.vn_rules.specs.Construction.{RowOf, constructor_rows, row_named, constructed_parts}
use Rattle.vn_rules.specs.Orders.{are_addresses, are_routes, are_arp_entries, are_sockets, are_timers, are_pings, keeps_orders}
use Rattle.vn_rules.specs.Soundness.{names_own, binds_locally, sends_locally, owns_timers, times_pings, times_arp, has_distinct_entries, covers_arp, founds_routes, gave_arms, has_distinct_arms, is_sound_parts}

-- the names of the table, in order, give its rows
pub rows-named : {N : Type 0} → map row_named (map (λ (row : RowOf N). row.name) constructor_rows) ≡ map Some (constructor_rows {N = N})
rows-named = refl

module _ {N : Type 0} (same : N → N → Bool) where
  pub constructed_parts-sound : is_sound_parts same constructed_parts ≡ true
  unfolding names_own named_ifs binds_locally sends_locally owns_timers times_pings times_arp has_distinct_entries covers_arp founds_routes gave_arms has_distinct_arms lies_in network_of keeps_orders are_addresses are_routes are_arp_entries are_sockets are_timers are_pings
  constructed_parts-sound = refl

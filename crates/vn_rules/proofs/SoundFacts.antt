-- The tests of soundness as a record, so that a rule shows anew those that it touches alone.
use Rattle.std.proofs.Common.{◌≡◌, Bool, true, length, nat_le, List, ◌++◌, map, sym, ◌∙◌}
use Rattle.std.specs.List.{list_all, flat_map}
use Rattle.std.proofs.lemmas.Bool.{and_parts}
use Rattle.std.proofs.lemmas.List.Folds.{list_all-append}
use Rattle.vn_types.specs.declared.interface.IfOf.{IfOf}
use Rattle.vn_types.specs.declared.interface.IfOf.TheVariants.{Half}
use Rattle.vn_rules.specs.declared.address.AddrOf.{AddrOf}
use Rattle.vn_rules.specs.declared.arp.ArpEntryOf.{ArpEntryOf}
use Rattle.vn_rules.specs.declared.ping.PingOf.{PingOf}
use Rattle.vn_rules.specs.declared.parts.PartsOf.{PartsOf}
use Rattle.vn_rules.specs.declared.parts.TheConstants.{LOOPBACK_MAX}
use Rattle.vn_rules.specs.Interfaces.{queue_ifs, named_ifs, is_among}
use Rattle.vn_rules.specs.Orders.{has_16_bits, are_addresses, are_routes, are_arp_entries, are_sockets, are_timers, are_pings, keeps_orders}
use Rattle.vn_rules.specs.Routes.{Routed, target_if}
use Rattle.vn_rules.specs.Soundness.{binds_locally, sends_locally, times_pings, gave_arms, has_distinct_arms, names_own, owns_timers, has_distinct_entries, covers_arp, founds_routes, keeps_timers, keeps_tables_by, is_sound_by}
use Rattle.vn_rules.specs.Variables.{declarations, are_declared}

module _ {N : Type 0} (same : N → N → Bool) (times : PartsOf N → Bool) where
  -- whether interfaces are the stack's
  abbrev pub are_own : PartsOf N → List (IfOf N) → Bool
  are_own p ifs = list_all (is_among same p.interfaces) ifs

  pub record SoundFacts (p : PartsOf N) : Type 0 where
    pub address_names : are_own p (map (λ (a : AddrOf N). a.on) p.addresses) ≡ true
    pub route_names : are_own p (map (λ (e : Routed N). target_if e.1) p.routes) ≡ true
    pub arp_names : are_own p (map (λ (e : ArpEntryOf N). Half e.half) p.arp) ≡ true
    pub ping_names : are_own p (map (λ (g : PingOf N). g.out) p.pings.awaited) ≡ true
    pub gram_names : are_own p (flat_map queue_ifs p.sockets) ≡ true
    pub bound : binds_locally p ≡ true
    pub sources : sends_locally p ≡ true
    pub owned : owns_timers same p ≡ true
    pub pings_timed : times_pings p ≡ true
    pub entries_apart : has_distinct_entries same p.arp ≡ true
    pub arp_timed : times p ≡ true
    pub arp_covered : covers_arp same p ≡ true
    pub founded : founds_routes same p ≡ true
    pub arms_given : gave_arms p ≡ true
    pub arms_apart : has_distinct_arms p.pings.awaited ≡ true
    pub variables : are_declared declarations p.variables ≡ true
    pub addresses : are_addresses p.addresses ≡ true
    pub routes : are_routes p.routes ≡ true
    pub arp : are_arp_entries p.arp ≡ true
    pub sockets : are_sockets p.sockets ≡ true
    pub timers : are_timers p.timers ≡ true
    pub pings : are_pings p.pings ≡ true
    pub loopback : nat_le (length p.loopback) LOOPBACK_MAX ≡ true
    pub ident : has_16_bits p.ident ≡ true

  module _ (p : PartsOf N) where
    split : (xs ys : List (IfOf N)) → are_own p (xs ++ ys) ≡ true → (are_own p xs ≡ true) × (are_own p ys ≡ true)
    split xs ys test = and_parts _ _ (sym (list_all-append (is_among same p.interfaces) xs ys) ∙ test)

    pub facts_from_sound : is_sound_by same times p ≡ true → SoundFacts p
    unfolding names_own named_ifs keeps_orders
    facts_from_sound sound =
        let all = and_parts _ (keeps_orders p) sound in
        let three = and_parts _ (keeps_tables_by same times p) all.0 in
        let two = and_parts _ (keeps_timers same p) three.0 in
        let half = and_parts _ (sends_locally p) two.0 in
        let one = and_parts (names_own same p) (binds_locally p) half.0 in
        let n4 = split _ (flat_map queue_ifs p.sockets) one.0 in
        let n3 = split _ (map (λ (g : PingOf N). g.out) p.pings.awaited) n4.0 in
        let n2 = split _ (map (λ (e : ArpEntryOf N). Half e.half) p.arp) n3.0 in
        let n1 = split _ (map (λ (e : Routed N). target_if e.1) p.routes) n2.0 in
        let t = and_parts (owns_timers same p) (times_pings p) two.1 in
        let b5 = and_parts _ (has_distinct_arms p.pings.awaited) three.1 in
        let b4 = and_parts _ (gave_arms p) b5.0 in
        let b3 = and_parts _ (founds_routes same p) b4.0 in
        let b2 = and_parts _ (covers_arp same p) b3.0 in
        let b1 = and_parts (has_distinct_entries same p.arp) (times p) b2.0 in
        let o8 = and_parts _ (has_16_bits p.ident) all.1 in
        let o7 = and_parts _ (nat_le (length p.loopback) LOOPBACK_MAX) o8.0 in
        let o6 = and_parts _ (are_pings p.pings) o7.0 in
        let o5 = and_parts _ (are_timers p.timers) o6.0 in
        let o4 = and_parts _ (are_sockets p.sockets) o5.0 in
        let o3 = and_parts _ (are_arp_entries p.arp) o4.0 in
        let o2 = and_parts _ (are_routes p.routes) o3.0 in
        let o1 = and_parts (are_declared declarations p.variables) (are_addresses p.addresses) o2.0 in
        record {
          address_names = n1.0;
          route_names = n1.1;
          arp_names = n2.1;
          ping_names = n3.1;
          gram_names = n4.1;
          bound = one.1;
          sources = half.1;
          owned = t.0;
          pings_timed = t.1;
          entries_apart = b1.0;
          arp_timed = b1.1;
          arp_covered = b2.1;
          founded = b3.1;
          arms_given = b4.1;
          arms_apart = b5.1;
          variables = o1.0;
          addresses = o1.1;
          routes = o2.1;
          arp = o3.1;
          sockets = o4.1;
          timers = o5.1;
          pings = o6.1;
          loopback = o7.1;
          ident = o8.1;
        }

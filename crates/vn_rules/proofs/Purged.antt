-- A half leaves a stack: nothing names it, nothing new is named, interfaces stay, and the parts stay sound.
use Rattle.std.proofs.Common.{◌≡◌, Bool, true, false, not, ◌&&◌, ◌||◌, ◌==◌, List, [], ◌∷◌, refl, sym, ap, ◌∙◌}
use Rattle.std.specs.Bool.{Decides}
use Rattle.std.specs.List.{list_any, list_all, filter}
use Rattle.std.proofs.lemmas.Bool.{and_parts, and_from, both_ways, not-true, false_from_ne_true, eq-eqb}
use Rattle.vn_types.specs.declared.address.Ip4.{Ip4}
use Rattle.vn_types.specs.declared.interface.IfOf.{IfOf}
use Rattle.vn_types.specs.declared.interface.IfOf.TheVariants.{Half}
use Rattle.vn_types.specs.Interfaces.{if_same}
use Rattle.vn_types.proofs.InterfaceNames.{if_same-Decides}
use Rattle.vn_rules.specs.declared.address.AddrOf.{AddrOf}
use Rattle.vn_rules.specs.declared.arp.ArpEntryOf.{ArpEntryOf}
use Rattle.vn_rules.specs.declared.route.TargetOf.TheVariants.{Link, Gateway}
use Rattle.vn_rules.specs.declared.timer.TimerOf.{TimerOf}
use Rattle.vn_rules.specs.declared.timer.TimerOf.TheVariants.{Arp, Ping}
use Rattle.vn_rules.specs.declared.parts.PartsOf.{PartsOf}
use Rattle.vn_rules.specs.Addresses.{is_on, is_same}
use Rattle.vn_rules.specs.Arp.{is_timer_where, without_entries}
use Rattle.vn_rules.specs.Interfaces.{named_ifs, is_among, is_timer_of}
use Rattle.vn_rules.specs.Pings.{is_out_by, without_pings}
use Rattle.vn_rules.specs.Purge.{without_addr, without_addrs, without_names, purged}
use Rattle.vn_rules.specs.Routes.{Routed, target_if, covers, after_purge_routes}
use Rattle.vn_rules.specs.Sockets.{without_grams_by}
use Rattle.vn_rules.specs.Soundness.{is_founded, binds_locally, sends_locally, times_arp, covers_arp, founds_routes, is_sound_parts}
use Rattle.vn_rules.specs.Timers.{Timed}
use Rattle.vn_rules.proofs.Kept.{IsIn, all_from_none, all_in, all_filtered, all_passed, any_filter, none_from_all}
use Rattle.vn_rules.proofs.ListTests.{all_filter, all_weaker, all_both, none_filter}
use Rattle.vn_rules.proofs.Named.{NamesPass, names_parts, names_from, own_names}
use Rattle.vn_rules.proofs.SoundEdits.{tabled-sound}
use Rattle.vn_rules.proofs.SoundFacts.{SoundFacts, facts_from_sound}
use Rattle.vn_rules.proofs.PingRemoval.{without_pings-names, without_pings-passed, without_pings-sound}
use Rattle.vn_rules.proofs.ArpRemoval.{without_entries-names, without_entries-passed, without_entries-stopped, without_entries-sound}
use Rattle.vn_rules.proofs.SocketRemoval.{without_grams_by-names, without_grams_by-passed, without_grams_by-sound}
use Rattle.vn_rules.proofs.RouteRemoval.{if_flip, are_routes-kept, covers-purge}
use Rattle.vn_rules.proofs.AddressRemoval.{without_addr-names, without_addr-interfaces, without_addr-addresses, without_addr-timers, without_addr-sound}

-- ---- addresses one after another

module _ {N : Type 0} (same : N → N → Bool) where
  -- what holds of the parts and stays without each address holds at the end
  without_addrs-P : (P : PartsOf N → Type 0) → ((a : AddrOf N) (p : PartsOf N) → P p → P (without_addr same a p)) → (xs : List (AddrOf N)) (p : PartsOf N) → P p → P (without_addrs same xs p)
  without_addrs-P P goes [] p holds = holds
  without_addrs-P P goes (a ∷ xs) p holds = without_addrs-P P goes xs (without_addr same a p) (goes a p holds)

  -- an address of the interface is one of these
  abbrev is_listed : IfOf N → List (AddrOf N) → AddrOf N → Bool
  is_listed on xs x = not (is_on same on x) || list_any (λ a. is_same same a x) xs

  -- where these were all of the interface, none is left
  none_left : (on : IfOf N) (xs : List (AddrOf N)) (p : PartsOf N) → list_all (is_listed on xs) p.addresses ≡ true → list_all (λ x. not (is_on same on x)) (without_addrs same xs p).addresses ≡ true
  none_left on [] p listed = all_weaker (is_listed on []) (λ x. not (is_on same on x)) (λ x. by (not (is_on same on x))) p.addresses listed
    where
      by : (b : Bool) → b || false ≡ true → b ≡ true
      by true e = refl
      by false e = e
  none_left on (a ∷ xs) p listed = none_left on xs (without_addr same a p)
      (ap (list_all (is_listed on xs)) (without_addr-addresses same a p) ∙ all_filtered (is_listed on (a ∷ xs)) (is_listed on xs) (λ x. not (is_same same a x)) p.addresses (λ x. by (not (is_on same on x)) (is_same same a x) (list_any (λ a. is_same same a x) xs)) listed)
    where
      by : (b c d : Bool) → not c ≡ true → b || (c || d) ≡ true → b || d ≡ true
      by b true d kept is = absurd (both_ways (not true) refl kept)
      by b false d kept is = is

-- ---- a half that leaves

module _ {N : Type 0} (same : N → N → Bool) (h : N) (p : PartsOf N) where
  abbrev by_name : N → Ip4 → Bool
  by_name half ip = same half h

  abbrev unheard : PartsOf N
  unheard = without_grams_by same (Half h) p

  abbrev unpinged : PartsOf N
  unpinged = without_pings (is_out_by same (Half h)) unheard

  abbrev bare : PartsOf N
  bare = without_entries by_name unpinged

  without_names-names : (t : IfOf N → Bool) → NamesPass t p → NamesPass t (without_names same h p)
  unfolding without_names
  without_names-names t pass =
      let b = without_entries-names by_name unpinged t (without_pings-names (is_out_by same (Half h)) unheard t (without_grams_by-names same (Half h) p t pass)) in
      record {
        addresses = b.addresses;
        routes = all_filter (λ (e : Routed N). not (if_same same (target_if e.1) (Half h))) (λ (e : Routed N). t (target_if e.1)) p.routes pass.routes;
        arp = b.arp;
        pings = b.pings;
        grams = b.grams;
      }

  without_names-interfaces : (without_names same h p).interfaces ≡ p.interfaces
  unfolding without_names without_entries without_pings without_grams_by
  without_names-interfaces = refl

  without_names-addresses : (without_names same h p).addresses ≡ p.addresses
  unfolding without_names without_entries without_pings without_grams_by
  without_names-addresses = refl

  without_names-timers : (t : Timed N → Bool) → list_any t p.timers.standing ≡ false → list_any t (without_names same h p).timers.standing ≡ false
  unfolding without_names without_entries without_pings without_grams_by
  without_names-timers t none = none_filter _ t _ (none_filter _ t p.timers.standing none)

  -- no timer of its is left
  without_names-stopped : list_any (λ (e : Timed N). is_timer_of same h e.1) (without_names same h p).timers.standing ≡ false
  unfolding without_names
  without_names-stopped = none_from_all (λ (e : Timed N). is_timer_of same h e.1) (λ (e : Timed N). not (is_timer_where by_name e.1)) bare.timers.standing (λ e. by e.1) (without_entries-stopped by_name unpinged)
    where
      by : (t : TimerOf N) → not (is_timer_where by_name t) ≡ true → is_timer_of same h t ≡ false
      by (Arp half ip) kept = not-true _ kept
      by (Ping id arm) kept = refl

  module _ (decides : (a b : N) → Decides (same a b) (a ≡ b)) where
    -- and nothing names it, where no address did
    without_names-forgotten : list_all (λ (a : AddrOf N). not (is_on same (Half h) a)) p.addresses ≡ true → NamesPass (λ on. not (if_same same (Half h) on)) (without_names same h p)
    unfolding without_names without_entries without_pings without_grams_by
    without_names-forgotten addresses = record {
      addresses = all_weaker (λ (a : AddrOf N). not (is_on same (Half h) a)) (λ (a : AddrOf N). not (if_same same (Half h) a.on)) (λ a. turned a.on) p.addresses addresses;
      routes = all_weaker (λ (e : Routed N). not (if_same same (target_if e.1) (Half h))) (λ (e : Routed N). not (if_same same (Half h) (target_if e.1))) (λ e. turned (target_if e.1)) (after_purge_routes same (Half h) p.routes)
          (all_passed (λ (e : Routed N). not (if_same same (target_if e.1) (Half h))) p.routes);
      arp = all_weaker (λ (e : ArpEntryOf N). not (same e.half h)) (λ (e : ArpEntryOf N). not (same h e.half)) (λ e. turned (Half e.half)) bare.arp (without_entries-passed by_name unpinged);
      pings = all_weaker (λ g. not (is_out_by same (Half h) g)) (λ g. not (if_same same (Half h) g.out)) (λ g. turned g.out) unpinged.pings.awaited (without_pings-passed (is_out_by same (Half h)) unheard);
      grams = all_weaker (λ s. list_all (λ g. not (if_same same g.via (Half h))) s.queue) (λ s. list_all (λ g. not (if_same same (Half h) g.via)) s.queue)
          (λ s. all_weaker (λ g. not (if_same same g.via (Half h))) (λ g. not (if_same same (Half h) g.via)) (λ g. turned g.via) s.queue) unheard.sockets (without_grams_by-passed same (Half h) p);
    }
      where
        turned : (on : IfOf N) → not (if_same same on (Half h)) ≡ true → not (if_same same (Half h) on) ≡ true
        turned on e = ap not (if_flip same decides (Half h) on) ∙ e

    -- other halves are covered as before
    covered : (half : N) (ip : Ip4) → not (same half h) ≡ true → covers same (Half half) ip p.routes ≡ true → covers same (Half half) ip (after_purge_routes same (Half h) p.routes) ≡ true
    covered half ip other is = covers-purge same decides (Half h) (Half half) ip p.routes (not-true _ other) ∙ is

    arp_covered : list_all (λ (e : ArpEntryOf N). covers same (Half e.half) e.ip p.routes) bare.arp ≡ true → list_all (λ (e : ArpEntryOf N). covers same (Half e.half) e.ip (after_purge_routes same (Half h) p.routes)) bare.arp ≡ true
    arp_covered was = all_weaker (λ (e : ArpEntryOf N). covers same (Half e.half) e.ip p.routes && not (same e.half h)) (λ (e : ArpEntryOf N). covers same (Half e.half) e.ip (after_purge_routes same (Half h) p.routes)) by bare.arp
        (all_both (λ (e : ArpEntryOf N). covers same (Half e.half) e.ip p.routes) (λ (e : ArpEntryOf N). not (same e.half h)) bare.arp was (without_entries-passed by_name unpinged))
      where
        by : (e : ArpEntryOf N) → (covers same (Half e.half) e.ip p.routes && not (same e.half h)) ≡ true → covers same (Half e.half) e.ip (after_purge_routes same (Half h) p.routes) ≡ true
        by e is = let parts = and_parts (covers same (Half e.half) e.ip p.routes) (not (same e.half h)) is in covered e.half e.ip parts.1 parts.0

    founded : list_all (is_founded same p) p.routes ≡ true → list_all (is_founded same (without_names same h p)) (after_purge_routes same (Half h) p.routes) ≡ true
    unfolding without_names without_entries without_pings without_grams_by
    founded was = all_filtered (is_founded same p) (is_founded same (without_names same h p)) (λ (e : Routed N). not (if_same same (target_if e.1) (Half h))) p.routes by was
      where
        by : (e : Routed N) → not (if_same same (target_if e.1) (Half h)) ≡ true → is_founded same p e ≡ true → is_founded same (without_names same h p) e ≡ true
        by (to, Link own) kept is = is
        by (to, Gateway via half) kept is = covered half via kept is

    bared-sound : SoundFacts same (times_arp same) bare → SoundFacts same (times_arp same) p → is_sound_parts same (without_names same h p) ≡ true
    unfolding without_names without_entries without_pings without_grams_by binds_locally sends_locally covers_arp founds_routes
    bared-sound b s =
        tabled-sound same bare (without_names same h p) b (without_names-names (is_among same p.interfaces) (own_names same (times_arp same) p s))
        b.bound b.sources (arp_covered b.arp_covered) (founded s.founded)
        b.variables b.addresses (are_routes-kept (λ (e : Routed N). not (if_same same (target_if e.1) (Half h))) p.routes s.routes) b.sockets

    without_names-sound : is_sound_parts same p ≡ true → is_sound_parts same (without_names same h p) ≡ true
    without_names-sound sound =
        let b = without_entries-sound same decides by_name unpinged (without_pings-sound same (is_out_by same (Half h)) unheard (without_grams_by-sound same (Half h) p sound)) in
        bared-sound (facts_from_sound same (times_arp same) bare b) (facts_from_sound same (times_arp same) p sound)

-- ---- all of it

module _ {N : Type 0} (same : N → N → Bool) (h : N) (p : PartsOf N) where
  abbrev own_addresses : List (AddrOf N)
  own_addresses = filter (is_on same (Half h)) p.addresses

  abbrev unaddressed : PartsOf N
  unaddressed = without_addrs same own_addresses p

  -- what each interface passes that was named before, each passes that is named afterwards: nothing new is named
  pub purged-names : (t : IfOf N → Bool) → list_all t (named_ifs p) ≡ true → list_all t (named_ifs (purged same h p)) ≡ true
  unfolding purged
  purged-names t all = names_from t (without_names same h unaddressed) (without_names-names same h unaddressed t
      (without_addrs-P same (NamesPass t) (λ a q. without_addr-names same a q t) own_addresses p (names_parts t p all)))

  -- so what no part named, none names
  pub purged-unnamed : (on : IfOf N) → is_among same (named_ifs p) on ≡ false → is_among same (named_ifs (purged same h p)) on ≡ false
  purged-unnamed on none = none_from_all (if_same same on) (λ i. not (if_same same on i)) (named_ifs (purged same h p)) (λ i. not-true (if_same same on i))
      (purged-names (λ i. not (if_same same on i)) (all_from_none (if_same same on) (named_ifs p) none))

  pub purged-interfaces : (purged same h p).interfaces ≡ p.interfaces
  unfolding purged
  purged-interfaces = without_names-interfaces same h unaddressed
      ∙ without_addrs-P same (λ q. q.interfaces ≡ p.interfaces) (λ a q e. without_addr-interfaces same a q ∙ e) own_addresses p refl

  -- no timer comes
  pub purged-timers : (t : Timed N → Bool) → list_any t p.timers.standing ≡ false → list_any t (purged same h p).timers.standing ≡ false
  unfolding purged
  purged-timers t none = without_names-timers same h unaddressed t (without_addrs-P same (λ q. list_any t q.timers.standing ≡ false) (λ a q. without_addr-timers same a q t) own_addresses p none)

  -- no timer of the half is left
  pub purged-stopped : list_any (λ (e : Timed N). is_timer_of same h e.1) (purged same h p).timers.standing ≡ false
  unfolding purged
  purged-stopped = without_names-stopped same h unaddressed

  module _ (decides : (a b : N) → Decides (same a b) (a ≡ b)) where
    itself : (a : AddrOf N) → is_same same a a ≡ true
    itself a = and_from _ _ (and_from _ _ ((if_same-Decides same decides a.on a.on).1 refl) (eq-eqb a.ip.0 a.ip.0 refl)) (eq-eqb a.len a.len refl)

    all_listed : list_all (is_listed same (Half h) own_addresses) p.addresses ≡ true
    all_listed = all_in (λ a. true) (is_listed same (Half h) own_addresses) p.addresses (λ x is _. by x is (is_on same (Half h) x) refl) (always p.addresses)
      where
        always : (xs : List (AddrOf N)) → list_all (λ a. true) xs ≡ true
        always [] = refl
        always (a ∷ xs) = always xs

        here : (x : AddrOf N) → is_on same (Half h) x ≡ true → (a : AddrOf N) → is_on same (Half h) a ≡ false → is_same same a x ≡ false
        here x on a off = false_from_ne_true _ (λ e.
            let one = and_parts (if_same same x.on a.on && (x.ip.0 == a.ip.0)) (x.len == a.len) e in
            let two = and_parts (if_same same x.on a.on) (x.ip.0 == a.ip.0) one.0 in
            both_ways (is_on same (Half h) a) off (ap (λ (o : IfOf N). if_same same o (Half h)) (sym ((if_same-Decides same decides x.on a.on).0 two.0)) ∙ at))
          where
            at : if_same same x.on (Half h) ≡ true
            at = on

        by : (x : AddrOf N) → IsIn x p.addresses → (b : Bool) → is_on same (Half h) x ≡ b → not b || list_any (λ a. is_same same a x) own_addresses ≡ true
        by x is false off = refl
        by x is true on = any_filter (λ a. is_same same a x) (is_on same (Half h)) p.addresses (here x on) ∙ is (λ a. is_same same a x) (itself x)

    -- nothing names the half
    pub purged-forgotten : is_among same (named_ifs (purged same h p)) (Half h) ≡ false
    unfolding purged
    purged-forgotten = none_from_all (if_same same (Half h)) (λ on. not (if_same same (Half h) on)) (named_ifs (without_names same h unaddressed)) (λ on. not-true _)
        (names_from (λ on. not (if_same same (Half h) on)) (without_names same h unaddressed) (without_names-forgotten same h unaddressed decides (none_left same (Half h) own_addresses p all_listed)))

    pub purged-sound : is_sound_parts same p ≡ true → is_sound_parts same (purged same h p) ≡ true
    unfolding purged
    purged-sound sound = without_names-sound same h unaddressed decides (without_addrs-P same (λ q. is_sound_parts same q ≡ true) (λ a q. without_addr-sound same a q decides) own_addresses p sound)

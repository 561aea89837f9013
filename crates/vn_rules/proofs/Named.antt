-- A test that each interface passes which a stack's parts name.
use Rattle.std.proofs.Common.{◌≡◌, Bool, true, ◌&&◌, List, [], ◌∷◌, ◌++◌, map, refl, sym, ap₂, ◌∙◌}
use Rattle.std.specs.List.{list_all, flat_map}
use Rattle.std.proofs.lemmas.Bool.{and_parts}
use Rattle.std.proofs.lemmas.List.Folds.{list_all-append, list_all-map}
use Rattle.vn_types.specs.declared.interface.IfOf.{IfOf}
use Rattle.vn_types.specs.declared.interface.IfOf.TheVariants.{Half}
use Rattle.vn_rules.specs.declared.address.AddrOf.{AddrOf}
use Rattle.vn_rules.specs.declared.arp.ArpEntryOf.{ArpEntryOf}
use Rattle.vn_rules.specs.declared.ping.PingOf.{PingOf}
use Rattle.vn_rules.specs.declared.socket.GramOf.{GramOf}
use Rattle.vn_rules.specs.declared.socket.SocketOf.{SocketOf}
use Rattle.vn_rules.specs.declared.parts.PartsOf.{PartsOf}
use Rattle.vn_rules.specs.Interfaces.{queue_ifs, named_ifs, is_among}
use Rattle.vn_rules.specs.Routes.{Routed, target_if}
use Rattle.vn_rules.proofs.SoundFacts.{SoundFacts}

-- ---- what is named

module _ {N : Type 0} where
  -- each interface that the parts name passes the test
  pub record NamesPass (t : IfOf N → Bool) (p : PartsOf N) : Type 0 where
    pub addresses : list_all (λ (a : AddrOf N). t a.on) p.addresses ≡ true
    pub routes : list_all (λ (e : Routed N). t (target_if e.1)) p.routes ≡ true
    pub arp : list_all (λ (e : ArpEntryOf N). t (Half e.half)) p.arp ≡ true
    pub pings : list_all (λ (g : PingOf N). t g.out) p.pings.awaited ≡ true
    pub grams : list_all (λ (s : SocketOf N). list_all (λ (g : GramOf N). t g.via) s.queue) p.sockets ≡ true

  module _ (t : IfOf N → Bool) where
    -- sockets alone are changed
    pub with_sockets-names : (p : PartsOf N) (ss : List (SocketOf N)) → NamesPass t p → list_all (λ (s : SocketOf N). list_all (λ (g : GramOf N). t g.via) s.queue) ss ≡ true → NamesPass t (record p { sockets = ss })
    with_sockets-names p ss pass grams = record { addresses = pass.addresses; routes = pass.routes; arp = pass.arp; pings = pass.pings; grams = grams }

    pub all_queues : (ss : List (SocketOf N)) → list_all t (flat_map queue_ifs ss) ≡ list_all (λ (s : SocketOf N). list_all (λ (g : GramOf N). t g.via) s.queue) ss
    all_queues [] = refl
    all_queues (s ∷ ss) = list_all-append t (queue_ifs s) (flat_map queue_ifs ss) ∙ ap₂ ◌&&◌ (list_all-map t (λ (g : GramOf N). g.via) s.queue) (all_queues ss)

    all_named : (p : PartsOf N) → list_all t (named_ifs p)
        ≡ (list_all (λ (a : AddrOf N). t a.on) p.addresses && list_all (λ (e : Routed N). t (target_if e.1)) p.routes
        && list_all (λ (e : ArpEntryOf N). t (Half e.half)) p.arp && list_all (λ (g : PingOf N). t g.out) p.pings.awaited
        && list_all (λ (s : SocketOf N). list_all (λ (g : GramOf N). t g.via) s.queue) p.sockets)
    unfolding named_ifs
    all_named p =
        joined _ _ (joined _ _ (joined _ _ (joined _ _
        (list_all-map t (λ (a : AddrOf N). a.on) p.addresses)
        (list_all-map t (λ (e : Routed N). target_if e.1) p.routes))
        (list_all-map t (λ (e : ArpEntryOf N). Half e.half) p.arp))
        (list_all-map t (λ (g : PingOf N). g.out) p.pings.awaited))
        (all_queues p.sockets)
      where
        joined : {a b : Bool} (us vs : List (IfOf N)) → list_all t us ≡ a → list_all t vs ≡ b → list_all t (us ++ vs) ≡ (a && b)
        joined us vs e f = list_all-append t us vs ∙ ap₂ ◌&&◌ e f

    pub names_parts : (p : PartsOf N) → list_all t (named_ifs p) ≡ true → NamesPass t p
    names_parts p all =
        let a = and_parts _ (list_all (λ (s : SocketOf N). list_all (λ (g : GramOf N). t g.via) s.queue) p.sockets) (sym (all_named p) ∙ all) in
        let b = and_parts _ (list_all (λ (g : PingOf N). t g.out) p.pings.awaited) a.0 in
        let c = and_parts _ (list_all (λ (e : ArpEntryOf N). t (Half e.half)) p.arp) b.0 in
        let d = and_parts (list_all (λ (x : AddrOf N). t x.on) p.addresses) (list_all (λ (e : Routed N). t (target_if e.1)) p.routes) c.0 in
        record { addresses = d.0; routes = d.1; arp = c.1; pings = b.1; grams = a.1 }

    pub names_from : (p : PartsOf N) → NamesPass t p → list_all t (named_ifs p) ≡ true
    names_from p pass = all_named p ∙ rw (pass.addresses, pass.routes, pass.arp, pass.pings, pass.grams) refl

  module _ (t : IfOf N → Bool) (p : PartsOf N) (pass : NamesPass t p) where
    pub of_addresses : list_all t (map (λ (a : AddrOf N). a.on) p.addresses) ≡ true
    of_addresses = list_all-map t (λ (a : AddrOf N). a.on) p.addresses ∙ pass.addresses

    pub of_routes : list_all t (map (λ (e : Routed N). target_if e.1) p.routes) ≡ true
    of_routes = list_all-map t (λ (e : Routed N). target_if e.1) p.routes ∙ pass.routes

    pub of_arp : list_all t (map (λ (e : ArpEntryOf N). Half e.half) p.arp) ≡ true
    of_arp = list_all-map t (λ (e : ArpEntryOf N). Half e.half) p.arp ∙ pass.arp

    pub of_pings : list_all t (map (λ (g : PingOf N). g.out) p.pings.awaited) ≡ true
    of_pings = list_all-map t (λ (g : PingOf N). g.out) p.pings.awaited ∙ pass.pings

    pub of_grams : list_all t (flat_map queue_ifs p.sockets) ≡ true
    of_grams = all_queues t p.sockets ∙ pass.grams

-- what a sound stack names is its own
module _ {N : Type 0} (same : N → N → Bool) (times : PartsOf N → Bool) where
  pub own_names : (p : PartsOf N) → SoundFacts same times p → NamesPass (is_among same p.interfaces) p
  own_names p s = record {
    addresses = sym (list_all-map own (λ (a : AddrOf N). a.on) p.addresses) ∙ s.address_names;
    routes = sym (list_all-map own (λ (e : Routed N). target_if e.1) p.routes) ∙ s.route_names;
    arp = sym (list_all-map own (λ (e : ArpEntryOf N). Half e.half) p.arp) ∙ s.arp_names;
    pings = sym (list_all-map own (λ (g : PingOf N). g.out) p.pings.awaited) ∙ s.ping_names;
    grams = sym (all_queues own p.sockets) ∙ s.gram_names;
  }
    where
      own : IfOf N → Bool
      own = is_among same p.interfaces

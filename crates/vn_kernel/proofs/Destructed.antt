-- A stack in which nothing but lo0 stands is destructed in sound tables: they stay sound, and nothing is kept for it.
use Rattle.std.proofs.Common.{◌≡◌, ◌≢◌, ℕ, ◌||◌, Bool, true, false, not, cond, List, [], ◌∷◌, map, Option, None, refl, ap, ◌∙◌}
use Rattle.std.specs.Prelude.{filter, is_some, unwrap_or}
use Rattle.std.specs.List.{list_all, list_any}
use Rattle.std.proofs.lemmas.Bool.{and_parts, both_ways}
use Rattle.vn_types.specs.declared.interface.HalfId.{HalfId}
use Rattle.vn_types.specs.declared.interface.IfOf.{IfOf}
use Rattle.vn_types.specs.declared.interface.IfOf.TheVariants.{Lo0, Half}
use Rattle.vn_types.specs.Interfaces.{half_id_eq, if_same}
use Rattle.vn_types.specs.PerStack.{ChangesOnly}
use Rattle.vn_rules.specs.declared.address.AddrOf.{AddrOf}
use Rattle.vn_rules.specs.declared.arp.ArpEntryOf.{ArpEntryOf}
use Rattle.vn_rules.specs.declared.ping.PingsOf.{PingsOf}
use Rattle.vn_rules.specs.declared.socket.SocketOf.{SocketOf}
use Rattle.vn_rules.specs.declared.timer.TimersOf.{TimersOf}
use Rattle.vn_rules.specs.Addresses.{after_purge}
use Rattle.vn_rules.specs.Construction.{bare_parts}
use Rattle.vn_rules.specs.Interfaces.{is_among}
use Rattle.vn_rules.specs.Pings.{no_pings}
use Rattle.vn_rules.specs.Routes.{Routed, after_purge_routes, target_if}
use Rattle.vn_rules.specs.Soundness.{times_arp}
use Rattle.vn_rules.specs.Timers.{no_timers}
use Rattle.vn_rules.proofs.ListTests.{all_weaker}
use Rattle.vn_rules.proofs.SoundFacts.{SoundFacts, facts_from_sound}
use Rattle.vn_arp.specs.Kept.{KeptOf, entries_of}
use Rattle.vn_arp.specs.Stacks.{of as arp_of}
use Rattle.vn_arp.proofs.Known.{knows-new}
use Rattle.vn_callout.specs.Stacks.{of as timers_of}
use Rattle.vn_icmp.specs.Stacks.{of as pings_of}
use Rattle.vn_ifnet.specs.declared.interfaces.Attached.{Attached}
use Rattle.vn_ifnet.specs.Stacks.{Held, of as held_of, without}
use Rattle.vn_inaddr.specs.Stacks.{of as addresses_of}
use Rattle.vn_loop.specs.Queues.{Queue, of as loopback_of}
use Rattle.vn_route.specs.Stacks.{of as routes_of}
use Rattle.vn_sock.specs.Stacks.{of as sockets_of}
use Rattle.vn_store.specs.Held.{Held as Store, of as variables_of}
use Rattle.vn_vmove.specs.declared.counts.Counts.{Counts}
use Rattle.vn_vmove.specs.declared.tables.Tables.{Tables}
use Rattle.vn_vmove.specs.Parts.{held, lives, parts}
use Rattle.vn_vmove.specs.Sound.{IsSound, times}
use Rattle.vn_vmove.specs.Tallies.{first_counts, of as tallies_of}
use Rattle.vn_vmove.proofs.Deciding.{if-refl}
use Rattle.vn_vmove.proofs.Listing.{listed-count}
use Rattle.vn_kernel.specs.Destruction.{Destructs}
use Rattle.vn_kernel.specs.Removal.{IsAlone}
use Rattle.vn_kernel.proofs.Rebuilt.{BuildsOrRazes, rebuilds, unmapped}

-- ---- lists in which all is of lo0

abbrev is_lo : IfOf HalfId → Bool
is_lo on = if_same half_id_eq on Lo0

-- no half is listed, so all that is is lo0
all_lo : (ifs : List (IfOf HalfId)) → ((h : HalfId) → list_any (if_same half_id_eq (Half h)) ifs ≡ false) → list_all is_lo ifs ≡ true
all_lo [] none = refl
all_lo (Lo0 ∷ ifs) none = all_lo ifs none
all_lo (Half h ∷ ifs) none = absurd (both_ways _ (none h) (ap (λ b. b || list_any (if_same half_id_eq (Half h)) ifs) (if-refl (Half h))))

-- what is among them is lo0 too
among_lo : (ifs : List (IfOf HalfId)) → list_all is_lo ifs ≡ true → (on : IfOf HalfId) → is_among half_id_eq ifs on ≡ true → is_lo on ≡ true
among_lo ifs all Lo0 is = refl
among_lo [] all (Half h) is = cc
among_lo (Lo0 ∷ ifs) all (Half h) is = among_lo ifs all (Half h) is
among_lo (Half g ∷ ifs) all (Half h) is = cc

-- nothing is left of what is all of lo0
gone : {A : Type 0} (f : A → IfOf HalfId) (xs : List A) → list_all is_lo (map f xs) ≡ true → filter (λ x. not (is_lo (f x))) xs ≡ []
gone f [] all = refl
gone f (x ∷ xs) all =
    let both = and_parts (is_lo (f x)) _ all in
    ap (λ b. cond (not b) (x ∷ filter (λ y. not (is_lo (f y))) xs) (filter (λ y. not (is_lo (f y))) xs)) both.0 ∙ gone f xs both.1

-- and nothing of it is on a half
none_on : {A : Type 0} (f : A → HalfId) (xs : List A) → list_all is_lo (map (λ x. Half (f x)) xs) ≡ true → xs ≡ []
none_on f [] all = refl
none_on f (x ∷ xs) all = cc

-- ---- a stack in which nothing but lo0 stands

module _ (t : Tables) (s : IsSound t) (sid : ℕ) (alive : lives t sid ≡ true) (alone : IsAlone sid t) where
  lists_lo : list_all is_lo (parts t sid).interfaces ≡ true
  lists_lo = all_lo (parts t sid).interfaces (λ h. listed-count (Half h) (parts t sid).interfaces false (s.listed sid (Half h) ∙ ap times (alone.empty h)))

  facts : SoundFacts half_id_eq (times_arp half_id_eq) (parts t sid)
  facts = facts_from_sound half_id_eq (times_arp half_id_eq) (parts t sid) (s.tables sid alive)

  own_lo : (ifs : List (IfOf HalfId)) → list_all (is_among half_id_eq (parts t sid).interfaces) ifs ≡ true → list_all is_lo ifs ≡ true
  own_lo ifs own = all_weaker (is_among half_id_eq (parts t sid).interfaces) is_lo (among_lo (parts t sid).interfaces lists_lo) ifs own

  no-addresses : after_purge half_id_eq Lo0 (addresses_of t.addrs sid) ≡ []
  no-addresses = gone (λ (a : AddrOf HalfId). a.on) (addresses_of t.addrs sid) (own_lo _ facts.address_names)

  no-routes : after_purge_routes half_id_eq Lo0 (routes_of t.routes sid) ≡ []
  no-routes = gone (λ (e : Routed HalfId). target_if e.1) (routes_of t.routes sid) (own_lo _ facts.route_names)

  no-arp : arp_of t.arp sid ≡ []
  no-arp =
      unmapped (λ (k : KeptOf HalfId). k.entry) (arp_of t.arp sid)
      (none_on (λ (e : ArpEntryOf HalfId). e.half) (entries_of (arp_of t.arp sid)) (own_lo _ facts.arp_names))

  no-interfaces : without Lo0 (held t sid).attached ≡ []
  no-interfaces = gone (λ (a : Attached). a.what) (held t sid).attached lists_lo

-- ---- it is destructed

module _ (t : Tables) (s : IsSound t) (sid : ℕ) (alive : lives t sid ≡ true) (alone : IsAlone sid t)
    (pings : List (PingsOf HalfId)) (no_pings_here : pings_of pings sid ≡ no_pings) (other_pings : ChangesOnly sid (pings_of t.pings) (pings_of pings))
    (fewer : List (TimersOf HalfId)) (fewer_timers : ChangesOnly sid (timers_of t.wheel) (timers_of fewer))
    (wheel : List (TimersOf HalfId)) (no_timers_here : timers_of wheel sid ≡ no_timers) (other_timers : ChangesOnly sid (timers_of fewer) (timers_of wheel))
    (socks : List (List (SocketOf HalfId))) (no_sockets_here : sockets_of socks sid ≡ []) (other_sockets : ChangesOnly sid (sockets_of t.socks) (sockets_of socks))
    (routes : List (List (Routed HalfId))) (purged_routes : routes_of routes sid ≡ after_purge_routes half_id_eq Lo0 (routes_of t.routes sid)) (other_routes : ChangesOnly sid (routes_of t.routes) (routes_of routes))
    (addrs : List (List (AddrOf HalfId))) (purged_addresses : addresses_of addrs sid ≡ after_purge half_id_eq Lo0 (addresses_of t.addrs sid)) (other_addresses : ChangesOnly sid (addresses_of t.addrs) (addresses_of addrs))
    (ifs : List Held) (detached : held_of ifs sid ≡ record (held t sid) { attached = without Lo0 (held t sid).attached }) (other_interfaces : ChangesOnly sid (held t) (held_of ifs))
    (loops : List (Option Queue)) (no_queue_here : loopback_of loops sid ≡ None) (other_queues : ChangesOnly sid (loopback_of t.loops) (loopback_of loops))
    (vars : Store) (no_variables_here : variables_of vars sid ≡ None) (same_declared : vars.declared ≡ t.vars.declared) (other_variables : ChangesOnly sid (variables_of t.vars) (variables_of vars))
    (tallies : List (Option Counts)) (no_counts_here : tallies_of tallies sid ≡ None) (other_counts : ChangesOnly sid (tallies_of t.tallies) (tallies_of tallies)) where
  abbrev pub razed : Tables
  razed = record t { ifs = ifs; loops = loops; addrs = addrs; routes = routes; pings = pings; socks = socks; wheel = wheel; vars = vars; tallies = tallies }

  -- ---- what it has

  own-attached : (held razed sid).attached ≡ []
  own-attached = ap (λ (h : Held). h.attached) detached ∙ no-interfaces t s sid alive alone

  timers_there : (q : ℕ) → q ≢ sid → timers_of wheel q ≡ timers_of t.wheel q
  timers_there q ne = other_timers.others q ne ∙ fewer_timers.others q ne

  own-parts : parts razed sid ≡ bare_parts
  own-parts i = record {
    variables = unwrap_or (no_variables_here i) [];
    interfaces = map (λ (a : Attached). a.what) (own-attached i);
    addresses = (purged_addresses ∙ no-addresses t s sid alive alone) i;
    routes = (purged_routes ∙ no-routes t s sid alive alone) i;
    arp = entries_of (no-arp t s sid alive alone i);
    sockets = no_sockets_here i;
    timers = no_timers_here i;
    loopback = unwrap_or (no_queue_here i) [];
    pings = no_pings_here i;
    ident = (unwrap_or (no_counts_here i) first_counts).ident;
    drops = (unwrap_or (no_counts_here i) first_counts).drops;
  }

  other-parts : (q : ℕ) → q ≢ sid → parts razed q ≡ parts t q
  other-parts q ne i = record (parts t q) {
    variables = unwrap_or (other_variables.others q ne i) [];
    interfaces = map (λ (a : Attached). a.what) (other_interfaces.others q ne i).attached;
    addresses = other_addresses.others q ne i;
    routes = other_routes.others q ne i;
    sockets = other_sockets.others q ne i;
    timers = timers_there q ne i;
    loopback = unwrap_or (other_queues.others q ne i) [];
    pings = other_pings.others q ne i;
    ident = (unwrap_or (other_counts.others q ne i) first_counts).ident;
    drops = (unwrap_or (other_counts.others q ne i) first_counts).drops;
  }

  razes : BuildsOrRazes false sid t razed
  razes = record {
    lives_here = ap is_some no_counts_here;
    variables_here = ap is_some no_variables_here;
    queue_here = ap is_some no_queue_here;
    attached_here = own-attached;
    reserved_here = ap (λ (h : Held). h.reserved) detached;
    arms_here = knows-new (arp_of t.arp sid) (timers_of wheel sid) (no-arp t s sid alive alone) no_timers_here;
    parts_here = own-parts;
    lives_there = record { others = λ q ne. ap is_some (other_counts.others q ne) };
    variables_there = other_variables;
    queues_there = other_queues;
    interfaces_there = other_interfaces;
    arp_there = record { others = λ q ne. refl };
    timers_there = record { others = timers_there };
    parts_there = record { others = other-parts };
    declared = same_declared;
  }

  pub destructs : Destructs sid t razed
  destructs = rebuilds s alone razes

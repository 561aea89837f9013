-- An address comes: the parts stay sound, and renaming goes through; and so do the rules of `inet` and `-alias`.
use Rattle.std.proofs.Common.{◌≡◌, ℕ, Bool, true, false, not, ◌&&◌, ◌||◌, ◌==◌, nat_lt, nat_le, List, [], ◌∷◌, Option, Some, None, refl, sym, ap, ap₂, ◌∙◌, arith}
use Rattle.std.specs.Bool.{Decides}
use Rattle.std.specs.List.{list_any, list_all}
use Rattle.std.specs.Option.{option_map_or}
use Rattle.std.proofs.lemmas.Bool.{and_parts, and_from, or_parts, or_left, or_right, not-false, false_from_ne_true, both_ways, false≢true, eqb-true, eq-eqb}
use Rattle.std.proofs.lemmas.Bool.Decides.{nat_tests}
use Rattle.std.proofs.lemmas.List.Folds.{list_any-append}
use Rattle.vn_types.proofs.Options.{none_some}
use Rattle.vn_types.specs.declared.address.Ip4.{Ip4}
use Rattle.vn_types.specs.declared.errno.Errno.TheVariants.{Inval, Exist, AddrNotAvail}
use Rattle.vn_types.specs.declared.interface.IfOf.{IfOf}
use Rattle.vn_types.specs.Interfaces.{as_if}
use Rattle.vn_types.specs.Refusals.{first_refusal}
use Rattle.vn_types.proofs.InterfaceNames.{if_same-Decides}
use Rattle.vn_rules.specs.declared.address.AddrOf.{AddrOf}
use Rattle.vn_rules.specs.declared.ping.PingOf.{PingOf}
use Rattle.vn_rules.specs.declared.socket.SocketOf.{SocketOf}
use Rattle.vn_rules.specs.declared.route.TargetOf.{TargetOf}
use Rattle.vn_rules.specs.declared.route.TargetOf.TheVariants.{Link, Gateway}
use Rattle.vn_rules.specs.declared.parts.PartsOf.{PartsOf}
use Rattle.vn_rules.specs.AddressCommands.{with_address, inet_refusals, alias_refusals}
use Rattle.vn_rules.specs.Addresses.{prefix_of, is_unfit, is_half, has_broadcast, is_end, has_ip, local, after_add, is_address_of}
use Rattle.vn_rules.specs.Interfaces.{is_among}
use Rattle.vn_rules.specs.Networks.{network_of, lies_in, is_no_host, is_loopback}
use Rattle.vn_rules.specs.Orders.{are_distinct, are_addresses}
use Rattle.vn_rules.specs.Renamed.{as_addr, renamed}
use Rattle.vn_rules.specs.Routes.{Routed, is_link_on, route_at, can_link}
use Rattle.vn_rules.specs.Soundness.{is_bound_locally, binds_locally, sends_locally, times_arp, is_founded, covers_arp, founds_routes, is_sound_parts}
use Rattle.vn_rules.proofs.AddressLaws.{is_unfit-renamed, local-renamed, after_add-renamed, on_interface-renamed}
use Rattle.vn_rules.proofs.ListTests.{all_weaker, all_push, distinct_push}
use Rattle.vn_rules.proofs.Named.{NamesPass, own_names}
use Rattle.vn_rules.proofs.NetworkLaws.{is_network-of}
use Rattle.vn_rules.proofs.RouteAdded.{insert-sound}
use Rattle.vn_rules.proofs.RouteLaws.{can_link-renamed, after_link-renamed}
use Rattle.vn_rules.proofs.SoundEdits.{tabled-sound}
use Rattle.vn_rules.proofs.SoundFacts.{facts_from_sound}

module _ {N : Type 0} (same : N → N → Bool) (a : AddrOf N) (p : PartsOf N) where
  abbrev more : List (AddrOf N)
  more = after_add a p.addresses

  abbrev with_addr : PartsOf N
  with_addr = record p { addresses = more }

  -- what was local is local
  still_local : (ip : Ip4) → local ip p.addresses ≡ true → local ip more ≡ true
  still_local ip is = list_any-append (has_ip ip) p.addresses (a ∷ []) ∙ or_left _ _ is

  still_bound : (ip : Option Ip4) → is_bound_locally p ip ≡ true → is_bound_locally with_addr ip ≡ true
  still_bound None is = refl
  still_bound (Some ip) is = still_local ip is

  still_founded : (e : Routed N) → is_founded same p e ≡ true → is_founded same with_addr e ≡ true
  still_founded (to, Link on) is = list_any-append (is_address_of same on to) p.addresses (a ∷ []) ∙ or_left _ _ is
  still_founded (to, Gateway via half) is = is

  order : local a.ip p.addresses ≡ false → nat_lt 0 a.len ≡ true → nat_le a.len 32 ≡ true → are_addresses p.addresses ≡ true → are_addresses more ≡ true
  unfolding are_addresses
  order new some short right =
      let parts = and_parts (are_distinct (λ (x : AddrOf N) (y : AddrOf N). has_ip x.ip y) p.addresses) (list_all (λ (x : AddrOf N). nat_lt 0 x.len && nat_le x.len 32) p.addresses) right in
      and_from _ _ (distinct_push (λ (x : AddrOf N) (y : AddrOf N). has_ip x.ip y) a p.addresses parts.0 (turned p.addresses new))
      (all_push (λ (x : AddrOf N). nat_lt 0 x.len && nat_le x.len 32) a p.addresses parts.1 (and_from _ _ some short))
    where
      flip : (m n : ℕ) → (m == n) ≡ false → (n == m) ≡ false
      flip m n e = false_from_ne_true _ (λ f. both_ways (m == n) e (eq-eqb m n (sym (eqb-true n m f))))

      turned : (xs : List (AddrOf N)) → list_any (has_ip a.ip) xs ≡ false → list_any (λ (x : AddrOf N). has_ip x.ip a) xs ≡ false
      turned [] none = refl
      turned (x ∷ xs) none =
          let parts = or_parts (x.ip.0 == a.ip.0) (list_any (has_ip a.ip) xs) none in
          rw (flip x.ip.0 a.ip.0 parts.0) (turned xs parts.1)

  after_add-sound : is_among same p.interfaces a.on ≡ true → local a.ip p.addresses ≡ false → nat_lt 0 a.len ≡ true → nat_le a.len 32 ≡ true → is_sound_parts same p ≡ true → is_sound_parts same with_addr ≡ true
  unfolding binds_locally sends_locally covers_arp founds_routes
  after_add-sound own new some short sound =
      let s = facts_from_sound same (times_arp same) p sound in
      let n = own_names same (times_arp same) p s in
      let named : NamesPass (is_among same p.interfaces) with_addr = record { addresses = all_push (λ (x : AddrOf N). is_among same p.interfaces x.on) a p.addresses n.addresses own; routes = n.routes; arp = n.arp; pings = n.pings; grams = n.grams } in
      tabled-sound same p with_addr s named
      (all_weaker (λ (k : SocketOf N). is_bound_locally p k.ip) (λ (k : SocketOf N). is_bound_locally with_addr k.ip) (λ k. still_bound k.ip) p.sockets s.bound)
      (all_weaker (λ (g : PingOf N). local g.src p.addresses) (λ (g : PingOf N). local g.src more) (λ g. still_local g.src) p.pings.awaited s.sources)
      s.arp_covered
      (all_weaker (is_founded same p) (is_founded same with_addr) still_founded p.routes s.founded)
      s.variables (order new some short s.addresses) s.routes s.sockets

  -- ---- `inet`

  module _ (decides : (g h : N) → Decides (same g h) (g ≡ h)) where
    own_network : is_address_of same a.on (prefix_of a) a ≡ true
    unfolding lies_in
    own_network = and_from _ _ (and_from _ _ ((if_same-Decides same decides a.on a.on).1 refl) (eq-eqb a.len a.len refl)) (eq-eqb (network_of a.ip a.len).0 (network_of a.ip a.len).0 refl)

    fits : can_link same (prefix_of a) a.on p.routes ≡ true → (w : TargetOf N) → route_at (prefix_of a) p.routes ≡ Some w → w ≡ Link a.on
    fits can w there = by w (ap (λ o. option_map_or (is_link_on same a.on) o true) (sym there) ∙ can)
      where
        by : (t : TargetOf N) → is_link_on same a.on t ≡ true → t ≡ Link a.on
        by (Link own) is = ap Link ((if_same-Decides same decides own a.on).0 is)
        by (Gateway via half) is = absurd (false≢true is)

    -- the interface stands there, the length is at most 32, and nothing refuses the address
    pub with_address-sound : is_among same p.interfaces a.on ≡ true → nat_le a.len 32 ≡ true → first_refusal (inet_refusals same a p) ≡ None → is_sound_parts same p ≡ true → is_sound_parts same (with_address a p) ≡ true
    unfolding with_address
    with_address-sound own short none sound = insert-sound same decides with_addr (after_add-sound own new some short sound) (prefix_of a) (Link a.on) (is_network-of a.ip a.len short) (fits free) own founded
      where
        unrefused : (b c : Bool) → first_refusal ((b, Inval) ∷ (c, Exist) ∷ []) ≡ None → (b ≡ false) × (c ≡ false)
        unrefused true c e = absurd (none_some Inval (sym e))
        unrefused false true e = absurd (none_some Exist (sym e))
        unrefused false false e = (refl, refl)

        refusals : (is_unfit a ≡ false) × ((local a.ip p.addresses || not (can_link same (prefix_of a) a.on p.routes)) ≡ false)
        refusals = unrefused (is_unfit a) (local a.ip p.addresses || not (can_link same (prefix_of a) a.on p.routes)) none

        taken : (local a.ip p.addresses ≡ false) × (not (can_link same (prefix_of a) a.on p.routes) ≡ false)
        taken = or_parts (local a.ip p.addresses) _ refusals.1

        new : local a.ip p.addresses ≡ false
        new = taken.0

        free : can_link same (prefix_of a) a.on p.routes ≡ true
        free = not-false _ taken.1

        some : nat_lt 0 a.len ≡ true
        some = positive a.len (or_parts (is_no_host a.ip || (is_half a.on && is_loopback a.ip)) (a.len == 0) (or_parts _ (has_broadcast a && is_end a) refusals.0).0).1
          where
            positive : (n : ℕ) → (n == 0) ≡ false → nat_lt 0 n ≡ true
            positive n e = grind (arith, nat_tests)

        founded : list_any (is_address_of same a.on (prefix_of a)) more ≡ true
        founded = list_any-append (is_address_of same a.on (prefix_of a)) p.addresses (a ∷ []) ∙ or_right _ _ (or_left _ _ own_network)

-- ---- under other names of halves

module _ {N M : Type 0} (r : N → M) where
  pub with_address-renamed : (a : AddrOf N) (p : PartsOf N) → with_address (as_addr r a) (renamed r p) ≡ renamed r (with_address a p)
  unfolding with_address renamed
  with_address-renamed a p i = record (renamed r p) { addresses = after_add-renamed r a p.addresses i; routes = after_link-renamed r (prefix_of a) a.on p.routes i }

  module _ (at_n : N → N → Bool) (at_m : M → M → Bool) (faithful : (g h : N) → at_m (r g) (r h) ≡ at_n g h) where
    pub inet_refusals-renamed : (a : AddrOf N) (p : PartsOf N) → inet_refusals at_m (as_addr r a) (renamed r p) ≡ inet_refusals at_n a p
    unfolding renamed
    inet_refusals-renamed a p = ap₂ (λ b c. (b, Inval) ∷ (c, Exist) ∷ []) (is_unfit-renamed r a)
        (ap₂ (λ b c. b || not c) (local-renamed r a.ip p.addresses) (can_link-renamed r at_n at_m faithful (prefix_of a) a.on p.routes))

    pub alias_refusals-renamed : (on : IfOf N) (ip : Ip4) (p : PartsOf N) → alias_refusals at_m (as_if r on) ip (renamed r p) ≡ alias_refusals at_n on ip p
    unfolding renamed
    alias_refusals-renamed on ip p = ap (λ b. (not b, AddrNotAvail) ∷ []) (on_interface-renamed r at_n at_m faithful on ip p.addresses)

-- What stood on an address goes with it, in the tables as in the rules.
use Rattle.std.proofs.Common.{◌≡◌, ℕ, Bool, true, false, cond, not, List, [], ◌∷◌, Option, Some, None, map, refl, sym, ap, ◌∙◌}
use Rattle.std.specs.Prelude.{Ok, Err}
use Rattle.std.specs.List.{list_any, filter}
use Rattle.std.specs.Option.{ok_or}
use Rattle.std.proofs.lemmas.Bool.{and_parts, and_from}
use Rattle.vn_types.specs.declared.address.Ip4.{Ip4}
use Rattle.vn_types.specs.declared.address.Prefix.{Prefix}
use Rattle.vn_types.specs.declared.errno.Errno.{Errno}
use Rattle.vn_types.specs.declared.errno.Errno.TheVariants.{AddrNotAvail}
use Rattle.vn_types.specs.declared.interface.HalfId.{HalfId}
use Rattle.vn_types.specs.declared.interface.IfOf.{IfOf}
use Rattle.vn_types.specs.declared.interface.IfOf.TheVariants.{Lo0, Half}
use Rattle.vn_types.specs.Interfaces.{half_id_eq}
use Rattle.vn_types.specs.Refusals.{first_refusal}
use Rattle.vn_types.specs.PerStack.{ChangesOnly}
use Rattle.vn_types.proofs.InterfaceNames.{half_id_eq-Decides}
use Rattle.vn_types.proofs.PerStackLaws.{unchanged}
use Rattle.vn_rules.specs.declared.address.AddrOf.{AddrOf}
use Rattle.vn_rules.specs.declared.arp.ArpEntryOf.{ArpEntryOf}
use Rattle.vn_rules.specs.declared.parts.PartsOf.{PartsOf}
use Rattle.vn_rules.specs.declared.ping.PingsOf.{PingsOf}
use Rattle.vn_rules.specs.declared.socket.SocketOf.{SocketOf}
use Rattle.vn_rules.specs.declared.timer.TimerOf.{TimerOf}
use Rattle.vn_rules.specs.declared.timer.TimerOf.TheVariants.{Arp, Ping}
use Rattle.vn_rules.specs.declared.timer.TimersOf.{TimersOf}
use Rattle.vn_rules.specs.Addresses.{address_of, after_remove, has_ip, is_address_of, is_at, is_same, prefix_of, remove_answer, without_address}
use Rattle.vn_rules.specs.Arp.{is_timer_where, without_entries, without_timers_where}
use Rattle.vn_rules.specs.Construction.{bare_parts}
use Rattle.vn_rules.specs.Orders.{are_addresses, are_distinct}
use Rattle.vn_rules.specs.Pings.{is_from, is_out_by, pings_without, timers_without, without_pings}
use Rattle.vn_rules.specs.Purge.{dropped, is_uncovered, purged, routes_without, without_addr, without_found, without_names}
use Rattle.vn_rules.specs.Routes.{Routed, after_purge_routes, after_unlink}
use Rattle.vn_rules.specs.Sockets.{unbound, unbound_from, unheard, without_grams_by}
use Rattle.vn_rules.specs.Soundness.{times_arp}
use Rattle.vn_rules.specs.Timers.{Timed}
use Rattle.vn_rules.proofs.AddressRemoval.{dropped-sound}
use Rattle.vn_rules.proofs.ListTests.{absent-none, all_filter, all_kept, distinct_filter, found-some}
use Rattle.vn_rules.proofs.SoundFacts.{facts_from_sound}
use Rattle.vn_arp.specs.Kept.{Follows, KeptOf, entries_of}
use Rattle.vn_arp.specs.Stacks.{of as arp_of}
use Rattle.vn_arp.proofs.Followed.{removed}
use Rattle.vn_callout.specs.Stacks.{of as timers_of}
use Rattle.vn_icmp.specs.Stacks.{of as pings_of}
use Rattle.vn_inaddr.specs.Stacks.{of as addresses_of}
use Rattle.vn_route.specs.Stacks.{of as routes_of}
use Rattle.vn_sock.specs.Stacks.{of as sockets_of}
use Rattle.vn_vmove.specs.declared.tables.Tables.{Tables}
use Rattle.vn_vmove.specs.Leaving.{Leaves, unfounded}
use Rattle.vn_vmove.specs.Parts.{lives, parts}
use Rattle.vn_vmove.specs.Sound.{IsSound}
use Rattle.vn_vmove.proofs.Leaving.{leaves, leaves-sound, leaves_after, leaves_by, written}

abbrev Parts : Type 0
Parts = PartsOf HalfId

-- ---- ARP entries that go

-- what is left of entries and timers, as the rule says
went : (gone : HalfId → Ip4 → Bool) (rows new : List (KeptOf HalfId)) (before after : TimersOf HalfId) → Follows (without_entries gone) rows before new after
    → (entries_of new ≡ filter (λ (e : ArpEntryOf HalfId). not (gone e.half e.ip)) (entries_of rows)) × (after ≡ without_timers_where gone before)
unfolding without_entries
went gone rows new before after follows = (ap (λ (p : Parts). p.arp) (follows.parts bare_parts), ap (λ (p : Parts). p.timers) (follows.parts bare_parts))

none_passes : {X : Type 0} (test : X → Bool) → ((x : X) → test x ≡ false) → (xs : List X) → list_any test xs ≡ false
none_passes test fails [] = refl
none_passes test fails (x ∷ xs) = rw (fails x) (none_passes test fails xs)

-- where none goes, all stay with their timers
pub none_went : (gone : HalfId → Ip4 → Bool) (rows : List (KeptOf HalfId)) (t : TimersOf HalfId) → ((half : HalfId) (ip : Ip4) → gone half ip ≡ false) → Follows (without_entries gone) rows t rows t
none_went gone rows t stays =
    removed rows rows t t gone
    (sym (all_kept (λ (e : ArpEntryOf HalfId). gone e.half e.ip) (entries_of rows) (none_passes (λ (e : ArpEntryOf HalfId). gone e.half e.ip) (λ e. stays e.half e.ip) (entries_of rows))))
    (λ i. record t { standing = sym (all_kept (λ (e : Timed HalfId). is_timer_where gone e.1) t.standing (none_passes (λ (e : Timed HalfId). is_timer_where gone e.1) (λ e. no_timer e.1) t.standing)) i })
  where
    no_timer : (w : TimerOf HalfId) → is_timer_where gone w ≡ false
    no_timer (Arp half ip) = stays half ip
    no_timer (Ping id arm) = refl

-- lo0 has none that could go
pub lo0_keeps : (on : IfOf HalfId) (routes : List (Routed HalfId)) → ((h : HalfId) → on ≡ Half h → ⊥) → (half : HalfId) (ip : Ip4) → is_uncovered half_id_eq on routes half ip ≡ false
lo0_keeps Lo0 routes other half ip = refl
lo0_keeps (Half h) routes other half ip = absurd (other h refl)

-- ---- the interface route of an address

module _ (a : AddrOf HalfId) (to : Prefix) (is : to ≡ prefix_of a) (left : List (AddrOf HalfId)) (routes : List (Routed HalfId)) where
  abbrev has : Prefix → Bool
  has p = list_any (is_address_of half_id_eq a.on p) left

  pub route_stays : true ≡ has to → routes ≡ routes_without half_id_eq a left routes
  route_stays other = ap (λ b. cond b routes (after_unlink half_id_eq (prefix_of a) a.on routes)) (other ∙ ap has is)

  pub route_goes : (after : List (Routed HalfId)) → false ≡ has to → after ≡ after_unlink half_id_eq to a.on routes → after ≡ routes_without half_id_eq a left routes
  route_goes after none gone =
      gone ∙ ap (λ p. after_unlink half_id_eq p a.on routes) is ∙ ap (λ b. cond b routes (after_unlink half_id_eq (prefix_of a) a.on routes)) (none ∙ ap has is)

-- ---- the stack's own tables, step by step

module _ (sid : ℕ) (t : Tables) (routes : List (List (Routed HalfId))) (arp : List (List (KeptOf HalfId))) (pings : List (PingsOf HalfId)) (socks : List (List (SocketOf HalfId))) (between wheel : List (TimersOf HalfId)) where
  -- of an address that is gone
  pub founded-here : (a : AddrOf HalfId) → routes_of routes sid ≡ routes_without half_id_eq a (addresses_of t.addrs sid) (routes_of t.routes sid) → sockets_of socks sid ≡ map (unbound a.ip) (sockets_of t.socks sid)
      → pings_of pings sid ≡ pings_without (is_from a.ip) (pings_of t.pings sid) → timers_of between sid ≡ timers_without (is_from a.ip) (pings_of t.pings sid).awaited (timers_of t.wheel sid)
      → Follows (without_entries (is_uncovered half_id_eq a.on (routes_of routes sid))) (arp_of t.arp sid) (timers_of between sid) (arp_of arp sid) (timers_of wheel sid)
      → parts (written sid t t.addrs routes arp pings socks wheel) sid ≡ unfounded a (parts t sid)
  unfolding without_entries without_pings unbound_from
  founded-here a r s p w follows =
      let left = went (is_uncovered half_id_eq a.on (routes_of routes sid)) (arp_of t.arp sid) (arp_of arp sid) (timers_of between sid) (timers_of wheel sid) follows in
      let entries = left.0 ∙ ap (λ (rs : List (Routed HalfId)). filter (λ (e : ArpEntryOf HalfId). not (is_uncovered half_id_eq a.on rs e.half e.ip)) (entries_of (arp_of t.arp sid))) r in
      let timers = left.1 ∙ ap (λ (rs : List (Routed HalfId)). without_timers_where (is_uncovered half_id_eq a.on rs) (timers_of between sid)) r
      ∙ ap (without_timers_where (is_uncovered half_id_eq a.on (routes_without half_id_eq a (addresses_of t.addrs sid) (routes_of t.routes sid)))) w in
      λ i. record (parts t sid) { routes = r i; arp = entries i; pings = p i; sockets = s i; timers = timers i }

  -- of what names a half
  pub names-here : (h : HalfId) → routes_of routes sid ≡ after_purge_routes half_id_eq (Half h) (routes_of t.routes sid) → sockets_of socks sid ≡ map (unheard half_id_eq (Half h)) (sockets_of t.socks sid)
      → pings_of pings sid ≡ pings_without (is_out_by half_id_eq (Half h)) (pings_of t.pings sid) → timers_of between sid ≡ timers_without (is_out_by half_id_eq (Half h)) (pings_of t.pings sid).awaited (timers_of t.wheel sid)
      → Follows (without_entries (λ own ip. half_id_eq own h)) (arp_of t.arp sid) (timers_of between sid) (arp_of arp sid) (timers_of wheel sid)
      → parts (written sid t t.addrs routes arp pings socks wheel) sid ≡ without_names half_id_eq h (parts t sid)
  unfolding without_names without_entries without_pings without_grams_by
  names-here h r s p w follows =
      let left = went (λ own ip. half_id_eq own h) (arp_of t.arp sid) (arp_of arp sid) (timers_of between sid) (timers_of wheel sid) follows in
      let timers = left.1 ∙ ap (without_timers_where (λ own ip. half_id_eq own h)) w in
      λ i. record (parts t sid) { routes = r i; arp = left.0 i; pings = p i; sockets = s i; timers = timers i }

-- ---- what is answered

module _ (on : IfOf HalfId) (ip : Ip4) (addresses : List (AddrOf HalfId)) where
  found_by : (a : AddrOf HalfId) → Ok a ≡ remove_answer half_id_eq on ip addresses → address_of half_id_eq on ip addresses ≡ Some a
  found_by a is = by (address_of half_id_eq on ip addresses) is
    where
      by : (o : Option (AddrOf HalfId)) → Ok a ≡ ok_or o AddrNotAvail → o ≡ Some a
      by None bad = cc
      by (Some b) same = let inner : a ≡ b = cc in ap Some (sym inner)

  missing_by : (e : Errno) → Err e ≡ remove_answer half_id_eq on ip addresses → address_of half_id_eq on ip addresses ≡ None
  missing_by e is = by (address_of half_id_eq on ip addresses) is
    where
      by : (o : Option (AddrOf HalfId)) → Err e ≡ ok_or o AddrNotAvail → o ≡ None
      by None same = refl
      by (Some b) bad = cc

  abbrev refusal : Option Errno
  refusal = first_refusal ((not (list_any (is_at half_id_eq on ip) addresses), AddrNotAvail) ∷ [])

  pub not_refused : (a : AddrOf HalfId) → Ok a ≡ remove_answer half_id_eq on ip addresses → refusal ≡ None
  not_refused a is = ap (λ b. first_refusal ((not b, AddrNotAvail) ∷ [])) (found-some (is_at half_id_eq on ip) addresses a (found_by a is))

  pub refused_by : (e : Errno) → Err e ≡ remove_answer half_id_eq on ip addresses → refusal ≡ Some e
  refused_by e is =
      ap (λ b. first_refusal ((not b, AddrNotAvail) ∷ [])) (absent-none (is_at half_id_eq on ip) addresses (missing_by e is)) ∙ ap Some (sym (by (address_of half_id_eq on ip addresses) is))
    where
      by : (o : Option (AddrOf HalfId)) → Err e ≡ ok_or o AddrNotAvail → e ≡ AddrNotAvail
      by None same = cc
      by (Some b) bad = cc

-- ---- an address is removed

module _ (on : IfOf HalfId) (ip : Ip4) where
  -- without the address alone
  abbrev pub unlisted : Parts → Parts
  unlisted p = record p { addresses = after_remove half_id_eq on ip p.addresses }

  pub unlisted-found : (a : AddrOf HalfId) (p : Parts) → address_of half_id_eq on ip p.addresses ≡ Some a → unfounded a (unlisted p) ≡ dropped half_id_eq on ip p
  unfolding dropped without_addr without_entries without_pings unbound_from
  unlisted-found a p found = ap (λ o. unfounded a (record p { addresses = without_address half_id_eq o p.addresses })) found ∙ sym (ap (λ o. without_found half_id_eq o p) found)

  pub unlisted-none : (p : Parts) → address_of half_id_eq on ip p.addresses ≡ None → unlisted p ≡ dropped half_id_eq on ip p
  unfolding dropped
  unlisted-none p none = ap (λ o. record p { addresses = without_address half_id_eq o p.addresses }) none ∙ sym (ap (λ o. without_found half_id_eq o p) none)

  dropped-bare : dropped half_id_eq on ip bare_parts ≡ bare_parts
  unfolding dropped
  dropped-bare = refl

module _ (sid : ℕ) (t : Tables) (addrs : List (List (AddrOf HalfId))) (on : IfOf HalfId) (ip : Ip4) (after : addresses_of addrs sid ≡ after_remove half_id_eq on ip (addresses_of t.addrs sid)) (others : ChangesOnly sid (addresses_of t.addrs) (addresses_of addrs)) where
  unlisted-leaves : Leaves (unlisted on ip) sid t (record t { addrs = addrs })
  unlisted-leaves =
      leaves sid t addrs t.routes t.arp t.pings t.socks t.wheel (unlisted on ip) (λ i. record (parts t sid) { addresses = after i }) others
      (unchanged sid (routes_of t.routes)) (unchanged sid (arp_of t.arp)) (unchanged sid (pings_of t.pings)) (unchanged sid (sockets_of t.socks)) (unchanged sid (timers_of t.wheel)) (λ known. known)

  -- where there was one, what stood on it goes too
  pub dropped-leaves : (a : AddrOf HalfId) (u : Tables) → Ok a ≡ remove_answer half_id_eq on ip (addresses_of t.addrs sid) → Leaves (unfounded a) sid (record t { addrs = addrs }) u → Leaves (dropped half_id_eq on ip) sid t u
  dropped-leaves a u answer more =
      leaves_by (λ p. unfounded a (unlisted on ip p)) (dropped half_id_eq on ip) sid t u (unlisted-found on ip a (parts t sid) (found_by on ip (addresses_of t.addrs sid) a answer))
      (leaves_after (unlisted on ip) (unfounded a) sid t (record t { addrs = addrs }) u unlisted-leaves more)

  -- where there was none, nothing does
  pub kept-leaves : (e : Errno) → Err e ≡ remove_answer half_id_eq on ip (addresses_of t.addrs sid) → Leaves (dropped half_id_eq on ip) sid t (record t { addrs = addrs })
  kept-leaves e answer = leaves_by (unlisted on ip) (dropped half_id_eq on ip) sid t (record t { addrs = addrs }) (unlisted-none on ip (parts t sid) (missing_by on ip (addresses_of t.addrs sid) e answer)) unlisted-leaves

-- sound tables stay sound
pub dropped-sounds : (on : IfOf HalfId) (ip : Ip4) (sid : ℕ) (t u : Tables) → IsSound t → Leaves (dropped half_id_eq on ip) sid t u → IsSound u
dropped-sounds on ip sid t u sound l =
    leaves-sound (dropped half_id_eq on ip) sid t u l (λ p. dropped-sound half_id_eq on ip p half_id_eq-Decides) (dropped-bare on ip) sound

pub purged-bare : (h : HalfId) → purged half_id_eq h bare_parts ≡ bare_parts
unfolding purged without_names without_entries without_pings without_grams_by
purged-bare h = refl

-- ---- no address stands twice

no_addresses : are_addresses {N = HalfId} [] ≡ true
unfolding are_addresses
no_addresses = refl

-- in sound tables, whether the stack lives or not
pub sound-addresses : (t : Tables) → IsSound t → (q : ℕ) → are_addresses (parts t q).addresses ≡ true
sound-addresses t s q = by (lives t q) refl
  where
    by : (b : Bool) → lives t q ≡ b → are_addresses (parts t q).addresses ≡ true
    by true alive = (facts_from_sound half_id_eq (times_arp half_id_eq) (parts t q) (s.tables q alive)).addresses
    by false dead = ap (λ (p : Parts). are_addresses p.addresses) (s.bare q dead) ∙ no_addresses

fewer-addresses : (keep : AddrOf HalfId → Bool) (addresses : List (AddrOf HalfId)) → are_addresses addresses ≡ true → are_addresses (filter keep addresses) ≡ true
unfolding are_addresses
fewer-addresses keep addresses right =
    let two = and_parts (are_distinct (λ (a : AddrOf HalfId) (b : AddrOf HalfId). has_ip a.ip b) addresses) _ right in and_from _ _ (distinct_filter keep _ addresses two.0) (all_filter keep _ addresses two.1)

-- and so once one is removed
pub left-addresses : (on : IfOf HalfId) (ip : Ip4) (addresses : List (AddrOf HalfId)) → are_addresses addresses ≡ true → are_addresses (after_remove half_id_eq on ip addresses) ≡ true
left-addresses on ip addresses right = by (address_of half_id_eq on ip addresses)
  where
    by : (o : Option (AddrOf HalfId)) → are_addresses (without_address half_id_eq o addresses) ≡ true
    by None = right
    by (Some a) = fewer-addresses (λ b. not (is_same half_id_eq a b)) addresses right

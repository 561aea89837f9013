-- Parts under other names: what they name is renamed, tests on names go through, and renamings compose.
use Rattle.std.proofs.Common.{◌≡◌, Bool, true, false, cond, ◌||◌, List, [], ◌∷◌, ◌++◌, map, refl, sym, ap, ap₂, ◌∙◌}
use Rattle.std.specs.List.{flat_map}
use Rattle.std.proofs.lemmas.List.{map-append}
use Rattle.std.proofs.lemmas.Simd.{map-map}
use Rattle.vn_types.specs.declared.interface.IfOf.{IfOf}
use Rattle.vn_types.specs.declared.interface.IfOf.TheVariants.{Lo0, Half}
use Rattle.vn_types.specs.Interfaces.{as_if}
use Rattle.vn_types.proofs.InterfaceNames.{if_same-as_if}
use Rattle.vn_rules.specs.declared.address.AddrOf.{AddrOf}
use Rattle.vn_rules.specs.declared.route.TargetOf.{TargetOf}
use Rattle.vn_rules.specs.declared.route.TargetOf.TheVariants.{Link, Gateway}
use Rattle.vn_rules.specs.declared.arp.ArpEntryOf.{ArpEntryOf}
use Rattle.vn_rules.specs.declared.ping.PingOf.{PingOf}
use Rattle.vn_rules.specs.declared.socket.GramOf.{GramOf}
use Rattle.vn_rules.specs.declared.socket.SocketOf.{SocketOf}
use Rattle.vn_rules.specs.declared.timer.TimerOf.{TimerOf}
use Rattle.vn_rules.specs.declared.timer.TimerOf.TheVariants.{Arp, Ping}
use Rattle.vn_rules.specs.declared.parts.PartsOf.{PartsOf}
use Rattle.vn_rules.specs.Routes.{Routed, target_if}
use Rattle.vn_rules.specs.Interfaces.{queue_ifs, named_ifs, is_among, is_timer_of}
use Rattle.vn_rules.specs.Construction.{constructed_parts}
use Rattle.vn_rules.specs.Renamed.{as_addr, as_target, as_routed, as_arp, as_ping, as_gram, as_socket, as_timer, as_timed, renamed}

-- of two that are renamed the chosen one is renamed
pub cond-renamed : {A B : Type 0} (f : A → B) (x y : A) (b : Bool) → cond b (f x) (f y) ≡ f (cond b x y)
cond-renamed f x y true = refl
cond-renamed f x y false = refl

-- two ways round a square of functions
module _ {A B C D : Type 0} (f : A → B) (p : A → C) (q : B → D) (h : C → D) (same : (x : A) → q (f x) ≡ h (p x)) where
  pub map_square : (xs : List A) → map q (map f xs) ≡ map h (map p xs)
  map_square xs = map-map q f xs ∙ (λ i. map (λ x. same x i) xs) ∙ sym (map-map h p xs)

module _ {A B C : Type 0} (f : A → B) (g : B → C) (h : A → C) (same : (x : A) → g (f x) ≡ h x) where
  map_twice : (xs : List A) → map g (map f xs) ≡ map h xs
  map_twice xs = map-map g f xs ∙ (λ i. map (λ x. same x i) xs)

-- ---- what the renamed parts name

module _ {N M : Type 0} (r : N → M) where
  pub target_if-renamed : (t : TargetOf N) → target_if (as_target r t) ≡ as_if r (target_if t)
  target_if-renamed (Link on) = refl
  target_if-renamed (Gateway via on) = refl

  queues-renamed : (ss : List (SocketOf N)) → flat_map queue_ifs (map (as_socket r) ss) ≡ map (as_if r) (flat_map queue_ifs ss)
  queues-renamed [] = refl
  queues-renamed (s ∷ ss) =
      ap₂ ◌++◌ (map_square (as_gram r) (λ (g : GramOf N). g.via) (λ (g : GramOf M). g.via) (as_if r) (λ g. refl) s.queue) (queues-renamed ss)
      ∙ sym (map-append (as_if r) (queue_ifs s) (flat_map queue_ifs ss))

  pub named_ifs-renamed : (p : PartsOf N) → named_ifs (renamed r p) ≡ map (as_if r) (named_ifs p)
  unfolding named_ifs renamed
  named_ifs-renamed p =
      joined _ _ (joined _ _ (joined _ _ (joined _ _
      (map_square (as_addr r) (λ (a : AddrOf N). a.on) (λ (a : AddrOf M). a.on) (as_if r) (λ a. refl) p.addresses)
      (map_square (as_routed r) (λ (e : Routed N). target_if e.1) (λ (e : Routed M). target_if e.1) (as_if r) (λ e. target_if-renamed e.1) p.routes))
      (map_square (as_arp r) (λ (e : ArpEntryOf N). Half e.half) (λ (e : ArpEntryOf M). Half e.half) (as_if r) (λ e. refl) p.arp))
      (map_square (as_ping r) (λ (g : PingOf N). g.out) (λ (g : PingOf M). g.out) (as_if r) (λ g. refl) p.pings.awaited))
      (queues-renamed p.sockets)
    where
      joined : {xs ys : List (IfOf M)} (us vs : List (IfOf N)) → xs ≡ map (as_if r) us → ys ≡ map (as_if r) vs → xs ++ ys ≡ map (as_if r) (us ++ vs)
      joined us vs e f = ap₂ ◌++◌ e f ∙ sym (map-append (as_if r) us vs)

-- ---- tests on names

module _ {N M : Type 0} (r : N → M) (at_n : N → N → Bool) (at_m : M → M → Bool) (faithful : (a b : N) → at_m (r a) (r b) ≡ at_n a b) where
  pub is_among-renamed : (ifs : List (IfOf N)) (on : IfOf N) → is_among at_m (map (as_if r) ifs) (as_if r on) ≡ is_among at_n ifs on
  is_among-renamed [] on = refl
  is_among-renamed (i ∷ ifs) on = ap₂ (λ a b. a || b) (if_same-as_if r at_n at_m faithful on i) (is_among-renamed ifs on)

  pub is_timer_of-renamed : (half : N) (t : TimerOf N) → is_timer_of at_m (r half) (as_timer r t) ≡ is_timer_of at_n half t
  is_timer_of-renamed half (Arp own ip) = faithful own half
  is_timer_of-renamed half (Ping id arm) = refl

-- ---- renamings compose

module _ {N M L : Type 0} (r : N → M) (s : M → L) where
  abbrev both : N → L
  both n = s (r n)

  as_if-twice : (on : IfOf N) → as_if s (as_if r on) ≡ as_if both on
  as_if-twice Lo0 = refl
  as_if-twice (Half n) = refl

  as_addr-twice : (a : AddrOf N) → as_addr s (as_addr r a) ≡ as_addr both a
  as_addr-twice a i = record { on = as_if-twice a.on i; ip = a.ip; len = a.len }

  as_routed-twice : (e : Routed N) → as_routed s (as_routed r e) ≡ as_routed both e
  as_routed-twice e i = (e.0, by e.1 i)
    where
      by : (t : TargetOf N) → as_target s (as_target r t) ≡ as_target both t
      by (Link on) = ap Link (as_if-twice on)
      by (Gateway via on) = refl

  as_ping-twice : (p : PingOf N) → as_ping s (as_ping r p) ≡ as_ping both p
  as_ping-twice p i = record { id = p.id; src = p.src; dst = p.dst; out = as_if-twice p.out i; arm = p.arm }

  as_socket-twice : (k : SocketOf N) → as_socket s (as_socket r k) ≡ as_socket both k
  as_socket-twice k i = record (as_socket both k) {
    queue = map_twice (as_gram r) (as_gram s) (as_gram both) (λ g j. record { src = g.src; sport = g.sport; octets = g.octets; via = as_if-twice g.via j }) k.queue i;
  }

  as_timer-twice : (t : TimerOf N) → as_timer s (as_timer r t) ≡ as_timer both t
  as_timer-twice (Arp half ip) = refl
  as_timer-twice (Ping id arm) = refl

  pub renamed-twice : (p : PartsOf N) → renamed s (renamed r p) ≡ renamed both p
  unfolding renamed
  renamed-twice p i = record {
    variables = p.variables;
    interfaces = map_twice (as_if r) (as_if s) (as_if both) as_if-twice p.interfaces i;
    addresses = map_twice (as_addr r) (as_addr s) (as_addr both) as_addr-twice p.addresses i;
    routes = map_twice (as_routed r) (as_routed s) (as_routed both) as_routed-twice p.routes i;
    arp = map_twice (as_arp r) (as_arp s) (as_arp both) (λ e. refl) p.arp i;
    sockets = map_twice (as_socket r) (as_socket s) (as_socket both) as_socket-twice p.sockets i;
    timers = record { armed = p.timers.armed; standing = map_twice (as_timed r) (as_timed s) (as_timed both) (λ e j. (e.0, as_timer-twice e.1 j)) p.timers.standing i };
    loopback = p.loopback;
    pings = record { next = p.pings.next; awaited = map_twice (as_ping r) (as_ping s) (as_ping both) as_ping-twice p.pings.awaited i };
    ident = p.ident;
    drops = p.drops;
  }

-- ---- a stack that was just constructed names no half

module _ {N M : Type 0} (r : N → M) where
  pub constructed_parts-renamed : renamed r constructed_parts ≡ constructed_parts
  unfolding renamed
  constructed_parts-renamed = refl

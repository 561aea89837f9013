-- Two renamings that agree on each half that a stack's parts name give the same parts.
use Rattle.std.proofs.Common.{◌≡◌, Bool, true, ◌&&◌, List, [], ◌∷◌, ◌++◌, map, Option, Some, None, refl, sym, ap, ◌∙◌}
use Rattle.std.specs.List.{list_all, filter_map, cons_option}
use Rattle.std.specs.Option.{option_map_or}
use Rattle.std.proofs.lemmas.Bool.{and_parts}
use Rattle.std.proofs.lemmas.List.Folds.{list_all-append}
use Rattle.vn_types.specs.declared.interface.IfOf.{IfOf}
use Rattle.vn_types.specs.declared.interface.IfOf.TheVariants.{Lo0, Half}
use Rattle.vn_types.specs.Interfaces.{as_if}
use Rattle.vn_rules.specs.declared.address.AddrOf.{AddrOf}
use Rattle.vn_rules.specs.declared.arp.ArpEntryOf.{ArpEntryOf}
use Rattle.vn_rules.specs.declared.ping.PingOf.{PingOf}
use Rattle.vn_rules.specs.declared.route.TargetOf.{TargetOf}
use Rattle.vn_rules.specs.declared.route.TargetOf.TheVariants.{Link, Gateway}
use Rattle.vn_rules.specs.declared.socket.GramOf.{GramOf}
use Rattle.vn_rules.specs.declared.socket.SocketOf.{SocketOf}
use Rattle.vn_rules.specs.declared.timer.TimerOf.{TimerOf}
use Rattle.vn_rules.specs.declared.timer.TimerOf.TheVariants.{Arp, Ping}
use Rattle.vn_rules.specs.declared.parts.PartsOf.{PartsOf}
use Rattle.vn_rules.specs.Interfaces.{if_half, timer_half, named_ifs, halves_in}
use Rattle.vn_rules.specs.Renamed.{as_addr, as_target, as_routed, as_arp, as_ping, as_gram, as_socket, as_timer, as_timed, renamed}
use Rattle.vn_rules.specs.Routes.{Routed, target_if}
use Rattle.vn_rules.specs.Timers.{Timed}
use Rattle.vn_rules.proofs.Named.{NamesPass, names_parts}

-- what each of the halves passes that some things have, each thing passes that has one
all_filter_map : {X Y : Type 0} (h : X → Option Y) (t : Y → Bool) (xs : List X) → list_all t (filter_map h xs) ≡ list_all (λ x. option_map_or t (h x) true) xs
all_filter_map h t [] = refl
all_filter_map {X} {Y} h t (x ∷ xs) = by (h x) (all_filter_map h t xs)
  where
    by : (o : Option Y) → list_all t (filter_map h xs) ≡ list_all (λ x. option_map_or t (h x) true) xs
        → list_all t (cons_option o (filter_map h xs)) ≡ (option_map_or t o true && list_all (λ x. option_map_or t (h x) true) xs)
    by None more = more
    by (Some y) more = ap (λ b. t y && b) more

map_agree : {A B : Type 0} (t : A → Bool) (f g : A → B) → ((x : A) → t x ≡ true → f x ≡ g x) → (xs : List A) → list_all t xs ≡ true → map f xs ≡ map g xs
map_agree t f g same [] all = refl
map_agree t f g same (x ∷ xs) all = let parts = and_parts (t x) (list_all t xs) all in λ i. same x parts.0 i ∷ map_agree t f g same xs parts.1 i

module _ {N M : Type 0} (t : N → Bool) (r s : N → M) (agree : (h : N) → t h ≡ true → r h ≡ s h) where
  abbrev passes : IfOf N → Bool
  passes on = option_map_or t (if_half on) true

  if_agree : (on : IfOf N) → passes on ≡ true → as_if r on ≡ as_if s on
  if_agree Lo0 is = refl
  if_agree (Half h) is = ap Half (agree h is)

  target_agree : (x : TargetOf N) → passes (target_if x) ≡ true → as_target r x ≡ as_target s x
  target_agree (Link on) is = ap Link (if_agree on is)
  target_agree (Gateway via half) is = ap (Gateway via) (agree half is)

  timer_agree : (x : TimerOf N) → option_map_or t (timer_half x) true ≡ true → as_timer r x ≡ as_timer s x
  timer_agree (Arp half ip) is = ap (λ h. Arp h ip) (agree half is)
  timer_agree (Ping id arm) is = refl

  socket_agree : (k : SocketOf N) → list_all (λ (g : GramOf N). passes g.via) k.queue ≡ true → as_socket r k ≡ as_socket s k
  socket_agree k all i = record (as_socket r k) {
    queue = map_agree (λ (g : GramOf N). passes g.via) (as_gram r) (as_gram s) (λ g is j. record { src = g.src; sport = g.sport; octets = g.octets; via = if_agree g.via is j }) k.queue all i;
  }

  pub renamed-agree : (p : PartsOf N) → list_all t (halves_in p) ≡ true → renamed r p ≡ renamed s p
  unfolding halves_in renamed
  renamed-agree p all i = record (renamed r p) {
    interfaces = map_agree passes (as_if r) (as_if s) if_agree p.interfaces interfaces i;
    addresses = map_agree (λ (a : AddrOf N). passes a.on) (as_addr r) (as_addr s) (λ a is j. record { on = if_agree a.on is j; ip = a.ip; len = a.len }) p.addresses names.addresses i;
    routes = map_agree (λ (e : Routed N). passes (target_if e.1)) (as_routed r) (as_routed s) (λ e is j. (e.0, target_agree e.1 is j)) p.routes names.routes i;
    arp = map_agree (λ (e : ArpEntryOf N). passes (Half e.half)) (as_arp r) (as_arp s) (λ e is j. record (as_arp r e) { half = agree e.half is j }) p.arp names.arp i;
    sockets = map_agree (λ (k : SocketOf N). list_all (λ (g : GramOf N). passes g.via) k.queue) (as_socket r) (as_socket s) socket_agree p.sockets names.grams i;
    timers = record { armed = p.timers.armed; standing = map_agree (λ (e : Timed N). option_map_or t (timer_half e.1) true) (as_timed r) (as_timed s) (λ e is j. (e.0, timer_agree e.1 is j)) p.timers.standing timers i };
    pings = record { next = p.pings.next; awaited = map_agree (λ (g : PingOf N). passes g.out) (as_ping r) (as_ping s) (λ g is j. record (as_ping r g) { out = if_agree g.out is j }) p.pings.awaited names.pings i };
  }
    where
      parts : ((list_all t (filter_map if_half p.interfaces) && list_all t (filter_map if_half (named_ifs p))) ≡ true) × (list_all t (filter_map (λ (e : Timed N). timer_half e.1) p.timers.standing) ≡ true)
      parts = and_parts _ _ (sym (list_all-append t (filter_map if_half p.interfaces ++ filter_map if_half (named_ifs p)) (filter_map (λ (e : Timed N). timer_half e.1) p.timers.standing)
          ∙ ap (λ b. b && list_all t (filter_map (λ (e : Timed N). timer_half e.1) p.timers.standing)) (list_all-append t (filter_map if_half p.interfaces) (filter_map if_half (named_ifs p)))) ∙ all)

      halves : (list_all t (filter_map if_half p.interfaces) ≡ true) × (list_all t (filter_map if_half (named_ifs p)) ≡ true)
      halves = and_parts (list_all t (filter_map if_half p.interfaces)) (list_all t (filter_map if_half (named_ifs p))) parts.0

      interfaces : list_all passes p.interfaces ≡ true
      interfaces = sym (all_filter_map if_half t p.interfaces) ∙ halves.0

      names : NamesPass passes p
      names = names_parts passes p (sym (all_filter_map if_half t (named_ifs p)) ∙ halves.1)

      timers : list_all (λ (e : Timed N). option_map_or t (timer_half e.1) true) p.timers.standing ≡ true
      timers = sym (all_filter_map (λ (e : Timed N). timer_half e.1) t p.timers.standing) ∙ parts.1

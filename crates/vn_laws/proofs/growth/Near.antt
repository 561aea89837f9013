-- What each event in one stack arms and counts, by the machine's rules.
use Rattle.std.proofs.Common.{◌≡◌, ◌≤◌, ℕ, ◌+◌, ◌*◌, true, false, List, Option, Some, None, refl, sym, ap, subst, arith}
use Rattle.vn_types.specs.declared.address.Ip4.{Ip4}
use Rattle.vn_types.specs.declared.half.Half.{Half}
use Rattle.vn_types.specs.declared.interface.IfOf.TheVariants.{Lo0, Half as OfHalf}
use Rattle.vn_types.specs.Refusals.{first_refusal}
use Rattle.vn_rules.specs.declared.address.AddrOf.{AddrOf}
use Rattle.vn_rules.specs.declared.parts.PartsOf.{PartsOf}
use Rattle.vn_rules.specs.AddressCommands as tables
use Rattle.vn_rules.specs.AddressCommands.{alias_rule, with_address}
use Rattle.vn_rules.specs.Addresses.{address_of}
use Rattle.vn_rules.specs.Arp.{without_entries}
use Rattle.vn_rules.specs.Orders.{are_arp_entries}
use Rattle.vn_rules.specs.Purge.{dropped, without_found}
use Rattle.vn_rules.specs.Resolution.{after_arp_delete}
use Rattle.vn_rules.specs.RouteCommands.{add_rule, delete_rule}
use Rattle.vn_rules.specs.Rules.{Common}
use Rattle.vn_rules.specs.Scenes.{SceneOf, is_sound_scene}
use Rattle.vn_rules.specs.SocketCommands.{open_rule, bind_rule, ttl_rule, close_rule}
use Rattle.vn_rules.specs.TableCommands.{get_rule, set_rule, arp_delete_rule}
use Rattle.vn_rules.proofs.LinkLaws.{set_up-parts}
use Rattle.vn_packets.specs.AddressLinks.{announced_on, inet_rule}
use Rattle.vn_packets.specs.Fired.{fired}
use Rattle.vn_packets.specs.Growth.{Grows}
use Rattle.vn_packets.specs.Reception.{frame_received, loop_received}
use Rattle.vn_packets.specs.Statistics.{stat_rule}
use Rattle.vn_packets.proofs.CommandGrowth.{addresses_of, announced_on-grows, arp_set_rule-grows, connect_rule-grows, ping_rule-grows, recv_rule-grows, send_rule-grows, up_rule-grows}
use Rattle.vn_packets.proofs.PacketGrowth.{fired-grows, frame_received-grows, loop_received-grows}
use Rattle.vn_packets.proofs.SceneGrowth.{counts-same}
use Rattle.vn_packets.proofs.Whole.{right-entries}
use Rattle.vn_cells.specs.declared.command.Command.{Command}
use Rattle.vn_cells.specs.declared.command.Command.TheVariants as command
use Rattle.vn_cells.specs.declared.event.Event.{Event}
use Rattle.vn_cells.specs.declared.event.Event.TheVariants as event
use Rattle.vn_cells.specs.declared.world.Reader.{Reader}
use Rattle.vn_cells.specs.world.Names.{Path, If, half_eq, half_name}
use Rattle.vn_cells.specs.machine.Commands.{near_rule, named_in, payload_octets}
use Rattle.vn_cells.specs.machine.Local.{Here, fired_in, heard_in, heard_where, hearing, local, near_answer}
use Rattle.vn_laws.proofs.growth.Acted.{scene_counted}
use Rattle.vn_laws.proofs.growth.Numbers.{numbers, held_few, is_small, small-more, small-raised, Raised, raised-grows, raised-less, raised-more, raised-then, Less, less-refl}
use Rattle.vn_laws.proofs.growth.Parts.{on_halves-more, on_one, without_addr-less}
use Rattle.vn_laws.proofs.local.Acted.{sound_scene}
use Rattle.vn_laws.proofs.rule.Answers.{answered}

-- what an event of a stack that has so many events behind it may add
abbrev Little : ℕ → PartsOf Half → PartsOf Half → Type 0
Little n p q = Raised (2 * n + 18) 2 1 (numbers p) (numbers q)

-- ---- commands

dropped-less : (on : If) (ip : Ip4) (p : PartsOf Half) → Less (numbers (dropped half_eq on ip p)) (numbers p)
unfolding dropped
dropped-less on ip p = by (address_of half_eq on ip p.addresses)
  where
    by : (o : Option (AddrOf Half)) → Less (numbers (without_found half_eq o p)) (numbers p)
    by None = less-refl (numbers p)
    by (Some a) = without_addr-less a p

module _ (n : ℕ) where
  little : (p q : PartsOf Half) → Raised 0 0 0 (numbers p) (numbers q) → Little n p q
  little p q g = raised-more (numbers p) (numbers q) (omega arith) (omega arith) (omega arith) g

  little-same : (p q : PartsOf Half) → numbers q ≡ numbers p → Little n p q
  little-same p q same = little p q (raised-less (numbers p) (numbers q) (subst (λ x. Less x (numbers p)) (sym same) (less-refl (numbers p))))

  inet-little : (on : Option If) (ip : Ip4) (len : ℕ) (s : SceneOf Half) → first_refusal (inet_rule half_eq on ip len s).refusals ≡ None
      → Little n s.parts (inet_rule half_eq on ip len s).otherwise.left.parts
  unfolding inet_rule tables.inet_rule with_address
  inet-little None ip len s none = absurd (cc)
  inet-little (Some on) ip len s none =
      let a : AddrOf Half = record { on = on; ip = ip; len = len } in
      let given : SceneOf Half = record s { parts = with_address a s.parts } in
      let left : SceneOf Half = announced_on half_eq (Some on) ip given in
      let held = on_halves-more a s.parts.addresses in
      raised-more (numbers s.parts) (numbers left.parts) (omega arith) (omega arith) (omega arith)
      (raised-then {k = 0} {a = 0} {c = 1} (numbers s.parts) (numbers given.parts) (numbers left.parts)
      (record { timers = omega arith; drops = counts-same s.parts.drops s.parts.drops refl; held = held })
      (raised-grows given.parts left.parts (announced_on-grows half_eq (Some on) ip given)))

  alias-little : (on : Option If) (ip : Ip4) (s : SceneOf Half) → first_refusal (alias_rule half_eq on ip s.parts).refusals ≡ None
      → Little n s.parts (alias_rule half_eq on ip s.parts).otherwise.left
  unfolding alias_rule
  alias-little None ip s none = absurd (cc)
  alias-little (Some on) ip s none = little s.parts (dropped half_eq on ip s.parts) (raised-less (numbers s.parts) (numbers (dropped half_eq on ip s.parts)) (dropped-less on ip s.parts))

  module _ (common : Common) (s : SceneOf Half) (sound : is_sound_scene half_eq s ≡ true) (small : is_small n (numbers s.parts) ≡ true) where
    up-little : (on : Option If) (t : SceneOf Half) → addresses_of half_eq on s.parts.addresses ≤ n → Grows (addresses_of half_eq on s.parts.addresses) 0 s.parts t.parts → Little n s.parts t.parts
    up-little on t few grows = raised-more (numbers s.parts) (numbers t.parts) (omega (arith, few)) (omega arith) (omega arith) (raised-grows s.parts t.parts grows)

    few : (on : Option If) → addresses_of half_eq on s.parts.addresses ≤ n
    few None = omega arith
    few (Some Lo0) = omega arith
    few (Some (OfHalf h)) = let less = on_one h s.parts.addresses in let most = held_few n (numbers s.parts) small in omega (arith, less, most)

    grown : {k a : ℕ} (t : SceneOf Half) → k ≤ 18 → a ≤ 2 → Grows k a s.parts t.parts → Little n s.parts t.parts
    grown t counts armed grows = raised-more (numbers s.parts) (numbers t.parts) (omega (arith, counts)) armed (omega arith) (raised-grows s.parts t.parts grows)

    right : are_arp_entries s.parts.arp ≡ true
    right = right-entries half_eq s sound

    abbrev left : Command → SceneOf Half
    left command = (near_rule half_eq half_name common command s).otherwise.left

    near-little : (command : Command) → first_refusal (near_rule half_eq half_name common command s).refusals ≡ None
        → Little n s.parts (near_rule half_eq half_name common command s).otherwise.left.parts
    unfolding near_rule stat_rule add_rule delete_rule arp_delete_rule after_arp_delete without_entries get_rule set_rule open_rule bind_rule ttl_rule close_rule
    near-little (command.Inet name ip len) none = inet-little (named_in half_name name s) ip len s none
    near-little (command.InetRemove name ip) none = alias-little (named_in half_name name s) ip s none
    near-little (command.Up name) none = let on = named_in half_name name s in up-little on (left (command.Up name)) (few on) (up_rule-grows half_eq on s)
    near-little (command.Down name) none = little-same s.parts (left (command.Down name)).parts (ap numbers (set_up-parts half_eq false (named_in half_name name s) s))
    near-little (command.RouteAdd to via) none = little-same s.parts (left (command.RouteAdd to via)).parts refl
    near-little (command.RouteDelete to) none = little-same s.parts (left (command.RouteDelete to)).parts refl
    near-little (command.ArpSet ip mac) none = grown (left (command.ArpSet ip mac)) (omega arith) (omega arith) (arp_set_rule-grows half_eq ip mac s right)
    near-little (command.ArpDelete ip) none = little-same s.parts (left (command.ArpDelete ip)).parts refl
    near-little (command.SysctlGet name) none = little-same s.parts (left (command.SysctlGet name)).parts refl
    near-little (command.SysctlSet name value) none = little-same s.parts (left (command.SysctlSet name value)).parts refl
    near-little (command.Ping ttl ip) none = grown (left (command.Ping ttl ip)) (omega arith) (omega arith) (ping_rule-grows half_eq common ttl ip s)
    near-little (command.UdpOpen sock) none = little-same s.parts (left (command.UdpOpen sock)).parts refl
    near-little (command.UdpBind sock ip port) none = little-same s.parts (left (command.UdpBind sock ip port)).parts refl
    near-little (command.UdpConnect sock ip port) none = grown (left (command.UdpConnect sock ip port)) (omega arith) (omega arith) (connect_rule-grows half_eq sock ip port s)
    near-little (command.UdpSend sock body to) none = grown (left (command.UdpSend sock body to)) (omega arith) (omega arith) (send_rule-grows half_eq common sock (payload_octets body) to s)
    near-little (command.UdpRecv sock) none = grown (left (command.UdpRecv sock)) (omega arith) (omega arith) (recv_rule-grows sock s)
    near-little (command.UdpTtl sock ttl) none = little-same s.parts (left (command.UdpTtl sock ttl)).parts refl
    near-little (command.UdpClose sock) none = little-same s.parts (left (command.UdpClose sock)).parts refl
    near-little _ none = little-same s.parts s.parts refl

  near-counted : (common : Common) (command : Command) (o : Option (SceneOf Half)) → sound_scene o ≡ true → scene_counted (is_small n) o ≡ true
      → scene_counted (is_small (n + 1)) (near_answer common command o).left ≡ true
  unfolding near_answer
  near-counted common command None sound e = refl
  near-counted common command (Some s) sound e =
      answered (λ (t : SceneOf Half). is_small (n + 1) (numbers t.parts) ≡ true) (near_rule half_eq half_name common command s) (small-more n (numbers s.parts) e)
      (λ none. small-raised n (numbers s.parts) (numbers (near_rule half_eq half_name common command s).otherwise.left.parts) e (near-little common s sound e command none))

  -- ---- deliveries and timers

  raised : {k a : ℕ} (s t : SceneOf Half) → k ≤ 18 → a ≤ 2 → is_small n (numbers s.parts) ≡ true → Grows k a s.parts t.parts → is_small (n + 1) (numbers t.parts) ≡ true
  raised s t counts armed e grows =
      small-raised n (numbers s.parts) (numbers t.parts) e (raised-more (numbers s.parts) (numbers t.parts) (omega (arith, counts)) armed (omega arith) (raised-grows s.parts t.parts grows))

  pub counted-heard : (h : Half) (frame : List ℕ) (common : Common) (p : Path) (here : Here) (event : Event) → sound_scene here.scene ≡ true
      → scene_counted (is_small n) here.scene ≡ true → scene_counted (is_small (n + 1)) (hearing h frame common p here event).scene ≡ true
  unfolding hearing
  counted-heard h frame common p here event sound e = by here.scene sound e
    where
      by : (o : Option (SceneOf Half)) → sound_scene o ≡ true → scene_counted (is_small n) o ≡ true
          → scene_counted (is_small (n + 1)) (hearing h frame common p (record here { scene = o }) event).scene ≡ true
      by None sound e = refl
      by (Some s) sound e = raised s (frame_received half_eq common h frame s).left (omega arith) (omega arith) e (frame_received-grows half_eq common s (right-entries half_eq s sound) h frame)

  looped : (common : Common) (o : Option (SceneOf Half)) (readers : List Reader) → scene_counted (is_small n) o ≡ true
      → scene_counted (is_small (n + 1)) (heard_where (λ s. heard_in (loop_received half_eq common s)) (record { scene = o; readers = readers })).scene ≡ true
  looped common None readers e = refl
  looped common (Some s) readers e = raised s (loop_received half_eq common s).left (omega arith) (omega arith) e (loop_received-grows half_eq common s)

  fires : (common : Common) (o : Option (SceneOf Half)) (readers : List Reader) → sound_scene o ≡ true → scene_counted (is_small n) o ≡ true
      → scene_counted (is_small (n + 1)) (heard_where (λ s. fired_in (fired half_eq common s)) (record { scene = o; readers = readers })).scene ≡ true
  fires common None readers sound e = refl
  fires common (Some s) readers sound e = raised s (fired half_eq common s).left (omega arith) (omega arith) e (fired-grows half_eq common s (right-entries half_eq s sound))

  pub counted-local : (common : Common) (p : Path) (here : Here) (event : Event) → sound_scene here.scene ≡ true
      → scene_counted (is_small n) here.scene ≡ true → scene_counted (is_small (n + 1)) (local common p here event).scene ≡ true
  unfolding local
  counted-local common p here (event.Cmd lane path command) sound e = near-counted common command here.scene sound e
  counted-local common p here (event.LoopDeliver path) sound e = looped common here.scene here.readers e
  counted-local common p here (event.Fire path) sound e = fires common here.scene here.readers sound e
  counted-local common p here _ sound e = refl

-- What rules of packets add to what a scene weighs: each delivery makes it lighter.
use Rattle.std.proofs.Common.{◌≡◌, ℕ, ◌+◌, ◌≤◌, Bool, true, false, cond, not, ◌&&◌, ◌||◌, ◌==◌, List, [], ◌∷◌, slice_get, Option, Some, None, refl, sym, ◌∙◌, arith, le_of_eq}
use Rattle.std.specs.Option.{option_map_or}
use Rattle.std.proofs.lemmas.Bool.{and_parts}
use Rattle.vn_types.specs.declared.address.Ip4.{Ip4}
use Rattle.vn_types.specs.declared.address.Mac.{Mac}
use Rattle.vn_types.specs.declared.errno.Errno.{Errno}
use Rattle.vn_types.specs.declared.errno.Errno.TheVariants as errno
use Rattle.vn_types.specs.Refusals.{first_refusal, unless}
use Rattle.vn_rules.specs.declared.parts.PartsOf.{PartsOf}
use Rattle.vn_rules.specs.Arp.{hit}
use Rattle.vn_rules.specs.Errors.{icmp_protocol, is_echo, may_answer}
use Rattle.vn_rules.specs.Resolution.{asks, drops_oldest, after_hold}
use Rattle.vn_rules.specs.Rules.{Common}
use Rattle.vn_rules.specs.Scenes.{SceneOf}
use Rattle.vn_link.specs.declared.arp.ArpPacket.{ArpPacket}
use Rattle.vn_packets.specs.declared.outgoing.Outgoing.{Outgoing}
use Rattle.vn_packets.specs.declared.tally.Tally.TheVariants as tally
use Rattle.vn_packets.specs.ArpPackets.{request_op, request, reply, arp_frame, mac_of, asking_source, requested, sent_datagram, sent_datagrams, requested_if, waits, held, carried_by, carried, replied_if, is_target, waiting, learnt, arp_heard}
use Rattle.vn_packets.specs.Datagrams.{ip4_type, broadcast_mac, frame_with, header_in}
use Rattle.vn_packets.specs.Drops.{on_parts, lost, lost_if}
use Rattle.vn_packets.specs.Errors.{Trouble, error_about, icmp_answer, sent_or_dropped, answered_back, errored_from}
use Rattle.vn_packets.specs.Output.{WayOf, Nowhere, Looped, By, way_to, identified, looped, output_refusals, sent_along, next_datagram, output_left, output_sent, output}
use Rattle.vn_packets.specs.Weighing.{HasOneLink, HasOneEntry, Weighs}
use Rattle.vn_packets.specs.Weight.{message_weight, body_weight, datagram_weight, datagrams_weight, parts_weight, scene_weight}
use Rattle.vn_packets.proofs.SceneWeight.{weighs-refl, weighs-then, weighs-more, weighs-either, one-link, on_parts-weighs, lost-weighs, lost_if-weighs, sent-weighs, hold-weighs, input-weighs, weigh-cons, weigh-push}
use Rattle.vn_packets.proofs.WeightOctets.{datagram-frame, arp-most, reply-one, answer-weight, error-one}

module _ {N : Type 0} (same : N → N → Bool) where
  -- ---- address resolution

  requested-weighs : (h : N) (ip : Ip4) (s : SceneOf N) → HasOneLink same s → Weighs same 2 s (requested same h ip s)
  unfolding requested
  requested-weighs h ip s one =
      weighs-more same s (requested same h ip s) (arp-most broadcast_mac asked) (sent-weighs same h (arp_frame broadcast_mac asked) s one)
    where
      asked : ArpPacket
      asked = request (mac_of same h s) (asking_source same h ip s.parts) ip

  sent_datagram-weighs : (h : N) (to : Mac) (datagram : List ℕ) (s : SceneOf N) → HasOneLink same s → Weighs same (datagram_weight datagram) s (sent_datagram same h to datagram s)
  unfolding sent_datagram
  sent_datagram-weighs h to datagram s one =
      weighs-more same s (sent_datagram same h to datagram s) (le_of_eq (datagram-frame to (mac_of same h s) datagram)) (sent-weighs same h (frame_with to (mac_of same h s) ip4_type datagram) s one)

  sent_datagrams-weighs : (h : N) (to : Mac) (datagrams : List (List ℕ)) (s : SceneOf N) → HasOneLink same s → Weighs same (datagrams_weight datagrams) s (sent_datagrams same h to datagrams s)
  unfolding sent_datagrams
  sent_datagrams-weighs h to [] s one = weighs-refl same s
  sent_datagrams-weighs h to (datagram ∷ more) s one =
      weighs-more same s (sent_datagrams same h to more next) (le_of_eq (sym (weigh-cons datagram_weight datagram more)))
      (weighs-then same s next (sent_datagrams same h to more next) first (sent_datagrams-weighs h to more next (one-link same s next first one)))
    where
      next : SceneOf N
      next = sent_datagram same h to datagram s

      first : Weighs same (datagram_weight datagram) s next
      first = sent_datagram-weighs h to datagram s one

  requested_if-weighs : (b : Bool) (h : N) (ip : Ip4) (s : SceneOf N) → HasOneLink same s → Weighs same 2 s (requested_if same b h ip s)
  requested_if-weighs b h ip s one = weighs-either same s (requested same h ip s) s b (requested-weighs h ip s one) (weighs-more same s s (omega arith) (weighs-refl same s))

  module _ (common : Common) (h : N) (ip : Ip4) (datagram : List ℕ) (s : SceneOf N) (one : HasOneLink same s) (entry : HasOneEntry same s.parts) where
    held-weighs : Weighs same (datagram_weight datagram + 2) s (held same common h ip datagram s)
    unfolding held
    held-weighs =
        weighs-more same s (requested_if same (asks same h ip s.parts.arp) h ip dropped) (omega arith)
        (weighs-then same s dropped (requested_if same (asks same h ip s.parts.arp) h ip dropped) two (requested_if-weighs (asks same h ip s.parts.arp) h ip dropped (one-link same s dropped two one)))
      where
        dropped : SceneOf N
        dropped = lost_if (drops_oldest same h ip s.parts.arp) tally.Full (waits same common h ip datagram s)

        two : Weighs same (datagram_weight datagram + 0) s dropped
        two = weighs-then same s (waits same common h ip datagram s) dropped (on_parts-weighs same (after_hold same common.clock h ip datagram) s (hold-weighs same h ip common.clock datagram s.parts entry)) (lost_if-weighs same (drops_oldest same h ip s.parts.arp) tally.Full (waits same common h ip datagram s))

    carried-weighs : Weighs same (datagram_weight datagram + 2) s (carried same common h ip datagram s)
    unfolding carried
    carried-weighs = by (hit same h ip s.parts.arp)
      where
        by : (o : Option Mac) → Weighs same (datagram_weight datagram + 2) s (carried_by same o common h ip datagram s)
        by None = held-weighs
        by (Some mac) = weighs-more same s (sent_datagram same h mac datagram s) (omega arith) (sent_datagram-weighs h mac datagram s one)

  -- a packet that is no request adds nothing, and a request its reply
  pub arp_heard-weighs : (common : Common) (h : N) (packet : ArpPacket) (s : SceneOf N) → HasOneLink same s → Weighs same (cond (packet.op == request_op) 1 0) s (arp_heard same common h packet s)
  unfolding arp_heard scene_weight
  arp_heard-weighs common h packet s one = record {
    weight =
        let less = input-weighs same h packet.spa common.clock packet.sha (is_target same h packet s) s.parts in
        let sent_on = sending.weight in
        let answered = replying.weight in
        omega (arith, less, sent_on, answered);
    links = λ g. replying.links g ∙ sending.links g;
  }
    where
      given : SceneOf N
      given = sent_datagrams same h packet.sha (waiting same h packet s) (learnt same common h packet s)

      sending : Weighs same (datagrams_weight (waiting same h packet s)) (learnt same common h packet s) given
      sending = sent_datagrams-weighs h packet.sha (waiting same h packet s) (learnt same common h packet s) one

      reply-most : (b c : Bool) (t : SceneOf N) → HasOneLink same t → Weighs same (cond c 1 0) t (replied_if same (b && c) h packet t)
      reply-most true true t one' = weighs-more same t (replied_if same true h packet t) (le_of_eq (reply-one packet.sha (mac_of same h t) packet)) (sent-weighs same h (arp_frame packet.sha (reply (mac_of same h t) packet)) t one')
      reply-most true false t one' = weighs-refl same t
      reply-most false c t one' = weighs-more same t t (omega arith) (weighs-refl same t)

      replying : Weighs same (cond (packet.op == request_op) 1 0) given (replied_if same ((is_target same h packet s) && (packet.op == request_op)) h packet given)
      replying = reply-most (is_target same h packet s) (packet.op == request_op) given (one-link same (learnt same common h packet s) given sending one)

  -- ---- output

  identified-weight : (p : PartsOf N) → parts_weight (identified p) ≡ parts_weight p
  unfolding parts_weight
  identified-weight p = refl

  looped-weight : (datagram : List ℕ) (p : PartsOf N) → parts_weight (looped datagram p) ≤ parts_weight p + datagram_weight datagram
  unfolding parts_weight
  looped-weight datagram p = let more = weigh-push datagram_weight p.loopback datagram in omega (arith, more)

  pub sent_along-weighs : (w : WayOf N) (common : Common) (datagram : List ℕ) (s : SceneOf N) → HasOneLink same s → HasOneEntry same s.parts
      → Weighs same (datagram_weight datagram + 2) s (sent_along same w common datagram s)
  sent_along-weighs Nowhere common datagram s one entry = weighs-more same s s (omega arith) (weighs-refl same s)
  sent_along-weighs Looped common datagram s one entry =
      weighs-more same s (on_parts (looped datagram) s) (omega arith) (on_parts-weighs same (looped datagram) s (looped-weight datagram s.parts))
  sent_along-weighs (By h hop) common datagram s one entry = carried-weighs common h hop datagram s one entry

  module _ (common : Common) (s : SceneOf N) (one : HasOneLink same s) (entry : HasOneEntry same s.parts) where
    output_left-weighs : (k : ℕ) (send : Outgoing) → datagram_weight (next_datagram same send s.parts) ≤ k → Weighs same (k + 2) s (output_left same common send s)
    unfolding output_left
    output_left-weighs k send most =
        let out = output_left same common send s in
        weighs-more same s out (omega (arith, most))
        (weighs-then same s (on_parts identified s) out (on_parts-weighs same {k = 0} identified s (let e = identified-weight s.parts in omega (arith, e)))
        (sent_along-weighs (way_to send.dst s.parts) common (next_datagram same send s.parts) (on_parts identified s) one entry))

    pub answered_back-weighs : (from to : Ip4) (message : List ℕ) → Weighs same (256 + message_weight (slice_get message 0) + 2) s (answered_back same common (icmp_answer from to message) s)
    unfolding answered_back output
    answered_back-weighs from to message = by (first_refusal (output_refusals same errno.HostUnreach (icmp_answer from to message) s))
      where
        by : (o : Option Errno) → Weighs same (256 + message_weight (slice_get message 0) + 2) s
            (sent_or_dropped (unless o (output_sent same (icmp_answer from to message) s.parts, output_left same common (icmp_answer from to message) s)) s)
        by None = output_left-weighs (256 + message_weight (slice_get message 0)) (icmp_answer from to message) (answer-weight s.parts.ident _ from to message)
        by (Some e) = weighs-more same s (lost tally.Icmp 1 s) (omega arith) (lost-weighs same tally.Icmp 1 s)

    pub errored_from-weighs : (from : Option Ip4) (trouble : Trouble) (datagram : List ℕ) → Weighs same 259 s (errored_from same from common trouble datagram s)
    errored_from-weighs None trouble datagram = weighs-more same s s (omega arith) (weighs-refl same s)
    errored_from-weighs (Some from) trouble datagram =
        weighs-more same s (errored_from same (Some from) common trouble datagram s) (let small = error-one trouble datagram in omega (arith, small))
        (answered_back-weighs from (header_in datagram).src (error_about trouble datagram))

-- an error is sent about what weighs enough
pub answerable : (is_broadcast : Bool) (proto : ℕ) (body : List ℕ) → may_answer is_broadcast proto body ≡ true → 261 ≤ body_weight proto body
answerable is_broadcast proto body may = by (proto == icmp_protocol) (and_parts (not is_broadcast) _ may).1
  where
    echo_kind : (a b : Bool) → a || b ≡ true → 261 ≤ cond {A = ℕ} b 521 (cond a 261 1)
    echo_kind true true is = omega arith
    echo_kind true false is = omega arith
    echo_kind false true is = omega arith
    echo_kind false false is = absurd (cc)

    message : (o : Option ℕ) → option_map_or (λ type. (type == 0) || (type == 8)) o false ≡ true → 261 ≤ message_weight o
    message None is = absurd (cc)
    message (Some kind) is = echo_kind (kind == 0) (kind == 8) is

    by : (b : Bool) → not b || is_echo body ≡ true → 261 ≤ cond b (message_weight (slice_get body 0)) 261
    by true is = message (slice_get body 0) is
    by false is = omega arith

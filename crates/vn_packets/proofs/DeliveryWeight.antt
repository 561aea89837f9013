-- Each delivery that takes something makes a scene lighter, together with what was taken.
use Rattle.std.proofs.Common.{◌≡◌, ℕ, ◌-◌, ◌≤◌, nat_le, Bool, true, false, cond, ◌&&◌, ◌==◌, List, [], ◌∷◌, length, slice_get, Option, Some, None, Result, Ok, Err, is_some, refl, sym, ap, ◌∙◌, arith}
use Rattle.std.proofs.lemmas.Bool.{and_parts, leb-false, eqb-true, false≢true}
use Rattle.vn_types.proofs.RefusalLaws.{value-given}
use Rattle.vn_types.specs.declared.address.Ip4.{Ip4}
use Rattle.vn_types.specs.declared.interface.IfOf.{IfOf}
use Rattle.vn_types.specs.Ip4Header.{header_of, header_len}
use Rattle.vn_types.specs.Refusals.{first_refusal}
use Rattle.vn_rules.specs.declared.parts.PartsOf.{PartsOf}
use Rattle.vn_rules.specs.declared.ping.PingOf.{PingOf}
use Rattle.vn_rules.specs.declared.socket.GramOf.{GramOf}
use Rattle.vn_rules.specs.Errors.{icmp_protocol, may_answer}
use Rattle.vn_rules.specs.Pings.{awaited_by, awaited_for, without_pings, without_ping}
use Rattle.vn_rules.specs.Rules.{Common}
use Rattle.vn_rules.specs.Scenes.{SceneOf}
use Rattle.vn_rules.specs.Sockets.{has_sender, is_full_at, with_gram, refused_by}
use Rattle.vn_ip4fmt.specs.declared.head.Ip4Head.{Ip4Head}
use Rattle.vn_ip4fmt.specs.Checksum.{lowered}
use Rattle.vn_icmpfmt.specs.declared.message.IcmpBad.{IcmpBad}
use Rattle.vn_icmpfmt.specs.declared.quote.Quote.{Quote}
use Rattle.vn_icmpfmt.specs.Grammar.{icmp_of}
use Rattle.vn_icmpfmt.specs.Messages as icmp
use Rattle.vn_icmpfmt.specs.Messages.{Message, message_of, echo}
use Rattle.vn_icmpfmt.specs.Quotes.{quote_of}
use Rattle.vn_udpfmt.specs.Datagram as udp
use Rattle.vn_packets.specs.declared.tally.Tally.{Tally}
use Rattle.vn_packets.specs.declared.tally.Tally.TheVariants as tally
use Rattle.vn_packets.specs.Datagrams.{udp_protocol, message_octets, body_of, header_in}
use Rattle.vn_packets.specs.Drops.{on_parts, counted, lost}
use Rattle.vn_packets.specs.Errors.{Trouble, TimeExceeded, PortUnreachable, error_source, errored_from, errored}
use Rattle.vn_packets.specs.Forwarding.{way_troubles, troubles, way_of, forwarded_by, forwarded}
use Rattle.vn_packets.specs.Icmp.{Meaning, Asks, Replies, Fails, Refuses, Strange, is_kind, is_error, quoted_echo, quotes_echo, quoted_ports, replies, fails, refuses, meaning_quoted, echoed, icmp_meant, icmp_read, icmp_received}
use Rattle.vn_packets.specs.Output.{sent_along}
use Rattle.vn_packets.specs.Udp.{gram_from, given, receiver, received_by, udp_received}
use Rattle.vn_packets.specs.Weighing.{HasOneLink, HasOneEntry, Weighs}
use Rattle.vn_packets.specs.Weight.{message_weight, body_weight, parts_weight}
use Rattle.vn_packets.proofs.SceneWeight.{weighs-refl, weighs-then, weighs-more, weighs-either, on_parts-weighs, lost-weighs}
use Rattle.vn_packets.proofs.PacketWeight.{answerable, sent_along-weighs, answered_back-weighs, errored_from-weighs}
use Rattle.vn_packets.proofs.WeightOctets.{whole_weight, echo-reply, lowered-weight}

-- the first octet of a message is its type
kind-first : (body : List ℕ) → (icmp.header_of body).kind ≡ 8 → slice_get body 0 ≡ Some 8
kind-first [] is = absurd (none is)
  where
    none : (icmp.header_of []).kind ≡ 8 → ⊥
    none is = omega (arith, is)
kind-first (x ∷ xs) is = ap Some (same is)
  where
    same : (icmp.header_of (x ∷ xs)).kind ≡ 8 → x ≡ 8
    same is = omega (arith, is)

module _ {N : Type 0} (same : N → N → Bool) where
  -- nothing that weighs something is changed
  still-weighs : {k : ℕ} (f : PartsOf N → PartsOf N) (s : SceneOf N) → parts_weight (f s.parts) ≡ parts_weight s.parts → Weighs same k s (on_parts f s)
  still-weighs f s e = weighs-more same s (on_parts f s) (omega arith) (on_parts-weighs same {k = 0} f s (omega (arith, e)))

  pub still : {k : ℕ} (s : SceneOf N) → Weighs same k s s
  still s = weighs-more same s s (omega arith) (weighs-refl same s)

  pub dropped : {k : ℕ} (s t : SceneOf N) → Weighs same 0 s t → Weighs same k s t
  dropped s t none = weighs-more same s t (omega arith) none

  ended-weight : (ping : PingOf N) (p : PartsOf N) → parts_weight (without_ping ping p) ≡ parts_weight p
  unfolding without_pings parts_weight
  ended-weight ping p = refl

  refused-weight : (src : Ip4) (sport : ℕ) (dst : Ip4) (dport : ℕ) (p : PartsOf N) → parts_weight (record p { sockets = refused_by src sport dst dport p.sockets }) ≡ parts_weight p
  unfolding parts_weight
  refused-weight src sport dst dport p = refl

  given-weight : (place : ℕ) (gram : GramOf N) (p : PartsOf N) → parts_weight (given place gram p) ≡ parts_weight p
  unfolding given counted parts_weight
  given-weight place gram p = by (is_full_at place p.sockets)
    where
      by : (b : Bool) → parts_weight (cond b (counted tally.Full 1 p) (record p { sockets = with_gram place gram p.sockets })) ≡ parts_weight p
      by true = refl
      by false = refl

  module _ (common : Common) (s : SceneOf N) (one : HasOneLink same s) (entry : HasOneEntry same s.parts) where
    same_entries : (what : Tally) → HasOneEntry same (counted what 1 s.parts)
    unfolding counted
    same_entries what = entry

    -- ---- errors and datagrams for others

    lives : (datagram : List ℕ) → nat_le (header_in datagram).ttl 1 ≡ false → 2 ≤ (header_of datagram).ttl
    unfolding header_in
    lives datagram is = leb-false (header_of datagram).ttl 1 is

    told : (is_broadcast : Bool) (datagram : List ℕ) → may_answer is_broadcast (header_in datagram).proto (body_of datagram) ≡ true → may_answer is_broadcast (header_of datagram).proto (body_of datagram) ≡ true
    unfolding header_in
    told is_broadcast datagram may = may

    module _ (via : IfOf N) (datagram : List ℕ) (is_broadcast : Bool) where
      -- about a datagram that was dropped and counted
      pub errored-weighs : (trouble : Trouble) (what : Tally) → Weighs same (whole_weight datagram - 1) s (errored same common via trouble datagram is_broadcast (lost what 1 s))
      unfolding errored
      errored-weighs trouble what = by (may_answer is_broadcast (header_in datagram).proto (body_of datagram)) refl
        where
          from : Option Ip4
          from = error_source same trouble (header_in datagram).dst via (lost what 1 s).parts

          by : (b : Bool) → may_answer is_broadcast (header_in datagram).proto (body_of datagram) ≡ b
              → Weighs same (whole_weight datagram - 1) s (cond b (errored_from same from common trouble datagram (lost what 1 s)) (lost what 1 s))
          by true may =
              let enough = answerable is_broadcast (header_of datagram).proto (body_of datagram) (told is_broadcast datagram may) in
              weighs-more same s (errored_from same from common trouble datagram (lost what 1 s)) (omega (arith, enough))
              (weighs-then same s (lost what 1 s) (errored_from same from common trouble datagram (lost what 1 s)) (lost-weighs same what 1 s)
              (errored_from-weighs same common (lost what 1 s) one (same_entries what) from trouble datagram))
          by false may = dropped s (lost what 1 s) (lost-weighs same what 1 s)

      pub forwarded-weighs : 20 ≤ header_len datagram → header_len datagram ≤ length datagram → Weighs same (whole_weight datagram - 1) s (forwarded same common via datagram is_broadcast s)
      unfolding forwarded
      forwarded-weighs header fits = by (first_refusal (troubles same datagram (way_of datagram s) s)) refl
        where
          alive : first_refusal (troubles same datagram (way_of datagram s) s) ≡ None → nat_le (header_in datagram).ttl 1 ≡ false
          alive none = first (nat_le (header_in datagram).ttl 1) none
            where
              first : (b : Bool) → cond b (Some (Some TimeExceeded)) (first_refusal (way_troubles same (way_of datagram s) s)) ≡ None → b ≡ false
              first true none = absurd (cc)
              first false none = refl

          by : (o : Option (Option Trouble)) → first_refusal (troubles same datagram (way_of datagram s) s) ≡ o → Weighs same (whole_weight datagram - 1) s (forwarded_by same o (way_of datagram s) common via datagram is_broadcast s)
          by None is =
              let less = lowered-weight datagram header fits (lives datagram (alive is)) in
              weighs-more same s (sent_along same (way_of datagram s) common (lowered datagram) s) (omega (arith, less)) (sent_along-weighs same (way_of datagram s) common (lowered datagram) s one entry)
          by (Some None) is = dropped s (lost tally.Ip 1 s) (lost-weighs same tally.Ip 1 s)
          by (Some (Some trouble)) is = errored-weighs trouble tally.Ip

      -- ---- UDP

      pub udp_received-weighs : Weighs same (whole_weight datagram - 1) s (udp_received same common via datagram is_broadcast s)
      unfolding udp_received received_by
      udp_received-weighs =
          let src = (header_in datagram).src in
          let dst = (header_in datagram).dst in
          let octets = body_of datagram in
          weighs-either same s (lost tally.Udp 1 s) (received_by same (receiver src dst octets s.parts) common via datagram is_broadcast s) (is_some (udp.refusal src dst octets))
          (dropped s (lost tally.Udp 1 s) (lost-weighs same tally.Udp 1 s)) (by (receiver src dst octets s.parts))
        where
          by : (o : Option ℕ) → Weighs same (whole_weight datagram - 1) s (received_by same o common via datagram is_broadcast s)
          by None = errored-weighs PortUnreachable tally.Udp
          by (Some place) = still-weighs (given place (gram_from (header_in datagram).src (body_of datagram) via)) s (given-weight place (gram_from (header_in datagram).src (body_of datagram) via) s.parts)

    -- ---- ICMP

    -- whether a message is no echo
    quiet : Meaning N → Bool
    quiet Asks = false
    quiet (Replies ping) = true
    quiet (Fails ping) = true
    quiet (Refuses src sport dst dport) = true
    quiet Strange = true

    quiet-weighs : {k : ℕ} (head : Ip4Head) (size : ℕ) (m : Message) (meaning : Meaning N) → quiet meaning ≡ true → Weighs same k s (icmp_meant same common head size m meaning s).left
    unfolding quiet
    quiet-weighs head size m Asks is = absurd (false≢true is)
    quiet-weighs head size m (Replies ping) is = still-weighs (without_ping ping) s (ended-weight ping s.parts)
    quiet-weighs head size m (Fails ping) is = still-weighs (without_ping ping) s (ended-weight ping s.parts)
    quiet-weighs head size m (Refuses src sport dst dport) is = still-weighs (λ p. record p { sockets = refused_by src sport dst dport p.sockets }) s (refused-weight src sport dst dport s.parts)
    quiet-weighs head size m Strange is = dropped s (lost tally.Icmp 1 s) (lost-weighs same tally.Icmp 1 s)

    quiet-either : (x y : Meaning N) (b : Bool) → quiet x ≡ true → quiet y ≡ true → quiet (cond b x y) ≡ true
    quiet-either x y true left right = left
    quiet-either x y false left right = right

    quiet-replies : (o : Option (PingOf N)) → quiet (replies o) ≡ true
    unfolding quiet
    quiet-replies None = refl
    quiet-replies (Some ping) = refl

    quiet-fails : (o : Option (PingOf N)) → quiet (fails o) ≡ true
    unfolding quiet
    quiet-fails None = refl
    quiet-fails (Some ping) = refl

    quiet-quoted : (m : Message) (o : Option Quote) → quiet (meaning_quoted m o s.parts) ≡ true
    unfolding quiet
    quiet-quoted m None = refl
    quiet-quoted m (Some q) =
        quiet-either (fails (awaited_for (quoted_echo q).id q.src q.dst s.parts.pings)) (cond (is_kind 3 3 m && (q.proto == udp_protocol)) (refuses q s.parts) Strange) (quotes_echo q)
        (quiet-fails (awaited_for (quoted_echo q).id q.src q.dst s.parts.pings))
        (quiet-either (refuses q s.parts) Strange (is_kind 3 3 m && (q.proto == udp_protocol))
        (quiet-either (Refuses q.src (quoted_ports q).sport q.dst (quoted_ports q).dport) Strange (has_sender q.src (quoted_ports q).sport q.dst (quoted_ports q).dport s.parts.sockets) refl refl) refl)

    module _ (datagram : List ℕ) (for_icmp : (header_of datagram).proto ≡ icmp_protocol) where
      body : List ℕ
      body = body_of datagram

      -- what the message is, where it is no echo
      others : Message → Ip4 → Meaning N
      others m from = cond (is_kind 0 0 m) (replies (awaited_by m.id from s.parts.pings)) (cond (is_error m) (meaning_quoted m (quote_of m.rest) s.parts) Strange)

      quiet-others : (m : Message) (from : Ip4) → quiet (others m from) ≡ true
      unfolding quiet others
      quiet-others m from =
          quiet-either (replies (awaited_by m.id from s.parts.pings)) (cond (is_error m) (meaning_quoted m (quote_of m.rest) s.parts) Strange) (is_kind 0 0 m) (quiet-replies (awaited_by m.id from s.parts.pings))
          (quiet-either (meaning_quoted m (quote_of m.rest) s.parts) Strange (is_error m) (quiet-quoted m (quote_of m.rest)) refl)

      -- an echo weighs more than its reply and a request
      echo-weight : (m : Message) → m ≡ message_of (body_of datagram) → is_kind 8 0 m ≡ true → 520 ≤ whole_weight datagram - 1
      echo-weight m is asks =
          let eight : m.kind ≡ 8 = eqb-true m.kind 8 (and_parts (m.kind == 8) (m.code == 0) asks).0 in
          let first : slice_get (body_of datagram) 0 ≡ Some 8 = kind-first (body_of datagram) (sym (ap (λ (n : Message). n.kind) is) ∙ eight) in
          let heavy : body_weight (header_of datagram).proto (body_of datagram) ≡ 521 = ap (λ p. body_weight p (body_of datagram)) for_icmp ∙ ap message_weight first in
          omega (arith, heavy)

      asked-weighs : (head : Ip4Head) (m : Message) → m ≡ message_of (body_of datagram) → is_kind 8 0 m ≡ true → Weighs same (whole_weight datagram - 1) s (echoed same common head m s)
      unfolding echoed
      asked-weighs head m is asks =
          let enough = echo-weight m is asks in
          let light = echo-reply m.id m.seq m.rest in
          weighs-more same s (echoed same common head m s) (omega (arith, enough, light)) (answered_back-weighs same common s one entry head.dst head.src (message_octets (echo 0 m.id m.seq m.rest)))

      pub icmp_received-weighs : Weighs same (whole_weight datagram - 1) s (icmp_received same common datagram s).left
      unfolding icmp_received others
      icmp_received-weighs = by (icmp_of (body_of datagram)) refl
        where
          head : Ip4Head
          head = header_in datagram

          size : ℕ
          size = length (body_of datagram)

          meant : (m : Message) → m ≡ message_of (body_of datagram) → (b : Bool) → is_kind 8 0 m ≡ b → Weighs same (whole_weight datagram - 1) s (icmp_meant same common head size m (cond b Asks (others m head.src)) s).left
          meant m is true asks = asked-weighs head m is asks
          meant m is false asks = quiet-weighs head size m (others m head.src) (quiet-others m head.src)

          by : (read : Result Message IcmpBad) → icmp_of (body_of datagram) ≡ read → Weighs same (whole_weight datagram - 1) s (icmp_read same common head size read s).left
          by (Err bad) is = dropped s (lost tally.Icmp 1 s) (lost-weighs same tally.Icmp 1 s)
          by (Ok m) is = meant m (sym (value-given _ (message_of (body_of datagram)) m is).1) (is_kind 8 0 m) refl

-- ICMP messages for the stack under other names of halves.
use Rattle.std.proofs.Common.{◌≡◌, ℕ, Bool, cond, ◌&&◌, ◌==◌, List, length, Option, Some, None, Result, Ok, Err, refl, ap, ◌∙◌}
use Rattle.std.specs.Option.{option_map}
use Rattle.vn_types.specs.declared.address.Ip4.{Ip4}
use Rattle.vn_rules.specs.declared.parts.PartsOf.{PartsOf}
use Rattle.vn_rules.specs.declared.ping.PingOf.{PingOf}
use Rattle.vn_rules.specs.Pings.{awaited_by, awaited_for, without_ping}
use Rattle.vn_rules.specs.Renamed.{as_ping, renamed}
use Rattle.vn_rules.specs.Rules.{Common}
use Rattle.vn_rules.specs.Scenes.{SceneOf, renamed_scene}
use Rattle.vn_rules.specs.Sockets.{refused_by}
use Rattle.vn_rules.proofs.PingLaws.{awaited_by-renamed, awaited_for-renamed, without_ping-renamed}
use Rattle.vn_rules.proofs.SocketLaws.{has_sender-renamed, refused_by-renamed}
use Rattle.vn_ip4fmt.specs.declared.head.Ip4Head.{Ip4Head}
use Rattle.vn_icmpfmt.specs.declared.message.IcmpBad.{IcmpBad}
use Rattle.vn_icmpfmt.specs.declared.quote.Quote.{Quote}
use Rattle.vn_icmpfmt.specs.Grammar.{icmp_of}
use Rattle.vn_icmpfmt.specs.Messages.{Message, echo}
use Rattle.vn_icmpfmt.specs.Quotes.{quote_of}
use Rattle.vn_packets.specs.declared.heard.Heard.TheVariants.{Pong, Fault}
use Rattle.vn_packets.specs.declared.tally.Tally.TheVariants as tally
use Rattle.vn_packets.specs.Datagrams.{udp_protocol, message_octets, body_of, header_in}
use Rattle.vn_packets.specs.Drops.{on_parts}
use Rattle.vn_packets.specs.Errors.{icmp_answer}
use Rattle.vn_packets.specs.Icmp.{Meaning, Asks, Replies, Fails, Refuses, Strange, is_kind, is_error, quoted_echo, quotes_echo, quoted_ports, nothing_told, replies, fails, refuses, meaning_quoted, meaning_of, echoed, icmp_meant, icmp_read, icmp_received}
use Rattle.vn_packets.specs.Renamed.{as_heard}
use Rattle.vn_packets.proofs.DropLaws.{choice, on_parts-renamed, lost-renamed}
use Rattle.vn_packets.proofs.ErrorLaws.{answered_back-renamed}

module _ {N M : Type 0} (r : N → M) where
  -- ---- what a message is

  as_meaning : Meaning N → Meaning M
  as_meaning Asks = Asks
  as_meaning (Replies ping) = Replies (as_ping r ping)
  as_meaning (Fails ping) = Fails (as_ping r ping)
  as_meaning (Refuses src sport dst dport) = Refuses src sport dst dport
  as_meaning Strange = Strange

  replies-renamed : (o : Option (PingOf N)) → replies (option_map (as_ping r) o) ≡ as_meaning (replies o)
  unfolding as_meaning
  replies-renamed None = refl
  replies-renamed (Some ping) = refl

  fails-renamed : (o : Option (PingOf N)) → fails (option_map (as_ping r) o) ≡ as_meaning (fails o)
  unfolding as_meaning
  fails-renamed None = refl
  fails-renamed (Some ping) = refl

  module _ (p : PartsOf N) where
    refuses-renamed : (q : Quote) → refuses q (renamed r p) ≡ as_meaning (refuses q p)
    unfolding as_meaning renamed
    refuses-renamed q =
        choice as_meaning (Refuses q.src (quoted_ports q).sport q.dst (quoted_ports q).dport) Strange
        (has_sender-renamed r q.src (quoted_ports q).sport q.dst (quoted_ports q).dport p.sockets) refl refl

    failed-so : (id : ℕ) (src dst : Ip4) → fails (awaited_for id src dst (renamed r p).pings) ≡ as_meaning (fails (awaited_for id src dst p.pings))
    unfolding renamed
    failed-so id src dst = ap fails (awaited_for-renamed r id src dst p.pings) ∙ fails-renamed (awaited_for id src dst p.pings)

    replied-so : (id : ℕ) (from : Ip4) → replies (awaited_by id from (renamed r p).pings) ≡ as_meaning (replies (awaited_by id from p.pings))
    unfolding renamed
    replied-so id from = ap replies (awaited_by-renamed r id from p.pings) ∙ replies-renamed (awaited_by id from p.pings)

    strange-so : Strange ≡ as_meaning Strange
    unfolding as_meaning
    strange-so = refl

    asks-so : Asks ≡ as_meaning Asks
    unfolding as_meaning
    asks-so = refl

    meaning_quoted-renamed : (m : Message) (o : Option Quote) → meaning_quoted m o (renamed r p) ≡ as_meaning (meaning_quoted m o p)
    meaning_quoted-renamed m None = strange-so
    meaning_quoted-renamed m (Some q) =
        choice as_meaning (fails (awaited_for (quoted_echo q).id q.src q.dst p.pings)) (cond (is_kind 3 3 m && (q.proto == udp_protocol)) (refuses q p) Strange)
        {b = quotes_echo q} refl (failed-so (quoted_echo q).id q.src q.dst)
        (choice as_meaning (refuses q p) Strange {b = is_kind 3 3 m && (q.proto == udp_protocol)} refl (refuses-renamed q) strange-so)

    meaning_of-renamed : (m : Message) (from : Ip4) → meaning_of m from (renamed r p) ≡ as_meaning (meaning_of m from p)
    meaning_of-renamed m from =
        choice as_meaning Asks (cond (is_kind 0 0 m) (replies (awaited_by m.id from p.pings)) (cond (is_error m) (meaning_quoted m (quote_of m.rest) p) Strange))
        {b = is_kind 8 0 m} refl asks-so
        (choice as_meaning (replies (awaited_by m.id from p.pings)) (cond (is_error m) (meaning_quoted m (quote_of m.rest) p) Strange)
        {b = is_kind 0 0 m} refl (replied-so m.id from)
        (choice as_meaning (meaning_quoted m (quote_of m.rest) p) Strange {b = is_error m} refl (meaning_quoted-renamed m (quote_of m.rest)) strange-so))

  -- ---- what is done

  pub nothing_told-renamed : {t : SceneOf M} (s : SceneOf N) → t ≡ renamed_scene r s → nothing_told t ≡ as_heard r (nothing_told s)
  nothing_told-renamed s same = ap nothing_told same

  ended-renamed : (ping : PingOf N) (s : SceneOf N) → on_parts (without_ping (as_ping r ping)) (renamed_scene r s) ≡ renamed_scene r (on_parts (without_ping ping) s)
  ended-renamed ping s = on_parts-renamed r (without_ping ping) (without_ping (as_ping r ping)) s (without_ping-renamed r ping s.parts)

  module _ (src : Ip4) (sport : ℕ) (dst : Ip4) (dport : ℕ) where
    refused : {L : Type 0} → PartsOf L → PartsOf L
    refused p = record p { sockets = refused_by src sport dst dport p.sockets }

    refused-renamed : (p : PartsOf N) → refused (renamed r p) ≡ renamed r (refused p)
    unfolding refused renamed
    refused-renamed p i = record (renamed r p) { sockets = refused_by-renamed r src sport dst dport p.sockets i }

    told-renamed : (s : SceneOf N) → on_parts (λ p. record p { sockets = refused_by src sport dst dport p.sockets }) (renamed_scene r s) ≡ renamed_scene r (on_parts (λ p. record p { sockets = refused_by src sport dst dport p.sockets }) s)
    unfolding refused
    told-renamed s = on_parts-renamed r refused refused s (refused-renamed s.parts)

module _ {N M : Type 0} (r : N → M) (at_n : N → N → Bool) (at_m : M → M → Bool) (faithful : (a b : N) → at_m (r a) (r b) ≡ at_n a b) where
  echoed-renamed : (common : Common) (head : Ip4Head) (m : Message) (s : SceneOf N) → echoed at_m common head m (renamed_scene r s) ≡ renamed_scene r (echoed at_n common head m s)
  unfolding echoed
  echoed-renamed common head m s = answered_back-renamed r at_n at_m faithful common (icmp_answer head.dst head.src (message_octets (echo 0 m.id m.seq m.rest))) s

  icmp_meant-renamed : (common : Common) (head : Ip4Head) (size : ℕ) (m : Message) (meaning : Meaning N) (s : SceneOf N)
      → icmp_meant at_m common head size m (as_meaning r meaning) (renamed_scene r s) ≡ as_heard r (icmp_meant at_n common head size m meaning s)
  unfolding as_meaning
  icmp_meant-renamed common head size m Asks s = ap nothing_told (echoed-renamed common head m s)
  icmp_meant-renamed common head size m (Replies ping) s = λ i. record { left = ended-renamed r ping s i; heard = Pong head.src m.id head.ttl size }
  icmp_meant-renamed common head size m (Fails ping) s = λ i. record { left = ended-renamed r ping s i; heard = Fault m.kind m.code head.src ping.id }
  icmp_meant-renamed common head size m (Refuses src sport dst dport) s = ap nothing_told (told-renamed r src sport dst dport s)
  icmp_meant-renamed common head size m Strange s = ap nothing_told (lost-renamed r tally.Icmp 1 s)

  meaning-so : (m : Message) (from : Ip4) (s : SceneOf N) → meaning_of m from (renamed_scene r s).parts ≡ as_meaning r (meaning_of m from s.parts)
  unfolding renamed_scene
  meaning-so m from s = meaning_of-renamed r s.parts m from

  icmp_read-renamed : (common : Common) (head : Ip4Head) (size : ℕ) (read : Result Message IcmpBad) (s : SceneOf N)
      → icmp_read at_m common head size read (renamed_scene r s) ≡ as_heard r (icmp_read at_n common head size read s)
  icmp_read-renamed common head size (Err bad) s = ap nothing_told (lost-renamed r tally.Icmp 1 s)
  icmp_read-renamed common head size (Ok m) s =
      ap (λ meaning. icmp_meant at_m common head size m meaning (renamed_scene r s)) (meaning-so m head.src s)
      ∙ icmp_meant-renamed common head size m (meaning_of m head.src s.parts) s

  pub icmp_received-renamed : (common : Common) (datagram : List ℕ) (s : SceneOf N) → icmp_received at_m common datagram (renamed_scene r s) ≡ as_heard r (icmp_received at_n common datagram s)
  unfolding icmp_received
  icmp_received-renamed common datagram s = icmp_read-renamed common (header_in datagram) (length (body_of datagram)) (icmp_of (body_of datagram)) s

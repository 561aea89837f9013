-- ICMP messages for the stack (RFC 792): echoes are answered, replies and errors told to who waits for them.
use Rattle.std.specs.Prelude.{ℕ, Bool, ◌==◌, ◌&&◌, ◌||◌, List, length, Option, Some, None, Result, Ok, Err, if◌then◌else◌}
use Rattle.vn_types.specs.declared.address.Ip4.{Ip4}
use Rattle.vn_rules.specs.declared.ping.PingOf.{PingOf}
use Rattle.vn_rules.specs.declared.parts.PartsOf.{PartsOf}
use Rattle.vn_rules.specs.Errors.{icmp_protocol}
use Rattle.vn_rules.specs.Pings.{awaited_by, awaited_for, without_ping}
use Rattle.vn_rules.specs.Rules.{Common}
use Rattle.vn_rules.specs.Scenes.{SceneOf}
use Rattle.vn_rules.specs.Sockets.{has_sender, refused_by}
use Rattle.vn_ip4fmt.specs.declared.head.Ip4Head.{Ip4Head}
use Rattle.vn_icmpfmt.specs.declared.message.IcmpBad.{IcmpBad}
use Rattle.vn_icmpfmt.specs.declared.quote.Quote.{Quote}
use Rattle.vn_icmpfmt.specs.Grammar.{icmp_of}
use Rattle.vn_icmpfmt.specs.Messages as icmp
use Rattle.vn_icmpfmt.specs.Messages.{Message, echo}
use Rattle.vn_icmpfmt.specs.Quotes.{quote_of}
use Rattle.vn_udpfmt.specs.Header as udp
use Rattle.vn_packets.specs.declared.heard.Heard.{Heard}
use Rattle.vn_packets.specs.declared.heard.Heard.TheVariants.{Nothing, Pong, Fault}
use Rattle.vn_packets.specs.declared.tally.Tally.TheVariants as tally
use Rattle.vn_packets.specs.Datagrams.{udp_protocol, message_octets, body_of, header_in}
use Rattle.vn_packets.specs.Drops.{on_parts, lost}
use Rattle.vn_packets.specs.Errors.{icmp_answer, answered_back}

-- what a reception leaves, and what it tells of an awaited ping
pub record HeardOf (N : Type 0) : Type 0 where
  -- the scene
  pub left : SceneOf N
  -- what is told
  pub heard : Heard

-- what an ICMP message is, to the stack that it came to
pub data Meaning (N : Type 0) : Type 0 where
  -- an echo
  Asks : Meaning N
  -- the reply that a ping waited for
  Replies : PingOf N → Meaning N
  -- an error about an awaited ping
  Fails : PingOf N → Meaning N
  -- an error about what a connected socket sent: the addresses and ports that it has, and sent to
  Refuses : Ip4 → ℕ → Ip4 → ℕ → Meaning N
  -- none of these
  Strange : Meaning N

-- whether a message has the type and the code
abbrev pub is_kind : ℕ → ℕ → Message → Bool
is_kind kind code m = (m.kind == kind) && (m.code == code)

-- whether it is an error about what it quotes: a destination is unreachable, or the time exceeded
abbrev pub is_error : Message → Bool
is_error m = (m.kind == 3) || (m.kind == 11)

-- the ICMP header that is quoted
abbrev pub quoted_echo : Quote → icmp.Header
quoted_echo q = icmp.header_of q.first

-- whether an echo is quoted
abbrev pub quotes_echo : Quote → Bool
quotes_echo q = (q.proto == icmp_protocol) && ((quoted_echo q).kind == 8)

-- the UDP header that is quoted
abbrev pub quoted_ports : Quote → udp.Header
quoted_ports q = udp.header_of q.first

module _ {N : Type 0} where
  -- nothing is told
  abbrev pub nothing_told : SceneOf N → HeardOf N
  nothing_told s = record { left = s; heard = Nothing }

  -- ---- what a message is

  -- a reply, where it was awaited
  abbrev pub replies : Option (PingOf N) → Meaning N
  replies None = Strange
  replies (Some ping) = Replies ping

  -- an error, where the echo was one of an awaited ping
  abbrev pub fails : Option (PingOf N) → Meaning N
  fails None = Strange
  fails (Some ping) = Fails ping

  -- RFC 1122, section 4.1.3.3: "UDP MUST pass to the application layer all ICMP error messages that it receives
  -- from the IP layer." Here a port that is unreachable is told to a connected socket.
  abbrev pub refuses : Quote → PartsOf N → Meaning N
  refuses q p =
      let ports = quoted_ports q in
      if has_sender q.src ports.sport q.dst ports.dport p.sockets
      then Refuses q.src ports.sport q.dst ports.dport else Strange

  -- an error with that quote
  abbrev pub meaning_quoted : Message → Option Quote → PartsOf N → Meaning N
  meaning_quoted m None p = Strange
  meaning_quoted m (Some q) p =
      if quotes_echo q then fails (awaited_for (quoted_echo q).id q.src q.dst p.pings)
      else (if is_kind 3 3 m && (q.proto == udp_protocol) then refuses q p else Strange)

  -- a message from an address
  abbrev pub meaning_of : Message → Ip4 → PartsOf N → Meaning N
  meaning_of m from p =
      if is_kind 8 0 m then Asks
      else (if is_kind 0 0 m then replies (awaited_by m.id from p.pings)
      else (if is_error m then meaning_quoted m (quote_of m.rest) p else Strange))

module _ {N : Type 0} (same : N → N → Bool) where
  -- ---- what is done

  -- RFC 792: "The address of the source in an echo message will be the destination of the echo reply message. To
  -- form an echo reply message, the source and destination addresses are simply reversed, the type code changed
  -- to 0, and the checksum recomputed."
  unfoldable pub echoed : Common → Ip4Head → Message → SceneOf N → SceneOf N
  echoed common head m s =
      answered_back same common (icmp_answer head.dst head.src (message_octets (echo 0 m.id m.seq m.rest))) s

  -- by what a message is, with its datagram's header and the octets that it has
  abbrev pub icmp_meant : Common → Ip4Head → ℕ → Message → Meaning N → SceneOf N → HeardOf N
  icmp_meant common head size m Asks s = nothing_told (echoed common head m s)
  icmp_meant common head size m (Replies ping) s = record {
    left = on_parts (without_ping ping) s;
    heard = Pong head.src m.id head.ttl size;
  }
  icmp_meant common head size m (Fails ping) s = record {
    left = on_parts (without_ping ping) s;
    heard = Fault m.kind m.code head.src ping.id;
  }
  icmp_meant common head size m (Refuses src sport dst dport) s =
      nothing_told (on_parts (λ p. record p { sockets = refused_by src sport dst dport p.sockets }) s)
  icmp_meant common head size m Strange s = nothing_told (lost tally.Icmp 1 s)

  -- what was read, or why nothing was
  abbrev pub icmp_read : Common → Ip4Head → ℕ → Result Message IcmpBad → SceneOf N → HeardOf N
  icmp_read common head size (Err bad) s = nothing_told (lost tally.Icmp 1 s)
  icmp_read common head size (Ok m) s =
      icmp_meant common head size m (meaning_of m head.src s.parts) s

  -- a whole datagram of the protocol for an address of the stack
  unfoldable pub icmp_received : Common → List ℕ → SceneOf N → HeardOf N
  icmp_received common datagram s =
      let body = body_of datagram in
      icmp_read common (header_in datagram) (length body) (icmp_of body) s

-- ICMP errors that a stack sends about datagrams, and what else it answers by itself (RFC 792).
use Rattle.std.specs.Prelude.{ℕ, Bool, true, false, List, ◌++◌, take, Option, Some, None, Result, Ok, Err, if◌then◌else◌}
use Rattle.vn_types.specs.declared.address.Ip4.{Ip4}
use Rattle.vn_types.specs.declared.errno.Errno.{Errno}
use Rattle.vn_types.specs.declared.errno.Errno.TheVariants as errno
use Rattle.vn_types.specs.declared.interface.IfOf.{IfOf}
use Rattle.vn_types.specs.Ip4Header.{header_len}
use Rattle.vn_rules.specs.declared.parts.PartsOf.{PartsOf}
use Rattle.vn_rules.specs.Addresses.{first}
use Rattle.vn_rules.specs.Errors.{icmp_protocol, may_answer}
use Rattle.vn_rules.specs.Rules.{Common}
use Rattle.vn_rules.specs.Scenes.{SceneOf}
use Rattle.vn_icmpfmt.specs.Quotes.{data_size}
use Rattle.vn_packets.specs.declared.outgoing.Outgoing.{Outgoing}
use Rattle.vn_packets.specs.declared.outgoing.SentOf.{SentOf}
use Rattle.vn_packets.specs.declared.tally.Tally.TheVariants as tally
use Rattle.vn_packets.specs.Datagrams.{reply_ttl, error_octets, body_of, header_in}
use Rattle.vn_packets.specs.Drops.{lost}
use Rattle.vn_packets.specs.Output.{output}

-- what an error says of a datagram (RFC 792)
pub data Trouble : Type 0 where
  -- host unreachable, 3/1
  HostUnreachable : Trouble
  -- protocol unreachable, 3/2
  ProtocolUnreachable : Trouble
  -- port unreachable, 3/3
  PortUnreachable : Trouble
  -- time to live exceeded in transit, 11/0
  TimeExceeded : Trouble

-- the type and the code of its message
abbrev pub kind_and_code : Trouble → ℕ × ℕ
kind_and_code HostUnreachable = (3, 1)
kind_and_code ProtocolUnreachable = (3, 2)
kind_and_code PortUnreachable = (3, 3)
kind_and_code TimeExceeded = (11, 0)

-- whether the datagram had come to its destination, which tells of it then
abbrev pub had_arrived : Trouble → Bool
had_arrived HostUnreachable = false
had_arrived ProtocolUnreachable = true
had_arrived PortUnreachable = true
had_arrived TimeExceeded = false

-- RFC 792: "The internet header plus the first 64 bits of the original datagram's data."
abbrev pub quoted : List ℕ → List ℕ
quoted datagram = take (header_len datagram) datagram ++ take data_size (body_of datagram)

-- its message about a datagram
abbrev pub error_about : Trouble → List ℕ → List ℕ
error_about trouble datagram =
    error_octets (kind_and_code trouble).0 (kind_and_code trouble).1 (quoted datagram)

-- an ICMP message that answers a datagram, from one address to another
abbrev pub icmp_answer : Ip4 → Ip4 → List ℕ → Outgoing
icmp_answer from to message =
    record { src = Some from; dst = to; proto = icmp_protocol; ttl = reply_ttl; body = message }

module _ {N : Type 0} where
  -- what output left, or one message that was dropped
  abbrev pub sent_or_dropped : Result (SentOf N × SceneOf N) Errno → SceneOf N → SceneOf N
  sent_or_dropped (Ok (sent, left)) s = left
  sent_or_dropped (Err errno) s = lost tally.Icmp 1 s

module _ {N : Type 0} (same : N → N → Bool) where
  -- a message is sent, if it can be
  unfoldable pub answered_back : Common → Outgoing → SceneOf N → SceneOf N
  answered_back common send s =
      sent_or_dropped (output same common errno.HostUnreach send s) s

  -- the source of an error about a datagram that came by an interface: the destination that it had come to, or
  -- the first address of the interface
  abbrev pub error_source : Trouble → Ip4 → IfOf N → PartsOf N → Option Ip4
  error_source trouble dst via p =
      if had_arrived trouble then Some dst else first same via p.addresses

  -- from there; where there is no source nothing is sent
  abbrev pub errored_from : Option Ip4 → Common → Trouble → List ℕ → SceneOf N → SceneOf N
  errored_from None common trouble datagram s = s
  errored_from (Some from) common trouble datagram s =
      answered_back common
      (icmp_answer from (header_in datagram).src (error_about trouble datagram)) s

  -- an error about a datagram that came by an interface, in a broadcast frame or not, if one may be sent
  unfoldable pub errored : Common → IfOf N → Trouble → List ℕ → Bool → SceneOf N → SceneOf N
  errored common via trouble datagram is_broadcast s =
      if may_answer is_broadcast (header_in datagram).proto (body_of datagram)
      then errored_from (error_source trouble (header_in datagram).dst via s.parts) common trouble datagram s
      else s

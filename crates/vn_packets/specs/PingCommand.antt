-- ping(8): an echo request goes out, and its reply is awaited.
use Rattle.std.specs.Prelude.{ℕ, Bool, List, replicate, unwrap_or, Option, None}
use Rattle.vn_types.specs.declared.address.Ip4.{Ip4}
use Rattle.vn_types.specs.declared.errno.Errno.TheVariants as errno
use Rattle.vn_icmpfmt.specs.Messages.{echo}
use Rattle.vn_rules.specs.Errors.{icmp_protocol}
use Rattle.vn_rules.specs.Pings.{awaiting}
use Rattle.vn_rules.specs.Rules.{Common, Rule, done}
use Rattle.vn_rules.specs.Scenes.{SceneOf}
use Rattle.vn_rules.specs.Variables.{default_ttl}
use Rattle.vn_rules.specs.declared.parts.PartsOf.{PartsOf}
use Rattle.vn_packets.specs.declared.outgoing.Outgoing.{Outgoing}
use Rattle.vn_packets.specs.Datagrams.{message_octets}
use Rattle.vn_packets.specs.Drops.{on_parts}
use Rattle.vn_packets.specs.Output.{output_left, output_refusals, output_sent}

-- the type of an echo request (RFC 792)
abbrev pub echo_request : ℕ
echo_request = 8

-- octets of data in an echo request
abbrev pub ping_size : ℕ
ping_size = 56

-- the echo request of an identifier, the first of its sequence
abbrev pub request_octets : ℕ → List ℕ
request_octets id = message_octets (echo echo_request id 0 (replicate ping_size 0))

module _ {N : Type 0} where
  -- the next request of a stack to an address, with a time to live or the stack's own
  abbrev pub request_to : Ip4 → Option ℕ → PartsOf N → Outgoing
  request_to ip ttl p = record {
    src = None;
    dst = ip;
    proto = icmp_protocol;
    ttl = unwrap_or ttl (default_ttl p.variables);
    body = request_octets p.pings.next;
  }

module _ {N : Type 0} (same : N → N → Bool) where
  -- the request goes out, and its reply is awaited
  unfoldable pub pinged : Common → Ip4 → Option ℕ → SceneOf N → SceneOf N
  pinged common ip ttl s =
      let send = request_to ip ttl s.parts in
      let how = output_sent same send s.parts in
      on_parts (awaiting common.clock how.src ip how.out) (output_left same common send s)

  -- ping
  unfoldable pub ping_rule : Common → Option ℕ → Ip4 → SceneOf N → Rule (SceneOf N)
  ping_rule common ttl ip s = record {
    refusals = output_refusals same errno.HostUnreach (request_to ip ttl s.parts) s;
    otherwise = done (pinged common ip ttl s);
  }

-- udp(4): a socket gets a peer, sends and receives.
use Rattle.std.specs.Prelude.{ℕ, Bool, false, List, [], ◌∷◌, ◌++◌, codes, length, take, unwrap_or, Option, Some, None, Result, Ok, Err, if◌then◌else◌}
use Rattle.std.specs.Fmt.{decimal}
use Rattle.std.specs.List.{flat_map}
use Rattle.std.specs.Option.{option_map_or, option_or, ok_or}
use Rattle.vn_types.specs.declared.address.Ip4.{Ip4}
use Rattle.vn_types.specs.declared.errno.Errno.{Errno}
use Rattle.vn_types.specs.declared.errno.Errno.TheVariants as errno
use Rattle.vn_types.specs.AddressWords.{hex_octet, ip4_text}
use Rattle.vn_types.specs.Octets.{space}
use Rattle.vn_rules.specs.declared.outcome.Outcome.{Outcome}
use Rattle.vn_rules.specs.declared.outcome.Outcome.TheVariants.{Done, Refused, Value}
use Rattle.vn_rules.specs.declared.parts.PartsOf.{PartsOf}
use Rattle.vn_rules.specs.declared.socket.GramOf.{GramOf}
use Rattle.vn_rules.specs.declared.socket.SocketOf.{SocketOf}
use Rattle.vn_rules.specs.Rules.{Common, Rule, done}
use Rattle.vn_rules.specs.Scenes.{SceneOf}
use Rattle.vn_rules.specs.SocketRefusals.{connect_refusals, recv_refusals, send_refusals}
use Rattle.vn_rules.specs.Sockets.{after_connect, after_recv, after_sent, cleared, destination, first_gram, port_at, socket_named}
use Rattle.vn_rules.specs.Variables.{default_ttl, has_udp_checksum}
use Rattle.vn_packets.specs.declared.outgoing.Outgoing.{Outgoing}
use Rattle.vn_packets.specs.ArpPackets.{unset_ip}
use Rattle.vn_packets.specs.Datagrams.{udp_protocol}
use Rattle.vn_packets.specs.Drops.{on_parts}
use Rattle.vn_packets.specs.Output.{chosen_source, may_not_reach, output_left, output_refusals}
use Rattle.vn_packets.specs.Udp.{udp_octets}

-- the most octets of a datagram that are told
abbrev pub told_size : ℕ
told_size = 32

-- octets in hexadecimal digits, `-` where there is none
abbrev pub hex_or_dash : List ℕ → List ℕ
hex_or_dash [] = codes "-"
hex_or_dash (first ∷ more) = flat_map hex_octet (first ∷ more)

-- from where a datagram came, how long it is, and its first octets
unfoldable pub gram_text : {N : Type 0} → GramOf N → List ℕ
gram_text g =
    ip4_text g.src ++ space ∷ decimal g.sport ++ space ∷ decimal (length g.octets)
    ++ space ∷ hex_or_dash (take told_size g.octets)

-- where a socket sends that has no destination, which is refused
abbrev pub nowhere : Ip4 × ℕ
nowhere = (unset_ip, 0)

module _ {N : Type 0} where
  -- the sockets are changed
  abbrev pub on_sockets : (List (SocketOf N) → List (SocketOf N)) → SceneOf N → SceneOf N
  on_sockets f s = on_parts (λ (p : PartsOf N). record p { sockets = f p.sockets }) s

  -- ---- an error that is pending

  -- whether the port that a socket sent to was unreachable
  abbrev pub is_refused : List ℕ → List (SocketOf N) → Bool
  is_refused name sockets =
      option_map_or (λ (sock : SocketOf N). sock.refused) (socket_named name sockets) false

  -- the error is answered, and is pending no more. It stands as what happens and not as a refusal, since a refusal
  -- would leave it pending
  abbrev pub answers_error : List ℕ → SceneOf N → Rule (SceneOf N)
  answers_error name s = record {
    refusals = [];
    otherwise = record { left = on_sockets (cleared name) s; outcome = Refused errno.ConnRefused };
  }

  -- where an error is pending, it alone is answered
  abbrev pub unless_refused : List ℕ → SceneOf N → Rule (SceneOf N) → Rule (SceneOf N)
  unless_refused name s rule =
      if is_refused name s.parts.sockets then answers_error name s else rule

  -- ---- recv

  -- what is told of a datagram
  abbrev pub told_gram : Option (GramOf N) → Outcome
  told_gram None = Done
  told_gram (Some gram) = Value (gram_text gram)

  -- the datagram that was queued first is taken and told
  unfoldable pub recv_rule : List ℕ → SceneOf N → Rule (SceneOf N)
  recv_rule name s = unless_refused name s (record {
    refusals = recv_refusals name s.parts.sockets;
    otherwise = record {
      left = on_sockets (after_recv name) s;
      outcome = told_gram (first_gram name s.parts.sockets);
    };
  })

  -- ---- connect and send

  -- with the peer, where a source is chosen
  abbrev pub connected_from :
      List ℕ → Ip4 → ℕ → Result Ip4 Errno → List (SocketOf N) → List (SocketOf N)
  connected_from name ip port (Ok source) sockets = after_connect name ip port source sockets
  connected_from name ip port (Err errno) sockets = sockets

  -- whether the destination that is given may not be sent to
  abbrev pub is_given_bad : Option (Ip4 × ℕ) → PartsOf N → Bool
  is_given_bad to p = option_map_or (λ (at : Ip4 × ℕ). may_not_reach at.0 p) to false

  -- the port that a socket sends from: its own, or else a free one
  abbrev pub sending_port : SocketOf N → SceneOf N → ℕ
  sending_port sock s = unwrap_or (port_at sock.ip sock s.parts.sockets) 0

module _ {N : Type 0} (same : N → N → Bool) where
  -- ---- connect

  -- the source of what goes to an address, as output chooses it, or why it would choose none
  unfoldable pub source_to : Ip4 → PartsOf N → Result Ip4 Errno
  source_to ip p =
      if may_not_reach ip p then Err errno.Inval
      else ok_or (chosen_source same ip p) errno.NetUnreach

  -- a socket gets a peer
  unfoldable pub connect_rule : List ℕ → Ip4 → ℕ → SceneOf N → Rule (SceneOf N)
  connect_rule name ip port s =
      let source = source_to ip s.parts in
      record {
        refusals = connect_refusals name port source s.parts.sockets;
        otherwise = done (on_sockets (connected_from name ip port source) s);
      }

  -- ---- send

  -- what a socket sends from a port to an address and a port: from its own address, or from the one that
  -- output chooses
  abbrev pub sent_from : SocketOf N → ℕ → Ip4 × ℕ → List ℕ → PartsOf N → Outgoing
  sent_from sock port to octets p =
      let src = option_or sock.ip (chosen_source same to.0 p) in
      record {
        src = src;
        dst = to.0;
        proto = udp_protocol;
        ttl = unwrap_or sock.ttl (default_ttl p.variables);
        body = udp_octets (unwrap_or src unset_ip) port to octets (has_udp_checksum p.variables);
      }

  -- a socket sends to the destination that is given or else to its peer, from its port or else from a free one
  abbrev pub sending :
      Common → List ℕ → List ℕ → Option (Ip4 × ℕ) → Option (SocketOf N) → SceneOf N → Rule (SceneOf N)
  sending common name octets to None s =
      record { refusals = send_refusals name to false s.parts.sockets; otherwise = done s }
  sending common name octets to (Some sock) s =
      let port = sending_port sock s in
      let out = sent_from sock port (unwrap_or (destination to sock) nowhere) octets s.parts in
      record {
        refusals =
            send_refusals name to (is_given_bad to s.parts) s.parts.sockets
            ++ output_refusals same errno.NetUnreach out s;
        otherwise = done (on_sockets (after_sent name port) (output_left same common out s));
      }

  -- a socket sends octets
  unfoldable pub send_rule :
      Common → List ℕ → List ℕ → Option (Ip4 × ℕ) → SceneOf N → Rule (SceneOf N)
  send_rule common name octets to s =
      unless_refused name s (sending common name octets to (socket_named name s.parts.sockets) s)

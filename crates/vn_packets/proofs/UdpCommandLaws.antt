-- udp(4)'s commands that send and receive, under other names of halves.
use Rattle.std.proofs.Common.{◌≡◌, ℕ, Bool, false, cond, List, ◌++◌, map, unwrap_or, Option, Some, None, Result, Ok, Err, refl, ap, ap₂, ◌∙◌}
use Rattle.std.specs.Option.{option_map, option_map_or, option_or, ok_or}
use Rattle.vn_types.specs.declared.address.Ip4.{Ip4}
use Rattle.vn_types.specs.declared.errno.Errno.{Errno}
use Rattle.vn_types.specs.declared.errno.Errno.TheVariants as errno
use Rattle.vn_rules.specs.declared.socket.GramOf.{GramOf}
use Rattle.vn_rules.specs.declared.socket.SocketOf.{SocketOf}
use Rattle.vn_rules.specs.Renamed.{as_gram, as_socket, renamed}
use Rattle.vn_rules.specs.Rules.{Common, Rule, done}
use Rattle.vn_rules.specs.Scenes.{SceneOf, as_link, renamed_scene}
use Rattle.vn_rules.specs.SocketRefusals.{connect_refusals, send_refusals, recv_refusals}
use Rattle.vn_rules.specs.Sockets.{after_recv, after_sent, cleared, destination, first_gram, port_at, socket_named}
use Rattle.vn_rules.specs.Variables.{default_ttl, has_udp_checksum}
use Rattle.vn_rules.proofs.SocketLaws.{after_connect-renamed, after_recv-renamed, after_sent-renamed, cleared-renamed, connect_refusals-renamed, first_gram-renamed, port_at-renamed, recv_refusals-renamed, send_refusals-renamed, socket_named-renamed}
use Rattle.vn_packets.specs.declared.outgoing.Outgoing.{Outgoing}
use Rattle.vn_packets.specs.ArpPackets.{unset_ip}
use Rattle.vn_packets.specs.Datagrams.{udp_protocol}
use Rattle.vn_packets.specs.Output.{chosen_source, output_left, output_refusals}
use Rattle.vn_packets.specs.Renamed.{as_rule}
use Rattle.vn_packets.specs.Udp.{udp_octets}
use Rattle.vn_packets.specs.UdpCommands.{gram_text, nowhere, on_sockets, is_refused, answers_error, unless_refused, told_gram, recv_rule, source_to, connected_from, connect_rule, sending_port, sent_from, is_given_bad, sending, send_rule}
use Rattle.vn_packets.proofs.DropLaws.{choice}
use Rattle.vn_packets.proofs.OutputLaws.{chosen_source-renamed, reach-so, output_left-renamed, output_refusals-renamed}

module _ {N M : Type 0} (r : N → M) where
  on_sockets-renamed : (f : List (SocketOf N) → List (SocketOf N)) (g : List (SocketOf M) → List (SocketOf M)) → ((sockets : List (SocketOf N)) → g (map (as_socket r) sockets) ≡ map (as_socket r) (f sockets))
      → (s : SceneOf N) → on_sockets g (renamed_scene r s) ≡ renamed_scene r (on_sockets f s)
  unfolding renamed_scene renamed
  on_sockets-renamed f g same s i = record { parts = record (renamed r s.parts) { sockets = same s.parts.sockets i }; links = map (as_link r) s.links }

  -- ---- an error that is pending

  refused-so : (name : List ℕ) (s : SceneOf N) → is_refused name (renamed_scene r s).parts.sockets ≡ is_refused name s.parts.sockets
  unfolding renamed_scene renamed
  refused-so name s = ap (λ o. option_map_or (λ (sock : SocketOf M). sock.refused) o false) (socket_named-renamed r name s.parts.sockets) ∙ by (socket_named name s.parts.sockets)
    where
      by : (o : Option (SocketOf N)) → option_map_or (λ (sock : SocketOf M). sock.refused) (option_map (as_socket r) o) false ≡ option_map_or (λ (sock : SocketOf N). sock.refused) o false
      by None = refl
      by (Some sock) = refl

  unless_refused-renamed : (name : List ℕ) (s : SceneOf N) (rule : Rule (SceneOf N)) (other : Rule (SceneOf M)) → other ≡ as_rule r rule
      → unless_refused name (renamed_scene r s) other ≡ as_rule r (unless_refused name s rule)
  unless_refused-renamed name s rule other same =
      choice (as_rule r) (answers_error name s) rule (refused-so name s)
      (ap (λ t. record (answers_error name (renamed_scene r s)) { otherwise = record (answers_error name (renamed_scene r s)).otherwise { left = t } }) (on_sockets-renamed (cleared name) (cleared name) (cleared-renamed r name) s))
      same

  -- ---- recv

  told-so : (o : Option (GramOf N)) → told_gram (option_map (as_gram r) o) ≡ told_gram o
  unfolding gram_text
  told-so None = refl
  told-so (Some gram) = refl

  recv_refusals-so : (name : List ℕ) (s : SceneOf N) → recv_refusals name (renamed_scene r s).parts.sockets ≡ recv_refusals name s.parts.sockets
  unfolding renamed_scene renamed
  recv_refusals-so name s = recv_refusals-renamed r name s.parts.sockets

  first_gram-so : (name : List ℕ) (s : SceneOf N) → first_gram name (renamed_scene r s).parts.sockets ≡ option_map (as_gram r) (first_gram name s.parts.sockets)
  unfolding renamed_scene renamed
  first_gram-so name s = first_gram-renamed r name s.parts.sockets

  pub recv_rule-renamed : (name : List ℕ) (s : SceneOf N) → recv_rule name (renamed_scene r s) ≡ as_rule r (recv_rule name s)
  unfolding recv_rule
  recv_rule-renamed name s = unless_refused-renamed name s _ _ (λ i. record {
    refusals = recv_refusals-so name s i;
    otherwise = record {
      left = on_sockets-renamed (after_recv name) (after_recv name) (after_recv-renamed r name) s i;
      outcome = (ap told_gram (first_gram-so name s) ∙ told-so (first_gram name s.parts.sockets)) i;
    };
  })

  -- ---- connect

  connected_from-renamed : (name : List ℕ) (ip : Ip4) (port : ℕ) (source : Result Ip4 Errno) (sockets : List (SocketOf N)) → connected_from name ip port source (map (as_socket r) sockets) ≡ map (as_socket r) (connected_from name ip port source sockets)
  connected_from-renamed name ip port (Ok source) sockets = after_connect-renamed r name ip port source sockets
  connected_from-renamed name ip port (Err e) sockets = refl

  connect_refusals-so : (name : List ℕ) (port : ℕ) (source : Result Ip4 Errno) (s : SceneOf N) → connect_refusals name port source (renamed_scene r s).parts.sockets ≡ connect_refusals name port source s.parts.sockets
  unfolding renamed_scene renamed
  connect_refusals-so name port source s = connect_refusals-renamed r name port source s.parts.sockets

  send_refusals-so : (name : List ℕ) (to : Option (Ip4 × ℕ)) (is_bad : Bool) (s : SceneOf N) → send_refusals name to is_bad (renamed_scene r s).parts.sockets ≡ send_refusals name to is_bad s.parts.sockets
  unfolding renamed_scene renamed
  send_refusals-so name to is_bad s = send_refusals-renamed r name to is_bad s.parts.sockets

  given_bad-so : (to : Option (Ip4 × ℕ)) (s : SceneOf N) → is_given_bad to (renamed_scene r s).parts ≡ is_given_bad to s.parts
  given_bad-so None s = refl
  given_bad-so (Some to) s = reach-so r to.0 s

module _ {N M : Type 0} (r : N → M) (at_n : N → N → Bool) (at_m : M → M → Bool) (faithful : (a b : N) → at_m (r a) (r b) ≡ at_n a b) where
  chosen-so : (ip : Ip4) (s : SceneOf N) → chosen_source at_m ip (renamed_scene r s).parts ≡ chosen_source at_n ip s.parts
  unfolding renamed_scene
  chosen-so ip s = chosen_source-renamed r at_n at_m faithful ip s.parts

  source-so : (ip : Ip4) (s : SceneOf N) → source_to at_m ip (renamed_scene r s).parts ≡ source_to at_n ip s.parts
  unfolding source_to
  source-so ip s = ap₂ (λ bad chosen. cond bad (Err errno.Inval) (ok_or chosen errno.NetUnreach)) (reach-so r ip s) (chosen-so ip s)

  pub connect_rule-renamed : (name : List ℕ) (ip : Ip4) (port : ℕ) (s : SceneOf N) → connect_rule at_m name ip port (renamed_scene r s) ≡ as_rule r (connect_rule at_n name ip port s)
  unfolding connect_rule
  connect_rule-renamed name ip port s =
      let source : Result Ip4 Errno = source_to at_n ip s.parts in
      ap (λ from. record { refusals = connect_refusals name port from (renamed_scene r s).parts.sockets; otherwise = done (on_sockets (connected_from name ip port from) (renamed_scene r s)) }) (source-so ip s)
      ∙ (λ i. record {
        refusals = connect_refusals-so r name port source s i;
        otherwise = done (on_sockets-renamed r (connected_from name ip port source) (connected_from name ip port source) (connected_from-renamed r name ip port source) s i);
      })

  -- ---- send

  module _ (common : Common) (name octets : List ℕ) (to : Option (Ip4 × ℕ)) (s : SceneOf N) where
    refusals-so : send_refusals name to (is_given_bad to (renamed_scene r s).parts) (renamed_scene r s).parts.sockets ≡ send_refusals name to (is_given_bad to s.parts) s.parts.sockets
    refusals-so = ap (λ bad. send_refusals name to bad (renamed_scene r s).parts.sockets) (given_bad-so r to s) ∙ send_refusals-so r name to (is_given_bad to s.parts) s

    -- from a port
    abbrev sends : ℕ → Outgoing → Rule (SceneOf M)
    sends port out = record {
      refusals = send_refusals name to (is_given_bad to (renamed_scene r s).parts) (renamed_scene r s).parts.sockets ++ output_refusals at_m errno.NetUnreach out (renamed_scene r s);
      otherwise = done (on_sockets (after_sent name port) (output_left at_m common out (renamed_scene r s)));
    }

    module _ (sock : SocketOf N) where
      abbrev at : Ip4 × ℕ
      at = unwrap_or (destination to sock) nowhere

      port-so : port_at sock.ip (as_socket r sock) (renamed_scene r s).parts.sockets ≡ port_at sock.ip sock s.parts.sockets
      unfolding renamed_scene renamed
      port-so = port_at-renamed r sock.ip sock s.parts.sockets

      sent-so : (port : ℕ) → sent_from at_m (as_socket r sock) port at octets (renamed_scene r s).parts ≡ sent_from at_n sock port at octets s.parts
      unfolding renamed_scene renamed
      sent-so port = ap (λ chosen. let src = option_or sock.ip chosen in record {
        src = src;
        dst = at.0;
        proto = udp_protocol;
        ttl = unwrap_or sock.ttl (default_ttl s.parts.variables);
        body = udp_octets (unwrap_or src unset_ip) port at octets (has_udp_checksum s.parts.variables);
      }) (chosen-so at.0 s)

      abbrev out : Outgoing
      out = sent_from at_n sock (sending_port sock s) at octets s.parts

      sends-renamed : sending at_m common name octets to (Some (as_socket r sock)) (renamed_scene r s) ≡ as_rule r (sending at_n common name octets to (Some sock) s)
      sends-renamed =
          let port = sending_port sock s in
          ap (λ o. let own = unwrap_or o 0 in sends own (sent_from at_m (as_socket r sock) own at octets (renamed_scene r s).parts)) port-so
          ∙ ap (sends port) (sent-so port)
          ∙ (λ i. record {
            refusals = refusals-so i ++ output_refusals-renamed r at_n at_m faithful errno.NetUnreach out s i;
            otherwise = done ((ap (on_sockets (after_sent name port)) (output_left-renamed r at_n at_m faithful common out s)
                ∙ on_sockets-renamed r (after_sent name port) (after_sent name port) (after_sent-renamed r name port) (output_left at_n common out s)) i);
          })

    sending-renamed : (o : Option (SocketOf N)) → sending at_m common name octets to (option_map (as_socket r) o) (renamed_scene r s) ≡ as_rule r (sending at_n common name octets to o s)
    sending-renamed None = λ i. record { refusals = send_refusals-so r name to false s i; otherwise = done (renamed_scene r s) }
    sending-renamed (Some sock) = sends-renamed sock

    named-so : socket_named name (renamed_scene r s).parts.sockets ≡ option_map (as_socket r) (socket_named name s.parts.sockets)
    unfolding renamed_scene renamed
    named-so = socket_named-renamed r name s.parts.sockets

    pub send_rule-renamed : send_rule at_m common name octets to (renamed_scene r s) ≡ as_rule r (send_rule at_n common name octets to s)
    unfolding send_rule
    send_rule-renamed =
        unless_refused-renamed r name s (sending at_n common name octets to (socket_named name s.parts.sockets) s) (sending at_m common name octets to (socket_named name (renamed_scene r s).parts.sockets) (renamed_scene r s))
        (ap (λ o. sending at_m common name octets to o (renamed_scene r s)) named-so ∙ sending-renamed (socket_named name s.parts.sockets))

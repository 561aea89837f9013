-- udp(4)'s commands that send and receive leave a scene sound, where nothing refuses them.
use Rattle.std.proofs.Common.{◌≡◌, ℕ, Bool, true, false, cond, List, [], ◌∷◌, ◌++◌, unwrap_or, Option, Some, None, Result, Ok, Err, refl, sym, ap, ◌∙◌}
use Rattle.std.specs.Bool.{Decides}
use Rattle.std.specs.Option.{is_none, ok_or}
use Rattle.vn_types.specs.declared.address.Ip4.{Ip4}
use Rattle.vn_types.specs.declared.errno.Errno.{Errno}
use Rattle.vn_types.specs.declared.errno.Errno.TheVariants as errno
use Rattle.vn_types.specs.Refusals.{first_refusal}
use Rattle.vn_types.proofs.Options.{some_same}
use Rattle.vn_rules.specs.declared.parts.PartsOf.{PartsOf}
use Rattle.vn_rules.specs.declared.socket.SocketOf.{SocketOf}
use Rattle.vn_rules.specs.Addresses.{local}
use Rattle.vn_rules.specs.Rules.{Common, Rule}
use Rattle.vn_rules.specs.Scenes.{SceneOf, is_sound_scene}
use Rattle.vn_rules.specs.SocketRefusals.{connect_refusals, send_refusals}
use Rattle.vn_rules.specs.Sockets.{after_connect, after_recv, after_sent, cleared, destination, port_at, socket_named}
use Rattle.vn_rules.specs.Soundness.{is_sound_parts}
use Rattle.vn_rules.proofs.SocketEdits.{open_from_none}
use Rattle.vn_rules.proofs.SocketKept.{after_connect-sound, after_sent-sound}
use Rattle.vn_rules.proofs.SocketQueues.{after_recv-sound, cleared-sound}
use Rattle.vn_packets.specs.declared.outgoing.Outgoing.{Outgoing}
use Rattle.vn_packets.specs.Output.{chosen_source, may_not_reach, output_left, output_refusals}
use Rattle.vn_packets.specs.UdpCommands.{nowhere, on_sockets, is_refused, answers_error, unless_refused, recv_rule, source_to, connected_from, connect_rule, sending_port, sent_from, is_given_bad, sending, send_rule}
use Rattle.vn_packets.proofs.OutputSound.{output_left-keeps}
use Rattle.vn_packets.proofs.OutputUntouched.{output_left-sockets}
use Rattle.vn_packets.proofs.SceneSound.{Keeps, keeps-refl, keeps-then, parts-sound, on_parts-keeps}
use Rattle.vn_packets.proofs.SourceChosen.{chosen-local}

-- what two lists of conditions do not refuse, neither does
both-pass : {E : Type 0} (xs ys : List (Bool × E)) → first_refusal (xs ++ ys) ≡ None → (first_refusal xs ≡ None) × (first_refusal ys ≡ None)
both-pass [] ys none = (refl, none)
both-pass (x ∷ xs) ys none = by x.0 none (both-pass xs ys)
  where
    by : (b : Bool) → cond b (Some x.1) (first_refusal (xs ++ ys)) ≡ None → (first_refusal (xs ++ ys) ≡ None → (first_refusal xs ≡ None) × (first_refusal ys ≡ None))
        → (cond b (Some x.1) (first_refusal xs) ≡ None) × (first_refusal ys ≡ None)
    by true none more = absurd (cc)
    by false none more = more none

module _ {N : Type 0} (same : N → N → Bool) (s : SceneOf N) (sound : is_sound_scene same s ≡ true) where
  on_sockets-keeps : (f : List (SocketOf N) → List (SocketOf N)) → is_sound_parts same (record s.parts { sockets = f s.parts.sockets }) ≡ true → Keeps same s (on_sockets f s)
  on_sockets-keeps f parts = on_parts-keeps same (λ (p : PartsOf N). record p { sockets = f p.sockets }) s parts refl sound

  unless_refused-keeps : (name : List ℕ) (rule : Rule (SceneOf N)) → (first_refusal rule.refusals ≡ None → Keeps same s rule.otherwise.left)
      → first_refusal (unless_refused name s rule).refusals ≡ None → Keeps same s (unless_refused name s rule).otherwise.left
  unless_refused-keeps name rule keeps none = by (is_refused name s.parts.sockets) none
    where
      by : (b : Bool) → first_refusal (cond b (answers_error name s) rule).refusals ≡ None → Keeps same s (cond b (answers_error name s) rule).otherwise.left
      by true none = on_sockets-keeps (cleared name) (cleared-sound same s.parts name (parts-sound same s sound))
      by false none = keeps none

  pub recv_rule-keeps : (name : List ℕ) → first_refusal (recv_rule name s).refusals ≡ None → Keeps same s (recv_rule name s).otherwise.left
  unfolding recv_rule
  recv_rule-keeps name none = unless_refused-keeps name _ (λ i. on_sockets-keeps (after_recv name) (after_recv-sound same s.parts name (parts-sound same s sound))) none

module _ {N : Type 0} (same : N → N → Bool) (decides : (a b : N) → Decides (same a b) (a ≡ b)) (s : SceneOf N) (sound : is_sound_scene same s ≡ true) where
  -- ---- connect

  source-local : (ip source : Ip4) → source_to same ip s.parts ≡ Ok source → local source s.parts.addresses ≡ true
  unfolding source_to
  source-local ip source is = by (may_not_reach ip s.parts) is
    where
      chosen : (o : Option Ip4) → chosen_source same ip s.parts ≡ o → ok_or o errno.NetUnreach ≡ Ok source → local source s.parts.addresses ≡ true
      chosen None found is = absurd (cc)
      chosen (Some src) found is = chosen-local same decides s.parts (parts-sound same s sound) ip source (found ∙ cc)

      by : (b : Bool) → cond b (Err errno.Inval) (ok_or (chosen_source same ip s.parts) errno.NetUnreach) ≡ Ok source → local source s.parts.addresses ≡ true
      by true is = absurd (cc)
      by false is = chosen (chosen_source same ip s.parts) refl is

  connected-keeps : (name : List ℕ) (ip : Ip4) (port : ℕ) (source : Result Ip4 Errno) → source_to same ip s.parts ≡ source → first_refusal (connect_refusals name port source s.parts.sockets) ≡ None
      → Keeps same s (on_sockets (connected_from name ip port source) s)
  connected-keeps name ip port (Ok source) is none =
      on_sockets-keeps same s sound (after_connect name ip port source) (after_connect-sound same s.parts name ip port source (parts-sound same s sound) (source-local ip source is) none)
  connected-keeps name ip port (Err e) is none = keeps-refl same s sound

  pub connect_rule-keeps : (name : List ℕ) (ip : Ip4) (port : ℕ) → first_refusal (connect_rule same name ip port s).refusals ≡ None → Keeps same s (connect_rule same name ip port s).otherwise.left
  unfolding connect_rule
  connect_rule-keeps name ip port none = connected-keeps name ip port (source_to same ip s.parts) refl none

  -- ---- send

  module _ (common : Common) (name octets : List ℕ) (to : Option (Ip4 × ℕ)) where
    module _ (sock : SocketOf N) (named : socket_named name s.parts.sockets ≡ Some sock) where
      abbrev out : Outgoing
      out = sent_from same sock (sending_port sock s) (unwrap_or (destination to sock) nowhere) octets s.parts

      abbrev left : SceneOf N
      left = output_left same common out s

      -- a port is found where none of the conditions holds
      port-found : first_refusal (send_refusals name to (is_given_bad to s.parts) s.parts.sockets) ≡ None → port_at sock.ip sock s.parts.sockets ≡ Some (sending_port sock s)
      port-found none =
          let open' = open_from_none _ name s.parts.sockets none in
          let it : open'.it ≡ sock = some_same open'.it sock (sym open'.is ∙ named) in
          found (port_at sock.ip sock s.parts.sockets) (ap (λ (own : SocketOf N). is_none (port_at own.ip own s.parts.sockets)) (sym it) ∙ open'.none.1.1.1.1.1.0)
        where
          found : (o : Option ℕ) → is_none o ≡ false → o ≡ Some (unwrap_or o 0)
          found None is = absurd (cc)
          found (Some p) is = refl

      sends-keeps : first_refusal (send_refusals name to (is_given_bad to s.parts) s.parts.sockets ++ output_refusals same errno.NetUnreach out s) ≡ None → Keeps same s (on_sockets (after_sent name (sending_port sock s)) left)
      sends-keeps none =
          let port = sending_port sock s in
          let passed = both-pass (send_refusals name to (is_given_bad to s.parts) s.parts.sockets) (output_refusals same errno.NetUnreach out s) none in
          keeps-then same s left (on_sockets (after_sent name port) left) (output_left-keeps same decides common errno.NetUnreach out s sound passed.1)
          (λ is. on_sockets-keeps same left is (after_sent name port)
          (after_sent-sound same left.parts name port sock (parts-sound same left is) (ap (socket_named name) (output_left-sockets same common out s) ∙ named)
          (ap (port_at sock.ip sock) (output_left-sockets same common out s) ∙ port-found passed.0)))

    sending-keeps : (o : Option (SocketOf N)) → socket_named name s.parts.sockets ≡ o → first_refusal (sending same common name octets to o s).refusals ≡ None → Keeps same s (sending same common name octets to o s).otherwise.left
    sending-keeps None named none = keeps-refl same s sound
    sending-keeps (Some sock) named none = sends-keeps sock named none

    pub send_rule-keeps : first_refusal (send_rule same common name octets to s).refusals ≡ None → Keeps same s (send_rule same common name octets to s).otherwise.left
    unfolding send_rule
    send_rule-keeps none =
        unless_refused-keeps same s sound name (sending same common name octets to (socket_named name s.parts.sockets) s) (sending-keeps (socket_named name s.parts.sockets) refl) none

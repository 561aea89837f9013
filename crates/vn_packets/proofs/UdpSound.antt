-- UDP datagrams that come leave a scene sound.
use Rattle.std.proofs.Common.{◌≡◌, ℕ, Bool, true, false, cond, is_some, List, Option, Some, None, refl}
use Rattle.std.specs.Bool.{Decides}
use Rattle.vn_types.specs.declared.interface.IfOf.{IfOf}
use Rattle.vn_udpfmt.specs.Datagram.{refusal}
use Rattle.vn_rules.specs.declared.parts.PartsOf.{PartsOf}
use Rattle.vn_rules.specs.declared.socket.GramOf.{GramOf}
use Rattle.vn_rules.specs.Interfaces.{is_among}
use Rattle.vn_rules.specs.Rules.{Common}
use Rattle.vn_rules.specs.Scenes.{SceneOf, is_sound_scene}
use Rattle.vn_rules.specs.Sockets.{is_full_at, with_gram}
use Rattle.vn_rules.proofs.SocketQueues.{with_gram-sound}
use Rattle.vn_packets.specs.declared.tally.Tally.TheVariants.{Udp, Full}
use Rattle.vn_packets.specs.Datagrams.{body_of, header_in}
use Rattle.vn_packets.specs.Drops.{counted, lost, on_parts}
use Rattle.vn_packets.specs.Errors.{PortUnreachable, errored}
use Rattle.vn_packets.specs.Udp.{gram_from, given, receiver, received_by, udp_received}
use Rattle.vn_packets.proofs.ErrorSound.{errored-keeps}
use Rattle.vn_packets.proofs.SceneSound.{Keeps, keeps-then, keeps-either, parts-sound, on_parts-keeps, lost-keeps}

module _ {N : Type 0} (same : N → N → Bool) (decides : (a b : N) → Decides (same a b) (a ≡ b)) where
  given-keeps : (place : ℕ) (gram : GramOf N) (s : SceneOf N) → is_sound_scene same s ≡ true → is_among same s.parts.interfaces gram.via ≡ true → Keeps same s (on_parts (given place gram) s)
  unfolding given
  given-keeps place gram s sound among = by (is_full_at place s.parts.sockets)
    where
      by : (b : Bool) → Keeps same s (record s { parts = cond b (counted Full 1 s.parts) (record s.parts { sockets = with_gram place gram s.parts.sockets }) })
      by true = lost-keeps same Full 1 s sound
      by false =
          on_parts-keeps same (λ (p : PartsOf N). record p { sockets = with_gram place gram p.sockets }) s (with_gram-sound same s.parts place gram among (parts-sound same s sound)) refl sound

  module _ (common : Common) (via : IfOf N) (datagram : List ℕ) (is_broadcast : Bool) (s : SceneOf N) (sound : is_sound_scene same s ≡ true) (among : is_among same s.parts.interfaces via ≡ true) where
    received_by-keeps : (o : Option ℕ) → Keeps same s (received_by same o common via datagram is_broadcast s)
    unfolding received_by
    received_by-keeps None =
        keeps-then same s (lost Udp 1 s) (errored same common via PortUnreachable datagram is_broadcast (lost Udp 1 s)) (lost-keeps same Udp 1 s sound)
        (errored-keeps same decides common via PortUnreachable datagram is_broadcast (lost Udp 1 s))
    received_by-keeps (Some place) = given-keeps place (gram_from (header_in datagram).src (body_of datagram) via) s sound among

    pub udp_received-keeps : Keeps same s (udp_received same common via datagram is_broadcast s)
    unfolding udp_received
    udp_received-keeps =
        let src = (header_in datagram).src in
        let dst = (header_in datagram).dst in
        let octets = body_of datagram in
        keeps-either same s (lost Udp 1 s) (received_by same (receiver src dst octets s.parts) common via datagram is_broadcast s) (is_some (refusal src dst octets)) (lost-keeps same Udp 1 s sound)
        (received_by-keeps (receiver src dst octets s.parts))

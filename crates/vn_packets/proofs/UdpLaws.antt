-- UDP datagrams that come, under other names of halves.
use Rattle.std.proofs.Common.{◌≡◌, ℕ, Bool, is_some, List, Option, Some, None, refl, ap, ◌∙◌}
use Rattle.vn_types.specs.declared.address.Ip4.{Ip4}
use Rattle.vn_types.specs.declared.interface.IfOf.{IfOf}
use Rattle.vn_types.specs.Interfaces.{as_if}
use Rattle.vn_udpfmt.specs.Datagram.{refusal}
use Rattle.vn_udpfmt.specs.Header.{header_of}
use Rattle.vn_rules.specs.declared.parts.PartsOf.{PartsOf}
use Rattle.vn_rules.specs.declared.socket.GramOf.{GramOf}
use Rattle.vn_rules.specs.Renamed.{as_gram, renamed}
use Rattle.vn_rules.specs.Rules.{Common}
use Rattle.vn_rules.specs.Scenes.{SceneOf, renamed_scene}
use Rattle.vn_rules.specs.Sockets.{with_gram}
use Rattle.vn_rules.proofs.SocketLaws.{is_full_at-renamed, socket_for-renamed, with_gram-renamed}
use Rattle.vn_packets.specs.declared.tally.Tally.TheVariants.{Udp, Full}
use Rattle.vn_packets.specs.Datagrams.{body_of, header_in}
use Rattle.vn_packets.specs.Drops.{counted, lost}
use Rattle.vn_packets.specs.Errors.{PortUnreachable, errored}
use Rattle.vn_packets.specs.Udp.{gram_from, given, receiver, received_by, udp_received}
use Rattle.vn_packets.proofs.DropLaws.{choice, on_parts-renamed, counted-renamed, lost-renamed}
use Rattle.vn_packets.proofs.ErrorLaws.{errored-renamed}

module _ {N M : Type 0} (r : N → M) where
  given-renamed : (place : ℕ) (gram : GramOf N) (p : PartsOf N) → given place (as_gram r gram) (renamed r p) ≡ renamed r (given place gram p)
  unfolding given renamed
  given-renamed place gram p =
      choice (renamed r) (counted Full 1 p) (record p { sockets = with_gram place gram p.sockets }) (is_full_at-renamed r place p.sockets)
      (counted-renamed r Full 1 p) (λ i. record (renamed r p) { sockets = with_gram-renamed r place gram p.sockets i })

  receiver-so : (src dst : Ip4) (octets : List ℕ) (s : SceneOf N) → receiver src dst octets (renamed_scene r s).parts ≡ receiver src dst octets s.parts
  unfolding renamed_scene renamed
  receiver-so src dst octets s = socket_for-renamed r dst (header_of octets).dport src (header_of octets).sport s.parts.sockets

module _ {N M : Type 0} (r : N → M) (at_n : N → N → Bool) (at_m : M → M → Bool) (faithful : (a b : N) → at_m (r a) (r b) ≡ at_n a b)
    (common : Common) (via : IfOf N) (datagram : List ℕ) (is_broadcast : Bool) (s : SceneOf N) where
  received_by-renamed : (o : Option ℕ) → received_by at_m o common (as_if r via) datagram is_broadcast (renamed_scene r s) ≡ renamed_scene r (received_by at_n o common via datagram is_broadcast s)
  unfolding received_by
  received_by-renamed None =
      ap (errored at_m common (as_if r via) PortUnreachable datagram is_broadcast) (lost-renamed r Udp 1 s)
      ∙ errored-renamed r at_n at_m faithful common via PortUnreachable datagram is_broadcast (lost Udp 1 s)
  received_by-renamed (Some place) =
      let gram : GramOf N = gram_from (header_in datagram).src (body_of datagram) via in
      on_parts-renamed r (given place gram) (given place (as_gram r gram)) s (given-renamed r place gram s.parts)

  pub udp_received-renamed : udp_received at_m common (as_if r via) datagram is_broadcast (renamed_scene r s) ≡ renamed_scene r (udp_received at_n common via datagram is_broadcast s)
  unfolding udp_received
  udp_received-renamed =
      let src = (header_in datagram).src in
      let dst = (header_in datagram).dst in
      let octets = body_of datagram in
      choice (renamed_scene r) (lost Udp 1 s) (received_by at_n (receiver src dst octets s.parts) common via datagram is_broadcast s)
      {b = is_some (refusal src dst octets)} refl (lost-renamed r Udp 1 s)
      (ap (λ o. received_by at_m o common (as_if r via) datagram is_broadcast (renamed_scene r s)) (receiver-so r src dst octets s)
      ∙ received_by-renamed (receiver src dst octets s.parts))

-- ICMP errors that are sent, under other names of halves.
use Rattle.std.proofs.Common.{◌≡◌, ℕ, Bool, cond, List, Option, Some, None, Result, Ok, Err, refl, ap, ◌∙◌}
use Rattle.std.specs.Result.{result_map_both}
use Rattle.vn_types.specs.declared.address.Ip4.{Ip4}
use Rattle.vn_types.specs.declared.errno.Errno.{Errno}
use Rattle.vn_types.specs.declared.errno.Errno.TheVariants as errno
use Rattle.vn_types.specs.declared.interface.IfOf.{IfOf}
use Rattle.vn_types.specs.Interfaces.{as_if}
use Rattle.vn_rules.specs.Errors.{may_answer}
use Rattle.vn_rules.specs.Renamed.{renamed}
use Rattle.vn_rules.specs.Rules.{Common}
use Rattle.vn_rules.specs.Scenes.{SceneOf, renamed_scene}
use Rattle.vn_rules.proofs.AddressLaws.{first-renamed}
use Rattle.vn_packets.specs.declared.outgoing.Outgoing.{Outgoing}
use Rattle.vn_packets.specs.declared.outgoing.SentOf.{SentOf}
use Rattle.vn_packets.specs.declared.tally.Tally.TheVariants as tally
use Rattle.vn_packets.specs.Datagrams.{body_of, header_in}
use Rattle.vn_packets.specs.Errors.{Trouble, had_arrived, error_about, icmp_answer, sent_or_dropped, answered_back, error_source, errored_from, errored}
use Rattle.vn_packets.specs.Output.{output}
use Rattle.vn_packets.specs.Renamed.{as_output}
use Rattle.vn_packets.proofs.DropLaws.{choice, lost-renamed}
use Rattle.vn_packets.proofs.OutputLaws.{output-renamed}

module _ {N M : Type 0} (r : N → M) (at_n : N → N → Bool) (at_m : M → M → Bool) (faithful : (a b : N) → at_m (r a) (r b) ≡ at_n a b) where
  sent_or_dropped-renamed : (o : Result (SentOf N × SceneOf N) Errno) (s : SceneOf N) → sent_or_dropped (result_map_both (as_output r) (λ e. e) o) (renamed_scene r s) ≡ renamed_scene r (sent_or_dropped o s)
  sent_or_dropped-renamed (Ok (sent, left)) s = refl
  sent_or_dropped-renamed (Err e) s = lost-renamed r tally.Icmp 1 s

  pub answered_back-renamed : (common : Common) (send : Outgoing) (s : SceneOf N) → answered_back at_m common send (renamed_scene r s) ≡ renamed_scene r (answered_back at_n common send s)
  unfolding answered_back
  answered_back-renamed common send s =
      ap (λ o. sent_or_dropped o (renamed_scene r s)) (output-renamed r at_n at_m faithful common errno.HostUnreach send s)
      ∙ sent_or_dropped-renamed (output at_n common errno.HostUnreach send s) s

  source-so : (trouble : Trouble) (dst : Ip4) (via : IfOf N) (s : SceneOf N) → error_source at_m trouble dst (as_if r via) (renamed_scene r s).parts ≡ error_source at_n trouble dst via s.parts
  unfolding renamed_scene renamed
  source-so trouble dst via s = ap (λ o. cond (had_arrived trouble) (Some dst) o) (first-renamed r at_n at_m faithful via s.parts.addresses)

  errored_from-renamed : (from : Option Ip4) (common : Common) (trouble : Trouble) (datagram : List ℕ) (s : SceneOf N)
      → errored_from at_m from common trouble datagram (renamed_scene r s) ≡ renamed_scene r (errored_from at_n from common trouble datagram s)
  errored_from-renamed None common trouble datagram s = refl
  errored_from-renamed (Some from) common trouble datagram s =
      answered_back-renamed common (icmp_answer from (header_in datagram).src (error_about trouble datagram)) s

  pub errored-renamed : (common : Common) (via : IfOf N) (trouble : Trouble) (datagram : List ℕ) (is_broadcast : Bool) (s : SceneOf N)
      → errored at_m common (as_if r via) trouble datagram is_broadcast (renamed_scene r s) ≡ renamed_scene r (errored at_n common via trouble datagram is_broadcast s)
  unfolding errored
  errored-renamed common via trouble datagram is_broadcast s =
      choice (renamed_scene r) (errored_from at_n (error_source at_n trouble (header_in datagram).dst via s.parts) common trouble datagram s) s
      {b = may_answer is_broadcast (header_in datagram).proto (body_of datagram)} refl
      (ap (λ from. errored_from at_m from common trouble datagram (renamed_scene r s)) (source-so trouble (header_in datagram).dst via s)
      ∙ errored_from-renamed (error_source at_n trouble (header_in datagram).dst via s.parts) common trouble datagram s)
      refl

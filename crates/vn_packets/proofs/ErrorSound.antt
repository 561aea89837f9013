-- Errors, replies and datagrams for others leave a scene sound.
use Rattle.std.proofs.Common.{◌≡◌, ℕ, Bool, true, false, cond, nat_le, List, Option, Some, None, refl}
use Rattle.std.specs.Bool.{Decides}
use Rattle.vn_types.proofs.RefusalLaws.{none-applies}
use Rattle.vn_types.specs.declared.address.Ip4.{Ip4}
use Rattle.vn_types.specs.declared.errno.Errno.{Errno}
use Rattle.vn_types.specs.declared.errno.Errno.TheVariants as errno
use Rattle.vn_types.specs.declared.interface.IfOf.{IfOf}
use Rattle.vn_types.specs.Refusals.{first_refusal, unless}
use Rattle.vn_rules.specs.Errors.{may_answer}
use Rattle.vn_rules.specs.Rules.{Common}
use Rattle.vn_rules.specs.Scenes.{SceneOf, is_sound_scene}
use Rattle.vn_ip4fmt.specs.Checksum.{lowered}
use Rattle.vn_packets.specs.declared.outgoing.Outgoing.{Outgoing}
use Rattle.vn_packets.specs.declared.tally.Tally.TheVariants as tally
use Rattle.vn_packets.specs.Datagrams.{body_of, header_in}
use Rattle.vn_packets.specs.Drops.{lost}
use Rattle.vn_packets.specs.Errors.{Trouble, TimeExceeded, error_about, icmp_answer, sent_or_dropped, answered_back, error_source, errored_from, errored}
use Rattle.vn_packets.specs.Forwarding.{way_troubles, troubles, way_of, forwarded_by, forwarded}
use Rattle.vn_packets.specs.Output.{WayOf, Nowhere, Looped, By, output_refusals, output_left, output_sent, output}
use Rattle.vn_packets.proofs.SceneSound.{Keeps, keeps-refl, keeps-then, keeps-either, lost-keeps}
use Rattle.vn_packets.proofs.OutputSound.{Allows, sent_along-keeps, output_left-keeps}

module _ {N : Type 0} (same : N → N → Bool) (decides : (a b : N) → Decides (same a b) (a ≡ b)) where
  pub answered_back-keeps : (common : Common) (send : Outgoing) (s : SceneOf N) → is_sound_scene same s ≡ true → Keeps same s (answered_back same common send s)
  unfolding answered_back output
  answered_back-keeps common send s sound = by (first_refusal (output_refusals same errno.HostUnreach send s)) refl
    where
      by : (o : Option Errno) → first_refusal (output_refusals same errno.HostUnreach send s) ≡ o → Keeps same s (sent_or_dropped (unless o (output_sent same send s.parts, output_left same common send s)) s)
      by None is = output_left-keeps same decides common errno.HostUnreach send s sound is
      by (Some e) is = lost-keeps same tally.Icmp 1 s sound

  errored_from-keeps : (from : Option Ip4) (common : Common) (trouble : Trouble) (datagram : List ℕ) (s : SceneOf N) → is_sound_scene same s ≡ true → Keeps same s (errored_from same from common trouble datagram s)
  errored_from-keeps None common trouble datagram s sound = keeps-refl same s sound
  errored_from-keeps (Some from) common trouble datagram s sound =
      answered_back-keeps common (icmp_answer from (header_in datagram).src (error_about trouble datagram)) s sound

  pub errored-keeps : (common : Common) (via : IfOf N) (trouble : Trouble) (datagram : List ℕ) (is_broadcast : Bool) (s : SceneOf N) → is_sound_scene same s ≡ true
      → Keeps same s (errored same common via trouble datagram is_broadcast s)
  unfolding errored
  errored-keeps common via trouble datagram is_broadcast s sound =
      keeps-either same s (errored_from same (error_source same trouble (header_in datagram).dst via s.parts) common trouble datagram s) s (may_answer is_broadcast (header_in datagram).proto (body_of datagram))
      (errored_from-keeps (error_source same trouble (header_in datagram).dst via s.parts) common trouble datagram s sound) (keeps-refl same s sound)

  -- ---- datagrams for others

  allowed : (w : WayOf N) (s : SceneOf N) → first_refusal (way_troubles same w s) ≡ None → Allows same decides w s.parts
  allowed Nowhere s none = absurd (cc)
  allowed Looped s none = absurd (cc)
  allowed (By h hop) s none = (none-applies (way_troubles same (By h hop) s) none).1.0

  module _ (common : Common) (via : IfOf N) (datagram : List ℕ) (is_broadcast : Bool) (s : SceneOf N) (sound : is_sound_scene same s ≡ true) where
    pub forwarded-keeps : Keeps same s (forwarded same common via datagram is_broadcast s)
    unfolding forwarded
    forwarded-keeps = by (first_refusal (troubles same datagram (way_of datagram s) s)) refl
      where
        later : first_refusal (troubles same datagram (way_of datagram s) s) ≡ None → first_refusal (way_troubles same (way_of datagram s) s) ≡ None
        later none = tail (nat_le (header_in datagram).ttl 1) none
          where
            tail : (b : Bool) → cond b (Some (Some TimeExceeded)) (first_refusal (way_troubles same (way_of datagram s) s)) ≡ None → first_refusal (way_troubles same (way_of datagram s) s) ≡ None
            tail true none = absurd (cc)
            tail false none = none

        by : (o : Option (Option Trouble)) → first_refusal (troubles same datagram (way_of datagram s) s) ≡ o → Keeps same s (forwarded_by same o (way_of datagram s) common via datagram is_broadcast s)
        by None is = sent_along-keeps same decides (header_in datagram).dst common (lowered datagram) s sound (allowed (way_of datagram s) s (later is))
        by (Some None) is = lost-keeps same tally.Ip 1 s sound
        by (Some (Some trouble)) is =
            keeps-then same s (lost tally.Ip 1 s) (errored same common via trouble datagram is_broadcast (lost tally.Ip 1 s)) (lost-keeps same tally.Ip 1 s sound)
            (errored-keeps common via trouble datagram is_broadcast (lost tally.Ip 1 s))

-- ping(8) leaves a scene sound, where nothing refuses it.
use Rattle.std.proofs.Common.{◌≡◌, ℕ, Bool, true, false, cond, unwrap_or, Option, Some, None, refl, sym, ap, ◌∙◌}
use Rattle.std.specs.Bool.{Decides}
use Rattle.vn_types.specs.declared.address.Ip4.{Ip4}
use Rattle.vn_types.specs.declared.errno.Errno.{Errno}
use Rattle.vn_types.specs.declared.errno.Errno.TheVariants as errno
use Rattle.vn_types.specs.declared.interface.IfOf.TheVariants.{Lo0}
use Rattle.vn_types.specs.Refusals.{first_refusal}
use Rattle.vn_rules.specs.declared.parts.PartsOf.{PartsOf}
use Rattle.vn_rules.specs.Addresses.{local}
use Rattle.vn_rules.specs.Interfaces.{is_among}
use Rattle.vn_rules.specs.Pings.{awaiting}
use Rattle.vn_rules.specs.Rules.{Common}
use Rattle.vn_rules.specs.Scenes.{SceneOf, is_sound_scene}
use Rattle.vn_rules.specs.Soundness.{is_sound_parts}
use Rattle.vn_rules.proofs.PingAwaited.{awaiting-sound}
use Rattle.vn_packets.specs.declared.outgoing.Outgoing.{Outgoing}
use Rattle.vn_packets.specs.Drops.{on_parts}
use Rattle.vn_packets.specs.ArpPackets.{unset_ip}
use Rattle.vn_packets.specs.Output.{WayOf, Nowhere, Looped, By, chosen_source, way_to, way_out, way_refusals, source_of, output_left, output_refusals, output_sent}
use Rattle.vn_packets.specs.PingCommand.{request_to, pinged, ping_rule}
use Rattle.vn_packets.proofs.OutputSound.{covering-own, output_left-keeps, way-covered}
use Rattle.vn_packets.proofs.OutputUntouched.{output_left-addresses}
use Rattle.vn_packets.proofs.SceneSound.{Keeps, keeps-then, parts-sound, on_parts-keeps}
use Rattle.vn_packets.proofs.SourceChosen.{chosen-known}

module _ {N : Type 0} (same : N → N → Bool) (decides : (a b : N) → Decides (same a b) (a ≡ b)) where
  -- where output is not refused, there is a way
  has_way : (no_route : Errno) (send : Outgoing) (s : SceneOf N) → first_refusal (output_refusals same no_route send s) ≡ None → way_to send.dst s.parts ≡ Nowhere → ⊥
  unfolding output_refusals
  has_way no_route send s none is = tail _ (ap (λ w. first_refusal (way_refusals same w no_route send s)) (sym is)) none
    where
      tail : (b : Bool) → Some no_route ≡ first_refusal (way_refusals same (way_to send.dst s.parts) no_route send s)
          → cond b (Some errno.Inval) (first_refusal (way_refusals same (way_to send.dst s.parts) no_route send s)) ≡ None → ⊥
      tail true first none = cc
      tail false first none = cc

  -- the interface by which a datagram leaves stands there
  out-among : (p : PartsOf N) → is_sound_parts same p ≡ true → is_among same p.interfaces Lo0 ≡ true → (ip : Ip4) → is_among same p.interfaces (way_out (way_to ip p)) ≡ true
  out-among p sound lo0 ip = by (way_to ip p) refl
    where
      by : (w : WayOf N) → way_to ip p ≡ w → is_among same p.interfaces (way_out w) ≡ true
      by Nowhere is = lo0
      by Looped is = lo0
      by (By h hop) is = covering-own same decides p sound h hop (way-covered same decides p sound ip h hop is)

  module _ (common : Common) (ttl : Option ℕ) (ip : Ip4) (s : SceneOf N) (sound : is_sound_scene same s ≡ true) (lo0 : is_among same s.parts.interfaces Lo0 ≡ true)
      (none : first_refusal (ping_rule same common ttl ip s).refusals ≡ None) where
    abbrev send : Outgoing
    send = request_to ip ttl s.parts

    abbrev left : SceneOf N
    left = output_left same common send s

    unrefused : first_refusal (output_refusals same errno.HostUnreach send s) ≡ None
    unfolding ping_rule
    unrefused = none

    source-here : local (output_sent same send s.parts).src left.parts.addresses ≡ true
    unfolding output_sent source_of
    source-here =
        ap (local (unwrap_or (chosen_source same ip s.parts) unset_ip)) (output_left-addresses same common send s)
        ∙ chosen-known same decides s.parts (parts-sound same s sound) ip (has_way errno.HostUnreach send s unrefused)

    out-here : is_among same s.parts.interfaces (output_sent same send s.parts).out ≡ true
    unfolding output_sent
    out-here = out-among s.parts (parts-sound same s sound) lo0 ip

    awaits : Keeps same s left → Keeps same left (on_parts (awaiting common.clock (output_sent same send s.parts).src ip (output_sent same send s.parts).out) left)
    unfolding awaiting
    awaits kept =
        on_parts-keeps same (awaiting common.clock (output_sent same send s.parts).src ip (output_sent same send s.parts).out) left
        (awaiting-sound same common.clock (output_sent same send s.parts).src ip (output_sent same send s.parts).out left.parts
        (ap (λ ifs. is_among same ifs (output_sent same send s.parts).out) kept.interfaces ∙ out-here) source-here (parts-sound same left kept.sound))
        refl kept.sound

    pub ping_rule-keeps : Keeps same s (ping_rule same common ttl ip s).otherwise.left
    unfolding ping_rule pinged
    ping_rule-keeps =
        let kept = output_left-keeps same decides common errno.HostUnreach send s sound unrefused in
        keeps-then same s left (pinged same common ip ttl s) kept (λ is. awaits kept)

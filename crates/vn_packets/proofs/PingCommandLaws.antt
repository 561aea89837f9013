-- ping(8) and netstat(1), -s, under other names of halves.
use Rattle.std.proofs.Common.{◌≡◌, ℕ, Bool, Option, refl, ap, ap₂, ◌∙◌}
use Rattle.vn_types.specs.declared.address.Ip4.{Ip4}
use Rattle.vn_types.specs.declared.errno.Errno.TheVariants as errno
use Rattle.vn_rules.specs.Pings.{awaiting}
use Rattle.vn_rules.specs.Renamed.{renamed}
use Rattle.vn_rules.specs.Rules.{Common, done}
use Rattle.vn_rules.specs.Scenes.{SceneOf, renamed_scene}
use Rattle.vn_rules.proofs.PingLaws.{awaiting-renamed}
use Rattle.vn_packets.specs.declared.outgoing.SentOf.{SentOf}
use Rattle.vn_packets.specs.Drops.{on_parts}
use Rattle.vn_packets.specs.Output.{output_left, output_refusals, output_sent}
use Rattle.vn_packets.specs.PingCommand.{request_to, pinged, ping_rule}
use Rattle.vn_packets.specs.Renamed.{as_sent, as_rule}
use Rattle.vn_packets.specs.Statistics.{stat_rule}
use Rattle.vn_packets.proofs.DropLaws.{on_parts-renamed}
use Rattle.vn_packets.proofs.OutputLaws.{output_left-renamed, output_refusals-renamed, output_sent-renamed}

module _ {N M : Type 0} (r : N → M) where
  pub stat_rule-renamed : (s : SceneOf N) → stat_rule (renamed_scene r s) ≡ as_rule r (stat_rule s)
  unfolding stat_rule renamed_scene renamed
  stat_rule-renamed s = refl

module _ {N M : Type 0} (r : N → M) (at_n : N → N → Bool) (at_m : M → M → Bool) (faithful : (a b : N) → at_m (r a) (r b) ≡ at_n a b)
    (common : Common) (ip : Ip4) (ttl : Option ℕ) (s : SceneOf N) where
  send-so : request_to ip ttl (renamed_scene r s).parts ≡ request_to ip ttl s.parts
  unfolding renamed_scene renamed
  send-so = refl

  how-so : output_sent at_m (request_to ip ttl s.parts) (renamed_scene r s).parts ≡ as_sent r (output_sent at_n (request_to ip ttl s.parts) s.parts)
  unfolding renamed_scene
  how-so = output_sent-renamed r at_n at_m faithful (request_to ip ttl s.parts) s.parts

  abbrev how : SentOf N
  how = output_sent at_n (request_to ip ttl s.parts) s.parts

  awaited-so : (t : SceneOf N) → on_parts (awaiting common.clock how.src ip (as_sent r how).out) (renamed_scene r t) ≡ renamed_scene r (on_parts (awaiting common.clock how.src ip how.out) t)
  awaited-so t = on_parts-renamed r (awaiting common.clock how.src ip how.out) (awaiting common.clock how.src ip (as_sent r how).out) t (awaiting-renamed r common.clock how.src ip how.out t.parts)

  pinged-renamed : pinged at_m common ip ttl (renamed_scene r s) ≡ renamed_scene r (pinged at_n common ip ttl s)
  unfolding pinged
  pinged-renamed =
      ap (λ out. on_parts (awaiting common.clock (output_sent at_m out (renamed_scene r s).parts).src ip (output_sent at_m out (renamed_scene r s).parts).out) (output_left at_m common out (renamed_scene r s))) send-so
      ∙ ap₂ (λ (went : SentOf M) t. on_parts (awaiting common.clock went.src ip went.out) t) how-so (output_left-renamed r at_n at_m faithful common (request_to ip ttl s.parts) s)
      ∙ awaited-so (output_left at_n common (request_to ip ttl s.parts) s)

  pub ping_rule-renamed : ping_rule at_m common ttl ip (renamed_scene r s) ≡ as_rule r (ping_rule at_n common ttl ip s)
  unfolding ping_rule
  ping_rule-renamed = λ i. record {
    refusals = (ap (λ out. output_refusals at_m errno.HostUnreach out (renamed_scene r s)) send-so ∙ output_refusals-renamed r at_n at_m faithful errno.HostUnreach (request_to ip ttl s.parts) s) i;
    otherwise = done (pinged-renamed i);
  }

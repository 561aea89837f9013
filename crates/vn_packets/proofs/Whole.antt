-- The laws of packets, put together.
use Rattle.std.proofs.Common.{◌≡◌, Bool, true}
use Rattle.vn_rules.specs.Orders.{are_arp_entries}
use Rattle.vn_rules.specs.Scenes.{SceneOf, is_sound_scene}
use Rattle.vn_packets.specs.Laws.{KeepsNames, IsSameRenamed, TellsNames, StaysSound, LowersWeight, GrowsLittle}
use Rattle.vn_packets.proofs.Apart.{one-entry}
use Rattle.vn_packets.proofs.FiredLaws.{fired-renamed}
use Rattle.vn_packets.proofs.FiredSound.{fired-keeps}
use Rattle.vn_packets.proofs.OutputLaws.{output-renamed}
use Rattle.vn_packets.proofs.OutputSound.{output_left-keeps}
use Rattle.vn_packets.proofs.PacketGrowth.{output_left-grows, frame_received-grows, loop_received-grows, fired-grows}
use Rattle.vn_packets.proofs.ReceptionLaws.{frame_received-renamed, loop_received-renamed}
use Rattle.vn_packets.proofs.ReceptionSound.{frame_received-keeps, loop_received-keeps}
use Rattle.vn_packets.proofs.ReceptionWeight.{frame_received-lighter, loop_received-lighter}
use Rattle.vn_packets.proofs.SceneSound.{parts-sound, sound_facts}

pub same_renamed : {N M : Type 0} (r : N → M) (at_n : N → N → Bool) (at_m : M → M → Bool) → KeepsNames r at_n at_m → IsSameRenamed r at_n at_m
same_renamed r at_n at_m faithful = record {
  output = output-renamed r at_n at_m faithful;
  frame = frame_received-renamed r at_n at_m faithful;
  looped = loop_received-renamed r at_n at_m faithful;
  timer = fired-renamed r at_n at_m faithful;
}

pub stays_sound : {N : Type 0} (same : N → N → Bool) → TellsNames same → StaysSound same
stays_sound same decides = record {
  output = output_left-keeps same decides;
  frame = λ common h octets s sound among. frame_received-keeps same decides common h s sound among octets;
  looped = loop_received-keeps same decides;
  timer = fired-keeps same decides;
}

pub lowers_weight : {N : Type 0} (same : N → N → Bool) → TellsNames same → LowersWeight same
lowers_weight same decides = record {
  frame = λ common h octets s sound one. frame_received-lighter same common h s one (one-entry same decides s.parts (parts-sound same s sound)) octets;
  looped = λ common s first more sound one is. loop_received-lighter same common s first more one (one-entry same decides s.parts (parts-sound same s sound)) is;
}

pub right-entries : {N : Type 0} (same : N → N → Bool) (s : SceneOf N) → is_sound_scene same s ≡ true → are_arp_entries s.parts.arp ≡ true
right-entries same s sound = (sound_facts same s.parts (parts-sound same s sound)).arp

pub grows_little : {N : Type 0} (same : N → N → Bool) → GrowsLittle same
grows_little same = record {
  output = λ common send s. output_left-grows same common send s;
  frame = λ common h octets s sound. frame_received-grows same common s (right-entries same s sound) h octets;
  looped = λ common s. loop_received-grows same common s;
  timer = λ common s sound. fired-grows same common s (right-entries same s sound);
}

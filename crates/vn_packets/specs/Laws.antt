-- What holds of the rules of packets as a whole: the names of halves don't matter, and a sound stack stays sound.
use Rattle.std.specs.Prelude.{◌≡◌, ℕ, ◌+◌, ◌≤◌, Bool, true, List, ◌∷◌, None}
use Rattle.std.specs.Bool.{Decides}
use Rattle.std.specs.Result.{result_map_both}
use Rattle.vn_types.specs.declared.errno.Errno.{Errno}
use Rattle.vn_types.specs.declared.interface.IfOf.TheVariants.{Lo0, Half}
use Rattle.vn_types.specs.Refusals.{first_refusal}
use Rattle.vn_rules.specs.Interfaces.{is_among}
use Rattle.vn_rules.specs.Rules.{Common}
use Rattle.vn_rules.specs.Scenes.{SceneOf, is_sound_scene, renamed_scene}
use Rattle.vn_packets.specs.declared.outgoing.Outgoing.{Outgoing}
use Rattle.vn_packets.specs.Fired.{fired}
use Rattle.vn_packets.specs.Growth.{Grows}
use Rattle.vn_packets.specs.Keeping.{Keeps}
use Rattle.vn_packets.specs.Output.{output, output_left, output_refusals}
use Rattle.vn_packets.specs.Reception.{frame_received, loop_received}
use Rattle.vn_packets.specs.Renamed.{as_output, as_heard, as_fired}
use Rattle.vn_packets.specs.Weighing.{HasOneLink}
use Rattle.vn_packets.specs.Weight.{frame_weight, scene_weight}

module _ {N M : Type 0} where
  -- the test on names tells under the new names what it told before
  abbrev pub KeepsNames : (N → M) → (N → N → Bool) → (M → M → Bool) → Type 0
  KeepsNames r at_n at_m = (a b : N) → at_m (r a) (r b) ≡ at_n a b

  -- a renamed stack does what the stack does, renamed
  pub record IsSameRenamed (r : N → M) (at_n : N → N → Bool) (at_m : M → M → Bool) : Type 0 where
    -- with a datagram that it sends
    pub output : (common : Common) (no_route : Errno) (send : Outgoing) (s : SceneOf N)
        → output at_m common no_route send (renamed_scene r s)
        ≡ result_map_both (as_output r) (λ e. e) (output at_n common no_route send s)
    -- with a frame that comes to a half
    pub frame : (common : Common) (h : N) (octets : List ℕ) (s : SceneOf N)
        → frame_received at_m common (r h) octets (renamed_scene r s)
        ≡ as_heard r (frame_received at_n common h octets s)
    -- with a datagram on its way through lo0
    pub looped : (common : Common) (s : SceneOf N)
        → loop_received at_m common (renamed_scene r s) ≡ as_heard r (loop_received at_n common s)
    -- with a timer that is due
    pub timer : (common : Common) (s : SceneOf N)
        → fired at_m common (renamed_scene r s) ≡ as_fired r (fired at_n common s)

module _ {N : Type 0} (same : N → N → Bool) where
  -- a sound stack stays sound
  pub record StaysSound : Type 0 where
    -- when it sends a datagram that nothing refuses
    pub output : (common : Common) (no_route : Errno) (send : Outgoing) (s : SceneOf N)
        → is_sound_scene same s ≡ true → first_refusal (output_refusals same no_route send s) ≡ None
        → Keeps same s (output_left same common send s)
    -- when a frame comes to a half that stands there
    pub frame : (common : Common) (h : N) (octets : List ℕ) (s : SceneOf N)
        → is_sound_scene same s ≡ true → is_among same s.parts.interfaces (Half h) ≡ true
        → Keeps same s (frame_received same common h octets s).left
    -- when a datagram comes through lo0, which stands there
    pub looped : (common : Common) (s : SceneOf N)
        → is_sound_scene same s ≡ true → is_among same s.parts.interfaces Lo0 ≡ true
        → Keeps same s (loop_received same common s).left
    -- when a timer is due
    pub timer : (common : Common) (s : SceneOf N)
        → is_sound_scene same s ≡ true → Keeps same s (fired same common s).left

  -- what comes to a sound stack, where each half has one link, lowers the weight of what waits
  pub record LowersWeight : Type 0 where
    -- a frame that was taken from its sender's queue
    pub frame : (common : Common) (h : N) (octets : List ℕ) (s : SceneOf N)
        → is_sound_scene same s ≡ true → HasOneLink same s
        → scene_weight (frame_received same common h octets s).left + 1 ≤ scene_weight s + frame_weight octets
    -- a datagram that is taken from those on their way through lo0
    pub looped : (common : Common) (s : SceneOf N) (first : List ℕ) (more : List (List ℕ))
        → is_sound_scene same s ≡ true → HasOneLink same s → s.parts.loopback ≡ first ∷ more
        → scene_weight (loop_received same common s).left + 1 ≤ scene_weight s

  -- an event of a sound stack adds little to its counters, and arms at most one timer
  pub record GrowsLittle : Type 0 where
    -- a datagram that it sends
    pub output : (common : Common) (send : Outgoing) (s : SceneOf N)
        → Grows 2 1 s.parts (output_left same common send s).parts
    -- a frame: a reply and 16 datagrams that were held may meet a full queue
    pub frame : (common : Common) (h : N) (octets : List ℕ) (s : SceneOf N) → is_sound_scene same s ≡ true
        → Grows 17 1 s.parts (frame_received same common h octets s).left.parts
    -- a datagram through lo0
    pub looped : (common : Common) (s : SceneOf N) → Grows 3 1 s.parts (loop_received same common s).left.parts
    -- a timer: 16 datagrams that were held may be given up
    pub timer : (common : Common) (s : SceneOf N) → is_sound_scene same s ≡ true
        → Grows 16 1 s.parts (fired same common s).left.parts

  -- the test on names tells whether they are one
  abbrev pub TellsNames : Type 0
  TellsNames = (a b : N) → Decides (same a b) (a ≡ b)

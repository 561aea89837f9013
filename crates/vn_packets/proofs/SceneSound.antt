-- A scene that stays sound, with the interfaces that stood there.
use Rattle.std.proofs.Common.{◌≡◌, ℕ, ◌+◌, ◌%◌, ◌^◌, Bool, true, false, cond, not, List, [], ◌∷◌, ◌++◌, map, length, nat_le, refl, ◌∙◌, arith, mod-lt, length-append}
use Rattle.std.proofs.lemmas.Bool.{and_parts, and_from, leb-false, le-leb, lt-ltb}
use Rattle.vn_rules.specs.declared.parts.PartsOf.{PartsOf}
use Rattle.vn_rules.specs.declared.parts.TheConstants.{LOOPBACK_MAX, SENT_MAX}
use Rattle.vn_rules.specs.Interfaces.{named_ifs}
use Rattle.vn_rules.specs.Orders.{has_16_bits, keeps_orders}
use Rattle.vn_rules.specs.Scenes.{LinkOf, SceneOf, own_link, link_of, on_link, is_queue, is_sound_scene}
use Rattle.vn_rules.specs.Soundness.{names_own, binds_locally, sends_locally, times_pings, gave_arms, owns_timers, times_arp, covers_arp, founds_routes, is_sound_parts}
use Rattle.vn_rules.proofs.LinkLaws.{are_queues}
use Rattle.vn_rules.proofs.ListTests.{all_map_kept}
use Rattle.vn_rules.proofs.SoundFacts.{SoundFacts, facts_from_sound}
use Rattle.vn_packets.specs.declared.tally.Tally.{Tally}
use Rattle.vn_packets.specs.declared.tally.Tally.TheVariants.{Link, Full}
use Rattle.vn_packets.specs.Drops.{on_parts, counted, lost, lost_if}
pub use Rattle.vn_packets.specs.Keeping.{Keeps}
use Rattle.vn_packets.specs.Links.{is_link_full, with_frame, enqueued, sent_by, sent}
use Rattle.vn_packets.specs.Output.{identified, looped}

module _ {N : Type 0} (same : N → N → Bool) where
  pub keeps-refl : (s : SceneOf N) → is_sound_scene same s ≡ true → Keeps same s s
  keeps-refl s sound = record { sound = sound; interfaces = refl }

  pub keeps-then : (s t u : SceneOf N) → Keeps same s t → (is_sound_scene same t ≡ true → Keeps same t u) → Keeps same s u
  keeps-then s t u first next =
      let after = next first.sound in record { sound = after.sound; interfaces = after.interfaces ∙ first.interfaces }

  -- either way
  pub keeps-either : (s t u : SceneOf N) (b : Bool) → Keeps same s t → Keeps same s u → Keeps same s (cond b t u)
  keeps-either s t u true left right = left
  keeps-either s t u false left right = right

  -- what the test tells
  pub keeps-by : (s t u : SceneOf N) (b : Bool) → (b ≡ true → Keeps same s t) → (b ≡ false → Keeps same s u) → Keeps same s (cond b t u)
  keeps-by s t u true left right = left refl
  keeps-by s t u false left right = right refl

  pub parts-sound : (s : SceneOf N) → is_sound_scene same s ≡ true → is_sound_parts same s.parts ≡ true
  unfolding is_sound_scene
  parts-sound s sound = (and_parts _ (are_queues same s.links) sound).0

  pub queues-short : (s : SceneOf N) → is_sound_scene same s ≡ true → are_queues same s.links ≡ true
  unfolding is_sound_scene
  queues-short s sound = (and_parts _ (are_queues same s.links) sound).1

  pub scene-sound : (s : SceneOf N) → is_sound_parts same s.parts ≡ true → are_queues same s.links ≡ true → is_sound_scene same s ≡ true
  unfolding is_sound_scene
  scene-sound s parts queues = and_from _ _ parts queues

  pub sound_facts : (p : PartsOf N) → is_sound_parts same p ≡ true → SoundFacts same (times_arp same) p
  sound_facts p sound = facts_from_sound same (times_arp same) p sound

  -- ---- its tables are changed

  pub on_parts-keeps : (f : PartsOf N → PartsOf N) (s : SceneOf N) → is_sound_parts same (f s.parts) ≡ true → (f s.parts).interfaces ≡ s.parts.interfaces
      → is_sound_scene same s ≡ true → Keeps same s (on_parts f s)
  on_parts-keeps f s parts ifs sound = record { sound = scene-sound (on_parts f s) parts (queues-short s sound); interfaces = ifs }

  counted-sound : (what : Tally) (n : ℕ) (p : PartsOf N) → is_sound_parts same p ≡ true → is_sound_parts same (counted what n p) ≡ true
  unfolding counted names_own named_ifs binds_locally sends_locally owns_timers times_pings times_arp covers_arp founds_routes gave_arms keeps_orders
  counted-sound what n p sound = sound

  counted-ifs : (what : Tally) (n : ℕ) (p : PartsOf N) → (counted what n p).interfaces ≡ p.interfaces
  unfolding counted
  counted-ifs what n p = refl

  pub lost-keeps : (what : Tally) (n : ℕ) (s : SceneOf N) → is_sound_scene same s ≡ true → Keeps same s (lost what n s)
  lost-keeps what n s sound = on_parts-keeps (counted what n) s (counted-sound what n s.parts (parts-sound s sound)) (counted-ifs what n s.parts) sound

  pub lost_if-keeps : (b : Bool) (what : Tally) (s : SceneOf N) → is_sound_scene same s ≡ true → Keeps same s (lost_if b what s)
  lost_if-keeps b what s sound = keeps-either s (lost what 1 s) s b (lost-keeps what 1 s sound) (keeps-refl s sound)

  -- ---- a half sends a frame

  room : (frame : List ℕ) (frames : List (List ℕ)) → nat_le SENT_MAX (length frames) ≡ false → is_queue (frames ++ frame ∷ []) ≡ true
  room frame frames free =
      let less = leb-false SENT_MAX (length frames) free in
      let longer : length (frames ++ frame ∷ []) ≡ length frames + 1 = length-append frames (frame ∷ []) in
      le-leb (length (frames ++ frame ∷ [])) SENT_MAX (omega (arith, less, longer))

  with_frame-queue : (frame : List ℕ) (l : LinkOf N) → is_queue l.sent ≡ true → is_queue (with_frame frame l).sent ≡ true
  with_frame-queue frame l short = by (is_link_full l) refl
    where
      by : (b : Bool) → is_link_full l ≡ b → is_queue (cond b l (record l { sent = l.sent ++ frame ∷ [] })).sent ≡ true
      by true is = short
      by false is = room frame l.sent is

  enqueued-queues : (h : N) (frame : List ℕ) (links : List (LinkOf N)) → are_queues same links ≡ true → are_queues same (map (own_link same h (with_frame frame)) links) ≡ true
  enqueued-queues h frame links short = all_map_kept (own_link same h (with_frame frame)) (λ (l : LinkOf N). is_queue l.sent) (λ (l : LinkOf N). is_queue l.sent) each links short
    where
      each : (l : LinkOf N) → is_queue l.sent ≡ true → is_queue (own_link same h (with_frame frame) l).sent ≡ true
      each l is = by (same l.half h)
        where
          by : (b : Bool) → is_queue (cond b (with_frame frame l) l).sent ≡ true
          by true = with_frame-queue frame l is
          by false = is

  pub enqueued-keeps : (h : N) (frame : List ℕ) (s : SceneOf N) → is_sound_scene same s ≡ true → Keeps same s (enqueued same h frame s)
  unfolding enqueued on_link
  enqueued-keeps h frame s sound = record {
    sound = scene-sound (record s { links = map (own_link same h (with_frame frame)) s.links }) (parts-sound s sound) (enqueued-queues h frame s.links (queues-short s sound));
    interfaces = refl;
  }

  sent_by-keeps : (l : LinkOf N) (h : N) (frame : List ℕ) (s : SceneOf N) → is_sound_scene same s ≡ true → Keeps same s (sent_by same l h frame s)
  sent_by-keeps l h frame s sound =
      keeps-either s (lost Link 1 s) (cond (is_link_full l) (lost Full 1 s) (enqueued same h frame s)) (not l.up) (lost-keeps Link 1 s sound)
      (keeps-either s (lost Full 1 s) (enqueued same h frame s) (is_link_full l) (lost-keeps Full 1 s sound) (enqueued-keeps h frame s sound))

  pub sent-keeps : (h : N) (frame : List ℕ) (s : SceneOf N) → is_sound_scene same s ≡ true → Keeps same s (sent same h frame s)
  unfolding sent
  sent-keeps h frame s sound = sent_by-keeps (link_of same h s) h frame s sound

  -- ---- the next identification, and a datagram on its way through lo0

  identified-sound : (p : PartsOf N) → is_sound_parts same p ≡ true → is_sound_parts same (identified p) ≡ true
  unfolding names_own named_ifs binds_locally sends_locally owns_timers times_pings times_arp covers_arp founds_routes gave_arms keeps_orders
  identified-sound p sound =
      let all = and_parts _ (keeps_orders p) sound in
      and_from _ _ all.0 (and_from _ _ (and_parts _ (has_16_bits p.ident) all.1).0 (lt-ltb ((p.ident + 1) % 2 ^ 16) (2 ^ 16) (mod-lt (p.ident + 1) (omega arith))))

  pub identified-keeps : (s : SceneOf N) → is_sound_scene same s ≡ true → Keeps same s (on_parts identified s)
  identified-keeps s sound = on_parts-keeps identified s (identified-sound s.parts (parts-sound s sound)) refl sound

  looped-sound : (datagram : List ℕ) (p : PartsOf N) → nat_le LOOPBACK_MAX (length p.loopback) ≡ false → is_sound_parts same p ≡ true → is_sound_parts same (looped datagram p) ≡ true
  unfolding names_own named_ifs binds_locally sends_locally owns_timers times_pings times_arp covers_arp founds_routes gave_arms keeps_orders
  looped-sound datagram p free sound =
      let all = and_parts _ (keeps_orders p) sound in
      let orders = and_parts _ (has_16_bits p.ident) all.1 in
      let less = leb-false LOOPBACK_MAX (length p.loopback) free in
      let longer : length (p.loopback ++ datagram ∷ []) ≡ length p.loopback + 1 = length-append p.loopback (datagram ∷ []) in
      and_from _ _ all.0 (and_from _ _ (and_from _ _ (and_parts _ (nat_le (length p.loopback) LOOPBACK_MAX) orders.0).0
      (le-leb (length (p.loopback ++ datagram ∷ [])) LOOPBACK_MAX (omega (arith, less, longer)))) orders.1)

  pub looped-keeps : (datagram : List ℕ) (s : SceneOf N) → nat_le LOOPBACK_MAX (length s.parts.loopback) ≡ false → is_sound_scene same s ≡ true → Keeps same s (on_parts (looped datagram) s)
  looped-keeps datagram s free sound = on_parts-keeps (looped datagram) s (looped-sound datagram s.parts free (parts-sound s sound)) refl sound

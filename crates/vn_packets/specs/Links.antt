-- What a half sends: frames that wait in its queue (epair(4)).
use Rattle.std.specs.Prelude.{ℕ, Bool, not, nat_le, List, [], ◌∷◌, ◌++◌, length, if◌then◌else◌}
use Rattle.vn_rules.specs.declared.parts.TheConstants.{SENT_MAX}
use Rattle.vn_rules.specs.Scenes.{LinkOf, SceneOf, link_of, on_link}
use Rattle.vn_packets.specs.declared.tally.Tally.TheVariants.{Link, Full}
use Rattle.vn_packets.specs.Drops.{lost}

module _ {N : Type 0} where
  -- whether so many frames wait as its queue can have
  abbrev pub is_link_full : LinkOf N → Bool
  is_link_full l = nat_le SENT_MAX (length l.sent)

  -- one frame more, the last, where there is room
  abbrev pub with_frame : List ℕ → LinkOf N → LinkOf N
  with_frame frame l = if is_link_full l then l else record l { sent = l.sent ++ frame ∷ [] }

module _ {N : Type 0} (same : N → N → Bool) where
  -- a frame waits in the half's queue
  unfoldable pub enqueued : N → List ℕ → SceneOf N → SceneOf N
  enqueued h frame s = on_link same h (with_frame frame) s

  -- the same by the half's link: a frame is lost where the half is down, and then where the queue is full
  abbrev pub sent_by : LinkOf N → N → List ℕ → SceneOf N → SceneOf N
  sent_by l h frame s =
      if not l.up then lost Link 1 s else (if is_link_full l then lost Full 1 s else enqueued h frame s)

  -- a half sends a frame, if it can
  unfoldable pub sent : N → List ℕ → SceneOf N → SceneOf N
  sent h frame s = sent_by (link_of same h s) h frame s

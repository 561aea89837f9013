-- What a rule on packets is handed: a stack's parts, and a link for each half that stands there.
use Rattle.std.specs.Prelude.{ℕ, Bool, true, false, ◌&&◌, nat_le, List, [], ◌∷◌, length, map, unwrap_or, if◌then◌else◌}
use Rattle.std.specs.List.{find, list_all}
use Rattle.vn_types.specs.declared.address.Mac.{Mac}
use Rattle.vn_rules.specs.declared.parts.PartsOf.{PartsOf}
use Rattle.vn_rules.specs.declared.parts.TheConstants.{SENT_MAX}
use Rattle.vn_rules.specs.Renamed.{renamed}
use Rattle.vn_rules.specs.Soundness.{is_sound_parts}

-- a half, as the stack where it stands sees it
pub record LinkOf (N : Type 0) : Type 0 where
  -- its name
  pub half : N
  -- its hardware address
  pub mac : Mac
  -- whether it is up
  pub up : Bool
  -- the frames that it sent and that still wait, oldest first
  pub sent : List (List ℕ)

-- a living stack with the halves that stand there
pub record SceneOf (N : Type 0) : Type 0 where
  -- its tables
  pub parts : PartsOf N
  -- one link for each half, in the order of the interfaces
  pub links : List (LinkOf N)

-- 00:00:00:00:00:00
abbrev pub no_mac : Mac
no_mac = record { 0 = 0 ∷ 0 ∷ 0 ∷ 0 ∷ 0 ∷ 0 ∷ [] }

module _ {N : Type 0} where
  -- the link of a half that does not stand there: down, and nothing waits
  abbrev pub no_link : N → LinkOf N
  no_link h = record { half = h; mac = no_mac; up = false; sent = [] }

-- whether no frame waits
abbrev pub is_empty : List (List ℕ) → Bool
is_empty [] = true
is_empty (frame ∷ frames) = false

-- whether so many frames wait as a queue can have
abbrev pub is_queue : List (List ℕ) → Bool
is_queue frames = nat_le (length frames) SENT_MAX

module _ {N : Type 0} (same : N → N → Bool) where
  -- the tables are sound, and no queue is too long
  unfoldable pub is_sound_scene : SceneOf N → Bool
  is_sound_scene s =
      is_sound_parts same s.parts && list_all (λ (l : LinkOf N). is_queue l.sent) s.links

  -- a half's own link
  unfoldable pub link_of : N → SceneOf N → LinkOf N
  link_of h s = unwrap_or (find (λ l. same l.half h) s.links) (no_link h)

  -- a link is changed where it is the half's own
  abbrev pub own_link : N → (LinkOf N → LinkOf N) → LinkOf N → LinkOf N
  own_link h f l = if same l.half h then f l else l

  -- a half's own link is changed
  unfoldable pub on_link : N → (LinkOf N → LinkOf N) → SceneOf N → SceneOf N
  on_link h f s = record s { links = map (own_link h f) s.links }

module _ {N M : Type 0} (r : N → M) where
  -- the same link under the other name
  abbrev pub as_link : LinkOf N → LinkOf M
  as_link l = record { half = r l.half; mac = l.mac; up = l.up; sent = l.sent }

  -- the same scene under other names of halves
  unfoldable pub renamed_scene : SceneOf N → SceneOf M
  renamed_scene s = record { parts = renamed r s.parts; links = map as_link s.links }

-- How much a rule adds to what a scene weighs.
use Rattle.std.specs.Prelude.{◌≡◌, ℕ, ◌+◌, ◌≤◌, Bool, count_by}
use Rattle.vn_types.specs.declared.address.Ip4.{Ip4}
use Rattle.vn_rules.specs.declared.parts.PartsOf.{PartsOf}
use Rattle.vn_rules.specs.Arp.{is_entry_at}
use Rattle.vn_rules.specs.Scenes.{LinkOf, SceneOf}
use Rattle.vn_packets.specs.Weight.{scene_weight}

module _ {N : Type 0} (same : N → N → Bool) where
  -- how many links a half has
  abbrev pub links_at : N → SceneOf N → ℕ
  links_at h s = count_by (λ (l : LinkOf N). same l.half h) s.links

  -- each half has one link, or none
  abbrev pub HasOneLink : SceneOf N → Type 0
  HasOneLink s = (h : N) → links_at h s ≤ 1

  -- each half has one ARP entry for an address, or none
  abbrev pub HasOneEntry : PartsOf N → Type 0
  HasOneEntry p = (h : N) (ip : Ip4) → count_by (is_entry_at same h ip) p.arp ≤ 1

  -- the second scene weighs at most so much more than the first, and has its links
  pub record Weighs (more : ℕ) (s t : SceneOf N) : Type 0 where
    -- what it weighs
    pub weight : scene_weight t ≤ scene_weight s + more
    -- no half has come or gone
    pub links : (h : N) → links_at h t ≡ links_at h s

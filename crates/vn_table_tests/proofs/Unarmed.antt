-- Calls after which a stack has armed as many timers as before.
use Rattle.std.proofs.Common.{◌≡◌, ℕ, Bool, List, Option, Some, None, refl, ap}
use Rattle.vn_types.specs.declared.address.Ip4.{Ip4}
use Rattle.vn_types.specs.declared.address.Mac.{Mac}
use Rattle.vn_types.specs.declared.interface.HalfId.{HalfId}
use Rattle.vn_types.specs.Interfaces.{half_id_eq}
use Rattle.vn_rules.specs.declared.parts.PartsOf.{PartsOf}
use Rattle.vn_rules.specs.declared.timer.TimersOf.{TimersOf}
use Rattle.vn_rules.specs.Arp.{without_entries}
use Rattle.vn_rules.specs.Construction.{bare_parts}
use Rattle.vn_rules.specs.Resolution.{after_arp_delete, after_static}
use Rattle.vn_rules.specs.Timers.{Timed, after_due, next_due, without_timed}
use Rattle.vn_arp.specs.Kept.{Follows}
use Rattle.vn_arp.proofs.Edits.{Kept}

abbrev Parts : Type 0
Parts = PartsOf HalfId

module _ (rows new : List Kept) (t after : TimersOf HalfId) where
  -- an entry is set by hand
  pub unarmed-static : (half : HalfId) (ip : Ip4) (mac : Mac) → Follows (after_static half_id_eq half ip mac) rows t new after → after.armed ≡ t.armed
  unfolding after_static
  unarmed-static half ip mac follows = ap (λ (p : Parts). p.timers.armed) (follows.parts bare_parts)

  -- entries are removed
  pub unarmed-gone : (gone : HalfId → Ip4 → Bool) → Follows (without_entries gone) rows t new after → after.armed ≡ t.armed
  unfolding without_entries
  unarmed-gone gone follows = ap (λ (p : Parts). p.timers.armed) (follows.parts bare_parts)

  -- those of an address
  pub unarmed-delete : (ip : Ip4) → Follows (after_arp_delete ip) rows t new after → after.armed ≡ t.armed
  unfolding after_arp_delete without_entries
  unarmed-delete ip follows = ap (λ (p : Parts). p.timers.armed) (follows.parts bare_parts)

-- a timer is taken that is due
pub unarmed-due : (now : ℕ) (t : TimersOf HalfId) → (after_due now t).armed ≡ t.armed
unarmed-due now t = by (next_due now t)
  where
    by : (o : Option (Timed HalfId)) → (without_timed o t).armed ≡ t.armed
    by None = refl
    by (Some e) = refl

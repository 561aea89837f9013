-- Lists without doubles: a sound stack has one ARP entry for an address on a half, and links that are apart one for a half.
use Rattle.std.proofs.Common.{◌≡◌, ℕ, ◌+◌, ◌≤◌, Bool, true, false, cond, not, ◌==◌, List, [], ◌∷◌, count_by, refl, sym, ◌∙◌, arith}
use Rattle.std.specs.Bool.{Decides}
use Rattle.std.specs.List.{list_any}
use Rattle.std.proofs.lemmas.Bool.{and_parts, and_from, not-true, eqb-true, eq-eqb}
use Rattle.vn_rules.specs.declared.arp.ArpEntryOf.{ArpEntryOf}
use Rattle.vn_rules.specs.declared.parts.PartsOf.{PartsOf}
use Rattle.vn_rules.specs.Arp.{is_entry_at}
use Rattle.vn_rules.specs.Orders.{are_distinct}
use Rattle.vn_rules.specs.Scenes.{LinkOf, SceneOf}
use Rattle.vn_rules.specs.Soundness.{is_same_entry, has_distinct_entries, is_sound_parts}
use Rattle.vn_rules.proofs.Kept.{all_from_none}
use Rattle.vn_rules.proofs.ListTests.{none_weaker}
use Rattle.vn_rules.proofs.TimerEdits.{zero_from_all}
use Rattle.vn_packets.specs.Weighing.{HasOneLink, HasOneEntry}
use Rattle.vn_packets.proofs.Counting.{count-cons}
use Rattle.vn_packets.proofs.SceneSound.{sound_facts}

module _ {A : Type 0} (alike : A → A → Bool) (t : A → Bool) (one : (x y : A) → t x ≡ true → t y ≡ true → alike x y ≡ true) where
  -- where no two are alike, one passes a test that all pass alike, or none
  pub at_most_one : (xs : List A) → are_distinct alike xs ≡ true → count_by t xs ≤ 1
  at_most_one [] apart = omega arith
  at_most_one (x ∷ xs) apart =
      let parts = and_parts (not (list_any (alike x) xs)) (are_distinct alike xs) apart in
      let most = by (t x) refl (not-true _ parts.0) (at_most_one xs parts.1) in
      omega (arith, count-cons t x xs, most)
    where
      by : (b : Bool) → t x ≡ b → list_any (alike x) xs ≡ false → count_by t xs ≤ 1 → cond {A = ℕ} b 1 0 + count_by t xs ≤ 1
      by true is none more =
          let zero = zero_from_all (λ y. not (t y)) t (λ y. not-true (t y)) xs (all_from_none t xs (none_weaker t (alike x) (λ y. one x y is) xs none)) in
          omega (arith, zero)
      by false is none more = omega (arith, more)

module _ {N : Type 0} (same : N → N → Bool) (decides : (a b : N) → Decides (same a b) (a ≡ b)) where
  pub one-entry : (p : PartsOf N) → is_sound_parts same p ≡ true → HasOneEntry same p
  unfolding has_distinct_entries
  one-entry p sound h ip = at_most_one (is_same_entry same) (is_entry_at same h ip) alike p.arp (sound_facts same p sound).entries_apart
    where
      alike : (a b : ArpEntryOf N) → is_entry_at same h ip a ≡ true → is_entry_at same h ip b ≡ true → is_same_entry same a b ≡ true
      alike a b at bt =
          let left = and_parts (same a.half h) (a.ip.0 == ip.0) at in
          let right = and_parts (same b.half h) (b.ip.0 == ip.0) bt in
          and_from _ _ ((decides a.half b.half).1 ((decides a.half h).0 left.0 ∙ sym ((decides b.half h).0 right.0)))
          (eq-eqb a.ip.0 b.ip.0 (eqb-true a.ip.0 ip.0 left.1 ∙ sym (eqb-true b.ip.0 ip.0 right.1)))

  -- whether two links are of one half
  abbrev pub is_same_link : LinkOf N → LinkOf N → Bool
  is_same_link a b = same a.half b.half

  pub one-link-each : (s : SceneOf N) → are_distinct is_same_link s.links ≡ true → HasOneLink same s
  one-link-each s apart h = at_most_one is_same_link (λ (l : LinkOf N). same l.half h) (λ a b at bt. (decides a.half b.half).1 ((decides a.half h).0 at ∙ sym ((decides b.half h).0 bt))) s.links apart

-- An interface comes or goes: the parts stay sound, and renaming goes through; and two renamings that agree on what is named agree.
use Rattle.std.proofs.Common.{◌≡◌, Bool, true, false, not, List, [], ◌∷◌, map, sym, ap, ◌∙◌}
use Rattle.std.specs.Bool.{Decides}
use Rattle.std.specs.List.{list_all}
use Rattle.std.proofs.lemmas.Bool.{or_left, both_ways, not-false, false_from_ne_true}
use Rattle.std.proofs.lemmas.List.{map-append}
use Rattle.std.proofs.lemmas.List.Folds.{list_any-append}
use Rattle.vn_types.specs.declared.interface.IfOf.{IfOf}
use Rattle.vn_types.specs.declared.interface.IfOf.TheVariants.{Half}
use Rattle.vn_types.specs.Interfaces.{if_same, as_if}
use Rattle.vn_types.proofs.InterfaceNames.{if_same-as_if, if_same-Decides}
use Rattle.vn_types.proofs.ListMaps.{filter_map_same}
use Rattle.vn_rules.specs.declared.parts.PartsOf.{PartsOf}
use Rattle.vn_rules.specs.Interfaces.{named_ifs, is_among, with_interface, without_interface}
use Rattle.vn_rules.specs.Soundness.{binds_locally, sends_locally, times_arp, covers_arp, founds_routes, is_sound_parts}
use Rattle.vn_rules.proofs.Kept.{IsIn, all_in, any_filter}
use Rattle.vn_rules.proofs.ListTests.{all_weaker}
use Rattle.vn_rules.proofs.Named.{names_parts, names_from, own_names}
use Rattle.vn_rules.specs.Purge.{purged}
use Rattle.vn_rules.proofs.Purged.{purged-forgotten, purged-sound}
use Rattle.vn_rules.proofs.SoundEdits.{tabled-sound}
use Rattle.vn_rules.proofs.SoundFacts.{facts_from_sound}

-- ---- under other names of halves

module _ {N M : Type 0} (r : N → M) where
  pub with_interface-renamed : (on : IfOf N) (ifs : List (IfOf N)) → with_interface (as_if r on) (map (as_if r) ifs) ≡ map (as_if r) (with_interface on ifs)
  with_interface-renamed on ifs = sym (map-append (as_if r) ifs (on ∷ []))

  module _ (at_n : N → N → Bool) (at_m : M → M → Bool) (faithful : (a b : N) → at_m (r a) (r b) ≡ at_n a b) where
    pub without_interface-renamed : (on : IfOf N) (ifs : List (IfOf N)) → without_interface at_m (as_if r on) (map (as_if r) ifs) ≡ map (as_if r) (without_interface at_n on ifs)
    without_interface-renamed on ifs = filter_map_same (as_if r) (λ own. not (if_same at_n own on)) (λ own. not (if_same at_m own (as_if r on))) (λ own. ap not (if_same-as_if r at_n at_m faithful own on)) ifs

-- ---- soundness

module _ {N : Type 0} (same : N → N → Bool) (p : PartsOf N) (ifs : List (IfOf N)) where
  -- the same parts with these interfaces
  abbrev with_ifs : PartsOf N
  with_ifs = record p { interfaces = ifs }

  -- they stay sound where what is named is among them
  pub with_ifs-sound : list_all (is_among same ifs) (named_ifs p) ≡ true → is_sound_parts same p ≡ true → is_sound_parts same (record p { interfaces = ifs }) ≡ true
  unfolding named_ifs binds_locally sends_locally covers_arp founds_routes
  with_ifs-sound own sound =
      let s = facts_from_sound same (times_arp same) p sound in
      tabled-sound same p with_ifs s (names_parts (is_among same ifs) with_ifs own) s.bound s.sources s.arp_covered s.founded s.variables s.addresses s.routes s.sockets

module _ {N : Type 0} (same : N → N → Bool) (p : PartsOf N) where
  own_named : is_sound_parts same p ≡ true → list_all (is_among same p.interfaces) (named_ifs p) ≡ true
  own_named sound = names_from (is_among same p.interfaces) p (own_names same (times_arp same) p (facts_from_sound same (times_arp same) p sound))

  -- an interface that is attached
  pub with_interface-sound : (on : IfOf N) → is_sound_parts same p ≡ true → is_sound_parts same (record p { interfaces = with_interface on p.interfaces }) ≡ true
  with_interface-sound on sound = with_ifs-sound same p (with_interface on p.interfaces)
      (all_weaker (is_among same p.interfaces) (is_among same (with_interface on p.interfaces)) (λ i is. list_any-append (if_same same i) p.interfaces (on ∷ []) ∙ or_left _ _ is) (named_ifs p) (own_named sound)) sound

  module _ (decides : (a b : N) → Decides (same a b) (a ≡ b)) where
    -- an interface that goes, where nothing names it
    pub without_interface-sound : (on : IfOf N) → is_among same (named_ifs p) on ≡ false → is_sound_parts same p ≡ true → is_sound_parts same (record p { interfaces = without_interface same on p.interfaces }) ≡ true
    without_interface-sound on unnamed sound = with_ifs-sound same p (without_interface same on p.interfaces)
        (all_in (is_among same p.interfaces) (is_among same (without_interface same on p.interfaces)) (named_ifs p) by (own_named sound)) sound
      where
        apart : (i : IfOf N) → IsIn i (named_ifs p) → (own : IfOf N) → not (if_same same own on) ≡ false → if_same same i own ≡ false
        apart i is own goes = false_from_ne_true _ (λ e.
            let there : own ≡ on = (if_same-Decides same decides own on).0 (not-false _ goes) in
            let here : i ≡ own = (if_same-Decides same decides i own).0 e in
            both_ways (is_among same (named_ifs p) on) unnamed (is (if_same same on) ((if_same-Decides same decides on i).1 (sym (here ∙ there)))))

        by : (i : IfOf N) → IsIn i (named_ifs p) → is_among same p.interfaces i ≡ true → is_among same (without_interface same on p.interfaces) i ≡ true
        by i is own = any_filter (if_same same i) (λ own. not (if_same same own on)) p.interfaces (apart i is) ∙ own

-- a half that leaves: it is purged, and none of the interfaces
pub purged_out-sound : {N : Type 0} (same : N → N → Bool) (decides : (a b : N) → Decides (same a b) (a ≡ b)) (h : N) (p : PartsOf N) → is_sound_parts same p ≡ true
    → is_sound_parts same (record (purged same h p) { interfaces = without_interface same (Half h) (purged same h p).interfaces }) ≡ true
purged_out-sound same decides h p sound = without_interface-sound same (purged same h p) decides (Half h) (purged-forgotten same h p decides) (purged-sound same h p decides sound)

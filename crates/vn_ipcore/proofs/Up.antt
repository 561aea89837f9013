-- A half is set up or down, in the tables as in the rules.
use Rattle.std.proofs.Common.{◌≡◌, ℕ, Bool, true, false, List, length, Option, Some, IfSome, refl, sym, ap, ◌∙◌, subst}
use Rattle.vn_types.specs.declared.interface.HalfId.{HalfId}
use Rattle.vn_types.specs.declared.interface.IfOf.TheVariants.{Half}
use Rattle.vn_types.specs.Interfaces.{half_id_eq}
use Rattle.vn_types.specs.PerStack.{ChangesOnly}
use Rattle.vn_rules.specs.LinkCommands.{down_rule, set_up}
use Rattle.vn_rules.specs.Scenes.{LinkOf, SceneOf, is_queue, on_link}
use Rattle.vn_packets.specs.AddressLinks.{all_announced, come_up, come_up_on, up_rule}
use Rattle.vn_epair.specs.Halves.{Pair}
use Rattle.vn_epair.specs.Pairs.{end_of, half_of, of as number_of, pair_of, with_end}
use Rattle.vn_vmove.specs.declared.tables.Tables.{Tables}
use Rattle.vn_vmove.specs.Parts.{pair_at, parts}
use Rattle.vn_vmove.specs.Sound.{IsSound, stands_at}
use Rattle.vn_ipcore.specs.Scenes.{Replaces, StandsIn, scene_of}
use Rattle.vn_ipcore.proofs.Announced.{own}
use Rattle.vn_ipcore.proofs.Back.{replaces_as, replaces_then, still_there}
use Rattle.vn_ipcore.proofs.Sent.{link_is, replaces_half, there}

module _ {t : Tables} (s : IsSound t) (q : ℕ) (h : HalfId) (stands : stands_at q h.side (pair_at t h.pair) ≡ true)
    (new : List (Option Pair)) (up : Bool) (here : number_of new h.pair ≡ Some (with_end h.side (record (half_of t.pairs h) { up = up }) (pair_of t.pairs h.pair)))
    (others : ChangesOnly h.pair (pair_at t) (number_of new)) (numbers : length new ≡ length t.pairs) where
  abbrev scene : SceneOf HalfId
  scene = scene_of t q

  abbrev set : Bool → SceneOf HalfId
  set up = on_link half_id_eq h (λ (l : LinkOf HalfId). record l { up = up }) scene

  short : is_queue (half_of t.pairs h).sent ≡ true
  short = subst (λ o. IfSome o (λ pair. is_queue (end_of h.side pair).sent ≡ true)) (there s q h stands) (s.queues h)

  replaces_set : Replaces q (set up) t (record t { pairs = new })
  replaces_set = replaces_half s q h stands new (record (half_of t.pairs h) { up = up }) here others numbers (λ (l : LinkOf HalfId). record l { up = up }) refl short refl

  pub set_there : StandsIn q h (record t { pairs = new })
  set_there = still_there replaces_set (record { sound = s; stands = stands })

  pub replaces_by_down : up ≡ false → Replaces q (down_rule half_id_eq (Some (Half h)) scene).otherwise.left t (record t { pairs = new })
  unfolding set_up
  replaces_by_down down = replaces_as (set up) (set false) (ap set down) replaces_set

  -- what `up` comes to, by what the half was
  up-left : (was_up : Bool) → was_up ≡ (half_of t.pairs h).up → come_up half_id_eq h was_up (set true) ≡ (up_rule half_id_eq (Some (Half h)) scene).otherwise.left
  unfolding up_rule come_up_on set_up
  up-left was_up was = ap (λ b. come_up half_id_eq h b (set true)) (was ∙ ap (λ (l : LinkOf HalfId). l.up) (sym (link_is s q h stands)))

  module _ (is_up : up ≡ true) (was_up : Bool) (was : was_up ≡ (half_of t.pairs h).up) where
    pub replaces_by_same : was_up ≡ true → Replaces q (up_rule half_id_eq (Some (Half h)) scene).otherwise.left t (record t { pairs = new })
    replaces_by_same same = replaces_as (set up) _ (ap set is_up ∙ ap (λ b. come_up half_id_eq h b (set true)) (sym same) ∙ up-left was_up was) replaces_set

    pub replaces_by_up : was_up ≡ false → (v : Tables)
        → Replaces q (all_announced half_id_eq h (own h (parts t q).addresses) (scene_of (record t { pairs = new }) q)) (record t { pairs = new }) v
        → Replaces q (up_rule half_id_eq (Some (Half h)) scene).otherwise.left t v
    unfolding on_link scene_of
    replaces_by_up down v then =
        replaces_as (all_announced half_id_eq h (own h (parts t q).addresses) (scene_of (record t { pairs = new }) q)) ((up_rule half_id_eq (Some (Half h)) scene).otherwise.left)
        (ap (all_announced half_id_eq h (own h (parts t q).addresses)) (replaces_set.here ∙ ap set is_up)
        ∙ ap (λ b. come_up half_id_eq h b (set true)) (sym down) ∙ up-left was_up was)
        (replaces_then q (set up) (all_announced half_id_eq h (own h (parts t q).addresses) (scene_of (record t { pairs = new }) q)) t (record t { pairs = new }) v replaces_set then)

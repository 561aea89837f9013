-- A half sends a frame, in the tables as in the rule.
use Rattle.std.proofs.Common.{◌≡◌, ℕ, ◌+◌, Bool, true, false, cond, not, nat_le, List, [], ◌∷◌, ◌++◌, length, length-append, Option, Some, None, Result, Ok, Err, IfSome, IsSome, OnErr, OnOk, is_err, refl, sym, ap, ◌∙◌, subst, arith}
use Rattle.std.proofs.lemmas.Bool.{eqb-true, leb-false, le-leb}
use Rattle.vn_types.specs.declared.address.Mac.{Mac}
use Rattle.vn_types.specs.declared.errno.Errno.{Errno}
use Rattle.vn_types.specs.declared.errno.Errno.TheVariants.{NetDown, NoBufs}
use Rattle.vn_types.specs.declared.interface.HalfId.{HalfId}
use Rattle.vn_types.specs.Interfaces.{half_id_eq}
use Rattle.vn_types.specs.PerStack.{ChangesOnly}
use Rattle.vn_types.specs.Refusals.{IsRefusedBy}
use Rattle.vn_rules.specs.declared.parts.TheConstants.{SENT_MAX}
use Rattle.vn_rules.specs.Scenes.{LinkOf, SceneOf, is_queue, link_of, on_link}
use Rattle.vn_packets.specs.declared.tally.Tally.TheVariants.{Full, Link}
use Rattle.vn_packets.specs.Drops.{lost}
use Rattle.vn_packets.specs.Links.{enqueued, sent, sent_by, with_frame}
use Rattle.vn_epair.specs.Halves.{End, Pair}
use Rattle.vn_epair.specs.Pairs.{end_of, half_of, new_pair, of as number_of, pair_of, send_refusal, with_end}
use Rattle.vn_vmove.specs.declared.counts.Counts.{Counts}
use Rattle.vn_vmove.specs.declared.tables.Tables.{Tables}
use Rattle.vn_vmove.specs.Parts.{lives, pair_at}
use Rattle.vn_vmove.specs.Sound.{IsSound, stands_at}
use Rattle.vn_vmove.specs.Tallies.{after_count, counts_of, of as tallies_of}
use Rattle.vn_vmove.proofs.Names.{stands-pair}
use Rattle.vn_vmove.proofs.Steps.{some-of}
use Rattle.vn_ipcore.specs.Scenes.{Replaces, StandsIn, link_by, link_with, scene_of}
use Rattle.vn_ipcore.proofs.Back.{replaces_as}
use Rattle.vn_ipcore.proofs.Linked.{replaces_linked}
use Rattle.vn_ipcore.proofs.Seen.{link_of-scene}
use Rattle.vn_ipcore.proofs.Parted.{replaces_counted}

-- ---- why a frame is not sent

sends : (up full : Bool) → cond (not up) (Some NetDown) (cond full (Some NoBufs) None) ≡ None → (up ≡ true) × (full ≡ false)
sends true false e = (refl, refl)
sends true true e = cc
sends false full e = cc

is_full : (up full : Bool) (x : Errno) → up ≡ true → cond (not up) (Some NetDown) (cond full (Some NoBufs) None) ≡ Some x → full ≡ true
is_full true true x is e = refl
is_full true false x is e = cc
is_full false full x is e = cc

-- by what was answered
pub on_refusal : {T : Type 0} (r : Result T Errno) (refusal : Option Errno) → is_err r ≡ true → IsRefusedBy refusal r → (x : Errno) × (refusal ≡ Some x)
on_refusal (Ok x) refusal e by = cc
on_refusal (Err x) refusal e by = (x, by)

pub on_sent : {T : Type 0} (r : Result T Errno) (refusal : Option Errno) → is_err r ≡ false → IsRefusedBy refusal r → refusal ≡ None
on_sent (Ok x) refusal e by = by
on_sent (Err x) refusal e by = cc

pub if_err : {T : Type 0} (r : Result T Errno) (P : Type 0) → is_err r ≡ true → OnErr r P → P
if_err (Ok x) P e holds = cc
if_err (Err x) P e holds = holds

pub if_ok : {T : Type 0} (r : Result T Errno) (P : Type 0) → is_err r ≡ false → OnOk r P → P
if_ok (Ok x) P e holds = holds
if_ok (Err x) P e holds = cc

-- ---- a half that stands in the stack

-- where a half stands, there is its pair
pub pair_stands : (q : ℕ) (h : HalfId) (o : Option Pair) → stands_at q h.side o ≡ true → IsSome o
pair_stands q h None e = cc
pair_stands q h (Some pair) e = refl

-- and the stack lives
pub lives-where : {t : Tables} → IsSound t → (q : ℕ) (h : HalfId) → stands_at q h.side (pair_at t h.pair) ≡ true → lives t q ≡ true
lives-where {t} s q h stands =
    let there = stands-pair q h.side (pair_at t h.pair) stands in
    ap (lives t) (sym there.2) ∙ subst (λ o. IfSome o (λ pair. lives t (end_of h.side pair).at ≡ true)) there.1 (s.places h)

-- both, of a half that stands in the stack
pub half_exists : {t : Tables} {q : ℕ} {h : HalfId} → StandsIn q h t → IsSome (pair_at t h.pair)
half_exists {t} {q} {h} here = pair_stands q h (pair_at t h.pair) here.stands

pub stack_lives : {t : Tables} {q : ℕ} {h : HalfId} → StandsIn q h t → lives t q ≡ true
stack_lives {t} {q} {h} here = lives-where here.sound q h here.stands

module _ {t : Tables} (s : IsSound t) (q : ℕ) (h : HalfId) (stands : stands_at q h.side (pair_at t h.pair) ≡ true) where
  abbrev half : End
  half = half_of t.pairs h

  abbrev scene : SceneOf HalfId
  scene = scene_of t q

  pub there : pair_at t h.pair ≡ Some (pair_of t.pairs h.pair)
  there = some-of (pair_at t h.pair) (new_pair 0 0) (pair_stands q h (pair_at t h.pair) stands)

  stands_here : half.at ≡ q
  stands_here = eqb-true half.at q (ap (stands_at q h.side) (sym there) ∙ stands)

  -- its link is the pair's end
  pub link_is : link_of half_id_eq h scene ≡ link_with h half
  link_is = link_of-scene s q h stands ∙ ap (link_by h) there

  -- a half changes as its link does
  module _ (new : List (Option Pair)) (end : End) (here : number_of new h.pair ≡ Some (with_end h.side end (pair_of t.pairs h.pair)))
      (others : ChangesOnly h.pair (pair_at t) (number_of new)) (numbers : length new ≡ length t.pairs) where
    pub replaces_half : (f : LinkOf HalfId → LinkOf HalfId) → end.at ≡ half.at → is_queue end.sent ≡ true → link_with h end ≡ f (link_with h half)
        → Replaces q (on_link half_id_eq h f scene) t (record t { pairs = new })
    replaces_half f at short own = replaces_linked s h (pair_of t.pairs h.pair) there end at short new here others q stands_here numbers f own

  -- ---- a frame

  module _ (frame : List ℕ) where
    abbrev full : Bool
    full = nat_le SENT_MAX (length half.sent)

    sent_as : sent half_id_eq h frame scene ≡ cond (not half.up) (lost Link 1 scene) (cond full (lost Full 1 scene) (enqueued half_id_eq h frame scene))
    unfolding sent
    sent_as = ap (λ l. sent_by half_id_eq l h frame scene) link_is

    pub replaces_down : (new : List (Option Counts)) → half.up ≡ false → tallies_of new q ≡ Some (after_count Link 1 (counts_of t.tallies q))
        → ChangesOnly q (tallies_of t.tallies) (tallies_of new) → Replaces q (sent half_id_eq h frame scene) t (record t { tallies = new })
    replaces_down new down here others =
        replaces_as (lost Link 1 scene) (sent half_id_eq h frame scene)
        (ap (λ up. cond (not up) (lost Link 1 scene) (cond full (lost Full 1 scene) (enqueued half_id_eq h frame scene))) (sym down) ∙ sym sent_as)
        (replaces_counted s q (lives-where s q h stands) Link 1 new here others)

    pub replaces_full : (pairs : List (Option Pair)) (new : List (Option Counts)) (x : Errno) → pairs ≡ t.pairs → half.up ≡ true → send_refusal half ≡ Some x
        → tallies_of new q ≡ Some (after_count Full 1 (counts_of t.tallies q)) → ChangesOnly q (tallies_of t.tallies) (tallies_of new)
        → Replaces q (sent half_id_eq h frame scene) t (record t { pairs = pairs; tallies = new })
    replaces_full pairs new x same up refused here others =
        subst (λ p. Replaces q (sent half_id_eq h frame scene) t (record t { pairs = p; tallies = new })) (sym same)
        (replaces_as (lost Full 1 scene) (sent half_id_eq h frame scene) by_link (replaces_counted s q (lives-where s q h stands) Full 1 new here others))
      where
        by_link : lost Full 1 scene ≡ sent half_id_eq h frame scene
        by_link =
            ap (λ b. cond b (lost Full 1 scene) (enqueued half_id_eq h frame scene)) (sym (is_full half.up full x up refused))
            ∙ ap (λ b. cond (not b) (lost Link 1 scene) (cond full (lost Full 1 scene) (enqueued half_id_eq h frame scene))) (sym up) ∙ sym sent_as

    pub replaces_put : (new : List (Option Pair)) → send_refusal half ≡ None
        → number_of new h.pair ≡ Some (with_end h.side (record half { sent = half.sent ++ frame ∷ [] }) (pair_of t.pairs h.pair))
        → ChangesOnly h.pair (pair_at t) (number_of new) → length new ≡ length t.pairs → Replaces q (sent half_id_eq h frame scene) t (record t { pairs = new })
    unfolding enqueued
    replaces_put new free here others numbers =
        let can = sends half.up full free in
        let less = leb-false SENT_MAX (length half.sent) can.1 in
        let longer : length (half.sent ++ frame ∷ []) ≡ length half.sent + 1 = length-append half.sent (frame ∷ []) in
        replaces_as (on_link half_id_eq h (with_frame frame) scene) (sent half_id_eq h frame scene)
        (ap (λ b. cond b (lost Full 1 scene) (enqueued half_id_eq h frame scene)) (sym can.1)
        ∙ ap (λ b. cond (not b) (lost Link 1 scene) (cond full (lost Full 1 scene) (enqueued half_id_eq h frame scene))) (sym can.0) ∙ sym sent_as)
        (replaces_half new (record half { sent = half.sent ++ frame ∷ [] }) here others numbers (with_frame frame) refl (le-leb (length (half.sent ++ frame ∷ [])) SENT_MAX (omega (arith, less, longer)))
        (ap (λ b. cond b (link_with h half) (record (link_with h half) { sent = half.sent ++ frame ∷ [] })) (sym can.1)))

-- a half sent a frame with its own hardware address
pub sent_own : {t u : Tables} {q : ℕ} {h : HalfId} → StandsIn q h t → (frame_from : Mac → List ℕ) (mac : Mac) → mac ≡ (half_of t.pairs h).mac
    → (frame : List ℕ) → frame ≡ frame_from mac → Replaces q (sent half_id_eq h frame (scene_of t q)) t u
    → Replaces q (sent half_id_eq h (frame_from (link_of half_id_eq h (scene_of t q)).mac) (scene_of t q)) t u
sent_own {t} {u} {q} {h} here frame_from mac own frame is =
    let seen = own ∙ ap (λ (l : LinkOf HalfId). l.mac) (sym (link_is here.sound q h here.stands)) in
    subst (λ (f : List ℕ). Replaces q (sent half_id_eq h f (scene_of t q)) t u) (is ∙ ap frame_from seen)

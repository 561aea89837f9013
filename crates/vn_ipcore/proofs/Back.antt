-- A scene goes back into the tables, once and after another.
use Rattle.std.proofs.Common.{◌≡◌, ◌≢◌, ℕ, ◌==◌, Bool, true, false, cond, length, Option, Some, None, option_map, refl, sym, ap, ◌∙◌, subst}
use Rattle.std.proofs.lemmas.Bool.{eq-eqb, eqb-false, eqb-true}
use Rattle.vn_types.specs.declared.interface.HalfId.{HalfId}
use Rattle.vn_types.specs.declared.interface.Side.{Side}
use Rattle.vn_types.specs.declared.interface.Side.TheVariants.{A, B}
use Rattle.vn_types.specs.Interfaces.{half_id_eq}
use Rattle.vn_types.proofs.PerStackLaws.{unchanged}
use Rattle.vn_rules.specs.declared.parts.PartsOf.{PartsOf}
use Rattle.vn_rules.specs.Scenes.{SceneOf, link_of}
use Rattle.vn_epair.specs.Halves.{End, Pair}
use Rattle.vn_epair.specs.Pairs.{end_of}
use Rattle.vn_vmove.specs.declared.tables.Tables.{Tables}
use Rattle.vn_vmove.specs.Leaving.{KeepsOthers}
use Rattle.vn_vmove.specs.Moves.{half_on}
use Rattle.vn_vmove.specs.Nets.{Becomes, net_of}
use Rattle.vn_vmove.specs.Parts.{lives, pair_at, parts}
use Rattle.vn_vmove.specs.Sound.{IsSound, stands_at}
use Rattle.vn_vmove.proofs.Deciding.{pick}
use Rattle.vn_ipcore.specs.Scenes.{Replaces, StandsIn, end_after, link_by, link_with, pair_after, parts_after, placed, scene_of, with_link}
use Rattle.vn_ipcore.proofs.Seen.{link_of-scene}

-- ---- what a call in one stack may change

-- an end stays where it is, and as it is where that is in another stack
pub record NearEnd (q : ℕ) (old new : End) : Type 0 where
  pub at : new.at ≡ old.at
  pub off : old.at ≢ q → new ≡ old

-- a pair with its name
pub record NearPair (q : ℕ) (old new : Pair) : Type 0 where
  pub home : new.home ≡ old.home
  pub unit : new.unit ≡ old.unit
  pub ends : (side : Side) → NearEnd q (end_of side old) (end_of side new)

-- a number of a pair
abbrev pub IsNear : ℕ → Option Pair → Option Pair → Type 0
IsNear q None None = Unit {0}
IsNear q (Some old) (Some new) = NearPair q old new
IsNear q None (Some new) = ⊥
IsNear q (Some old) None = ⊥

-- all tables
pub record Near (q : ℕ) (old new : Tables) : Type 0 where
  pub others : KeepsOthers q old new
  pub interfaces : (parts new q).interfaces ≡ (parts old q).interfaces
  pub pairs : (n : ℕ) → IsNear q (pair_at old n) (pair_at new n)
  pub lives : (r : ℕ) → lives new r ≡ lives old r
  pub numbers : length new.pairs ≡ length old.pairs

pub near_end : (q : ℕ) (end : End) → NearEnd q end end
near_end q end = record { at = refl; off = λ ne. refl }

pub is_near : (q : ℕ) (o : Option Pair) → IsNear q o o
is_near q None = tt
is_near q (Some pair) = record { home = refl; unit = refl; ends = λ side. near_end q (end_of side pair) }

pub near_same : (q : ℕ) (t : Tables) → Near q t t
near_same q t = record {
  others = unchanged q (parts t);
  interfaces = refl;
  pairs = λ n. is_near q (pair_at t n);
  lives = λ r. refl;
  numbers = refl;
}

-- ---- what is seen then is what was put back

module _ {u : Tables} (sound : IsSound u) (q : ℕ) where
  abbrev seen : SceneOf HalfId
  seen = scene_of u q

  end-back : (n : ℕ) (side : Side) (old new : Pair) → pair_at u n ≡ Some new → NearEnd q (end_of side old) (end_of side new)
      → end_of side new ≡ end_after q seen (half_on side n) (end_of side old)
  end-back n side old new is near = by ((end_of side old).at == q) refl
    where
      link_is : (end_of side old).at ≡ q → link_with (half_on side n) (end_of side new) ≡ link_of half_id_eq (half_on side n) seen
      link_is at = sym (link_of-scene sound q (half_on side n) (ap (stands_at q side) is ∙ eq-eqb (end_of side new).at q (near.at ∙ at)) ∙ ap (link_by (half_on side n)) is)

      by : (b : Bool) → ((end_of side old).at == q) ≡ b
          → end_of side new ≡ cond b (with_link (link_of half_id_eq (half_on side n) seen) (end_of side old)) (end_of side old)
      by true e =
          let l = link_is (eqb-true (end_of side old).at q e) in
          λ i. record { at = near.at i; mac = (l i).mac; up = (l i).up; sent = (l i).sent }
      by false e = near.off (eqb-false (end_of side old).at q e)

  pair-back : (n : ℕ) (old new : Option Pair) → pair_at u n ≡ new → IsNear q old new → new ≡ option_map (pair_after q seen n) old
  pair-back n None None is near = refl
  pair-back n None (Some new) is near = absurd near
  pair-back n (Some old) None is near = absurd near
  pair-back n (Some old) (Some new) is near = λ i. Some (record {
    home = near.home i;
    unit = near.unit i;
    a = end-back n A old new is (near.ends A) i;
    b = end-back n B old new is (near.ends B) i;
  })

  near-becomes : (t : Tables) → Near q t u → Becomes (placed q seen (net_of t)) t u
  unfolding placed scene_of
  near-becomes t near = record {
    parts = λ r. pick r q (parts_after seen (parts t r)) (parts t r) (parts u r) (here r) (near.others.others r);
    pairs = λ n. pair-back n (pair_at t n) (pair_at u n) refl (near.pairs n);
    lives = near.lives;
    numbers = near.numbers;
  }
    where
      here : (r : ℕ) → r ≡ q → parts u r ≡ parts_after seen (parts t r)
      here r is =
          ap (parts u) is ∙ (λ i. record (parts u q) { interfaces = near.interfaces i })
          ∙ ap (λ k. parts_after seen (parts t k)) (sym is)

  pub replaces : (t : Tables) (s : SceneOf HalfId) → Near q t u → seen ≡ s → Replaces q s t u
  replaces t s near here = record {
    becomes = subst (λ s. Becomes (placed q s (net_of t)) t u) here (near-becomes t near);
    here = here;
    sound = sound;
  }

-- ---- nothing, and one after another

-- what changed is of one stack and of its halves
abbrev pub ChangesWithin : ℕ → Tables → Tables → Type 0
ChangesWithin q old new = Replaces q (scene_of new q) old new

pub replaces_same : {t : Tables} → IsSound t → (q : ℕ) → ChangesWithin q t t
replaces_same {t} sound q = replaces sound q t (scene_of t q) (near_same q t) refl

pub replaces_as : {t u : Tables} {q : ℕ} (r s : SceneOf HalfId) → r ≡ s → Replaces q r t u → Replaces q s t u
replaces_as {t} {u} {q} r s same one = subst (λ x. Replaces q x t u) same one

module _ (q : ℕ) (r s : SceneOf HalfId) (t u v : Tables) where
  abbrev kept_link : SceneOf HalfId → HalfId → Bool → End → End
  kept_link x h b end = cond b (with_link (link_of half_id_eq h x) end) end

  end-twice : (h : HalfId) (end : End) → end_after q s h (end_after q r h end) ≡ end_after q s h end
  end-twice h end = by (end.at == q) refl
    where
      by : (b : Bool) → (end.at == q) ≡ b → kept_link s h ((kept_link r h b end).at == q) (kept_link r h b end) ≡ kept_link s h b end
      by true e = ap (λ b. kept_link s h b (kept_link r h true end)) e
      by false e = ap (λ b. kept_link s h b end) e

  pair-twice : (n : ℕ) (o : Option Pair) → option_map (pair_after q s n) (option_map (pair_after q r n) o) ≡ option_map (pair_after q s n) o
  pair-twice n None = refl
  pair-twice n (Some pair) = λ i. Some (record pair { a = end-twice (half_on A n) pair.a i; b = end-twice (half_on B n) pair.b i })

  becomes_then : Becomes (placed q r (net_of t)) t u → Becomes (placed q s (net_of u)) u v → Becomes (placed q s (net_of t)) t v
  unfolding placed
  becomes_then one two = record {
    parts = λ k. two.parts k ∙ ap (λ p. cond (k == q) (parts_after s p) p) (one.parts k) ∙ by (parts t k) (k == q);
    pairs = λ n. two.pairs n ∙ ap (option_map (pair_after q s n)) (one.pairs n) ∙ pair-twice n (pair_at t n);
    lives = λ k. two.lives k ∙ one.lives k;
    numbers = two.numbers ∙ one.numbers;
  }
    where
      by : (p : PartsOf HalfId) (b : Bool) → cond b (parts_after s (cond b (parts_after r p) p)) (cond b (parts_after r p) p) ≡ cond b (parts_after s p) p
      by p true = refl
      by p false = refl

  pub replaces_then : Replaces q r t u → Replaces q s u v → Replaces q s t v
  replaces_then one two = record { becomes = becomes_then one.becomes two.becomes; here = two.here; sound = two.sound }

-- what was changed up to here, and one rule more
pub goes_on : {t u v : Tables} {q : ℕ} {s : SceneOf HalfId} → ChangesWithin q t u → Replaces q s u v → ChangesWithin q t v
goes_on {t} {u} {v} {q} {s} before more = replaces_then q (scene_of u q) (scene_of v q) t u v before (replaces_as s (scene_of v q) (sym more.here) more)

-- ---- who stands where is as it was

end-at : (q : ℕ) (s : SceneOf HalfId) (h : HalfId) (end : End) → (end_after q s h end).at ≡ end.at
end-at q s h end = by (end.at == q)
  where
    by : (b : Bool) → (cond b (with_link (link_of half_id_eq h s) end) end).at ≡ end.at
    by true = refl
    by false = refl

pub stands_then : {t u : Tables} {q : ℕ} {s : SceneOf HalfId} → Replaces q s t u → (r : ℕ) (h : HalfId) → stands_at r h.side (pair_at u h.pair) ≡ stands_at r h.side (pair_at t h.pair)
unfolding placed
stands_then {t} {u} {q} {s} one r h = ap (stands_at r h.side) (one.becomes.pairs h.pair) ∙ by h.side (pair_at t h.pair)
  where
    by : (side : Side) (o : Option Pair) → stands_at r side (option_map (pair_after q s h.pair) o) ≡ stands_at r side o
    by side None = refl
    by A (Some pair) = ap (λ n. n == r) (end-at q s (half_on A h.pair) pair.a)
    by B (Some pair) = ap (λ n. n == r) (end-at q s (half_on B h.pair) pair.b)

-- also where the pair was as before, though other tables had changed
pub there_then : {t u v : Tables} {q : ℕ} {s : SceneOf HalfId} {h : HalfId} → pair_at u h.pair ≡ pair_at t h.pair → Replaces q s u v → StandsIn q h t → StandsIn q h v
there_then {q = q} {h = h} same one here = record { sound = one.sound; stands = stands_then one q h ∙ ap (stands_at q h.side) same ∙ here.stands }

pub still_there : {t u : Tables} {q : ℕ} {s : SceneOf HalfId} {h : HalfId} → Replaces q s t u → StandsIn q h t → StandsIn q h u
still_there one here = there_then refl one here

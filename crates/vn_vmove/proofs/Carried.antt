-- What stands in each stack, and what a pair is, after a half was taken out, attached, released or put down.
use Rattle.std.proofs.Common.{◌≡◌, ◌≢◌, ℕ, ◌==◌, Bool, true, false, ◌&&◌, List, [], ◌∷◌, ◌++◌, Option, Some, None, unwrap_or, refl, sym, ap, ◌∙◌, ⊎_elim}
use Rattle.std.specs.Prelude.{if◌then◌else◌}
use Rattle.std.specs.List.{find}
use Rattle.std.specs.Option.{option_map}
use Rattle.std.proofs.lemmas.Bool.{both_ways, cases_eq, eqb-false, eqb-true}
use Rattle.vn_types.specs.declared.interface.HalfId.{HalfId}
use Rattle.vn_types.specs.declared.interface.IfName.{IfName}
use Rattle.vn_types.specs.declared.interface.IfOf.TheVariants.{Half}
use Rattle.vn_types.specs.declared.interface.Side.{Side}
use Rattle.vn_types.specs.declared.interface.Side.TheVariants.{A, B}
use Rattle.vn_types.specs.PerStack.{ChangesOnly}
use Rattle.vn_rules.specs.Named.{ifname_eq}
use Rattle.vn_epair.specs.Halves.{Pair}
use Rattle.vn_epair.specs.Pairs.{emptied, end_of, half_of, new_pair, of as number_of, pair_of, with_end}
use Rattle.vn_ifnet.specs.declared.interfaces.Attached.{Attached}
use Rattle.vn_ifnet.specs.Stacks.{Held, named, of as held_of, reserved_by, with_last, without}
use Rattle.vn_vmove.specs.Moves.{placed_at}
use Rattle.vn_vmove.specs.Places.{come, left, let_go}
use Rattle.vn_vmove.proofs.Edits.{reserved-same}
use Rattle.vn_vmove.proofs.Deciding.{name-is, name-refl, pick}

abbrev attached_of : Held → List Attached
attached_of held = held.attached

-- the half behind all others
abbrev last : HalfId → IfName → List Attached → List Attached
last h name xs = without (Half h) xs ++ record { what = Half h; name = name } ∷ []

-- what is alike at a number and at all others is alike
alike : {A : Type 0} (f g : ℕ → A) (n q : ℕ) → f n ≡ g n → (q ≢ n → f q ≡ g q) → f q ≡ g q
alike f g n q at elsewhere = ⊎_elim (λ (e : q ≡ n). ap f e ∙ at ∙ ap g (sym e)) elsewhere (cases_eq q n)

-- ---- a half is taken out

module _ (h : HalfId) (from : ℕ) (old mid : List Held)
    (taken : held_of mid from ≡ record (held_of old from) { attached = without (Half h) (held_of old from).attached })
    (taken_only : ChangesOnly from (held_of old) (held_of mid)) where
  mid-attached : (q : ℕ) → (held_of mid q).attached ≡ left h from q (held_of old q).attached
  mid-attached q = pick q from (without (Half h) (held_of old q).attached) (held_of old q).attached (held_of mid q).attached
      (λ e. ap (λ r. (held_of mid r).attached) e ∙ ap attached_of taken ∙ ap (λ r. without (Half h) (held_of old r).attached) (sym e))
      (λ ne. ap attached_of (taken_only.others q ne))

  mid-reserved : (q : ℕ) → (held_of mid q).reserved ≡ (held_of old q).reserved
  mid-reserved q = alike (λ r. (held_of mid r).reserved) (λ r. (held_of old r).reserved) from q
      (ap (λ (held : Held). held.reserved) taken) (λ ne. ap (λ (held : Held). held.reserved) (taken_only.others q ne))

  -- ---- and attached

  pub carry-missed : (to : ℕ) (name : IfName) → named name (record (held_of old to) { attached = left h from to (held_of old to).attached }) ≡ None
      → named name (held_of mid to) ≡ None
  carry-missed to name none =
      ap (λ xs. option_map (λ (a : Attached). a.what) (find (λ (a : Attached). ifname_eq a.name name) xs)) (mid-attached to) ∙ none

  module _ (to : ℕ) (name : IfName) (new : List Held)
      (put : held_of new to ≡ with_last (Half h) name (held_of mid to)) (put_only : ChangesOnly to (held_of mid) (held_of new)) where
    pub carry-attached : (q : ℕ) → (held_of new q).attached ≡ come h name to q (left h from q (held_of old q).attached)
    carry-attached q = pick q to (last h name (left h from q (held_of old q).attached)) (left h from q (held_of old q).attached) (held_of new q).attached
        (λ e. ap (λ r. (held_of new r).attached) e ∙ ap attached_of put ∙ ap (λ r. last h name (held_of mid r).attached) (sym e) ∙ ap (last h name) (mid-attached q))
        (λ ne. ap attached_of (put_only.others q ne) ∙ mid-attached q)

    pub carry-reserved : (q : ℕ) → (held_of new q).reserved ≡ (held_of old q).reserved
    carry-reserved q = alike (λ r. (held_of new r).reserved) (λ r. (held_of mid r).reserved) to q
        (ap (λ (held : Held). held.reserved) put) (λ ne. ap (λ (held : Held). held.reserved) (put_only.others q ne)) ∙ mid-reserved q

  -- ---- and its name let go at home

  module _ (home : ℕ) (own : IfName) (new : List Held)
      (released : reserved_by own (held_of new home) ≡ None)
      (names : (other : IfName) → other ≢ own → reserved_by other (held_of new home) ≡ reserved_by other (held_of mid home))
      (stays : (held_of new home).attached ≡ (held_of mid home).attached)
      (released_only : ChangesOnly home (held_of mid) (held_of new)) where
    pub leave-attached : (q : ℕ) → (held_of new q).attached ≡ left h from q (held_of old q).attached
    leave-attached q = alike (λ r. (held_of new r).attached) (λ r. (held_of mid r).attached) home q
        stays (λ ne. ap attached_of (released_only.others q ne)) ∙ mid-attached q

    mid-by : (q : ℕ) (name : IfName) → reserved_by name (held_of mid q) ≡ reserved_by name (held_of old q)
    mid-by q name = reserved-same (held_of mid q) (held_of old q) (mid-reserved q) name

    pub leave-reserved : (q : ℕ) (name : IfName) → reserved_by name (held_of new q) ≡ let_go own home q name (reserved_by name (held_of old q))
    leave-reserved q name = by (q == home) refl (ifname_eq name own) refl
      where
        by : (b : Bool) → (q == home) ≡ b → (c : Bool) → ifname_eq name own ≡ c
            → reserved_by name (held_of new q) ≡ (if b && c then None else reserved_by name (held_of old q))
        by true e true f =
            ap (λ r. reserved_by name (held_of new r)) (eqb-true q home e) ∙ ap (λ m. reserved_by m (held_of new home)) (name-is name own f) ∙ released
        by true e false f =
            ap (λ r. reserved_by name (held_of new r)) (eqb-true q home e)
            ∙ names name (λ g. both_ways (ifname_eq name own) f (ap (λ m. ifname_eq m own) g ∙ name-refl own))
            ∙ ap (λ r. reserved_by name (held_of mid r)) (sym (eqb-true q home e)) ∙ mid-by q name
        by false e c f = ap (reserved_by name) (released_only.others q (eqb-false q home e)) ∙ mid-by q name

-- ---- a half is put down

module _ (h : HalfId) (to : ℕ) (old clear stood new : List (Option Pair))
    (cleared : number_of clear h.pair ≡ Some (emptied (pair_of old h.pair)))
    (stands : number_of stood h.pair ≡ Some (with_end h.side (record (half_of clear h) { at = to }) (pair_of clear h.pair)))
    (down : number_of new h.pair ≡ Some (with_end h.side (record (half_of stood h) { up = false }) (pair_of stood h.pair))) where
  abbrev moved_end : Side → Pair → Pair
  moved_end side p = with_end side (record (end_of side p) { at = to }) p

  abbrev down_end : Side → Pair → Pair
  down_end side p = with_end side (record (end_of side p) { up = false }) p

  shape : (side : Side) (p : Pair) → down_end side (moved_end side (emptied p)) ≡ placed_at side to p
  shape A p = refl
  shape B p = refl

  -- the pair that a number is known to have
  the_pair : (pairs : List (Option Pair)) (p : Pair) → number_of pairs h.pair ≡ Some p → pair_of pairs h.pair ≡ p
  the_pair pairs p e = ap (λ o. unwrap_or o (new_pair 0 0)) e

  pub put_down-placed : number_of new h.pair ≡ Some (placed_at h.side to (pair_of old h.pair))
  put_down-placed =
      down ∙ ap (λ p. Some (down_end h.side p)) (the_pair stood (moved_end h.side (pair_of clear h.pair)) stands)
      ∙ ap (λ p. Some (down_end h.side (moved_end h.side p))) (the_pair clear (emptied (pair_of old h.pair)) cleared)
      ∙ ap Some (shape h.side (pair_of old h.pair))

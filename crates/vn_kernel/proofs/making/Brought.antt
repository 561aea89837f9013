-- What stands in each stack, and which names are reserved, after a half was attached at home.
use Rattle.std.proofs.Common.{◌≡◌, ◌≢◌, ℕ, ◌==◌, Bool, true, false, ◌&&◌, cond, not, List, [], ◌∷◌, ◌++◌, Option, Some, None, refl, sym, ap, ◌∙◌}
use Rattle.std.specs.Prelude.{if◌then◌else◌}
use Rattle.std.specs.List.{filter, find}
use Rattle.std.specs.Option.{option_map}
use Rattle.std.proofs.lemmas.Bool.{both_ways, eqb-false, eqb-true}
use Rattle.vn_types.specs.declared.interface.HalfId.{HalfId}
use Rattle.vn_types.specs.declared.interface.IfName.{IfName}
use Rattle.vn_types.specs.declared.interface.IfOf.{IfOf}
use Rattle.vn_types.specs.declared.interface.IfOf.TheVariants.{Half}
use Rattle.vn_types.specs.Interfaces.{half_id_eq, if_same}
use Rattle.vn_types.specs.PerStack.{ChangesOnly}
use Rattle.vn_rules.specs.Named.{ifname_eq}
use Rattle.vn_ifnet.specs.declared.interfaces.Attached.{Attached}
use Rattle.vn_ifnet.specs.Stacks.{Held, named, of as held_of, reserved_by, with_last, without}
use Rattle.vn_vmove.specs.Places.{come}
use Rattle.vn_vmove.proofs.Deciding.{name-is, name-refl, pick}
use Rattle.vn_kernel.specs.Makings.{keep_for}

module _ (h : HalfId) (home : ℕ) (own : IfName) (old mid new : List Held)
    (put : held_of mid home ≡ with_last (Half h) own (held_of old home))
    (put_only : ChangesOnly home (held_of old) (held_of mid))
    (stays : (held_of new home).attached ≡ (held_of mid home).attached)
    (kept_only : ChangesOnly home (held_of mid) (held_of new)) where
  abbrev last : ℕ → List Attached
  last q = without (Half h) (held_of old q).attached ++ record { what = Half h; name = own } ∷ []

  pub brought-attached : (q : ℕ) → (held_of new q).attached ≡ come h own home q (held_of old q).attached
  brought-attached q = pick q home (last q) (held_of old q).attached (held_of new q).attached
      (λ e. ap (λ r. (held_of new r).attached) e ∙ stays ∙ ap (λ (x : Held). x.attached) put ∙ ap last (sym e))
      (λ ne. ap (λ (x : Held). x.attached) (kept_only.others q ne ∙ put_only.others q ne))

  pub brought-reserved : reserved_by own (held_of new home) ≡ Some h
      → ((other : IfName) → other ≢ own → reserved_by other (held_of new home) ≡ reserved_by other (held_of mid home))
      → (q : ℕ) (name : IfName) → reserved_by name (held_of new q) ≡ keep_for h own home q name (reserved_by name (held_of old q))
  brought-reserved kept names q name = by (q == home) refl (ifname_eq name own) refl
    where
      before : reserved_by name (held_of mid home) ≡ reserved_by name (held_of old home)
      before = ap (λ (x : Held). reserved_by name x) put

      by : (b : Bool) → (q == home) ≡ b → (c : Bool) → ifname_eq name own ≡ c
          → reserved_by name (held_of new q) ≡ (if b && c then Some h else reserved_by name (held_of old q))
      by true e true f =
          ap (λ r. reserved_by name (held_of new r)) (eqb-true q home e) ∙ ap (λ m. reserved_by m (held_of new home)) (name-is name own f) ∙ kept
      by true e false f =
          ap (λ r. reserved_by name (held_of new r)) (eqb-true q home e)
          ∙ names name (λ g. both_ways (ifname_eq name own) f (ap (λ m. ifname_eq m own) g ∙ name-refl own))
          ∙ before ∙ ap (λ r. reserved_by name (held_of old r)) (sym (eqb-true q home e))
      by false e c f = ap (reserved_by name) (kept_only.others q (eqb-false q home e) ∙ put_only.others q (eqb-false q home e))

-- ---- a name that was not found

module _ (name : IfName) where
  -- what is found among these
  abbrev among : List Attached → Option (IfOf HalfId)
  among xs = named name (record { attached = xs; reserved = [] })

  none-last : (keep : Attached → Bool) (y : Attached) → ifname_eq y.name name ≡ false → (xs : List Attached) → among xs ≡ None → among (filter keep xs ++ y ∷ []) ≡ None
  none-last keep y other [] none = ap (λ b. option_map (λ (a : Attached). a.what) (cond b (Some y) None)) other
  none-last keep y other (x ∷ xs) none = by (ifname_eq x.name name) refl none (keep x) (none-last keep y other xs)
    where
      by : (b : Bool) → ifname_eq x.name name ≡ b → option_map (λ (a : Attached). a.what) (cond b (Some x) (find (λ (a : Attached). ifname_eq a.name name) xs)) ≡ None → (c : Bool)
          → (among xs ≡ None → among (filter keep xs ++ y ∷ []) ≡ None)
          → among (cond c (x ∷ filter keep xs) (filter keep xs) ++ y ∷ []) ≡ None
      by true e none c more = cc
      by false e none true more = ap (λ b. option_map (λ (a : Attached). a.what) (cond b (Some x) (find (λ (a : Attached). ifname_eq a.name name) (filter keep xs ++ y ∷ [])))) e ∙ more none
      by false e none false more = more none

  -- where another name comes it is not found either
  pub come-missed : (h : HalfId) (own : IfName) (home : ℕ) → ifname_eq own name ≡ false → (xs : List Attached) → among xs ≡ None → among (come h own home home xs) ≡ None
  come-missed h own home other xs none = by (home == home)
    where
      by : (b : Bool) → among (if b then without (Half h) xs ++ record { what = Half h; name = own } ∷ [] else xs) ≡ None
      by true = none-last (λ (a : Attached). not (if_same half_id_eq a.what (Half h))) (record { what = Half h; name = own }) other xs none
      by false = none

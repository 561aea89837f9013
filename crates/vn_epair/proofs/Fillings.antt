-- The units of a home that are known to be named, as names come and go.
use Rattle.std.proofs.Common.{◌≡◌, ◌≢◌, ℕ, ◌<◌, ◌≤◌, Bool, true, false, cond, ◌==◌, ◌&&◌, List, Option, Some, None, IsSome, refl, sym, ap, subst, ◌∙◌, arith, ⊎_elim, length, length-set}
use Rattle.std.specs.Prelude.{slice_set}
use Rattle.std.specs.BTreeMap.{is_at}
use Rattle.std.proofs.lemmas.Bool.{and_right, cases_eq, cases_lt, ne_eqb}
use Rattle.std.proofs.lemmas.List.{get_or_past, get_or-set_same, get_or-set_other}
use Rattle.vn_types.specs.PerStack.{ChangesOnly, of as kept}
use Rattle.vn_epair.specs.declared.name_index.Filled.{Filled}
use Rattle.vn_epair.specs.Kept.{AreNamed, IsFilled, Name, filled_of, name_cmp, told, Names}
use Rattle.vn_epair.proofs.Names.{name-ties}

abbrev pub of_home : List Filled → ℕ → Filled
of_home filled home = kept (record { units = 0 }) filled home

module _ (names names' : Names) (filled filled' : List Filled) (home : ℕ) (known : IsFilled names filled) where
  -- what is known of one home changes, and the names of the others stay
  pub filled-changed : ((h unit : ℕ) → h ≢ home → IsSome (told names (h, unit)) → IsSome (told names' (h, unit)))
      → ChangesOnly home (of_home filled) (of_home filled') → AreNamed names' home (filled_of filled' home) → IsFilled names' filled'
  filled-changed stay changes here = record {
    homes = λ h. ⊎_elim (λ (e : h ≡ home). subst (λ q. AreNamed names' q (filled_of filled' q)) (sym e) here)
        (λ ne unit lt. stay h unit ne (known.homes h unit (subst (λ (f : Filled). unit < f.units) (changes.others h ne) lt))) (cases_eq h home);
  }

module _ (names names' : Names) (home unit : ℕ) (value : Option ℕ) (put : (k : Name) → told names' k ≡ cond (is_at (name_cmp (home, unit)) k) value (told names k)) where
  stays : (h u : ℕ) → ((home == h) && (unit == u)) ≡ false → IsSome (told names (h, u)) → IsSome (told names' (h, u))
  stays h u other = subst (λ o. IsSome o) (sym (put (h, u) ∙ ap (λ b. cond b value (told names (h, u))) (name-ties (home, unit) (h, u) ∙ other)))

  -- a name of another home has the number that it had
  pub stays-elsewhere : (h u : ℕ) → h ≢ home → IsSome (told names (h, u)) → IsSome (told names' (h, u))
  stays-elsewhere h u ne = stays h u (ap (λ b. b && (unit == u)) (ne_eqb home h (λ e. ne (sym e))))

  -- and so has another unit
  pub stays-below : (u : ℕ) → unit ≢ u → IsSome (told names (home, u)) → IsSome (told names' (home, u))
  stays-below u ne = stays home u (and_right (home == home) (unit == u) (ne_eqb unit u ne))

-- a name that comes takes none away
pub stays-some : (names names' : Names) (home unit number : ℕ) → ((k : Name) → told names' k ≡ cond (is_at (name_cmp (home, unit)) k) (Some number) (told names k))
    → (k : Name) → IsSome (told names k) → IsSome (told names' k)
stays-some names names' home unit number put k some = subst (λ o. IsSome o) (sym (put k)) (by (is_at (name_cmp (home, unit)) k) (told names k) some)
  where
    by : (b : Bool) (o : Option ℕ) → IsSome o → IsSome (cond b (Some number) o)
    by true o some = refl
    by false o some = some

-- what is named below a unit, and from there on
pub named-through : (names : Names) (home middle units : ℕ) → AreNamed names home middle → ((unit : ℕ) → middle ≤ unit → unit < units → IsSome (told names (home, unit))) → AreNamed names home units
named-through names home middle units below above = λ unit lt. ⊎_elim (λ less. below unit less) (λ more. above unit more lt) (cases_lt unit middle)

-- ---- what is known of a home is lowered

module _ (names names' : Names) (filled : List Filled) (home unit lowered : ℕ) (known : IsFilled names filled) (put : (k : Name) → told names' k ≡ cond (is_at (name_cmp (home, unit)) k) None (told names k)) where
  -- of a home of which nothing is known
  pub filled-without : of_home filled home ≡ record { units = 0 } → IsFilled names' filled
  filled-without none =
      filled-changed names names' filled filled home known (stays-elsewhere names names' home unit None put) (record { others = λ q ne. refl })
      (λ u below. absurd (omega (arith, ap (λ (f : Filled). f.units) none)))

  lower-here : (u : ℕ) → u < filled_of (slice_set filled home (record { units = lowered })) home → u < lowered
  lower-here u below = ⊎_elim
      (λ (inside : home < length filled). subst (λ (f : Filled). u < f.units) (get_or-set_same filled home (record { units = lowered }) (record { units = 0 }) inside) below)
      (λ (outside : length filled ≤ home).
      let none = get_or_past (slice_set filled home (record { units = lowered })) home (record { units = 0 }) (omega (arith, length-set filled home (record { units = lowered }))) in
      absurd (omega (arith, ap (λ (f : Filled). f.units) none)))
      (cases_lt home (length filled))

  -- to no more than what was known, and than the unit that has no name any more
  pub filled-lowered : lowered ≤ filled_of filled home → lowered ≤ unit → IsFilled names' (slice_set filled home (record { units = lowered }))
  filled-lowered less most =
      filled-changed names names' filled (slice_set filled home (record { units = lowered })) home known (stays-elsewhere names names' home unit None put)
      (record { others = λ q ne. get_or-set_other filled home q (record { units = lowered }) (record { units = 0 }) ne })
      (λ u below.
      let low = lower-here u below in
      let ne : unit ≢ u = omega arith in
      stays-below names names' home unit None put u ne (known.homes home u (omega arith)))

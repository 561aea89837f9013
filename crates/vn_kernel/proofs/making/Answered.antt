-- A pair is made at a living path: what is refused, and which unit is the lowest that is free.
use Rattle.std.proofs.Common.{◌≡◌, ℕ, ◌<◌, ◌≤◌, ◌^◌, Bool, true, false, not, List, [], ◌∷◌, Option, Some, None, refl, sym, ap, ap₂, ◌∙◌, subst, arith, ⊎_elim}
use Rattle.std.specs.Prelude.{nat_lt}
use Rattle.std.specs.BTreeMap.{insert_entry}
use Rattle.std.specs.List.{list_any}
use Rattle.std.proofs.lemmas.Bool.{and_parts, cases_lt, cases_eq, ltb-false, ltb-true, not-true, not-false, true≢false}
use Rattle.vn_types.specs.declared.errno.Errno.{Errno}
use Rattle.vn_types.specs.declared.errno.Errno.TheVariants as errno
use Rattle.vn_types.specs.declared.interface.IfName.TheVariants.{Epair}
use Rattle.vn_types.specs.declared.interface.Side.TheVariants.{A}
use Rattle.vn_types.specs.Entries.{find, put}
use Rattle.vn_types.specs.InterfaceWords.{ifname_text}
use Rattle.vn_types.specs.Paths.{Path, Key, key_cmp}
use Rattle.vn_types.specs.Refusals.{first_refusal}
use Rattle.vn_types.proofs.RefusalLaws.{none-applies}
use Rattle.vn_rules.specs.declared.outcome.Outcome.{Outcome}
use Rattle.vn_rules.specs.declared.outcome.Outcome.TheVariants.{Refused, Value}
use Rattle.vn_rules.specs.Rules.{answer, answer_by}
use Rattle.vn_arp.proofs.Followed.{none_there}
use Rattle.vn_epair.specs.declared.pair_row.TheConstants.{UNIT_MAX}
use Rattle.vn_epair.specs.Pairs.{IsLowestFree, is_named}
use Rattle.vn_jail.specs.Tree.{is_alive, number_of}
use Rattle.vn_vmove.specs.declared.tables.Tables.{Tables}
use Rattle.vn_cells.specs.commands.Pairs.{any_making, making, told_lowest, told_pair}
use Rattle.vn_cells.specs.commands.Taken.{is_unit_free, lowest_free, units}
use Rattle.vn_laws.specs.Units.{IsLowestFree as IsLowestThere}
use Rattle.vn_laws.proofs.pairs.Lowest.{lowest-free}
use Rattle.vn_kernel.specs.Fields.{Fields}
use Rattle.vn_kernel.specs.Makings.{is_free_in, making_refusal, Makes, stands_in}
use Rattle.vn_kernel.specs.Stands.{Answered, Stands}
use Rattle.vn_kernel.specs.Worlds.{world_of}
use Rattle.vn_kernel.proofs.Answering.{answered-done, answered-refused}
use Rattle.vn_kernel.proofs.making.Found.{found-homed, free-here}
use Rattle.vn_kernel.proofs.making.World.{made-leaves}

-- a unit that is none of those that a pair can be made with is greater than the greatest
great-is : (unit : ℕ) → not (nat_lt unit units) ≡ nat_lt UNIT_MAX unit
great-is unit = by (nat_lt unit units) refl (nat_lt UNIT_MAX unit) refl
  where
    by : (a : Bool) → nat_lt unit units ≡ a → (b : Bool) → nat_lt UNIT_MAX unit ≡ b → not a ≡ b
    by true e true f = absurd (let low = ltb-true unit units e in let high = ltb-true UNIT_MAX unit f in omega arith)
    by true e false f = refl
    by false e true f = refl
    by false e false f = absurd (let high = ltb-false unit units e in let low = ltb-false UNIT_MAX unit f in omega arith)

module _ (f : Fields) (s : Stands f) (p : Path) (alive : is_alive p f.jails ≡ true) where
  abbrev home : ℕ
  home = number_of p f.jails

  module _ (unit : ℕ) where
    refusal-is : first_refusal (making p unit (world_of f)).refusals ≡ making_refusal f.tables home unit
    refusal-is = ap₂ (λ great free. first_refusal ((great, errno.Inval) ∷ (not free, errno.Exist) ∷ [])) (great-is unit) (free-here f s p alive unit)

    pub making-refused : (e : Errno) → making_refusal f.tables (number_of p f.jails) unit ≡ Some e → Answered (answer (world_of f) (making p unit (world_of f))) (Refused e) f f
    making-refused e is = answered-refused f (making p unit (world_of f)) s e (refusal-is ∙ is)

    module _ (none : making_refusal f.tables (number_of p f.jails) unit ≡ None) where
      passes : (nat_lt UNIT_MAX unit ≡ false) × (is_free_in f.tables home unit ≡ true)
      passes = let parts = none-applies ((nat_lt UNIT_MAX unit, errno.Inval) ∷ (not (is_free_in f.tables home unit), errno.Exist) ∷ []) none in
          (parts.0, not-false (is_free_in f.tables home unit) parts.1.0)

      fits : unit < 2 ^ 32
      fits = let low = ltb-false UNIT_MAX unit passes.0 in omega arith

      unhomed : find key_cmp (p, unit) f.units ≡ None
      unhomed = none_there (find key_cmp (p, unit) f.units) (found-homed f s p alive unit ∙ not-true (list_any (is_named home unit) f.tables.pairs) (and_parts _ _ (and_parts _ _ passes.1).0).0)

      pub making-done : (n : ℕ) (u : Tables) → Makes (number_of p f.jails) unit n f.tables u
          → Answered (answer (world_of f) (making p unit (world_of f))) (Value (ifname_text (Epair unit A))) f (record f { tables = u; units = put key_cmp (p, unit) n f.units })
      making-done n u m = answered-done f (making p unit (world_of f)) (record f { tables = u; units = put key_cmp (p, unit) n f.units }) (Value (ifname_text (Epair unit A)))
          (refusal-is ∙ none) refl (made-leaves f s p alive unit fits n u m unhomed)

  -- ---- the lowest unit

  module _ (unit : ℕ) (low : unit ≤ UNIT_MAX) (lowest : IsLowestFree (stands_in f.tables (number_of p f.jails)) (number_of p f.jails) f.tables.pairs unit) where
    free-there : is_unit_free (world_of f) p unit ≡ true
    free-there = free-here f s p alive unit ∙ lowest.free

    lowest-is : lowest_free (world_of f) p ≡ Some unit
    lowest-is = by (lowest_free (world_of f) p) refl (lowest-free (world_of f) p)
      where
        by : (o : Option ℕ) → lowest_free (world_of f) p ≡ o → IsLowestThere (world_of f) p o → o ≡ Some unit
        by None e none = absurd (true≢false (sym free-there ∙ none unit (omega arith)))
        by (Some v) e there = ⊎_elim below (λ (le : unit ≤ v). ⊎_elim (λ (same : v ≡ unit). ap Some same) (λ ne. above (omega (arith, le, ne))) (cases_eq v unit)) (cases_lt v unit)
          where
            below : v < unit → Some v ≡ Some unit
            below lt = absurd (true≢false (sym there.free ∙ free-here f s p alive v ∙ lowest.least v lt))

            above : unit < v → Some v ≡ Some unit
            above lt = absurd (true≢false (sym free-there ∙ there.least unit lt))

    none-refused : making_refusal f.tables home unit ≡ None
    none-refused = ap₂ (λ great free. first_refusal ((great, errno.Inval) ∷ (not free, errno.Exist) ∷ [])) fits lowest.free
      where
        fits : nat_lt UNIT_MAX unit ≡ false
        fits = by (nat_lt UNIT_MAX unit) refl
          where
            by : (b : Bool) → nat_lt UNIT_MAX unit ≡ b → b ≡ false
            by false e = refl
            by true e = absurd (let high = ltb-true UNIT_MAX unit e in omega arith)

    -- to make any pair is to make that one
    any-is : answer (world_of f) (making p unit (world_of f)) ≡ answer (world_of f) (any_making p (world_of f))
    unfolding answer_by told_lowest
    any-is = ap (λ r. answer_by r (world_of f) (told_pair p unit (world_of f))) (refusal-is unit ∙ none-refused) ∙ ap (λ o. told_lowest p o (world_of f)) (sym lowest-is)

    pub any-answered : (given : Outcome) (g : Fields) → Answered (answer (world_of f) (making p unit (world_of f))) given f g → Answered (answer (world_of f) (any_making p (world_of f))) given f g
    any-answered given g is = subst (λ a. Answered a given f g) any-is is

  -- ---- at the number of the path

  module _ (sid : ℕ) (at : sid ≡ number_of p f.jails) (unit : ℕ) where
    pub refused-unit : (e : Errno) → making_refusal f.tables sid unit ≡ Some e → (u : Tables) → u ≡ f.tables
        → Answered (answer (world_of f) (making p unit (world_of f))) (Refused e) f (record f { tables = u })
    refused-unit e is u same = subst (λ u. Answered (answer (world_of f) (making p unit (world_of f))) (Refused e) f (record f { tables = u })) (sym same)
        (making-refused unit e (ap (λ q. making_refusal f.tables q unit) (sym at) ∙ is))

    pub made-unit : making_refusal f.tables sid unit ≡ None → (n : ℕ) (u : Tables) → Makes sid unit n f.tables u → (q : Path) → q ≡ p → (us : List (Key × ℕ)) → us ≡ insert_entry key_cmp f.units (q, unit) n
        → (text : List ℕ) → text ≡ ifname_text (Epair unit A) → Answered (answer (world_of f) (making p unit (world_of f))) (Value text) f (record f { tables = u; units = us })
    unfolding put
    made-unit none n u m q same us inserted text told =
        subst (λ (x : List (Key × ℕ)). Answered (answer (world_of f) (making p unit (world_of f))) (Value text) f (record f { tables = u; units = x })) (sym (inserted ∙ ap (λ r. insert_entry key_cmp f.units (r, unit) n) same))
        (subst (λ x. Answered (answer (world_of f) (making p unit (world_of f))) (Value x) f (record f { tables = u; units = put key_cmp (p, unit) n f.units })) (sym told)
        (making-done unit (ap (λ q. making_refusal f.tables q unit) (sym at) ∙ none) n u (subst (λ q. Makes q unit n f.tables u) at m)))

    pub made-lowest : unit ≤ UNIT_MAX → IsLowestFree (stands_in f.tables sid) sid f.tables.pairs unit → (given : Outcome) (g : Fields)
        → Answered (answer (world_of f) (making p unit (world_of f))) given f g → Answered (answer (world_of f) (any_making p (world_of f))) given f g
    made-lowest low lowest given g is = any-answered unit low (subst (λ q. IsLowestFree (stands_in f.tables q) q f.tables.pairs unit) at lowest) given g is

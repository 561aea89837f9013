-- The constructors are registered in their table one after another.
use Rattle.std.proofs.Common.{◌≡◌, ℕ, zero, suc, ◌+◌, ◌<◌, Bool, true, false, List, [], ◌∷◌, length, get_or, drop, Some, None, refl, sym, ap, subst, ◌∙◌, arith}
use Rattle.std.specs.List.{slice_get}
use Rattle.std.specs.Option.{option_map}
use Rattle.std.specs.Prelude.{if◌then◌else◌}
use Rattle.std.proofs.lemmas.List.{drop_more}
use Rattle.std.proofs.lemmas.Option.{get_or_from_slice_get, slice_get_within}
use Rattle.vn_sysinit.specs.declared.entry.SysEntry.{SysEntry}
use Rattle.vn_sysinit.specs.Rows.{constructor_entries, constructor_names, registered}
use Rattle.vn_sysinit.specs.Table.{Row, is_taken, up_names, with_entry}
use Rattle.vn_kernel.specs.declared.constructors.Constructor.{Constructor}
use Rattle.vn_kernel.specs.Constructors.{constructors, number_before}

-- ---- each in its place

-- before each of these run as many as stand before it, and some
abbrev are_numbered : ℕ → List Constructor → Type 0
are_numbered n [] = Unit {0}
are_numbered n (c ∷ cs) = (number_before c ≡ n) × are_numbered (suc n) cs

numbered : (n : ℕ) (cs : List Constructor) → are_numbered n cs → (i : ℕ) (d : Constructor) → i < length cs → number_before (get_or cs i d) ≡ n + i
numbered n [] are i d within = absurd (omega arith)
numbered n (c ∷ cs) are zero d within = are.0 ∙ omega arith
numbered n (c ∷ cs) are (suc i) d within = numbered (suc n) cs are.1 i d (omega arith) ∙ omega arith

all-numbered : are_numbered 0 constructors
all-numbered = (refl, (refl, (refl, (refl, (refl, (refl, (refl, (refl, (refl, (refl, (refl, tt)))))))))))

-- as many run before a constructor as stand before it
pub number_before-at : (up : List Constructor) → up ≡ constructors → (i : ℕ) (d : Constructor) → i < length up → number_before (get_or up i d) ≡ i
number_before-at up order i d within =
    ap (λ cs. number_before (get_or cs i d)) order
    ∙ numbered 0 constructors all-numbered i d (subst (λ (cs : List Constructor). i < length cs) order within)
    ∙ omega arith

-- ---- their entries

-- the entries that are left can be registered, and the table then has the constructors in their order
pub record GivesTable (left : List SysEntry) (rows : List Row) : Type 0 where
  -- their names
  pub names : option_map up_names (registered left rows) ≡ Some constructor_names

module _ (entry : SysEntry) (left : List SysEntry) (rows : List Row) where
  first-free : GivesTable (entry ∷ left) rows → is_taken entry rows ≡ false
  first-free good = by (is_taken entry rows) refl good.names
    where
      by : (b : Bool) → is_taken entry rows ≡ b → option_map up_names (if b then None else registered left (with_entry entry rows)) ≡ Some constructor_names → is_taken entry rows ≡ false
      by true taken is = absurd (cc)
      by false taken is = taken

  rest-good : GivesTable (entry ∷ left) rows → GivesTable left (with_entry entry rows)
  rest-good good = record {
    names = subst (λ b. option_map up_names (if b then None else registered left (with_entry entry rows)) ≡ Some constructor_names) (first-free good) good.names;
  }

-- the entry of the constructor at a place, where those before it are registered
module _ (i : ℕ) (d : Constructor) (within : i < length constructors) (entry : SysEntry) (is : slice_get constructor_entries (number_before (get_or constructors i d)) ≡ Some entry)
    (rows : List Row) (good : GivesTable (drop i constructor_entries) rows) where
  next : slice_get constructor_entries i ≡ Some entry
  next = subst (λ (n : ℕ). slice_get constructor_entries n ≡ Some entry) (number_before-at constructors refl i d within) is

  split : drop i constructor_entries ≡ entry ∷ drop (i + 1) constructor_entries
  split =
      drop_more constructor_entries i entry (slice_get_within constructor_entries i entry next)
      ∙ ap (λ e. e ∷ drop (i + 1) constructor_entries) (get_or_from_slice_get constructor_entries i entry entry next)

  -- it is not taken
  pub next-free : is_taken entry rows ≡ false
  next-free = first-free entry (drop (i + 1) constructor_entries) rows (subst (λ left. GivesTable left rows) split good)

  -- and once it is registered the others can be
  pub next-good : (new : List Row) → new ≡ with_entry entry rows → GivesTable (drop (i + 1) constructor_entries) new
  next-good new is =
      subst (GivesTable (drop (i + 1) constructor_entries)) (sym is)
      (rest-good entry (drop (i + 1) constructor_entries) rows (subst (λ left. GivesTable left rows) split good))

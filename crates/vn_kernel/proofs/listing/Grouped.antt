-- The addresses of a stack, kept by interface.
use Rattle.std.proofs.Common.{◌≡◌, ℕ, ◌==◌, Bool, true, false, cond, List, [], ◌∷◌, ◌++◌, map, Option, Some, None, refl, sym, ap, ◌∙◌, arith}
use Rattle.std.specs.Prelude.{if◌then◌else◌, unwrap_or}
use Rattle.std.specs.BTreeMap.{insert_entry, is_at}
use Rattle.std.specs.List.{filter}
use Rattle.std.specs.List.Sorted.{IsStrictlySortedBy}
use Rattle.std.specs.Map.{keys_of, lookup, set_value}
use Rattle.std.specs.Ordering.{is_eq, nat_cmp}
use Rattle.std.proofs.lemmas.Bool.{eqb-true}
use Rattle.std.proofs.lemmas.Bool.Decides.{Decides-eqb, nat_tests}
use Rattle.std.proofs.lemmas.Cmp.{nat_cmp_total}
use Rattle.std.proofs.lemmas.List.{append-nil, map-append}
use Rattle.std.proofs.lemmas.List.Elements.{filter-append}
use Rattle.vn_types.specs.declared.interface.HalfId.{HalfId}
use Rattle.vn_types.specs.declared.interface.IfOf.{IfOf}
use Rattle.vn_types.specs.Entries.{find, put}
use Rattle.vn_types.specs.Interfaces.{half_id_eq, if_same}
use Rattle.vn_types.proofs.EntryLaws.{find-put, set_value-insert_entry}
use Rattle.vn_rules.specs.declared.address.AddrOf.{AddrOf}
use Rattle.vn_ifnet.specs.Names.{if_number}
use Rattle.vn_ifnet.proofs.Numbers.{same-if}
use Rattle.vn_cells.specs.machine.Listings.{addresses_on}
use Rattle.vn_kernel.specs.Rows.{Address, AreGrouped, Groups, grouped, kept_on}

ties : (m n : ℕ) → (m == n) ≡ is_eq (nat_cmp m n)
ties m n = grind (arith, nat_tests)

-- where nothing is kept
pub kept-none : (on : IfOf HalfId) → kept_on on [] ≡ []
unfolding find
kept-none on = refl

pub kept-absent : (number : ℕ) (on : IfOf HalfId) (groups : Groups) → number ≡ if_number on → None ≡ lookup (is_at (nat_cmp number)) groups → [] ≡ kept_on on groups
unfolding find
kept-absent number on groups own none = ap (λ o. unwrap_or o []) (none ∙ ap (λ n. lookup (is_at (nat_cmp n)) groups) own)

pub kept-there : (number : ℕ) (on : IfOf HalfId) (groups : Groups) (group : List Address) → number ≡ if_number on → Some group ≡ lookup (is_at (nat_cmp number)) groups → group ≡ kept_on on groups
unfolding find
kept-there number on groups group own there = ap (λ o. unwrap_or o []) (there ∙ ap (λ n. lookup (is_at (nat_cmp n)) groups) own)

module _ (a : AddrOf HalfId) (groups : Groups) where
  abbrev address : Address
  address = (a.ip, a.len)

  -- ---- an address more

  pub group-there : (number : ℕ) (old new : List Address) → number ≡ if_number a.on → IsStrictlySortedBy nat_cmp (keys_of groups)
      → Some old ≡ lookup (is_at (nat_cmp number)) groups → new ≡ old ++ address ∷ [] → set_value (is_at (nat_cmp number)) groups new ≡ grouped a groups
  unfolding grouped put
  group-there number old new own sorted there is =
      set_value-insert_entry nat_cmp nat_cmp_total number groups old new sorted (sym there)
      ∙ (λ i. insert_entry nat_cmp groups (own i) ((is ∙ ap (λ es. es ++ address ∷ []) (kept-there number a.on groups old own there)) i))

  pub group-absent : (number : ℕ) (now : Groups) (new : List Address) → now ≡ groups → number ≡ if_number a.on
      → None ≡ lookup (is_at (nat_cmp number)) groups → new ≡ address ∷ [] → insert_entry nat_cmp now number new ≡ grouped a groups
  unfolding grouped put
  group-absent number now new same own none is =
      (λ i. insert_entry nat_cmp (same i) (own i) ((is ∙ ap (λ es. es ++ address ∷ []) (kept-absent number a.on groups own none)) i))

  -- ---- what is kept then

  kept-grouped : (on : IfOf HalfId) → kept_on on (grouped a groups) ≡ (if if_same half_id_eq a.on on then kept_on on groups ++ address ∷ [] else kept_on on groups)
  unfolding grouped
  kept-grouped on =
      ap (λ o. unwrap_or o []) (find-put nat_cmp Decides-eqb ties (if_number a.on) (kept_on a.on groups ++ address ∷ []) groups (if_number on))
      ∙ by (if_number on == if_number a.on) refl
      ∙ ap (λ b. if b then kept_on on groups ++ address ∷ [] else kept_on on groups) (same-if on a.on)
    where
      by : (b : Bool) → (if_number on == if_number a.on) ≡ b → unwrap_or (if b then Some (kept_on a.on groups ++ address ∷ []) else find nat_cmp (if_number on) groups) []
          ≡ (if b then kept_on on groups ++ address ∷ [] else kept_on on groups)
      by true same = ap (λ n. unwrap_or (find nat_cmp n groups) [] ++ address ∷ []) (sym (eqb-true (if_number on) (if_number a.on) same))
      by false other = refl

  pub grouped-more : (before : List (AddrOf HalfId)) → AreGrouped before groups → AreGrouped (before ++ a ∷ []) (grouped a groups)
  grouped-more before so_far on =
      kept-grouped on ∙ by (if_same half_id_eq a.on on)
      ∙ sym (ap (map told) (filter-append own before (a ∷ [])) ∙ map-append told (filter own before) (filter own (a ∷ [])))
    where
      told : AddrOf HalfId → Address
      told x = (x.ip, x.len)

      own : AddrOf HalfId → Bool
      own x = if_same half_id_eq x.on on

      by : (b : Bool) → (if b then kept_on on groups ++ address ∷ [] else kept_on on groups) ≡ map told (filter own before) ++ map told (cond b (a ∷ []) [])
      by true = ap (λ es. es ++ address ∷ []) (so_far on)
      by false = so_far on ∙ sym (append-nil (map told (filter own before)))

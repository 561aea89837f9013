-- A jail and its living descendants: by their numbers, and in the world.
use Rattle.std.proofs.Common.{◌≡◌, ℕ, Bool, true, ◌&&◌, List, map, refl, sym, ap, ◌∙◌, subst}
use Rattle.std.specs.Cmp.{both_ways}
use Rattle.std.specs.List.{list_any}
use Rattle.std.specs.List.Sorted.{IsStrictlySortedBy}
use Rattle.std.specs.Map.{keys_of}
use Rattle.std.proofs.lemmas.Bool.{and_from, and_parts, eq-eqb, eqb-true}
use Rattle.std.proofs.lemmas.List.Kept.{IsStrictlySortedBy-filter}
use Rattle.vn_types.specs.declared.interface.Sid.{Sid}
use Rattle.vn_types.specs.PathOrder.{path_eq-Decides, path_ties, path_total}
use Rattle.vn_types.specs.Paths.{Path, is_under, path_cmp, path_eq}
use Rattle.vn_types.proofs.EntryLaws.{keys_of-each}
use Rattle.vn_types.proofs.ListMaps.{any_map_same}
use Rattle.vn_jail.specs.declared.jail.Jail.{Jail}
use Rattle.vn_jail.specs.Order.{Rises, has_number}
use Rattle.vn_jail.specs.Tree.{at, is_alive, number_of, path_at}
use Rattle.vn_jail.proofs.Numbers.{is-alive, within}
use Rattle.vn_cells.specs.commands.Removal.{living_under}
use Rattle.vn_cells.specs.world.World.{is_alive as lives_in}
use Rattle.vn_laws.proofs.edits.Cells.{alive_listed}
use Rattle.vn_laws.proofs.edits.Lists.{any-filter, unique}
use Rattle.vn_kernel.specs.Fields.{Fields}
use Rattle.vn_kernel.specs.Stands.{Stands}
use Rattle.vn_kernel.specs.Worlds.{stack_of, world_of}
use Rattle.vn_kernel.proofs.Jails.{alive-numbered}
use Rattle.vn_kernel.proofs.Views.{alive-is}
use Rattle.vn_kernel.proofs.removing.Lists.{Passing, passing, sorted-map}

-- exactly these numbers, in the order of their paths, are those of a path and its living descendants
pub record LiveUnder (p : Path) (jails : List Jail) (sids : List Sid) : Type 0 where
  pub rises : Rises jails sids
  pub listed : (n : ℕ) → list_any (has_number n) sids ≡ ((at jails n).alive && is_under (path_at jails n) p)

module _ (f : Fields) (s : Stands f) (p : Path) (sids : List Sid) (under : LiveUnder p f.jails sids) where
  abbrev path : Sid → Path
  path sid = path_at f.jails sid.0

  number-lives : (r : Path) → is_alive r f.jails ≡ true → (at f.jails (number_of r f.jails)).alive ≡ true
  number-lives r alive = let known = alive-numbered f.jails r alive in sym (is-alive f.jails s.linked r (number_of r f.jails) known.0 known.1) ∙ alive

  abbrev test : Path → Bool
  test r = lives_in (world_of f) r && is_under r p

  in-world : (r : Path) → list_any (path_eq r) (living_under (world_of f) p) ≡ true → list_any (path_eq r) (map path sids) ≡ true
  in-world r any =
      any_map_same path (λ sid. path_eq r (path sid)) (path_eq r) (λ x. refl) sids ∙ found.is_in (λ sid. path_eq r (path sid)) ((path_eq-Decides r (path found.it)).1 (sym (alive-numbered f.jails r alive).1 ∙ ap (path_at f.jails) (sym (eqb-true found.it.0 (number_of r f.jails) found.passes))))
    where
      passes : test r ≡ true
      passes = (and_parts (test r) (list_any (path_eq r) (keys_of (world_of f).stacks)) (sym (any-filter path_cmp path_total path_eq-Decides path_ties test r (keys_of (world_of f).stacks)) ∙ any)).0

      alive : is_alive r f.jails ≡ true
      alive = sym (alive-is f s r) ∙ (and_parts (lives_in (world_of f) r) (is_under r p) passes).0

      found : Passing (has_number (number_of r f.jails)) sids
      found = passing (has_number (number_of r f.jails)) sids
          (under.listed (number_of r f.jails) ∙ and_from (at f.jails (number_of r f.jails)).alive (is_under (path_at f.jails (number_of r f.jails)) p) (number-lives r alive)
          (ap (λ q. is_under q p) (alive-numbered f.jails r alive).1 ∙ (and_parts (lives_in (world_of f) r) (is_under r p) passes).1))

  in-list : (r : Path) → list_any (path_eq r) (map path sids) ≡ true → list_any (path_eq r) (living_under (world_of f) p) ≡ true
  in-list r any =
      any-filter path_cmp path_total path_eq-Decides path_ties test r (keys_of (world_of f).stacks)
      ∙ and_from (test r) (list_any (path_eq r) (keys_of (world_of f).stacks)) (and_from (lives_in (world_of f) r) (is_under r p) lives (ap (λ q. is_under q p) same ∙ own.1)) (alive_listed (world_of f) r lives)
    where
      found : Passing (λ (sid : Sid). path_eq r (path sid)) sids
      found = passing (λ (sid : Sid). path_eq r (path sid)) sids (sym (any_map_same path (λ sid. path_eq r (path sid)) (path_eq r) (λ x. refl) sids) ∙ any)

      same : r ≡ path found.it
      same = (path_eq-Decides r (path found.it)).0 found.passes

      own : ((at f.jails found.it.0).alive ≡ true) × (is_under (path found.it) p ≡ true)
      own = and_parts (at f.jails found.it.0).alive (is_under (path found.it) p) (sym (under.listed found.it.0) ∙ found.is_in (has_number found.it.0) (eq-eqb found.it.0 found.it.0 refl))

      lives : lives_in (world_of f) r ≡ true
      lives = alive-is f s r ∙ is-alive f.jails s.linked r found.it.0 (within f.jails found.it.0 own.0) (sym same) ∙ own.0

  -- these are the paths that the world destroys
  pub living-is : living_under (world_of f) p ≡ map path sids
  unfolding world_of
  living-is =
      unique path_cmp path_total path_eq-Decides path_ties (living_under (world_of f) p) (map path sids)
      (IsStrictlySortedBy-filter path_cmp test (keys_of (world_of f).stacks) (subst (IsStrictlySortedBy path_cmp) (sym (keys_of-each (stack_of f) f.logs)) s.logs_rise))
      (sorted-map path_cmp path sids under.rises)
      (λ r. both_ways _ _ (in-world r) (in-list r))

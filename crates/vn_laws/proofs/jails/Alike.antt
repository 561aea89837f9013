-- A jail that is made is answered alike, and leaves alike, in two worlds that are alike in a set with its deciders.
use Rattle.std.proofs.Common.{◌≡◌, ℕ, Bool, true, false, ◌||◌, List, [], ◌∷◌, map, refl, sym, ap, ap₂, ◌∙◌, arith}
use Rattle.std.specs.Prelude.{if◌then◌else◌}
use Rattle.std.specs.Option.{is_some}
use Rattle.std.specs.List.{list_all, list_any}
use Rattle.std.proofs.lemmas.Bool.{and_parts}
use Rattle.std.proofs.lemmas.List.Folds.{list_all-append}
use Rattle.vn_rules.specs.Rules.{Common}
use Rattle.vn_cells.specs.declared.cell.Cells.{Cells}
use Rattle.vn_cells.specs.declared.cell.CellName.TheVariants.{Stack as OfStack}
use Rattle.vn_cells.specs.declared.world.Stack.{Stack}
use Rattle.vn_cells.specs.declared.world.World.{World}
use Rattle.vn_cells.specs.world.Names.{Path, path_eq, is_host, above, first_or_host}
use Rattle.vn_cells.specs.world.World.{is_alive}
use Rattle.vn_cells.specs.commands.Jails.{recount, is_full, any_full, created, creation}
use Rattle.vn_cells.specs.sets.Sets.{in_set, in_stacks, unless_host, jail_deciders}
use Rattle.vn_cells.specs.keeping.Sound.{IsSound}
use Rattle.vn_laws.specs.Relations.{Alike, is_inside}
use Rattle.vn_laws.proofs.edits.Alike.{alike-edit_stack, alike-each_stack}
use Rattle.vn_laws.proofs.edits.Cells.{none_lives}
use Rattle.vn_laws.proofs.rule.Alike.{AlikeRules}
use Rattle.vn_laws.proofs.jails.Created.{more}

-- the deciders of a jail are in a set
pub record JailInside (set : Cells) (issuer p : Path) : Type 0 where
  pub own : in_stacks set p ≡ true
  pub up : list_all (in_set set) (map OfStack (above p)) ≡ true
  pub by : is_inside set issuer ≡ true

pub jail_inside : (set : Cells) (issuer p : Path) → list_all (in_set set) (jail_deciders issuer p) ≡ true → JailInside set issuer p
unfolding in_set
jail_inside set issuer p all =
    let parts = and_parts _ _ all in
    let more = and_parts _ _ (sym (list_all-append (in_set set) (map OfStack (above p)) (unless_host issuer)) ∙ parts.1) in
    record { own = parts.0; up = more.0; by = issuer_in issuer more.1 }
  where
    issuer_in : (issuer : Path) → list_all (in_set set) (unless_host issuer) ≡ true → is_inside set issuer ≡ true
    issuer_in issuer all = on (is_host issuer) all
      where
        on : (b : Bool) → list_all (in_set set) (if b then [] else OfStack issuer ∷ []) ≡ true → (in_stacks set issuer || b) ≡ true
        on true all = grind arith
        on false all = grind (arith, all)

module _ {set : Cells} {v w : World} (a : Alike set v w) (sv : IsSound v) (sw : IsSound w) where
  -- a path of the set, or host, lives in both or in neither
  pub alive_alike : (p : Path) → is_inside set p ≡ true → is_alive v p ≡ is_alive w p
  unfolding is_host
  alive_alike [] inside = sv.tree.host ∙ sym sw.tree.host
  alive_alike (l ∷ p) inside = ap (λ (s : Stack). is_some s.live) (a.stacks (l ∷ p) (grind (arith, inside)))

  full_alike : (paths : List Path) → list_all (in_set set) (map OfStack paths) ≡ true → any_full v paths ≡ any_full w paths
  unfolding any_full in_set
  full_alike [] all = refl
  full_alike (p ∷ ps) all =
      let parts = and_parts _ _ all in ap₂ (λ (s : Stack) b. is_full s.live || b) (a.stacks p parts.0) (full_alike ps parts.1)

  parent_alike : (paths : List Path) → list_all (in_set set) (map OfStack paths) ≡ true
      → is_alive v (first_or_host paths) ≡ is_alive w (first_or_host paths)
  unfolding in_set
  parent_alike [] all = sv.tree.host ∙ sym sw.tree.host
  parent_alike (p ∷ ps) all = ap (λ (s : Stack). is_some s.live) (a.stacks p (and_parts _ _ all).0)

  created_alike : (clock : ℕ) (p : Path) (limit : ℕ) → Alike set (created clock p limit v) (created clock p limit w)
  unfolding created
  created_alike clock p limit =
      alike-edit_stack (alike-each_stack a _ (λ q. none_lives (list_any (path_eq q) (above p)) (recount more))) p _

  pub creation_alike : (common : Common) (issuer p : Path) (limit : ℕ) → JailInside set issuer p
      → AlikeRules set (creation common p limit v) (creation common p limit w)
  creation_alike common issuer p limit inside = record {
    refusals = rw (parent_alike (above p) inside.up, ap (λ (s : Stack). is_some s.live) (a.stacks p inside.own), full_alike (above p) inside.up) refl;
    outcome = refl;
    left = λ none. created_alike common.clock p limit;
  }

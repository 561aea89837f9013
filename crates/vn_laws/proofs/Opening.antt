-- The opening world: host alone, just constructed.
use Rattle.std.proofs.Common.{◌≡◌, Bool, true, false, [], ◌∷◌, Some, None, refl, sym, ap, ◌∙◌}
use Rattle.std.specs.Prelude.{if◌then◌else◌, unwrap_or, count_by}
use Rattle.std.specs.Ordering.{is_eq}
use Rattle.std.specs.Option.{is_some}
use Rattle.std.specs.List.Sorted.{IsStrictlySortedBy}
use Rattle.std.proofs.lemmas.Bool.{true≢false}
use Rattle.vn_types.specs.declared.interface.Side.{Side}
use Rattle.vn_types.specs.declared.interface.IfOf.TheVariants.{Lo0, Half as OfHalf}
use Rattle.vn_types.specs.PathOrder.{path_ties}
use Rattle.vn_types.proofs.Ancestors.{is_host-path_eq}
use Rattle.vn_rules.specs.Soundness.{is_sound_parts}
use Rattle.vn_cells.specs.declared.cell.Cells.{Cells}
use Rattle.vn_cells.specs.declared.world.Stack.{Stack}
use Rattle.vn_cells.specs.world.Names.{Path, Key, If, path_cmp, is_host, is_under, parent, if_eq, key_of, half_eq}
use Rattle.vn_types.specs.Entries.{find}
use Rattle.vn_cells.specs.world.World.{no_stack, stack_at, pair_at, is_alive, ifs_of}
use Rattle.vn_cells.specs.commands.Jails.{construct}
use Rattle.vn_cells.specs.machine.Step.{opening}
use Rattle.vn_cells.specs.keeping.Standing.{IsStanding, is_placed, stands_at, times, times_listed, passes, has_queues}
use Rattle.vn_cells.specs.keeping.Sound.{IsSound, IsTree, living_below, counts_right}
use Rattle.vn_laws.specs.Relations.{Belongs, owns_ifs}
use Rattle.vn_rules.proofs.Constructed.{constructed_parts-sound}
use Rattle.vn_laws.proofs.edits.Paths.{parent_host}

-- host alone is listed
pub opening_stack : (q : Path) → stack_at opening q ≡ (if is_host q then construct 0 None no_stack else no_stack)
unfolding stack_at find
opening_stack q = by (is_eq (path_cmp q [])) (is_host q) (sym (is_host-path_eq q ∙ path_ties q []))
  where
    by : (a b : Bool) → a ≡ b → unwrap_or (if a then Some (construct 0 None no_stack) else None) no_stack
        ≡ (if b then construct 0 None no_stack else no_stack)
    by true true e = refl
    by false false e = refl
    by true false e = cc
    by false true e = cc

pub opening_pairs : (k : Key) → pair_at opening k ≡ None
unfolding pair_at find
opening_pairs k = refl

opening_alive : (p : Path) → is_alive opening p ≡ is_host p
opening_alive p = ap (λ (s : Stack). is_some s.live) (opening_stack p) ∙ by (is_host p)
  where
    by : (b : Bool) → is_some (if b then construct 0 None no_stack else no_stack).live ≡ b
    by true = refl
    by false = refl

host_is : is_host [] ≡ true
unfolding is_host
host_is = refl

listed_opening : (p : Path) (on : If) → count_by (if_eq on) (ifs_of (stack_at opening p)) ≡ times_listed opening p on
listed_opening p on = ap (λ s. count_by (if_eq on) (ifs_of s)) (opening_stack p) ∙ by on (is_host p) (opening_alive p)
  where
    by : (on : If) (b : Bool) → is_alive opening p ≡ b
        → count_by (if_eq on) (ifs_of (if b then construct 0 None no_stack else no_stack)) ≡ times_listed opening p on
    by Lo0 true e = ap times (sym e)
    by Lo0 false e = ap times (sym e)
    by (OfHalf h) true e = ap (λ o. times (stands_at p h.side o)) (sym (opening_pairs (key_of h)))
    by (OfHalf h) false e = ap (λ o. times (stands_at p h.side o)) (sym (opening_pairs (key_of h)))

standing-opening : IsStanding opening
unfolding IsStrictlySortedBy
standing-opening = record {
  places = λ k side. ap (is_placed opening k side) (opening_pairs k);
  listed = listed_opening;
  tables = λ p. ap (λ (s : Stack). passes (is_sound_parts half_eq) s.live) (opening_stack p) ∙ by (is_host p);
  queues = λ k. ap has_queues (opening_pairs k);
  pairs_ordered = tt;
}
  where
    by : (b : Bool) → passes (is_sound_parts half_eq) (if b then construct 0 None no_stack else no_stack).live ≡ true
    by true = constructed_parts-sound half_eq
    by false = refl

tree-opening : IsTree opening
unfolding IsStrictlySortedBy
tree-opening = record {
  host = opening_alive [] ∙ host_is;
  parents = λ p e. opening_alive (parent p) ∙ parent_host p (sym (opening_alive p) ∙ e);
  counted = λ p.
      ap (λ (s : Stack). counts_right (living_below opening p) p s.live) (opening_stack p) ∙ by p (is_host p) refl;
  stacks_ordered = (tt, tt);
}
  where
    by : (p : Path) (b : Bool) → is_host p ≡ b
        → counts_right (living_below opening p) p (if b then construct 0 None no_stack else no_stack).live ≡ true
    by p true e = ap (λ b. if b then true else false) e
    by p false e = refl

none_stands : (p : Path) (side : Side) (k : Key) → stands_at p side (pair_at opening k) ≡ true → ⊥
none_stands p side k e = true≢false (sym e ∙ ap (stands_at p side) (opening_pairs k))

pub sound-opening : IsSound opening
sound-opening = record {
  standing = standing-opening;
  tree = tree-opening;
  names = record {
    once = λ p g h a b u d. absurd (none_stands p g.side (key_of g) a);
    reserved = λ p h a e. absurd (none_stands p h.side (key_of h) a);
  };
}

host_under : (p q : Path) → is_host q ≡ true → is_under q p ≡ true → is_host p ≡ true
unfolding is_host is_under
host_under [] q e under = refl
host_under (x ∷ p) [] e under = cc
host_under (x ∷ p) (y ∷ q) e under = cc

pub belongs-opening : (set : Cells) → Belongs set opening
belongs-opening set = record {
  halves = λ p h. ap (λ s. owns_ifs set (ifs_of s)) (opening_stack p) ∙ by (is_host p);
  descendants = λ p q h top under alive.
      absurd (true≢false (sym (host_under p q (sym (opening_alive q) ∙ alive) under) ∙ top));
}
  where
    by : (b : Bool) → owns_ifs set (ifs_of (if b then construct 0 None no_stack else no_stack)) ≡ true
    by true = refl
    by false = refl

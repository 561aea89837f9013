-- The halves of some stacks are of a set's pairs: which edits keep that, and what belongs to the set.
use Rattle.std.proofs.Common.{◌≡◌, Bool, true, false, ◌&&◌, ◌||◌, not, cond, List, [], ◌∷◌, ◌++◌, Option, Some, None, refl, sym, ap, ◌∙◌, arith}
use Rattle.std.specs.Prelude.{if◌then◌else◌, filter}
use Rattle.std.specs.Option.{option_map, is_some}
use Rattle.std.specs.List.{list_all, list_any}
use Rattle.std.proofs.lemmas.Bool.{and_parts, and_from}
use Rattle.vn_types.specs.declared.half.Half.{Half}
use Rattle.vn_types.specs.declared.interface.IfOf.TheVariants.{Lo0, Half as OfHalf}
use Rattle.vn_types.specs.PathOrder.{path_eq-Decides}
use Rattle.vn_rules.specs.declared.address.AddrOf.{AddrOf}
use Rattle.vn_rules.specs.declared.parts.PartsOf.{PartsOf}
use Rattle.vn_rules.specs.Addresses.{is_on}
use Rattle.vn_rules.specs.Arp.{without_entries}
use Rattle.vn_rules.specs.Pings.{without_pings}
use Rattle.vn_rules.specs.Purge.{without_addr, without_addrs, without_names, purged}
use Rattle.vn_rules.specs.Sockets.{unbound_from, without_grams_by}
use Rattle.vn_cells.specs.declared.cell.Cells.{Cells}
use Rattle.vn_cells.specs.declared.world.Live.{Live}
use Rattle.vn_cells.specs.declared.world.Stack.{Stack}
use Rattle.vn_cells.specs.declared.world.World.{World}
use Rattle.vn_cells.specs.world.Names.{Path, Key, If, path_eq, if_eq, half_eq, key_of}
use Rattle.vn_cells.specs.world.World.{stack_at, ifs_in, ifs_of, live_map, on_parts, edit_live}
use Rattle.vn_cells.specs.commands.Pairs.{attached, detached, attach, detach}
use Rattle.vn_cells.specs.sets.Sets.{in_stacks, in_pairs}
use Rattle.vn_laws.specs.Relations.{Belongs, owns_ifs}
use Rattle.vn_laws.proofs.edits.Cells.{stack_at-edit_live}
use Rattle.vn_laws.proofs.edits.Names.{half_eq-Decides}
use Rattle.vn_laws.proofs.edits.Shapes.{SameShape}
use Rattle.vn_laws.proofs.edits.Standing.{SameAlive}

-- ---- a set and its pairs

-- a pair whose home is of the set
pub own_pair : (set : Cells) (k : Key) → in_stacks set k.0 ≡ true → in_pairs set k ≡ true
unfolding in_pairs
own_pair set k e = grind (arith, e)

-- what passes a test passes what follows from it
pub list_all_filter : {K : Type 0} (g f : K → Bool) → ((k : K) → f k ≡ true → g k ≡ true) → (ks : List K)
    → list_all g (filter f ks) ≡ true
list_all_filter g f e [] = refl
list_all_filter g f e (k ∷ ks) = by (f k) refl (list_all_filter g f e ks)
  where
    by : (b : Bool) → f k ≡ b → list_all g (filter f ks) ≡ true → list_all g (cond b (k ∷ filter f ks) (filter f ks)) ≡ true
    by true h ih = and_from _ _ (e k h) ih
    by false h ih = ih

-- ---- lists of interfaces

module _ (set : Cells) where
  -- whether an interface is lo0 or of a pair of the set
  abbrev pub owns_if : If → Bool
  owns_if Lo0 = true
  owns_if (OfHalf h) = in_pairs set (key_of h)

  owns-cons : (on : If) (ifs : List If) → owns_ifs set (on ∷ ifs) ≡ (owns_if on && owns_ifs set ifs)
  owns-cons Lo0 ifs = refl
  owns-cons (OfHalf h) ifs = refl

  -- those that pass a test
  owns-filter : (f : If → Bool) (ifs : List If) → owns_ifs set ifs ≡ true → owns_ifs set (filter f ifs) ≡ true
  owns-filter f [] all = refl
  owns-filter f (on ∷ ifs) all =
      let parts = and_parts _ _ (sym (owns-cons on ifs) ∙ all) in
      by (f on) parts.0 (owns-filter f ifs parts.1)
    where
      by : (b : Bool) → owns_if on ≡ true → owns_ifs set (filter f ifs) ≡ true
          → owns_ifs set (cond b (on ∷ filter f ifs) (filter f ifs)) ≡ true
      by true own ih = owns-cons on (filter f ifs) ∙ and_from _ _ own ih
      by false own ih = ih

  -- one more
  owns-last : (h : Half) (ifs : List If) → in_pairs set (key_of h) ≡ true → owns_ifs set ifs ≡ true
      → owns_ifs set (ifs ++ OfHalf h ∷ []) ≡ true
  owns-last h [] own all = and_from _ _ own refl
  owns-last h (on ∷ ifs) own all =
      let parts = and_parts _ _ (sym (owns-cons on ifs) ∙ all) in
      owns-cons on (ifs ++ OfHalf h ∷ []) ∙ and_from _ _ parts.0 (owns-last h ifs own parts.1)

  -- one of them
  pub owns-member : (h : Half) (ifs : List If) → owns_ifs set ifs ≡ true → list_any (if_eq (OfHalf h)) ifs ≡ true
      → in_pairs set (key_of h) ≡ true
  owns-member h [] all any = cc
  owns-member h (Lo0 ∷ ifs) all any = owns-member h ifs all any
  owns-member h (OfHalf g ∷ ifs) all any =
      let parts = and_parts _ _ all in
      by (if_eq (OfHalf h) (OfHalf g)) refl any parts.0 (owns-member h ifs parts.1)
    where
      by : (b : Bool) → if_eq (OfHalf h) (OfHalf g) ≡ b → (b || list_any (if_eq (OfHalf h)) ifs) ≡ true → in_pairs set (key_of g) ≡ true
          → (list_any (if_eq (OfHalf h)) ifs ≡ true → in_pairs set (key_of h) ≡ true) → in_pairs set (key_of h) ≡ true
      by true e any own more = ap (λ (k : Half). in_pairs set (key_of k)) ((half_eq-Decides h g).0 e) ∙ own
      by false e any own more = more any

-- whether an interface is none, or lo0, or a half of a pair of the set
abbrev pub Owns : Cells → Option If → Type 0
Owns set None = Unit {0}
Owns set (Some Lo0) = Unit {0}
Owns set (Some (OfHalf h)) = in_pairs set (key_of h) ≡ true

-- ---- a half that is purged leaves the interfaces

module _ (h : Half) where
  without_addrs-interfaces : (addresses : List (AddrOf Half)) (p : PartsOf Half)
      → (without_addrs half_eq addresses p).interfaces ≡ p.interfaces
  unfolding without_addr without_entries without_pings unbound_from
  without_addrs-interfaces [] p = refl
  without_addrs-interfaces (a ∷ addresses) p = without_addrs-interfaces addresses (without_addr half_eq a p)

  pub purged-interfaces : (p : PartsOf Half) → (purged half_eq h p).interfaces ≡ p.interfaces
  unfolding purged without_names without_entries without_pings without_grams_by
  purged-interfaces p = without_addrs-interfaces (filter (is_on half_eq (OfHalf h)) p.addresses) p

-- ---- worlds

-- who lives lived before, and the halves that stand in the stacks of these paths are of the set's pairs
pub record Owned (set : Cells) (test : Path → Bool) (v w : World) : Type 0 where
  pub alive : SameAlive v w
  pub of : (q : Path) → test q ≡ true → owns_ifs set (ifs_of (stack_at w q)) ≡ true

module _ {set : Cells} {test : Path → Bool} {v w : World} (o : Owned set test v w) where
  -- what lives, changed at a path of these so that its halves stay the set's
  pub owned-edit_live : (p : Path) (f : Live → Live)
      → ((live : Live) → test p ≡ true → owns_ifs set live.parts.interfaces ≡ true → owns_ifs set (f live).parts.interfaces ≡ true)
      → Owned set test v (edit_live p f w)
  owned-edit_live p f keeps = record {
    alive = λ q. ap (λ (s : Stack). is_some s.live) (stack_at-edit_live p f w q) ∙ lives q (path_eq q p) (stack_at w q) ∙ o.alive q;
    of = λ q h. ap (λ s. owns_ifs set (ifs_of s)) (stack_at-edit_live p f w q) ∙ by q h (path_eq q p) refl;
  }
    where
      lives : (q : Path) (b : Bool) (s : Stack) → is_some (if b then live_map f s else s).live ≡ is_some s.live
      lives q false s = refl
      lives q true s = is_some-map s.live
        where
          is_some-map : (l : Option Live) → is_some (option_map f l) ≡ is_some l
          is_some-map None = refl
          is_some-map (Some live) = refl

      live : (l : Option Live) → test p ≡ true → owns_ifs set (ifs_in l) ≡ true → owns_ifs set (ifs_in (option_map f l)) ≡ true
      live None h own = refl
      live (Some l) h own = keeps l h own

      by : (q : Path) → test q ≡ true → (b : Bool) → path_eq q p ≡ b
          → owns_ifs set (ifs_of (if b then live_map f (stack_at w q) else stack_at w q)) ≡ true
      by q h true e = live (stack_at w q).live (ap test (sym ((path_eq-Decides q p).0 e)) ∙ h) (o.of q h)
      by q h false e = o.of q h

  -- what lives stays as it is
  pub owned-shape : {x : World} → SameShape w x → Owned set test v x
  owned-shape t = record {
    alive = λ q. ap is_some (t.lives q) ∙ o.alive q;
    of = λ q h. ap (λ l. owns_ifs set (ifs_in l)) (t.lives q) ∙ o.of q h;
  }

  -- edits of pairs leave the stacks
  pub owned-stacks : {x : World} → ((q : Path) → stack_at x q ≡ stack_at w q) → Owned set test v x
  owned-stacks e = record {
    alive = λ q. ap (λ (s : Stack). is_some s.live) (e q) ∙ o.alive q;
    of = λ q h. ap (λ s. owns_ifs set (ifs_of s)) (e q) ∙ o.of q h;
  }

  pub owned-attach : (h : Half) (p : Path) → (test p ≡ true → in_pairs set (key_of h) ≡ true) → Owned set test v (attach h p w)
  owned-attach h p own =
      owned-edit_live p (on_parts (attached h)) (λ live here all. owns-last set h live.parts.interfaces (own here) all)

  pub owned-detach : (h : Half) (p : Path) → Owned set test v (detach h p w)
  owned-detach h p =
      owned-edit_live p (on_parts (detached h)) (λ live here all.
      ap (λ ifs. owns_ifs set (filter (λ on. not (if_eq on (OfHalf h))) ifs)) (purged-interfaces h live.parts)
      ∙ owns-filter set (λ on. not (if_eq on (OfHalf h))) live.parts.interfaces all)

-- ---- what belongs to a set

pub owned-belongs : {set : Cells} {v : World} → Belongs set v → Owned set (in_stacks set) v v
owned-belongs b = record { alive = λ q. refl; of = b.halves }

pub belongs-owned : {set : Cells} {v w : World} → Belongs set v → Owned set (in_stacks set) v w → Belongs set w
belongs-owned b o = record {
  halves = o.of;
  descendants = λ p q h top under alive. b.descendants p q h top under (sym (o.alive q) ∙ alive);
}

-- What is attached to a stack is listed there under its own name, and its row tells what its link has.
use Rattle.std.proofs.Common.{◌≡◌, ℕ, Bool, true, false, ◌||◌, List, [], ◌∷◌, map, Option, Some, None, refl, sym, ap, ◌∙◌, subst}
use Rattle.std.specs.Prelude.{IsSome, unwrap_or}
use Rattle.std.specs.List.{AllByRecursion, list_all, list_any}
use Rattle.std.proofs.lemmas.Bool.{and_parts}
use Rattle.vn_types.specs.declared.address.Mac.{Mac}
use Rattle.vn_types.specs.declared.interface.HalfId.{HalfId}
use Rattle.vn_types.specs.declared.interface.IfOf.{IfOf}
use Rattle.vn_types.specs.declared.interface.IfOf.TheVariants.{Lo0, Half as OfHalf}
use Rattle.vn_types.specs.Interfaces.{as_if, half_id_eq, if_same}
use Rattle.vn_types.proofs.ListMaps.{any_map_same}
use Rattle.vn_rules.specs.Named.{if_name, ifname_eq}
use Rattle.vn_rules.specs.Scenes.{LinkOf, link_of}
use Rattle.vn_rules.proofs.Kept.{IsIn}
use Rattle.vn_epair.specs.Halves.{Pair}
use Rattle.vn_epair.specs.Pairs.{half_of, end_of, new_pair}
use Rattle.vn_ifnet.specs.declared.interfaces.Attached.{Attached}
use Rattle.vn_inaddr.specs.Stacks.{of as addresses_of}
use Rattle.vn_vmove.specs.Parts.{held, pair_at, parts}
use Rattle.vn_vmove.specs.Sound.{stands_at}
use Rattle.vn_vmove.proofs.Deciding.{if-refl, name-is}
use Rattle.vn_vmove.proofs.Listing.{what_of}
use Rattle.vn_vmove.proofs.Names.{listed-stands, stands-pair}
use Rattle.vn_cells.specs.declared.listing.IfRow.{IfRow}
use Rattle.vn_cells.specs.machine.Listings.{addresses_on, if_row, if_rows}
use Rattle.vn_cells.specs.world.Names.{half_name}
use Rattle.vn_ipcore.specs.Scenes.{link_by, link_with, scene_of}
use Rattle.vn_ipcore.proofs.Seen.{link_of-scene}
use Rattle.vn_kernel.specs.Fields.{Fields}
use Rattle.vn_kernel.specs.Naming.{name_of}
use Rattle.vn_kernel.specs.Rows.{Address, IsAttached, label_of}
use Rattle.vn_kernel.specs.Stands.{Stands}
use Rattle.vn_kernel.proofs.moving.Found.{all_right}

or-true : (b : Bool) → (b || true) ≡ true
or-true true = refl
or-true false = refl

module _ {f : Fields} (s : Stands f) (number : ℕ) where
  -- ---- what is attached

  abbrev is_right : Attached → Bool
  is_right a = ifname_eq a.name (if_name half_name (as_if (name_of f) a.what))

  abbrev listed_there : Attached → Type 0
  listed_there a = list_any (if_same half_id_eq a.what) (parts f.tables number).interfaces ≡ true

  called : (on : IfOf HalfId) → if_name half_name (as_if (name_of f) on) ≡ if_name (label_of f) on
  called Lo0 = refl
  called (OfHalf h) = refl

  each : (xs : List Attached) → list_all is_right xs ≡ true → ((x : Attached) → IsIn x xs → listed_there x) → AllByRecursion (IsAttached f number) xs
  each [] right there = tt
  each (a ∷ xs) right there =
      let parts = and_parts (is_right a) (list_all is_right xs) right in (
        record {
          listed = there a (λ p e. ap (λ b. b || list_any p xs) e);
          named = name-is a.name (if_name half_name (as_if (name_of f) a.what)) parts.0 ∙ called a.what;
        },
        each xs parts.1 (λ y is_in. there y (λ p e. ap (λ b. p a || b) (is_in p e) ∙ or-true (p a))),
      )

  pub all_attached : AllByRecursion (IsAttached f number) (held f.tables number).attached
  all_attached = each (held f.tables number).attached (all_right s number) there
    where
      there : (a : Attached) → IsIn a (held f.tables number).attached → listed_there a
      there a is_in =
          any_map_same (λ (x : Attached). x.what) (λ (x : Attached). if_same half_id_eq a.what x.what) (if_same half_id_eq a.what) (λ x. refl) (held f.tables number).attached
          ∙ is_in (λ (x : Attached). if_same half_id_eq a.what x.what) (if-refl a.what)

  -- ---- the rows

  abbrev row_at : IfOf HalfId → IfRow
  row_at = if_row half_id_eq (label_of f) (scene_of f.tables number)

  -- of all that is attached
  pub rows-whole : (xs : List Attached) → xs ≡ (held f.tables number).attached → map row_at (what_of xs) ≡ if_rows half_id_eq (label_of f) (scene_of f.tables number)
  unfolding if_rows scene_of
  rows-whole xs is = ap (λ ys. map row_at (what_of ys)) is

  module _ (a : Attached) (here : IsAttached f number a) where
    -- of lo0
    pub lo0-row : a.what ≡ Lo0 → (addrs : List Address) → addrs ≡ addresses_on half_id_eq a.what (addresses_of f.tables.addrs number)
        → record { name = a.name; up = true; mtu = 16384; mac = None; addrs = addrs } ≡ row_at a.what
    unfolding if_row scene_of
    lo0-row is addrs own = (λ i. record { name = here.named i; up = true; mtu = 16384; mac = None; addrs = own i }) ∙ by a.what is
      where
        by : (on : IfOf HalfId) → on ≡ Lo0
            → record { name = if_name (label_of f) on; up = true; mtu = 16384; mac = None; addrs = addresses_on half_id_eq on (addresses_of f.tables.addrs number) } ≡ row_at on
        by Lo0 e = refl
        by (OfHalf h) e = cc

    module _ (h : HalfId) (is : a.what ≡ OfHalf h) where
      stands : stands_at number h.side (pair_at f.tables h.pair) ≡ true
      stands = sym (listed-stands s.sound number h) ∙ subst (λ on. list_any (if_same half_id_eq on) (parts f.tables number).interfaces ≡ true) is here.listed

      -- a half is of a pair
      pub half-there : IsSome (pair_at f.tables h.pair)
      half-there =
          let found = stands-pair number h.side (pair_at f.tables h.pair) stands in
          subst (λ o. IsSome o) (sym found.1) refl

      link-is : link_of half_id_eq h (scene_of f.tables number) ≡ link_with h (half_of f.tables.pairs h)
      link-is = link_of-scene s.sound number h stands ∙ by (pair_at f.tables h.pair) stands
        where
          by : (o : Option Pair) → stands_at number h.side o ≡ true → link_by h o ≡ link_with h (end_of h.side (unwrap_or o (new_pair 0 0)))
          by None e = cc
          by (Some pair) e = refl

      -- of a half
      pub half-row : (addrs : List Address) → addrs ≡ addresses_on half_id_eq a.what (addresses_of f.tables.addrs number)
          → (up : Bool) (mac : Mac) → up ≡ (half_of f.tables.pairs h).up → mac ≡ (half_of f.tables.pairs h).mac
          → record { name = a.name; up = up; mtu = 1500; mac = Some mac; addrs = addrs } ≡ row_at a.what
      unfolding if_row scene_of
      half-row addrs own up mac is_up is_mac =
          (λ i. record {
            name = (here.named ∙ ap (if_name (label_of f)) is) i;
            up = (is_up ∙ ap (λ (l : LinkOf HalfId). l.up) (sym link-is)) i;
            mtu = 1500;
            mac = Some ((is_mac ∙ ap (λ (l : LinkOf HalfId). l.mac) (sym link-is)) i);
            addrs = (own ∙ ap (λ on. addresses_on half_id_eq on (addresses_of f.tables.addrs number)) is) i;
          })
          ∙ ap row_at (sym is)

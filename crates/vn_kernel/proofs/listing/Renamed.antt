-- The rows of a scene under other names of halves are those of the scene, where the names of interfaces are told from these.
use Rattle.std.proofs.Common.{◌≡◌, ℕ, Bool, true, false, cond, List, [], ◌∷◌, map, Some, None, refl, ap, ◌∙◌}
use Rattle.std.specs.List.{filter}
use Rattle.vn_types.specs.declared.address.Ip4.{Ip4}
use Rattle.vn_types.specs.declared.interface.IfName.{IfName}
use Rattle.vn_types.specs.declared.interface.IfName.TheVariants as ifname
use Rattle.vn_types.specs.declared.interface.IfOf.{IfOf}
use Rattle.vn_types.specs.declared.interface.IfOf.TheVariants.{Lo0, Half}
use Rattle.vn_types.specs.Interfaces.{as_if, if_same}
use Rattle.vn_rules.specs.declared.address.AddrOf.{AddrOf}
use Rattle.vn_rules.specs.Renamed.{as_addr, renamed}
use Rattle.vn_rules.specs.Scenes.{LinkOf, SceneOf, link_of, renamed_scene}
use Rattle.vn_rules.proofs.SceneLaws.{link_of-renamed}
use Rattle.vn_cells.specs.machine.Listings.{addresses_on, if_row, if_rows}

module _ {N M : Type 0} (r : N → M) (at_n : N → N → Bool) (at_m : M → M → Bool) (faithful : (a b : N) → at_m (r a) (r b) ≡ at_n a b) where
  same_if : (a b : IfOf N) → if_same at_m (as_if r a) (as_if r b) ≡ if_same at_n a b
  same_if Lo0 Lo0 = refl
  same_if Lo0 (Half h) = refl
  same_if (Half g) Lo0 = refl
  same_if (Half g) (Half h) = faithful g h

  abbrev told : {X : Type 0} → AddrOf X → Ip4 × ℕ
  told x = (x.ip, x.len)

  addresses-renamed : (on : IfOf N) (addresses : List (AddrOf N)) → addresses_on at_m (as_if r on) (map (as_addr r) addresses) ≡ addresses_on at_n on addresses
  addresses-renamed on [] = refl
  addresses-renamed on (a ∷ addresses) =
      ap (λ b. map told (cond b (as_addr r a ∷ left) left)) (same_if a.on on)
      ∙ by (if_same at_n a.on on) (addresses-renamed on addresses)
    where
      left : List (AddrOf M)
      left = filter (λ (x : AddrOf M). if_same at_m x.on (as_if r on)) (map (as_addr r) addresses)

      kept : List (AddrOf N)
      kept = filter (λ (x : AddrOf N). if_same at_n x.on on) addresses

      by : (b : Bool) → map told left ≡ map told kept
          → map told (cond b (as_addr r a ∷ left) left) ≡ map told (cond b (a ∷ kept) kept)
      by true more = λ i. (a.ip, a.len) ∷ more i
      by false more = more

  module _ (label : M → IfName) (s : SceneOf N) where
    row-renamed : (on : IfOf N) → if_row at_m label (renamed_scene r s) (as_if r on) ≡ if_row at_n (λ n. label (r n)) s on
    unfolding if_row renamed_scene renamed
    row-renamed Lo0 = λ i. record { name = ifname.Lo0; up = true; mtu = 16384; mac = None; addrs = addresses-renamed Lo0 s.parts.addresses i }
    row-renamed (Half h) = λ i. record {
      name = label (r h);
      up = (link_of-renamed r at_n at_m faithful h s i).up;
      mtu = 1500;
      mac = Some (link_of-renamed r at_n at_m faithful h s i).mac;
      addrs = addresses-renamed (Half h) s.parts.addresses i;
    }

    pub rows-renamed : if_rows at_m label (renamed_scene r s) ≡ if_rows at_n (λ n. label (r n)) s
    unfolding if_rows renamed_scene renamed
    rows-renamed = by s.parts.interfaces
      where
        by : (ifs : List (IfOf N)) → map (if_row at_m label (renamed_scene r s)) (map (as_if r) ifs) ≡ map (if_row at_n (λ n. label (r n)) s) ifs
        by [] = refl
        by (on ∷ ifs) = λ i. row-renamed on i ∷ by ifs i

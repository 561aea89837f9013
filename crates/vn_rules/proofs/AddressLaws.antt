-- Addresses under other names of halves: what is added, found and removed goes through a renaming.
use Rattle.std.proofs.Common.{◌≡◌, ℕ, Bool, ◌&&◌, ◌||◌, ◌==◌, not, List, [], ◌∷◌, map, Option, Some, None, refl, sym, ap, ap₂, ◌∙◌}
use Rattle.std.specs.List.{find}
use Rattle.std.specs.Result.{result_map_both}
use Rattle.std.specs.Option.{option_map, ok_or}
use Rattle.std.proofs.lemmas.List.{map-append}
use Rattle.std.proofs.lemmas.Option.{slice_get-map}
use Rattle.vn_types.specs.declared.address.Ip4.{Ip4}
use Rattle.vn_types.specs.declared.errno.Errno.TheVariants.{Inval, Exist, AddrNotAvail}
use Rattle.vn_types.specs.declared.interface.IfOf.{IfOf}
use Rattle.vn_types.specs.declared.interface.IfOf.TheVariants.{Lo0, Half}
use Rattle.vn_types.specs.Interfaces.{if_same, as_if}
use Rattle.vn_types.specs.Refusals.{first_refusal}
use Rattle.vn_types.proofs.InterfaceNames.{if_same-as_if}
use Rattle.vn_types.proofs.ListMaps.{filter_map_same, any_map_same, find_map_same}
use Rattle.vn_rules.specs.declared.address.AddrOf.{AddrOf}
use Rattle.vn_rules.specs.Networks.{directed_broadcast, is_no_host, is_loopback, lies_in}
use Rattle.vn_rules.specs.Renamed.{as_addr}
use Rattle.vn_rules.specs.Addresses.{is_half, prefix_of, has_broadcast, is_end, is_unfit, has_ip, local, add_refusal, after_add, is_broadcast_of, broadcast, address_at, is_at, on_interface, address_of, is_same, without_address, remove_answer, after_remove, after_purge, reaches, source_for, first}

module _ {N M : Type 0} (r : N → M) where
  pub is_half-renamed : (on : IfOf N) → is_half (as_if r on) ≡ is_half on
  is_half-renamed Lo0 = refl
  is_half-renamed (Half n) = refl

  pub is_unfit-renamed : (a : AddrOf N) → is_unfit (as_addr r a) ≡ is_unfit a
  is_unfit-renamed a = ap (λ half. is_no_host a.ip || (half && is_loopback a.ip) || (a.len == 0) || (has_broadcast a && is_end a)) (is_half-renamed a.on)

  pub local-renamed : (ip : Ip4) (xs : List (AddrOf N)) → local ip (map (as_addr r) xs) ≡ local ip xs
  local-renamed ip xs = any_map_same (as_addr r) (has_ip ip) (has_ip ip) (λ a. refl) xs

  pub add_refusal-renamed : (a : AddrOf N) (xs : List (AddrOf N)) → add_refusal (as_addr r a) (map (as_addr r) xs) ≡ add_refusal a xs
  add_refusal-renamed a xs = ap₂ (λ unfit stands. first_refusal ((unfit, Inval) ∷ (stands, Exist) ∷ [])) (is_unfit-renamed a) (local-renamed a.ip xs)

  pub after_add-renamed : (a : AddrOf N) (xs : List (AddrOf N)) → after_add (as_addr r a) (map (as_addr r) xs) ≡ map (as_addr r) (after_add a xs)
  after_add-renamed a xs = sym (map-append (as_addr r) xs (a ∷ []))

  pub broadcast-renamed : (ip : Ip4) (xs : List (AddrOf N)) → broadcast ip (map (as_addr r) xs) ≡ broadcast ip xs
  broadcast-renamed ip xs = any_map_same (as_addr r) (is_broadcast_of ip) (is_broadcast_of ip) same xs
    where
      same : (a : AddrOf N) → is_broadcast_of ip (as_addr r a) ≡ is_broadcast_of ip a
      same a = ap (λ half. half && has_broadcast a && ((directed_broadcast a.ip a.len).0 == ip.0)) (is_half-renamed a.on)

  pub address_at-renamed : (place : ℕ) (xs : List (AddrOf N)) → address_at place (map (as_addr r) xs) ≡ option_map (as_addr r) (address_at place xs)
  address_at-renamed place xs = slice_get-map (as_addr r) xs place

  ip_of-renamed : (o : Option (AddrOf N)) → option_map (λ (a : AddrOf M). a.ip) (option_map (as_addr r) o) ≡ option_map (λ (a : AddrOf N). a.ip) o
  ip_of-renamed None = refl
  ip_of-renamed (Some a) = refl

module _ {N M : Type 0} (r : N → M) (at_n : N → N → Bool) (at_m : M → M → Bool) (faithful : (a b : N) → at_m (r a) (r b) ≡ at_n a b) where
  pub is_on-renamed : (on : IfOf N) (a : AddrOf N) → if_same at_m (as_if r a.on) (as_if r on) ≡ if_same at_n a.on on
  is_on-renamed on a = if_same-as_if r at_n at_m faithful a.on on

  is_at-renamed : (on : IfOf N) (ip : Ip4) (a : AddrOf N) → is_at at_m (as_if r on) ip (as_addr r a) ≡ is_at at_n on ip a
  is_at-renamed on ip a = ap (λ b. b && has_ip ip a) (is_on-renamed on a)

  pub on_interface-renamed : (on : IfOf N) (ip : Ip4) (xs : List (AddrOf N)) → on_interface at_m (as_if r on) ip (map (as_addr r) xs) ≡ on_interface at_n on ip xs
  on_interface-renamed on ip xs = any_map_same (as_addr r) (is_at at_n on ip) (is_at at_m (as_if r on) ip) (is_at-renamed on ip) xs

  pub address_of-renamed : (on : IfOf N) (ip : Ip4) (xs : List (AddrOf N)) → address_of at_m (as_if r on) ip (map (as_addr r) xs) ≡ option_map (as_addr r) (address_of at_n on ip xs)
  address_of-renamed on ip xs = find_map_same (as_addr r) (is_at at_n on ip) (is_at at_m (as_if r on) ip) (is_at-renamed on ip) xs

  pub without_address-renamed : (o : Option (AddrOf N)) (xs : List (AddrOf N)) → without_address at_m (option_map (as_addr r) o) (map (as_addr r) xs) ≡ map (as_addr r) (without_address at_n o xs)
  without_address-renamed None xs = refl
  without_address-renamed (Some a) xs =
      filter_map_same (as_addr r) (λ b. not (is_same at_n a b)) (λ b. not (is_same at_m (as_addr r a) b)) (λ b. ap (λ here. not (here && (b.len == a.len))) (is_at-renamed a.on a.ip b)) xs

  pub remove_answer-renamed : (on : IfOf N) (ip : Ip4) (xs : List (AddrOf N)) → remove_answer at_m (as_if r on) ip (map (as_addr r) xs) ≡ result_map_both (as_addr r) (λ e. e) (remove_answer at_n on ip xs)
  remove_answer-renamed on ip xs = ap (λ o. ok_or o AddrNotAvail) (address_of-renamed on ip xs) ∙ by (address_of at_n on ip xs)
    where
      by : (o : Option (AddrOf N)) → ok_or (option_map (as_addr r) o) AddrNotAvail ≡ result_map_both (as_addr r) (λ e. e) (ok_or o AddrNotAvail)
      by None = refl
      by (Some a) = refl

  pub after_remove-renamed : (on : IfOf N) (ip : Ip4) (xs : List (AddrOf N)) → after_remove at_m (as_if r on) ip (map (as_addr r) xs) ≡ map (as_addr r) (after_remove at_n on ip xs)
  after_remove-renamed on ip xs = ap (λ o. without_address at_m o (map (as_addr r) xs)) (address_of-renamed on ip xs) ∙ without_address-renamed (address_of at_n on ip xs) xs

  pub after_purge-renamed : (on : IfOf N) (xs : List (AddrOf N)) → after_purge at_m (as_if r on) (map (as_addr r) xs) ≡ map (as_addr r) (after_purge at_n on xs)
  after_purge-renamed on xs = filter_map_same (as_addr r) (λ a. not (if_same at_n a.on on)) (λ a. not (if_same at_m a.on (as_if r on))) (λ a. ap not (is_on-renamed on a)) xs

  pub source_for-renamed : (on : IfOf N) (hop : Ip4) (xs : List (AddrOf N)) → source_for at_m (as_if r on) hop (map (as_addr r) xs) ≡ source_for at_n on hop xs
  source_for-renamed on hop xs =
      ap (option_map (λ (a : AddrOf M). a.ip)) (find_map_same (as_addr r) (reaches at_n on hop) (reaches at_m (as_if r on) hop) (λ a. ap (λ b. b && lies_in hop (prefix_of a)) (is_on-renamed on a)) xs)
      ∙ ip_of-renamed r (find (reaches at_n on hop) xs)

  pub first-renamed : (on : IfOf N) (xs : List (AddrOf N)) → first at_m (as_if r on) (map (as_addr r) xs) ≡ first at_n on xs
  first-renamed on xs =
      ap (option_map (λ (a : AddrOf M). a.ip)) (find_map_same (as_addr r) (λ a. if_same at_n a.on on) (λ a. if_same at_m a.on (as_if r on)) (is_on-renamed on) xs)
      ∙ ip_of-renamed r (find (λ a. if_same at_n a.on on) xs)

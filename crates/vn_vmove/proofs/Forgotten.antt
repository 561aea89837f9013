-- What a purge leaves: nothing that names the half, whatever the interfaces are.
use Rattle.std.proofs.Common.{◌≡◌, ℕ, ◌==◌, Bool, true, false, List, [], ◌∷◌, refl, sym, ap, ◌∙◌}
use Rattle.std.specs.Prelude.{if◌then◌else◌}
use Rattle.std.specs.List.{filter}
use Rattle.vn_types.specs.declared.interface.HalfId.{HalfId}
use Rattle.vn_types.specs.declared.interface.IfOf.{IfOf}
use Rattle.vn_types.specs.declared.interface.IfOf.TheVariants.{Half}
use Rattle.vn_types.specs.Interfaces.{half_id_eq}
use Rattle.vn_types.proofs.InterfaceNames.{half_id_eq-Decides}
use Rattle.vn_rules.specs.declared.address.AddrOf.{AddrOf}
use Rattle.vn_rules.specs.declared.parts.PartsOf.{PartsOf}
use Rattle.vn_rules.specs.Addresses.{is_on}
use Rattle.vn_rules.specs.Arp.{without_entries}
use Rattle.vn_rules.specs.Interfaces.{is_among, named_ifs, without_interface}
use Rattle.vn_rules.specs.Pings.{without_pings}
use Rattle.vn_rules.specs.Purge.{purged, without_addr, without_addrs, without_names}
use Rattle.vn_rules.specs.Sockets.{unbound_from, without_grams_by}
use Rattle.vn_rules.proofs.Purged.{purged-forgotten, purged-interfaces, purged-unnamed}
use Rattle.vn_vmove.specs.declared.tables.Tables.{Tables}
use Rattle.vn_vmove.specs.Nets.{Becomes, detached, net_of, on_stack}
use Rattle.vn_vmove.specs.Parts.{parts}
use Rattle.vn_vmove.proofs.Deciding.{eq-refl}

-- purged, or not
abbrev pub off : HalfId → Bool → PartsOf HalfId → PartsOf HalfId
off h c p = if c then purged half_id_eq h p else p

-- other interfaces are named as before
pub names_kept : (p : PartsOf HalfId) (ifs : List (IfOf HalfId)) → named_ifs (record p { interfaces = ifs }) ≡ named_ifs p
unfolding named_ifs
names_kept p ifs = refl

-- ---- a purge does not look at the interfaces

module _ (ifs : List (IfOf HalfId)) where
  without_addr-with : (a : AddrOf HalfId) (p : PartsOf HalfId) → without_addr half_id_eq a (record p { interfaces = ifs }) ≡ record (without_addr half_id_eq a p) { interfaces = ifs }
  unfolding without_addr without_entries without_pings unbound_from
  without_addr-with a p = refl

  without_addrs-with : (xs : List (AddrOf HalfId)) (p : PartsOf HalfId)
      → without_addrs half_id_eq xs (record p { interfaces = ifs }) ≡ record (without_addrs half_id_eq xs p) { interfaces = ifs }
  without_addrs-with [] p = refl
  without_addrs-with (a ∷ xs) p = ap (without_addrs half_id_eq xs) (without_addr-with a p) ∙ without_addrs-with xs (without_addr half_id_eq a p)

  without_names-with : (h : HalfId) (p : PartsOf HalfId) → without_names half_id_eq h (record p { interfaces = ifs }) ≡ record (without_names half_id_eq h p) { interfaces = ifs }
  unfolding without_names without_entries without_pings without_grams_by
  without_names-with h p = refl

  purged-with : (h : HalfId) (p : PartsOf HalfId) → purged half_id_eq h (record p { interfaces = ifs }) ≡ record (purged half_id_eq h p) { interfaces = ifs }
  unfolding purged
  purged-with h p =
      ap (without_names half_id_eq h) (without_addrs-with (filter (is_on half_id_eq (Half h)) p.addresses) p)
      ∙ without_names-with h (without_addrs half_id_eq (filter (is_on half_id_eq (Half h)) p.addresses) p)

-- two halves that leave, both purged first or one after the other
pub detached-both : (g h : HalfId) (p : PartsOf HalfId)
    → record (purged half_id_eq h (purged half_id_eq g p)) {
      interfaces = without_interface half_id_eq (Half h) (without_interface half_id_eq (Half g) (purged half_id_eq h (purged half_id_eq g p)).interfaces);
    } ≡ detached h (detached g p)
detached-both g h p =
    let q : PartsOf HalfId = purged half_id_eq g p in
    let out : List (IfOf HalfId) = without_interface half_id_eq (Half g) q.interfaces in
    ap (λ i. record (purged half_id_eq h q) { interfaces = without_interface half_id_eq (Half h) (without_interface half_id_eq (Half g) i) }) (purged-interfaces half_id_eq h q)
    ∙ ap (λ (r : PartsOf HalfId). record r { interfaces = without_interface half_id_eq (Half h) r.interfaces }) (sym (purged-with out h q))

-- ---- the tables afterwards

module _ (h : HalfId) (q : ℕ) (old new : Tables) (b : Becomes (on_stack q (purged half_id_eq h) (net_of old)) old new) where
  purged-here : parts new q ≡ purged half_id_eq h (parts old q)
  purged-here = b.parts q ∙ ap (λ c. if c then purged half_id_eq h (parts old q) else parts old q) (eq-refl q)

  -- nothing names the half
  pub half-forgotten : is_among half_id_eq (named_ifs (parts new q)) (Half h) ≡ false
  half-forgotten = ap (λ p. is_among half_id_eq (named_ifs p) (Half h)) purged-here ∙ purged-forgotten half_id_eq h (parts old q) half_id_eq-Decides

  -- and in no stack is anything named that wasn't
  pub still-forgotten : (r : ℕ) (on : IfOf HalfId) → is_among half_id_eq (named_ifs (parts old r)) on ≡ false → is_among half_id_eq (named_ifs (parts new r)) on ≡ false
  still-forgotten r on none = ap (λ p. is_among half_id_eq (named_ifs p) on) (b.parts r) ∙ by (r == q)
    where
      by : (c : Bool) → is_among half_id_eq (named_ifs (if c then purged half_id_eq h (parts old r) else parts old r)) on ≡ false
      by true = purged-unnamed half_id_eq h (parts old r) on none
      by false = none

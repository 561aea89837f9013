-- A half loses its addresses one after another: each time the first, and what is left leads to the same end.
use Rattle.std.proofs.Common.{◌≡◌, ℕ, ◌<◌, Bool, true, false, cond, not, ◌&&◌, ◌==◌, List, [], ◌∷◌, Option, Some, None, length, refl, sym, ap, subst, ◌∙◌, arith}
use Rattle.std.specs.Prelude.{Result, Ok, Err, IsOk}
use Rattle.std.specs.List.{list_any, filter, find}
use Rattle.std.specs.Option.{option_map}
use Rattle.std.proofs.lemmas.Bool.{and_parts, and_from, eq-eqb, not-true}
use Rattle.vn_types.specs.declared.address.Ip4.{Ip4}
use Rattle.vn_types.specs.declared.errno.Errno.{Errno}
use Rattle.vn_types.specs.declared.errno.Errno.TheVariants.{AddrNotAvail}
use Rattle.vn_types.specs.declared.interface.HalfId.{HalfId}
use Rattle.vn_types.specs.declared.interface.IfOf.TheVariants.{Half}
use Rattle.vn_types.specs.Interfaces.{half_id_eq, if_same}
use Rattle.vn_types.specs.Refusals.{IsRefusedBy, first_refusal}
use Rattle.vn_types.proofs.InterfaceNames.{half_id_eq-Decides, if_same-Decides}
use Rattle.vn_rules.specs.declared.address.AddrOf.{AddrOf}
use Rattle.vn_rules.specs.declared.parts.PartsOf.{PartsOf}
use Rattle.vn_rules.specs.AddressCommands.{alias_refusals}
use Rattle.vn_rules.specs.Addresses.{first, has_ip, is_at, is_on, is_same}
use Rattle.vn_rules.specs.Orders.{are_addresses, are_distinct}
use Rattle.vn_rules.specs.Purge.{dropped, purged, without_addr, without_addrs, without_found, without_names}
use Rattle.vn_rules.proofs.AddressRemoval.{without_addr-addresses}
use Rattle.vn_rules.proofs.ListTests.{all_kept, found-some, none_weaker}
use Rattle.vn_vmove.specs.declared.tables.Tables.{Tables}
use Rattle.vn_vmove.specs.Leaving.{KeepsOthers, KeepsRest, Leaves, unaddressed}
use Rattle.vn_vmove.specs.Nets.{Becomes, net_of, on_stack}
use Rattle.vn_vmove.specs.Parts.{parts}
use Rattle.vn_vmove.specs.Sound.{IsSound}
use Rattle.vn_vmove.proofs.Founded.{sound-addresses}
use Rattle.vn_vmove.proofs.Leaving.{leaves_after, leaves_from}

-- ---- the first that passes

module _ {X : Type 0} (on : X → Bool) where
  stands_first : (xs : List X) (x : X) → find on xs ≡ Some x → (more : List X) × (filter on xs ≡ x ∷ more)
  stands_first [] x found = absurd (cc)
  stands_first (y ∷ xs) x found = by (on y) found (stands_first xs x)
    where
      by : (b : Bool) → cond b (Some y) (find on xs) ≡ Some x → (find on xs ≡ Some x → (more : List X) × (filter on xs ≡ x ∷ more)) → (more : List X) × (cond b (y ∷ filter on xs) (filter on xs) ≡ x ∷ more)
      by true here later = (filter on xs, let same : y ≡ x = cc in ap (λ z. z ∷ filter on xs) same)
      by false there later = later there

  none_stands : (xs : List X) → find on xs ≡ None → filter on xs ≡ []
  none_stands [] none = refl
  none_stands (y ∷ xs) none = by (on y) none (none_stands xs)
    where
      by : (b : Bool) → cond b (Some y) (find on xs) ≡ None → (find on xs ≡ None → filter on xs ≡ []) → cond b (y ∷ filter on xs) (filter on xs) ≡ []
      by true some later = absurd (cc)
      by false none later = later none

  -- it is also the first to pass another test beside, if it passes that
  first_beside : (beside : X → Bool) (xs : List X) (x : X) → find on xs ≡ Some x → beside x ≡ true → find (λ y. on y && beside y) xs ≡ Some x
  first_beside beside [] x found passes = found
  first_beside beside (y ∷ xs) x found passes = by (on y) found (λ there. first_beside beside xs x there passes)
    where
      by : (b : Bool) → cond b (Some y) (find on xs) ≡ Some x → (find on xs ≡ Some x → find (λ y. on y && beside y) xs ≡ Some x) → cond (b && beside y) (Some y) (find (λ y. on y && beside y) xs) ≡ Some x
      by true here later =
          let same : y ≡ x = cc in
          ap (λ b. cond b (Some y) (find (λ y. on y && beside y) xs)) (ap beside same ∙ passes) ∙ ap Some same
      by false there later = later there

  -- without it, the others are left, where no two are alike
  module _ (gone : X → Bool) (alike : X → X → Bool) (x : X) (itself : gone x ≡ true) (closer : (y : X) → gone y ≡ true → alike x y ≡ true) where
    left_behind : (xs more : List X) → are_distinct alike xs ≡ true → filter on xs ≡ x ∷ more → filter on (filter (λ y. not (gone y)) xs) ≡ more
    left_behind [] more apart is = absurd (cc)
    left_behind (y ∷ xs) more apart is =
        let two = and_parts (not (list_any (alike y) xs)) _ apart in by (on y) refl is (not-true _ two.0) (left_behind xs more two.1)
      where
        skipped : (b : Bool) → on y ≡ false → filter on (cond b (y ∷ filter (λ y. not (gone y)) xs) (filter (λ y. not (gone y)) xs)) ≡ filter on (filter (λ y. not (gone y)) xs)
        skipped true off = ap (λ b. cond b (y ∷ filter on (filter (λ y. not (gone y)) xs)) (filter on (filter (λ y. not (gone y)) xs))) off
        skipped false off = refl

        by : (b : Bool) → on y ≡ b → cond b (y ∷ filter on xs) (filter on xs) ≡ x ∷ more → list_any (alike y) xs ≡ false
            → (filter on xs ≡ x ∷ more → filter on (filter (λ y. not (gone y)) xs) ≡ more) → filter on (filter (λ y. not (gone y)) (y ∷ xs)) ≡ more
        by true is here alone later =
            let same : y ≡ x = cc in
            let rest : filter on xs ≡ more = cc in
            let others : list_any gone xs ≡ false = none_weaker gone (alike x) closer xs (ap (λ z. list_any (alike z) xs) (sym same) ∙ alone) in
            ap (λ b. filter on (cond (not b) (y ∷ filter (λ y. not (gone y)) xs) (filter (λ y. not (gone y)) xs))) (ap gone same ∙ itself) ∙ ap (filter on) (all_kept gone xs others) ∙ rest
        by false off there alone later = skipped (not (gone y)) off ∙ later there

-- ---- an address of a half

module _ (h : HalfId) where
  abbrev on : AddrOf HalfId → Bool
  on = is_on half_id_eq (Half h)

  itself : (a : AddrOf HalfId) → is_same half_id_eq a a ≡ true
  itself a = and_from _ _ (and_from _ _ ((if_same-Decides half_id_eq half_id_eq-Decides a.on a.on).1 refl) (eq-eqb a.ip.0 a.ip.0 refl)) (eq-eqb a.len a.len refl)

  closer : (a b : AddrOf HalfId) → is_same half_id_eq a b ≡ true → has_ip a.ip b ≡ true
  closer a b is =
      let two = and_parts (if_same half_id_eq b.on a.on && (b.ip.0 == a.ip.0)) (b.len == a.len) is in (and_parts (if_same half_id_eq b.on a.on) (b.ip.0 == a.ip.0) two.0).1

  -- what is removed, where an address is the first of the half
  record First (ip : Ip4) (p : PartsOf HalfId) : Type 0 where
    address : AddrOf HalfId
    found : find on p.addresses ≡ Some address
    ip_is : address.ip ≡ ip

  first_of : (ip : Ip4) (p : PartsOf HalfId) → first half_id_eq (Half h) p.addresses ≡ Some ip → First ip p
  first_of ip p is = by (find on p.addresses) refl is
    where
      by : (o : Option (AddrOf HalfId)) → find on p.addresses ≡ o → option_map (λ (a : AddrOf HalfId). a.ip) o ≡ Some ip → First ip p
      by None none bad = absurd (cc)
      by (Some a) found told = record { address = a; found = found; ip_is = let same : a.ip ≡ ip = cc in same }

  dropped_first : (ip : Ip4) (p : PartsOf HalfId) (f : First ip p) → dropped half_id_eq (Half h) ip p ≡ without_addr half_id_eq f.address p
  unfolding dropped
  dropped_first ip p f =
      ap (λ o. without_found half_id_eq o p) (first_beside on (has_ip ip) p.addresses f.address f.found (eq-eqb f.address.ip.0 ip.0 (ap (λ (i : Ip4). i.0) f.ip_is)))

  -- one address fewer, and then the same end
  pub record IsNext (ip : Ip4) (p : PartsOf HalfId) : Type 0 where
    pub end : unaddressed h (dropped half_id_eq (Half h) ip p) ≡ unaddressed h p
    pub fewer : length (filter on (dropped half_id_eq (Half h) ip p).addresses) < length (filter on p.addresses)
    pub there : first_refusal (alias_refusals half_id_eq (Half h) ip p) ≡ None

  pub next : (ip : Ip4) (p : PartsOf HalfId) → are_addresses p.addresses ≡ true → first half_id_eq (Half h) p.addresses ≡ Some ip → IsNext ip p
  unfolding are_addresses
  next ip p right is =
      let f = first_of ip p is in
      let a = f.address in
      let stands = stands_first on p.addresses a f.found in
      let gone = dropped_first ip p f in
      let apart = (and_parts (are_distinct (λ (a : AddrOf HalfId) (b : AddrOf HalfId). has_ip a.ip b) p.addresses) _ right).0 in
      let left : filter on (without_addr half_id_eq a p).addresses ≡ stands.0 =
      ap (filter on) (without_addr-addresses half_id_eq a p) ∙ left_behind on (is_same half_id_eq a) (λ (a : AddrOf HalfId) (b : AddrOf HalfId). has_ip a.ip b) a (itself a) (closer a) p.addresses stands.0 apart stands.1 in
      let many : length (filter on p.addresses) ≡ length (a ∷ stands.0) = ap length stands.1 in
      let few : length (filter on (dropped half_id_eq (Half h) ip p).addresses) ≡ length stands.0 = ap (λ (q : PartsOf HalfId). length (filter on q.addresses)) gone ∙ ap length left in
      let at : find (is_at half_id_eq (Half h) ip) p.addresses ≡ Some a = first_beside on (has_ip ip) p.addresses a f.found (eq-eqb a.ip.0 ip.0 (ap (λ (i : Ip4). i.0) f.ip_is)) in
      record {
        end = ap (unaddressed h) gone ∙ ap (λ addresses. without_addrs half_id_eq addresses (without_addr half_id_eq a p)) left ∙ sym (ap (λ addresses. without_addrs half_id_eq addresses p) stands.1);
        fewer = omega (arith, many, few);
        there = ap (λ b. first_refusal ((not b, AddrNotAvail) ∷ [])) (found-some (is_at half_id_eq (Half h) ip) p.addresses a at);
      }

  -- so each turn leads to the same end
  pub record IsTurn (sid : ℕ) (t u : Tables) : Type 0 where
    pub end : unaddressed h (parts u sid) ≡ unaddressed h (parts t sid)
    pub fewer : length (filter on (parts u sid).addresses) < length (filter on (parts t sid).addresses)
    pub others : KeepsOthers sid t u

  pub turn : (ip : Ip4) (sid : ℕ) (t u : Tables) → IsSound t → first half_id_eq (Half h) (parts t sid).addresses ≡ Some ip → Becomes (on_stack sid (dropped half_id_eq (Half h) ip) (net_of t)) t u → KeepsRest t u → IsSound u → IsTurn sid t u
  turn ip sid t u sound is becomes rest after =
      let step = next ip (parts t sid) (sound-addresses t sound sid) is in
      let left = leaves_from (dropped half_id_eq (Half h) ip) sid t u becomes rest after in
      record {
        end = ap (unaddressed h) left.here ∙ step.end;
        fewer = subst (λ (p : PartsOf HalfId). length (filter on p.addresses) < length (filter on (parts t sid).addresses)) (sym left.here) step.fewer;
        others = left.others;
      }

  -- where none is left, that is the end
  pub end-reached : (p : PartsOf HalfId) → first half_id_eq (Half h) p.addresses ≡ None → unaddressed h p ≡ p
  end-reached p none = ap (λ addresses. without_addrs half_id_eq addresses p) (none_stands on p.addresses (by (find on p.addresses) refl none))
    where
      by : (o : Option (AddrOf HalfId)) → find on p.addresses ≡ o → option_map (λ (a : AddrOf HalfId). a.ip) o ≡ None → find on p.addresses ≡ None
      by None is told = is
      by (Some a) is bad = absurd (cc)

-- first the addresses of a half, and then the rest that names it
pub purged-leaves : (h : HalfId) (sid : ℕ) (t u v : Tables) → Leaves (unaddressed h) sid t u → Leaves (without_names half_id_eq h) sid u v → Leaves (purged half_id_eq h) sid t v
unfolding purged
purged-leaves h sid t u v one two = leaves_after (unaddressed h) (without_names half_id_eq h) sid t u v one two

-- what nothing refuses is done
pub is_done : {T : Type 0} (refusal : Option Errno) (r : Result T Errno) → IsRefusedBy refusal r → refusal ≡ None → IsOk r
is_done refusal (Ok x) told none = refl
is_done refusal (Err e) told none = absurd (cc)

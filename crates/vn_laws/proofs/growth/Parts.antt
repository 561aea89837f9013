-- Nothing that is taken from a stack's tables raises their numbers.
use Rattle.std.proofs.Common.{◌≡◌, ◌+◌, ◌≤◌, Bool, true, false, cond, not, List, [], ◌∷◌, ◌++◌, length, refl, sym, ◌∙◌, arith}
use Rattle.std.specs.Prelude.{filter}
use Rattle.std.proofs.lemmas.Bool.{false≢true}
use Rattle.vn_types.specs.declared.half.Half.{Half}
use Rattle.vn_types.specs.declared.interface.IfOf.TheVariants.{Lo0, Half as OfHalf}
use Rattle.vn_types.specs.Interfaces.{if_same}
use Rattle.vn_rules.specs.declared.address.AddrOf.{AddrOf}
use Rattle.vn_rules.specs.declared.parts.PartsOf.{PartsOf}
use Rattle.vn_rules.specs.Addresses.{is_half, is_on, is_same}
use Rattle.vn_rules.specs.Arp.{without_entries}
use Rattle.vn_rules.specs.Pings.{without_pings}
use Rattle.vn_rules.specs.Purge.{without_addr, without_addrs, without_names, purged}
use Rattle.vn_rules.specs.Sockets.{unbound_from, without_grams_by}
use Rattle.vn_cells.specs.world.Names.{If, half_eq}
use Rattle.vn_cells.specs.commands.Pairs.{attached, detached}
use Rattle.vn_laws.proofs.growth.Numbers.{numbers, on_halves, Less, less-refl, less-then}

-- ---- lists of addresses

module _ {X : Type 0} where
  skipped : (x : X) (xs : List X) (b : Bool) → length xs ≤ length (cond b (x ∷ xs) xs)
  skipped x xs true = omega arith
  skipped x xs false = omega arith

  -- what is left of a list has no more that pass
  fewer : (t keep : X → Bool) (xs : List X) → length (filter t (filter keep xs)) ≤ length (filter t xs)
  fewer t keep [] = omega arith
  fewer t keep (x ∷ xs) = by (keep x) (fewer t keep xs)
    where
      rest : List X
      rest = filter keep xs

      both : (c : Bool) → length (filter t rest) ≤ length (filter t xs) → length (cond c (x ∷ filter t rest) (filter t rest)) ≤ length (cond c (x ∷ filter t xs) (filter t xs))
      both true less = omega (arith, less)
      both false less = less

      by : (b : Bool) → length (filter t rest) ≤ length (filter t xs) → length (filter t (cond b (x ∷ rest) rest)) ≤ length (filter t (x ∷ xs))
      by true less = both (t x) less
      by false less = let more = skipped x (filter t xs) (t x) in omega (arith, less, more)

  -- a weaker test passes no fewer
  weaker : (t u : X → Bool) → ((x : X) → t x ≡ true → u x ≡ true) → (xs : List X) → length (filter t xs) ≤ length (filter u xs)
  weaker t u sub [] = omega arith
  weaker t u sub (x ∷ xs) = by (t x) refl (u x) refl (weaker t u sub xs)
    where
      by : (b : Bool) → t x ≡ b → (c : Bool) → u x ≡ c → length (filter t xs) ≤ length (filter u xs)
          → length (cond b (x ∷ filter t xs) (filter t xs)) ≤ length (cond c (x ∷ filter u xs) (filter u xs))
      by true e true f less = omega (arith, less)
      by true e false f less = absurd (false≢true (sym f ∙ sub x e))
      by false e true f less = omega (arith, less)
      by false e false f less = less

  one_more : (t : X → Bool) (x : X) (xs : List X) → length (filter t (xs ++ x ∷ [])) ≤ length (filter t xs) + 1
  one_more t x [] = by (t x)
    where
      by : (b : Bool) → length (cond b (x ∷ []) []) ≤ 1
      by true = omega arith
      by false = omega arith
  one_more t x (y ∷ ys) = by (t y) (one_more t x ys)
    where
      by : (b : Bool) → length (filter t (ys ++ x ∷ [])) ≤ length (filter t ys) + 1
          → length (cond b (y ∷ filter t (ys ++ x ∷ [])) (filter t (ys ++ x ∷ []))) ≤ length (cond b (y ∷ filter t ys) (filter t ys)) + 1
      by true less = omega (arith, less)
      by false less = less

-- an address more
pub on_halves-more : (a : AddrOf Half) (addresses : List (AddrOf Half)) → on_halves (addresses ++ a ∷ []) ≤ on_halves addresses + 1
on_halves-more a addresses = one_more (λ (b : AddrOf Half). is_half b.on) a addresses

-- those of one half are some of them
pub on_one : (h : Half) (addresses : List (AddrOf Half)) → length (filter (is_on half_eq (OfHalf h)) addresses) ≤ on_halves addresses
on_one h addresses = weaker (is_on half_eq (OfHalf h)) (λ (a : AddrOf Half). is_half a.on) (λ a. by a.on) addresses
  where
    by : (on : If) → if_same half_eq on (OfHalf h) ≡ true → is_half on ≡ true
    by Lo0 is = absurd (false≢true is)
    by (OfHalf g) is = refl

-- ---- what goes

pub without_addr-less : (a : AddrOf Half) (p : PartsOf Half) → Less (numbers (without_addr half_eq a p)) (numbers p)
unfolding without_addr without_entries without_pings unbound_from
without_addr-less a p = record { timers = refl; drops = refl; held = fewer (λ (b : AddrOf Half). is_half b.on) (λ b. not (is_same half_eq a b)) p.addresses }

without_addrs-less : (addresses : List (AddrOf Half)) (p : PartsOf Half) → Less (numbers (without_addrs half_eq addresses p)) (numbers p)
without_addrs-less [] p = less-refl (numbers p)
without_addrs-less (a ∷ addresses) p =
    let first : PartsOf Half = without_addr half_eq a p in
    less-then (numbers p) (numbers first) (numbers (without_addrs half_eq addresses first)) (without_addr-less a p) (without_addrs-less addresses first)

without_names-less : (h : Half) (p : PartsOf Half) → Less (numbers (without_names half_eq h p)) (numbers p)
unfolding without_names without_entries without_pings without_grams_by
without_names-less h p = less-refl (numbers p)

purged-less : (h : Half) (p : PartsOf Half) → Less (numbers (purged half_eq h p)) (numbers p)
unfolding purged
purged-less h p =
    let bare : PartsOf Half = without_addrs half_eq (filter (is_on half_eq (OfHalf h)) p.addresses) p in
    less-then (numbers p) (numbers bare) (numbers (without_names half_eq h bare)) (without_addrs-less (filter (is_on half_eq (OfHalf h)) p.addresses) p) (without_names-less h bare)

pub attached-less : (h : Half) (p : PartsOf Half) → Less (numbers (attached h p)) (numbers p)
attached-less h p = less-refl (numbers p)

pub detached-less : (h : Half) (p : PartsOf Half) → Less (numbers (detached h p)) (numbers p)
detached-less h p = purged-less h p

-- Numbers in the order of their paths.
use Rattle.std.proofs.Common.{◌≡◌, ◌≢◌, ℕ, ◌+◌, true, false, List, [], ◌∷◌, get_or, refl, ap, ◌∙◌, arith, ⊎_elim}
use Rattle.std.specs.List.Sorted.{IsStrictlySortedBy, IsPartitionedBy}
use Rattle.std.specs.Ordering.{is_lt, nat_cmp, ordering_then}
use Rattle.std.specs.Cmp.{IsTotalOrder, on_total}
use Rattle.std.specs.Cmp.Lexicographic.{slice_cmp}
use Rattle.std.specs.declared.cmp.Ordering.{Ordering}
use Rattle.std.specs.declared.cmp.Ordering.TheVariants.{Less, Equal, Greater}
use Rattle.std.proofs.lemmas.Bool.{cases_eq}
use Rattle.std.proofs.lemmas.Map.Keys.{Less-from_sorted, sorted_from_all_adjacent}
use Rattle.vn_types.specs.declared.interface.Sid.{Sid}
use Rattle.vn_types.specs.Paths.{Path, path_cmp, is_host, joined}
use Rattle.vn_types.specs.PathOrder.{path_total}
use Rattle.vn_types.proofs.Chains.{IsChain}
use Rattle.vn_jail.specs.declared.jail.Jail.{Jail}
use Rattle.vn_jail.specs.Tree.{path_at}
use Rattle.vn_jail.specs.Order.{by_path, Rises}

pub is-less : (o : Ordering) → is_lt o ≡ true → o ≡ Less
is-less Less e = refl
is-less Equal e = cc
is-less Greater e = cc

pub less-is : (o : Ordering) → o ≡ Less → is_lt o ≡ true
less-is o e = ap is_lt e

pub by-path-total : (jails : List Jail) → IsTotalOrder (by_path jails)
by-path-total jails = on_total (λ (s : Sid). path_at jails s.0) path_total

-- host comes before each other path
pub host-first : (p : Path) → is_host p ≡ false → path_cmp [] p ≡ Less
unfolding path_cmp joined is_host
host-first [] h = cc
host-first (l ∷ p) h = by (joined (l ∷ p))
  where
    by : (text : List ℕ) → ordering_then (slice_cmp nat_cmp [] text) Less ≡ Less
    by [] = refl
    by (c ∷ cs) = refl

module _ {X : Type 0} (R : X → X → Ordering) (total : IsTotalOrder R) where
  -- each is before those that stand behind it
  abbrev pub Ascends : List X → Type 0
  Ascends xs = IsChain (λ x y. R x y ≡ Less) xs

  pub ascends : (xs : List X) → IsStrictlySortedBy R xs → Ascends xs
  ascends xs sorted i j d less within = Less-from_sorted R xs i j d sorted less within

  pub ascending : (xs : List X) → Ascends xs → IsStrictlySortedBy R xs
  unfolding IsStrictlySortedBy
  ascending [] up = tt
  ascending (x ∷ xs) up = sorted_from_all_adjacent total (x ∷ xs) x (λ k lt. up k (k + 1) x (omega arith) lt)

-- what `partition_point` asks
pub partitioned : (jails : List Jail) (order : List Sid) (p : Path) → Rises jails order → IsPartitionedBy (λ s. is_lt (path_cmp (path_at jails s.0) p)) order
partitioned jails order p rises i j d le within passes = ⊎_elim same apart (cases_eq i j)
  where
    same : i ≡ j → is_lt (path_cmp (path_at jails (get_or order i d).0) p) ≡ true
    same e = ap (λ k. is_lt (path_cmp (path_at jails (get_or order k d).0) p)) e ∙ passes

    apart : i ≢ j → is_lt (path_cmp (path_at jails (get_or order i d).0) p) ≡ true
    apart ne = less-is _ (path_total.trans (path_at jails (get_or order i d).0) (path_at jails (get_or order j d).0) p (ascends (by_path jails) (by-path-total jails) order rises i j d (omega arith) within) (is-less _ passes))

-- Jails by their paths and numbers.
use Rattle.std.proofs.Common.{◌≡◌, ℕ, ◌+◌, ◌<◌, ◌≤◌, Bool, true, false, ◌&&◌, ◌||◌, List, [], ◌∷◌, length, get_or, Some, None, IfSome, refl, sym, ap, ◌∙◌, subst, arith, suc, ⊎_elim}
use Rattle.std.specs.Prelude.{if◌then◌else◌}
use Rattle.std.specs.List.{list_any, Any}
use Rattle.std.specs.BTreeMap.{BTreeMap, get}
use Rattle.std.specs.Cmp.{both_ways}
use Rattle.std.proofs.lemmas.Bool.{and_parts, and_from, false≢true, false_from_ne_true, cases_lt}
use Rattle.std.proofs.lemmas.List.{get_or_default, get_or_past, get_or_read}
use Rattle.std.proofs.lemmas.List.Folds.{Any-from_list_any, list_any_at}
use Rattle.vn_types.specs.Paths.{Path, path_cmp}
use Rattle.vn_types.specs.PathOrder.{path_eq-Decides}
use Rattle.vn_jail.specs.declared.jail.Jail.{Jail}
use Rattle.vn_jail.specs.Tree.{at, path_at, is_at, is_known, is_alive, lives_at, dead_jail, number_of}
use Rattle.vn_jail.specs.Kept.{IsLinked, IsNumbered}

pub at-path : (p : Path) (jail : Jail) → is_at p jail ≡ true → jail.path ≡ p
at-path p jail is = sym ((path_eq-Decides p jail.path).0 is)

pub path-at : (p : Path) (jail : Jail) → jail.path ≡ p → is_at p jail ≡ true
path-at p jail is = (path_eq-Decides p jail.path).1 (sym is)

-- a number whose jail passes a test
pub record Found (test : Jail → Bool) (jails : List Jail) : Type 0 where
  pub number : ℕ
  pub within : number < length jails
  pub passes : test (at jails number) ≡ true

pub found : (test : Jail → Bool) (jails : List Jail) → list_any test jails ≡ true → Found test jails
found test jails any = by (Any-from_list_any test jails any)
  where
    by : Any (λ x. test x ≡ true) jails → Found test jails
    by a = record {
      number = a.0;
      within = a.2;
      passes = ap test (get_or_default jails a.0 (dead_jail [] 0) a.1 a.2 ∙ a.3) ∙ a.4;
    }

get_or_cons : (jail : Jail) (jails : List Jail) (n : ℕ) → get_or (jail ∷ jails) (n + 1) (dead_jail [] 0) ≡ get_or jails n (dead_jail [] 0)
get_or_cons jail jails n = let e : n + 1 ≡ suc n = omega arith in ap (λ k. get_or (jail ∷ jails) k (dead_jail [] 0)) e

-- what has no number doesn't live
pub within : (jails : List Jail) (n : ℕ) → (at jails n).alive ≡ true → n < length jails
within jails n lives = ⊎_elim (λ (lt : n < length jails). lt)
    (λ (le : length jails ≤ n). absurd (false≢true (sym (ap (λ (j : Jail). j.alive) (get_or_past jails n (dead_jail [] 0) le)) ∙ lives))) (cases_lt n (length jails))

-- what lives in an equal list lives, and has a number
pub lives-within : (jails view : List Jail) → jails ≡ view → (s : ℕ) → (at view s).alive ≡ true → ((at jails s).alive ≡ true) × (s < length jails)
lives-within jails view same s lives = let here : (at jails s).alive ≡ true = ap (λ ls. (at ls s).alive) same ∙ lives in (here, within jails s here)

-- the number of a path that has one
pub number-known : (jails : List Jail) (p : Path) → is_known p jails ≡ true → (number_of p jails < length jails) × (path_at jails (number_of p jails) ≡ p)
unfolding number_of
number-known [] p known = absurd (false≢true known)
number-known (jail ∷ jails) p known = by (is_at p jail) refl known (number-known jails p)
  where
    by : (b : Bool) → is_at p jail ≡ b → (b || is_known p jails) ≡ true → (is_known p jails ≡ true → (number_of p jails < length jails) × (path_at jails (number_of p jails) ≡ p)) → ((if b then 0 else number_of p jails + 1) < length (jail ∷ jails)) × (path_at (jail ∷ jails) (if b then 0 else number_of p jails + 1) ≡ p)
    by true is h before = (omega arith, at-path p jail is)
    by false is h before = let more = before h in (omega (arith, more.0), ap (λ (j : Jail). j.path) (get_or_cons jail jails (number_of p jails)) ∙ more.1)

-- and of one that has none
pub number-none : (jails : List Jail) (p : Path) → is_known p jails ≡ false → number_of p jails ≡ length jails
unfolding number_of
number-none [] p unknown = refl
number-none (jail ∷ jails) p unknown = by (is_at p jail) refl unknown (number-none jails p)
  where
    by : (b : Bool) → is_at p jail ≡ b → (b || is_known p jails) ≡ false → (is_known p jails ≡ false → number_of p jails ≡ length jails) → (if b then 0 else number_of p jails + 1) ≡ length (jail ∷ jails)
    by true is h before = absurd (false≢true (sym h))
    by false is h before = omega (arith, before h)

-- a path that lives has a number
pub alive-known : (jails : List Jail) (p : Path) → is_alive p jails ≡ true → is_known p jails ≡ true
alive-known jails p alive =
    let f = found (lives_at p) jails alive in
    list_any_at (is_at p) jails f.number (dead_jail [] 0) f.within (and_parts (is_at p (at jails f.number)) (at jails f.number).alive f.passes).0

module _ (jails : List Jail) (linked : IsLinked jails) (p : Path) where
  -- a test of the jails at a path is one of the jail with its number
  pub tested : (test : Jail → Bool) (n : ℕ) → n < length jails → path_at jails n ≡ p → list_any (λ j. is_at p j && test j) jails ≡ test (at jails n)
  tested test n within is = both_ways _ _ to from
    where
      to : list_any (λ j. is_at p j && test j) jails ≡ true → test (at jails n) ≡ true
      to any =
          let f = found (λ j. is_at p j && test j) jails any in
          let parts = and_parts (is_at p (at jails f.number)) (test (at jails f.number)) f.passes in
          let same : f.number ≡ n = linked.distinct f.number n f.within within (at-path p (at jails f.number) parts.0 ∙ sym is) in
          subst (λ k. test (at jails k) ≡ true) same parts.1

      from : test (at jails n) ≡ true → list_any (λ j. is_at p j && test j) jails ≡ true
      from passes = list_any_at (λ j. is_at p j && test j) jails n (dead_jail [] 0) within (and_from _ _ (path-at p (at jails n) is) passes)

  pub is-known : (n : ℕ) → n < length jails → path_at jails n ≡ p → is_known p jails ≡ true
  is-known n within is = list_any_at (is_at p) jails n (dead_jail [] 0) within (path-at p (at jails n) is)

  pub number-is : (n : ℕ) → n < length jails → path_at jails n ≡ p → number_of p jails ≡ n
  number-is n within is = let f = number-known jails p (is-known n within is) in linked.distinct (number_of p jails) n f.0 within (f.1 ∙ sym is)

  pub is-alive : (n : ℕ) → n < length jails → path_at jails n ≡ p → is_alive p jails ≡ (at jails n).alive
  is-alive n within is = tested (λ j. j.alive) n within is

-- what is found under a path
module _ (jails : List Jail) (numbers : BTreeMap Path ℕ) (numbered : IsNumbered jails numbers) (p : Path) where
  pub found-within : (n : ℕ) → get path_cmp numbers p ≡ Some n → n < length jails
  found-within n is = subst (λ o. IfSome o (λ n. n < length jails)) is (numbered.inside p)

  pub found-path : (n : ℕ) → get path_cmp numbers p ≡ Some n → path_at jails n ≡ p
  found-path n is = subst (λ o. IfSome o (λ n. path_at jails n ≡ p)) is (numbered.right p)

  pub unknown : get path_cmp numbers p ≡ None → is_known p jails ≡ false
  unknown none = false_from_ne_true _ (λ known. by (number-known jails p known))
    where
      by : (number_of p jails < length jails) × (path_at jails (number_of p jails) ≡ p) → ⊥
      by f = let is : get path_cmp numbers p ≡ Some (number_of p jails) = ap (get path_cmp numbers) (sym f.1) ∙ numbered.found (number_of p jails) f.0 in cc

  pub dead : get path_cmp numbers p ≡ None → is_alive p jails ≡ false
  dead none = false_from_ne_true _ (λ alive. false≢true (sym (unknown none) ∙ alive-known jails p alive))

  -- what is found is the path's jail
  pub alive-found : IsLinked jails → (n : ℕ) (jail : Jail) → get path_cmp numbers p ≡ Some n → jail ≡ get_or jails n jail → is_alive p jails ≡ jail.alive
  alive-found linked n jail is here =
      let lt = found-within n is in
      is-alive jails linked p n lt (found-path n is) ∙ ap (λ (j : Jail). j.alive) (sym (get_or_read jails n jail lt here (dead_jail [] 0)))

  pub number-found : IsLinked jails → (n : ℕ) → get path_cmp numbers p ≡ Some n → n ≡ number_of p jails
  number-found linked n is = sym (number-is jails linked p n (found-within n is) (found-path n is))

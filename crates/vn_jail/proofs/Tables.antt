-- The table is kept when a jail begins or ends, and what is answered of it.
use Rattle.std.proofs.Common.{◌≡◌, ◌≢◌, ℕ, zero, suc, ◌+◌, ◌-◌, ◌<◌, Bool, true, false, ◌&&◌, ◌||◌, List, [], ◌∷◌, ◌++◌, length, get_or, take, reverse, Some, None, IfSome, cond, refl, sym, ap, ap₂, ◌∙◌, subst, arith, ⊎_elim}
use Rattle.std.specs.List.{list_any, filter, insert, remove}
use Rattle.std.specs.List.Sorted.{IsStrictlySortedBy}
use Rattle.std.specs.BTreeMap.{get, is_at as is_key}
use Rattle.std.specs.Ordering.{is_eq, ordering_reverse}
use Rattle.std.specs.declared.cmp.Ordering.{Ordering}
use Rattle.std.specs.declared.cmp.Ordering.TheVariants.{Less, Equal, Greater}
use Rattle.std.proofs.lemmas.Bool.{eqb-true, and_parts, and_from, cases_eq, cond-true, eq-eqb, ne_eqb, false≢true, false_from_ne_true}
use Rattle.std.proofs.lemmas.List.{get_or-reverse, length-reverse, reverse-reverse}
use Rattle.std.proofs.Math.Seq.{take-append_seam}
use Rattle.std.proofs.lemmas.List.Kept.{IsStrictlySortedBy-filter}
use Rattle.std.proofs.lemmas.List.Sorted.{IsPermutation-reverse, list_any-IsPermutation}
use Rattle.std.proofs.lemmas.Map.Views.{any-filter_same}
use Rattle.std.proofs.lemmas.List.Folds.{list_any_at}
use Rattle.vn_types.specs.declared.interface.Sid.{Sid}
use Rattle.vn_types.specs.Paths.{Path, path_eq, path_cmp, above, parent, is_host, is_under, from}
use Rattle.vn_types.specs.declared.errno.Errno.TheVariants.{Perm}
use Rattle.vn_types.specs.PathOrder.{path_eq-Decides, path_cmp-exact, path_total}
use Rattle.vn_types.proofs.Ancestors.{is_host-is, parent-none, above-from}
use Rattle.vn_jail.specs.declared.jail.Jail.{Jail}
use Rattle.vn_jail.specs.Tree.{any_full, at, create_refusal, path_at, host_jail, changed, is_alive, lives_at, number_of, start, stop}
use Rattle.vn_jail.specs.Order.{by_path, Rises, IsInOrder, IsTeardown, has_number}
use Rattle.vn_jail.specs.Kept.{IsLinked, IsKept}
use Rattle.vn_types.proofs.UnderPaths.{less-below, under-refl}
use Rattle.vn_jail.proofs.Numbers.{Found, number-known, alive-known, found, within, at-path}
use Rattle.vn_jail.proofs.Orders.{ascends, by-path-total}
use Rattle.vn_jail.proofs.Changes.{linked-changed, numbered-changed, path-stays, alive-stays, changed-at}
use Rattle.vn_jail.proofs.Trees.{tree-started, tree-ended}
use Rattle.vn_jail.proofs.Known.{Numbers}
use Rattle.vn_jail.proofs.Places.{Divides, Place, itself, ordered-insert, ordered-remove, place-of, stands-within}

module _ (jails : List Jail) (numbers : Numbers) (order : List Sid) (kept : IsKept jails numbers order) (sid : Sid) (in' : sid.0 < length jails) (place : ℕ)
    (divides : Divides jails order (path_at jails sid.0) place) where
  -- a jail begins
  pub kept-started : (limit : ℕ) → is_host (path_at jails sid.0) ≡ false → (at jails sid.0).alive ≡ false → is_alive (parent (path_at jails sid.0)) jails ≡ true
      → IsKept (changed (start limit) (λ n. n + 1) (path_at jails sid.0) jails) numbers (insert order place sid)
  kept-started limit label was up = record {
    linked = linked-changed (start limit) (λ n. n + 1) (λ j. (refl, refl)) jails kept.linked sid.0 in';
    tree = tree-started limit jails kept.linked kept.tree sid.0 in' label was up;
    numbered = numbered-changed (start limit) (λ n. n + 1) (λ j. (refl, refl)) jails kept.linked sid.0 in' numbers kept.numbered;
    ordered = ordered-insert jails kept.linked order kept.ordered sid in' place divides (changed (start limit) (λ n. n + 1) (path_at jails sid.0) jails)
        (path-stays (start limit) (λ n. n + 1) (λ j. (refl, refl)) jails kept.linked sid.0 in') (alive-stays (start limit) (λ n. n + 1) (λ j. (refl, refl)) jails kept.linked sid.0 in')
        was (ap (λ (j : Jail). j.alive) (changed-at (start limit) (λ n. n + 1) (λ j. (refl, refl)) jails kept.linked sid.0 in'));
  }

  -- one ends
  module _ (was : (at jails sid.0).alive ≡ true) where
    pub ends-within : place < length order
    ends-within = stands-within jails kept.linked order kept.ordered sid in' place divides (changed stop (λ n. n - 1) (path_at jails sid.0) jails)
        (path-stays stop (λ n. n - 1) (λ j. (refl, refl)) jails kept.linked sid.0 in') (alive-stays stop (λ n. n - 1) (λ j. (refl, refl)) jails kept.linked sid.0 in') was

    pub kept-ended : sid.0 ≢ 0 → ((q : Path) → is_alive q jails ≡ true → parent q ≢ path_at jails sid.0) → IsKept (changed stop (λ n. n - 1) (path_at jails sid.0) jails) numbers (remove order place)
    kept-ended apart childless = record {
      linked = linked-changed stop (λ n. n - 1) (λ j. (refl, refl)) jails kept.linked sid.0 in';
      tree = tree-ended jails kept.linked kept.tree sid.0 in' apart was childless;
      numbered = numbered-changed stop (λ n. n - 1) (λ j. (refl, refl)) jails kept.linked sid.0 in' numbers kept.numbered;
      ordered = ordered-remove jails kept.linked order kept.ordered sid in' place divides (changed stop (λ n. n - 1) (path_at jails sid.0) jails)
          (path-stays stop (λ n. n - 1) (λ j. (refl, refl)) jails kept.linked sid.0 in') (alive-stays stop (λ n. n - 1) (λ j. (refl, refl)) jails kept.linked sid.0 in')
          was (ap (λ (j : Jail). j.alive) (changed-at stop (λ n. n - 1) (λ j. (refl, refl)) jails kept.linked sid.0 in'));
    }

-- ---- host alone

abbrev host_sid : Sid
host_sid = record { 0 = 0 }

pub kept-opened : (empty numbers : Numbers) → ((q : Path) → get path_cmp empty q ≡ None) → ((q : Path) → get path_cmp numbers q ≡ cond (is_key (path_cmp []) q) (Some 0) (get path_cmp empty q))
    → IsKept (host_jail ∷ []) numbers (record { 0 = 0 } ∷ [])
unfolding IsStrictlySortedBy
kept-opened empty numbers none' put = record {
  linked = record {
    distinct = λ i j li lj e. omega arith;
    some = omega arith;
    host = refl;
    inside = λ n some lt. absurd (omega arith);
    linked = λ n some lt. absurd (omega arith);
  };
  tree = record {
    host = refl;
    rooted = λ q h. by q (path_eq q []) refl h;
    counted = λ n some h. let lt = within (host_jail ∷ []) n h in absurd (omega arith);
  };
  numbered = record {
    found = λ n lt. let e : n ≡ 0 = omega arith in ap (λ m. get path_cmp numbers (path_at (host_jail ∷ []) m)) e ∙ put [] ∙ cond-true _ _ _ (ap is_eq (itself [])) ∙ ap Some (sym e);
    inside = λ q. subst (λ o. IfSome o (λ n. n < 1)) (sym (put q ∙ ap (cond (is_key (path_cmp []) q) (Some 0)) (none' q))) (inner (is_key (path_cmp []) q));
    right = λ q. subst (λ o. IfSome o (λ n. path_at (host_jail ∷ []) n ≡ q)) (sym (put q ∙ ap (cond (is_key (path_cmp []) q) (Some 0)) (none' q))) (right q (path_cmp [] q) refl);
  };
  ordered = record {
    rises = (tt, tt);
    living = living;
  };
}
  where
    by : (q : Path) (b : Bool) → path_eq q [] ≡ b → ((b && true) || false) ≡ true → is_alive (parent q) (host_jail ∷ []) ≡ true
    by q true e h = ap (λ r. is_alive r (host_jail ∷ [])) (ap parent ((path_eq-Decides q []).0 e) ∙ parent-none) ∙ ap (λ b. (b && true) || false) ((path_eq-Decides [] []).1 refl)
    by q false e h = absurd (false≢true h)

    inner : (b : Bool) → IfSome (cond b (Some 0) None) (λ n. n < 1)
    inner true = omega arith
    inner false = tt

    right : (q : Path) (c : Ordering) → path_cmp [] q ≡ c → IfSome (cond (is_eq c) (Some 0) None) (λ n. path_at (host_jail ∷ []) n ≡ q)
    right q Equal e = path_cmp-exact [] q e
    right q Less e = tt
    right q Greater e = tt

    living : (n : ℕ) → list_any (has_number n) (host_sid ∷ []) ≡ (at (host_jail ∷ []) n).alive
    living zero = refl
    living (suc n) = ap (λ b. b || false) (ne_eqb 0 (suc n) (λ e. omega arith))

-- what is written through a slice
pub written : {X : Type 0} (n : ℕ) (new rest : List X) → length new ≡ n → take n (new ++ rest) ≡ new
written n new rest e = ap (λ k. take k (new ++ rest)) (sym e) ∙ take-append_seam new rest

-- only number 0 is host's
pub label-of : (jails : List Jail) → IsLinked jails → (s : ℕ) → s < length jails → s ≢ 0 → is_host (path_at jails s) ≡ false
label-of jails linked s lt ne = false_from_ne_true _ (λ h. ne (linked.distinct s 0 lt linked.some (is_host-is (path_at jails s) h ∙ sym linked.host)))

-- the living have numbers
pub order-within : (jails : List Jail) (order : List Sid) → IsInOrder jails order → (k : ℕ) (d : Sid) → k < length order → (get_or order k d).0 < length jails
order-within jails order ordered k d lt = within jails (get_or order k d).0 (sym (ordered.living (get_or order k d).0) ∙ list_any_at (has_number (get_or order k d).0) order k d lt (eq-eqb (get_or order k d).0 (get_or order k d).0 refl))

-- those below a path, the last first
module _ (jails : List Jail) (order : List Sid) (ordered : IsInOrder jails order) (p : Path) (alive : is_alive p jails ≡ true) where
  abbrev below : Sid → Bool
  below sid = is_under (path_at jails sid.0) p

  abbrev under : List Sid
  under = filter (λ (sid : Sid). is_under (path_at jails sid.0) p) order

  rising : Rises jails (filter (λ (sid : Sid). is_under (path_at jails sid.0) p) order)
  rising = IsStrictlySortedBy-filter (by_path jails) below order ordered.rises

  listed-under : (n : ℕ) → list_any (has_number n) (filter (λ (sid : Sid). is_under (path_at jails sid.0) p) order) ≡ (is_under (path_at jails n) p && (at jails n).alive)
  listed-under n = any-filter_same (has_number n) below (is_under (path_at jails n) p) (λ (k : Sid) e. ap (λ m. is_under (path_at jails m) p) (eqb-true k.0 n e)) order
      ∙ ap (λ b. is_under (path_at jails n) p && b) (ordered.living n)

  own : Found (lives_at p) jails
  own = found (lives_at p) jails alive

  own-path : path_at jails own.number ≡ p
  own-path = at-path p (at jails own.number) (and_parts _ _ own.passes).0

  stands : Place own.number (filter (λ (sid : Sid). is_under (path_at jails sid.0) p) order)
  stands = place-of own.number under (listed-under own.number ∙ and_from _ _ (ap (λ q. is_under q p) own-path ∙ under-refl p) (and_parts _ _ own.passes).1)

  -- the first of them in order is the path
  first-is : (d : Sid) → path_at jails (get_or (filter (λ (sid : Sid). is_under (path_at jails sid.0) p) order) 0 d).0 ≡ p
  first-is d = ⊎_elim here there (cases_eq stands.place 0)
    where
      here : stands.place ≡ 0 → path_at jails (get_or under 0 d).0 ≡ p
      here e = ap (λ k. path_at jails (get_or under k d).0) (sym e) ∙ ap (path_at jails) (stands.is d) ∙ own-path

      there : stands.place ≢ 0 → path_at jails (get_or under 0 d).0 ≡ p
      there ne = by (path_eq p (path_at jails (get_or under 0 d).0)) refl
        where
          by : (b : Bool) → path_eq p (path_at jails (get_or under 0 d).0) ≡ b → path_at jails (get_or under 0 d).0 ≡ p
          by true e = sym ((path_eq-Decides p (path_at jails (get_or under 0 d).0)).0 e)
          by false e =
              let is-under : is_under (path_at jails (get_or under 0 d).0) p ≡ true = (and_parts _ _ (sym (listed-under (get_or under 0 d).0) ∙ list_any_at (has_number (get_or under 0 d).0) under 0 d (omega (arith, stands.inside)) (eq-eqb _ _ refl))).0 in
              let before : path_cmp (path_at jails (get_or under 0 d).0) p ≡ Less =
              sym (ap (path_cmp (path_at jails (get_or under 0 d).0)) (ap (path_at jails) (stands.is d) ∙ own-path)) ∙ ascends (by_path jails) (by-path-total jails) under rising 0 stands.place d (omega arith) stands.inside in
              let behind : path_cmp p (path_at jails (get_or under 0 d).0) ≡ Less = less-below p (path_at jails (get_or under 0 d).0) is-under e in
              let no : Less ≡ Greater = sym behind ∙ path_total.antisymm p (path_at jails (get_or under 0 d).0) ∙ ap ordering_reverse before in
              cc

  pub torn : IsTeardown p jails (reverse (filter (λ (sid : Sid). is_under (path_at jails sid.0) p) order))
  torn = record {
    falls = subst (Rises jails) (sym (reverse-reverse under)) rising;
    listed = λ n. sym (list_any-IsPermutation (has_number n) under (reverse under) (IsPermutation-reverse under))
        ∙ listed-under n
        ∙ swap (is_under (path_at jails n) p) (at jails n).alive;
    last = λ d. ap (λ (s : Sid). path_at jails s.0) (get_or-reverse under (length (reverse under) - 1) d (omega (arith, length-reverse under, stands.inside))
        ∙ ap (λ k. get_or under k d) (from-end (length-reverse under)))
        ∙ first-is d;
  }
    where
      from-end : length (reverse under) ≡ length under → length under - 1 - (length (reverse under) - 1) ≡ 0
      from-end e = omega (arith, e)

      swap : (a b : Bool) → (a && b) ≡ (b && a)
      swap true true = refl
      swap true false = refl
      swap false true = refl
      swap false false = refl

-- ---- creation

-- the number of a parent that lives
pub parent-number : (p : Path) (jails : List Jail) → is_alive (parent p) jails ≡ true → (number_of (parent p) jails < length jails) × (from (path_at jails (number_of (parent p) jails)) ≡ above p)
parent-number p jails up = let k = number-known jails (parent p) (alive-known jails (parent p) up) in (k.0, ap from k.1 ∙ sym (above-from p))

-- what is asked of the parent's number is asked of the path's ancestors
pub asked-above : (js jails : List Jail) (p : Path) (number : ℕ) (full : Bool) → js ≡ jails → number ≡ number_of (parent p) jails → is_alive (parent p) jails ≡ true
    → full ≡ any_full js (from (path_at js number)) → any_full jails (above p) ≡ full
asked-above js jails p number full same is up asked = sym (asked ∙ ap₂ (λ js n. any_full js (from (path_at js n))) same is ∙ ap (any_full jails) (parent-number p jails up).1)

pub full-refused : (p : Path) (jails : List Jail) → is_alive (parent p) jails ≡ true → is_alive p jails ≡ false → any_full jails (above p) ≡ true → create_refusal p jails ≡ Some Perm
full-refused p jails up here full = rw (up, here, full) refl

pub not-refused : (p : Path) (jails : List Jail) → is_alive (parent p) jails ≡ true → is_alive p jails ≡ false → any_full jails (above p) ≡ false → create_refusal p jails ≡ None
not-refused p jails up here full = rw (up, here, full) refl

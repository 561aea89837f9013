-- The living in the order of their paths, when a jail begins or ends.
use Rattle.std.proofs.Common.{◌≡◌, ◌≢◌, ℕ, ◌+◌, ◌<◌, ◌≤◌, Bool, true, false, ◌==◌, ◌||◌, List, [], ◌∷◌, length, get_or, refl, sym, ap, ◌∙◌, subst, arith, ⊎_elim}
use Rattle.std.specs.List.{list_any, insert, remove, Any}
use Rattle.std.specs.List.Sorted.{IsStrictlySortedBy}
use Rattle.std.specs.Ordering.{is_lt, ordering_reverse}
use Rattle.std.specs.declared.cmp.Ordering.{Ordering}
use Rattle.std.specs.declared.cmp.Ordering.TheVariants.{Less, Equal, Greater}
use Rattle.std.proofs.lemmas.Bool.{cases_eq, cases_lt, cases_order, eqb-true, eq-eqb, false≢true, false_from_ne_true, or_left}
use Rattle.std.proofs.lemmas.List.{get_or_default, get_or_read}
use Rattle.std.proofs.lemmas.List.Edits.{length-remove, get_or-remove_below, get_or-remove_above}
use Rattle.std.proofs.lemmas.List.Folds.{Any-from_list_any, list_any_at}
use Rattle.std.proofs.lemmas.List.Sorted.{IsPermutation-insert, IsPermutation-remove, list_any-IsPermutation}
use Rattle.vn_types.specs.declared.interface.Sid.{Sid}
use Rattle.vn_types.specs.Paths.{Path, path_cmp}
use Rattle.vn_types.specs.PathOrder.{path_total, path_cmp-exact}
use Rattle.vn_types.specs.OctetOrder.{self_equal}
use Rattle.vn_types.proofs.Chains.{chain-insert, chain-remove}
use Rattle.vn_jail.specs.declared.jail.Jail.{Jail}
use Rattle.vn_jail.specs.Tree.{at, dead_jail, path_at}
use Rattle.vn_jail.specs.Kept.{IsLinked}
use Rattle.vn_jail.specs.Order.{by_path, Rises, IsInOrder, has_number}
use Rattle.vn_jail.proofs.Numbers.{within}
use Rattle.vn_jail.proofs.Orders.{ascends, ascending, by-path-total, is-less, less-is}

-- the order hangs on the paths alone
by-path-same : (js ks : List Jail) → ((n : ℕ) → path_at js n ≡ path_at ks n) → by_path ks ≡ by_path js
by-path-same js ks same = λ i x y. path_cmp (sym (same x.0) i) (sym (same y.0) i)

pub rises-same : (js ks : List Jail) (order : List Sid) → ((n : ℕ) → path_at js n ≡ path_at ks n) → Rises ks order → Rises js order
rises-same js ks order same rises = subst (λ c. IsStrictlySortedBy c order) (by-path-same js ks same) rises

pub itself : (p : Path) → path_cmp p p ≡ Equal
itself p = self_equal (path_cmp p p) (path_total.antisymm p p)

not-less : (p : Path) → is_lt (path_cmp p p) ≡ false
not-less p = ap is_lt (itself p)

-- a place of a number
pub record Place (n : ℕ) (order : List Sid) : Type 0 where
  pub place : ℕ
  pub inside : place < length order
  pub is : (d : Sid) → (get_or order place d).0 ≡ n

pub place-of : (n : ℕ) (order : List Sid) → list_any (has_number n) order ≡ true → Place n order
place-of n order any = by (Any-from_list_any (has_number n) order any)
  where
    by : Any (λ x. has_number n x ≡ true) order → Place n order
    by a = record {
      place = a.0;
      inside = a.2;
      is = λ d. ap (λ (s : Sid). s.0) (get_or_default order a.0 d a.1 a.2 ∙ a.3) ∙ eqb-true (a.1).0 n a.4;
    }

-- where the list divides: what comes before a path, and what does not
pub record Divides (jails : List Jail) (order : List Sid) (p : Path) (place : ℕ) : Type 0 where
  pub fits : place ≤ length order
  pub before : (k : ℕ) (d : Sid) → k < place → is_lt (path_cmp (path_at jails (get_or order k d).0) p) ≡ true
  pub behind : (k : ℕ) (d : Sid) → place ≤ k → k < length order → is_lt (path_cmp (path_at jails (get_or order k d).0) p) ≡ false

-- it divides where equal lists do
pub divided : (js jails : List Jail) (os order : List Sid) (jail : Jail) (s place : ℕ) → s < length jails → jail ≡ get_or jails s jail → js ≡ jails → os ≡ order → place ≤ length os
    → ((k : ℕ) (d : Sid) → k < place → is_lt (path_cmp (path_at js (get_or os k d).0) jail.path) ≡ true)
    → ((k : ℕ) (d : Sid) → place ≤ k → k < length os → is_lt (path_cmp (path_at js (get_or os k d).0) jail.path) ≡ false)
    → Divides jails order (path_at jails s) place
divided js jails os order jail s place in' is j o fits before behind = record {
  fits = subst (λ ls. place ≤ length ls) o fits;
  before = λ k d lt. same k d ∙ before k d lt;
  behind = λ k d le lt. same k d ∙ behind k d le (subst (λ ls. k < length ls) (sym o) lt);
}
  where
    path : jail.path ≡ path_at jails s
    path = ap (λ (i : Jail). i.path) (get_or_read jails s jail in' is (dead_jail [] 0))

    same : (k : ℕ) (d : Sid) → is_lt (path_cmp (path_at jails (get_or order k d).0) (path_at jails s)) ≡ is_lt (path_cmp (path_at js (get_or os k d).0) jail.path)
    same k d = sym (ap (λ ls. is_lt (path_cmp (path_at ls (get_or os k d).0) jail.path)) j
        ∙ ap (λ ls. is_lt (path_cmp (path_at jails (get_or ls k d).0) jail.path)) o
        ∙ ap (λ q. is_lt (path_cmp (path_at jails (get_or order k d).0) q)) path)

module _ (jails : List Jail) (linked : IsLinked jails) (order : List Sid) (ordered : IsInOrder jails order) (sid : Sid) (in' : sid.0 < length jails) (place : ℕ)
    (divides : Divides jails order (path_at jails sid.0) place) where
  lives : (k : ℕ) (d : Sid) → k < length order → (at jails (get_or order k d).0).alive ≡ true
  lives k d lt = sym (ordered.living (get_or order k d).0) ∙ list_any_at (has_number (get_or order k d).0) order k d lt (eq-eqb (get_or order k d).0 (get_or order k d).0 refl)

  module _ (after : List Jail) (same : (n : ℕ) → path_at after n ≡ path_at jails n) (others : (n : ℕ) → n ≢ sid.0 → (at after n).alive ≡ (at jails n).alive) where
    -- a jail that begins is put into its place
    pub ordered-insert : (at jails sid.0).alive ≡ false → (at after sid.0).alive ≡ true → IsInOrder after (insert order place sid)
    ordered-insert was is = record {
      rises = rises-same after jails (insert order place sid) same (ascending (by_path jails) (by-path-total jails) (insert order place sid)
          (chain-insert (λ x y. by_path jails x y ≡ Less) order place sid (ascends (by_path jails) (by-path-total jails) order ordered.rises) divides.fits (λ k d lt. is-less _ (divides.before k d lt)) later));
      living = λ n. sym (list_any-IsPermutation (has_number n) (sid ∷ order) (insert order place sid) (IsPermutation-insert order place sid)) ∙ ap (λ b. (sid.0 == n) || b) (ordered.living n) ∙ ⊎_elim (here n) (there n) (cases_eq n sid.0);
    }
      where
        later : (k : ℕ) (d : Sid) → place ≤ k → k < length order → by_path jails sid (get_or order k d) ≡ Less
        later k d le lt = path_total.antisymm (path_at jails sid.0) (path_at jails (get_or order k d).0) ∙ by (path_cmp (path_at jails (get_or order k d).0) (path_at jails sid.0)) (divides.behind k d le lt) apart
          where
            apart : path_cmp (path_at jails (get_or order k d).0) (path_at jails sid.0) ≢ Equal
            apart e =
                let alive = lives k d lt in
                let one = linked.distinct (get_or order k d).0 sid.0 (within jails (get_or order k d).0 alive) in' (path_cmp-exact _ _ e) in
                false≢true (sym was ∙ ap (λ n. (at jails n).alive) (sym one) ∙ alive)

            by : (o : Ordering) → is_lt o ≡ false → o ≢ Equal → ordering_reverse o ≡ Less
            by Less e ne = cc
            by Equal e ne = absurd (ne refl)
            by Greater e ne = refl

        here : (n : ℕ) → n ≡ sid.0 → ((sid.0 == n) || (at jails n).alive) ≡ (at after n).alive
        here n e = or_left _ _ (eq-eqb sid.0 n (sym e)) ∙ sym (ap (λ m. (at after m).alive) e ∙ is)

        there : (n : ℕ) → n ≢ sid.0 → ((sid.0 == n) || (at jails n).alive) ≡ (at after n).alive
        there n ne = by (sid.0 == n) (false_from_ne_true _ (λ e. ne (sym (eqb-true sid.0 n e)))) ∙ sym (others n ne)
          where
            by : (b : Bool) → b ≡ false → (b || (at jails n).alive) ≡ (at jails n).alive
            by true e = absurd (false≢true (sym e))
            by false e = refl

    -- one that ends stands in that place
    module _ (was : (at jails sid.0).alive ≡ true) where
      pub listed : Place sid.0 order
      listed = place-of sid.0 order (ordered.living sid.0 ∙ was)

      up : (i j : ℕ) (d : Sid) → i < j → j < length order → by_path jails (get_or order i d) (get_or order j d) ≡ Less
      up = ascends (by_path jails) (by-path-total jails) order ordered.rises

      own : (d : Sid) (k : ℕ) → (get_or order k d).0 ≡ sid.0 → is_lt (path_cmp (path_at jails (get_or order k d).0) (path_at jails sid.0)) ≡ false
      own d k e = ap (λ n. is_lt (path_cmp (path_at jails n) (path_at jails sid.0))) e ∙ not-less (path_at jails sid.0)

      pub is-place : listed.place ≡ place
      is-place = ⊎_elim (λ (e : listed.place ≡ place). e)
          (λ c. ⊎_elim (λ (lt : listed.place < place). absurd (false≢true (sym (own sid listed.place (listed.is sid)) ∙ divides.before listed.place sid lt)))
          (λ (gt : place < listed.place). absurd (false≢true (sym (divides.behind place sid (omega arith) (omega (arith, listed.inside))) ∙ less-is _ (ap (λ n. path_cmp (path_at jails (get_or order place sid).0) (path_at jails n)) (sym (listed.is sid)) ∙ up place listed.place sid gt listed.inside)))) c)
          (cases_order listed.place place)

      pub stands-within : place < length order
      stands-within = omega (arith, listed.inside, is-place)

      stands : (d : Sid) → (get_or order place d).0 ≡ sid.0
      stands d = ap (λ k. (get_or order k d).0) (sym is-place) ∙ listed.is d

      pub ordered-remove : (at after sid.0).alive ≡ false → IsInOrder after (remove order place)
      ordered-remove is = record {
        rises = rises-same after jails (remove order place) same (ascending (by_path jails) (by-path-total jails) (remove order place)
            (chain-remove (λ x y. by_path jails x y ≡ Less) order place up stands-within));
        living = λ n. ⊎_elim (here n) (there n) (cases_eq n sid.0);
      }
        where
          gone : list_any (has_number sid.0) (remove order place) ≡ false
          gone = false_from_ne_true _ (λ any. by (place-of sid.0 (remove order place) any))
            where
              by : Place sid.0 (remove order place) → ⊥
              by f =
                  let size = length-remove order place stands-within in
                  ⊎_elim (λ (lt : f.place < place). false≢true (sym (own sid f.place (ap (λ (s : Sid). s.0) (sym (get_or-remove_below order place sid f.place lt stands-within)) ∙ f.is sid)) ∙ divides.before f.place sid lt))
                  (λ (le : place ≤ f.place). false≢true (sym (own sid place (stands sid)) ∙ less-is _ (ap (λ n. path_cmp (path_at jails (get_or order place sid).0) (path_at jails n)) (sym (ap (λ (s : Sid). s.0) (sym (get_or-remove_above order place sid f.place le stands-within)) ∙ f.is sid)) ∙ up place (f.place + 1) sid (omega arith) (omega (arith, f.inside, size)))))
                  (cases_lt f.place place)

          here : (n : ℕ) → n ≡ sid.0 → list_any (has_number n) (remove order place) ≡ (at after n).alive
          here n e = ap (λ m. list_any (has_number m) (remove order place)) e ∙ gone ∙ sym (ap (λ m. (at after m).alive) e ∙ is)

          first : Sid
          first = get_or order place sid

          there : (n : ℕ) → n ≢ sid.0 → list_any (has_number n) (remove order place) ≡ (at after n).alive
          there n ne = sym (by (has_number n (get_or order place sid)) (false_from_ne_true _ (λ e. ne (sym (eqb-true _ n e) ∙ stands sid)))
              (list_any-IsPermutation (has_number n) order (get_or order place sid ∷ remove order place) (IsPermutation-remove order place (get_or order place sid) stands-within (get_or_default order place sid (get_or order place sid) stands-within)))) ∙ ordered.living n ∙ sym (others n ne)
            where
              by : (b : Bool) → b ≡ false → list_any (has_number n) order ≡ (b || list_any (has_number n) (remove order place)) → list_any (has_number n) order ≡ list_any (has_number n) (remove order place)
              by true e h = absurd (false≢true (sym e))
              by false e h = h

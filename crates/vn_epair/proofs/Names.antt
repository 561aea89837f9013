-- What is kept of pairs, after one is made or goes.
use Rattle.std.proofs.Common.{◌≡◌, ◌≢◌, ℕ, suc, ◌+◌, ◌<◌, ◌≤◌, Bool, true, false, not, ◌==◌, ◌&&◌, ◌||◌, cond, List, [], ◌∷◌, ◌++◌, length, length-append, Option, Some, None, unwrap_or, IfSome, refl, sym, subst, ap, ap₂, ◌∙◌, arith, ⊎_elim}
use Rattle.std.specs.Prelude.{slice_set}
use Rattle.std.specs.List.{list_any}
use Rattle.std.specs.Option.{is_some}
use Rattle.std.specs.Ordering.{nat_cmp}
use Rattle.std.specs.Cmp.{tied_then, unsigned_ties}
use Rattle.std.specs.BTreeMap.{is_at}
use Rattle.std.proofs.lemmas.Bool.{eqb-true, eq-eqb, and_parts, and_from, not-false, cases_eq, cases_order, false_from_ne_true, cond-true, cond-false, false≢true, or_from, or_parts}
use Rattle.std.proofs.lemmas.List.{get_or-set_same, get_or-set_other, get_or_past, get_or_append_left, get_or_push}
use Rattle.std.proofs.lemmas.List.Folds.{list_any_at}
use Rattle.std.proofs.lemmas.List.Sums.{sum_by-set, sum_by_push}
use Rattle.vn_types.specs.declared.interface.HalfId.{HalfId}
use Rattle.vn_types.specs.declared.interface.Side.{Side}
use Rattle.vn_types.specs.declared.interface.Side.TheVariants.{A, B}
use Rattle.vn_types.specs.Interfaces.{side_eq}
use Rattle.vn_epair.specs.declared.line.Awaited.{Awaited}
use Rattle.vn_epair.specs.declared.pair_row.TheConstants.{UNIT_MAX}
use Rattle.vn_epair.specs.Halves.{Pair}
use Rattle.vn_rules.specs.Scenes.{is_empty}
use Rattle.vn_epair.specs.Pairs.{coming, new_pair, is_awaiting, is_named, of}
use Rattle.vn_epair.specs.Line.{Halves, is_half}
use Rattle.vn_epair.specs.Kept.{Name, name_cmp, quiet_halves, is_right, IsKept, told, Names}
use Rattle.vn_epair.proofs.Lists.{any-agree, any-never, any-or}
use Rattle.vn_epair.proofs.Changes.{inside}

-- names that compare as equal are one
pub name-ties : (k q : Name) → is_at (name_cmp k) q ≡ ((k.0 == q.0) && (k.1 == q.1))
name-ties k q = sym (tied_then (nat_cmp k.0 q.0) (nat_cmp k.1 q.1)) ∙ sym (ap₂ (λ a b. a && b) (unsigned_ties k.0 q.0) (unsigned_ties k.1 q.1))

-- a pair has a name exactly where the name is the one that is looked for
named-is : (home unit : ℕ) (pair : Pair) → is_named home unit (Some pair) ≡ true → (pair.home ≡ home) × (pair.unit ≡ unit)
named-is home unit pair e = let parts = and_parts (pair.home == home) (pair.unit == unit) e in (eqb-true pair.home home parts.0, eqb-true pair.unit unit parts.1)

-- a named pair is one
pub named-some : (home unit : ℕ) (o : Option Pair) → is_named home unit o ≡ true → (pair : Pair) × (o ≡ Some pair) × (pair.home ≡ home) × (pair.unit ≡ unit)
named-some home unit None e = absurd (false≢true e)
named-some home unit (Some pair) e = let parts = named-is home unit pair e in (pair, refl, parts.0, parts.1)

at-name : (k q : Name) → (k.0 ≡ q.0) → (k.1 ≡ q.1) → is_at (name_cmp k) q ≡ true
at-name k q a b = name-ties k q ∙ and_from (k.0 == q.0) (k.1 == q.1) (eq-eqb k.0 q.0 a) (eq-eqb k.1 q.1 b)

-- ---- a pair is made

module _ (pairs : List (Option Pair)) (names names' : Names) (line line' : Halves) (kept : IsKept pairs names line) (home unit : ℕ) (small : unit ≤ UNIT_MAX) (free : (q : ℕ) → is_named home unit (of pairs q) ≡ false)
    (put : (k : Name) → told names' k ≡ cond (is_at (name_cmp (home, unit)) k) (Some (length pairs)) (told names k)) (listed : line'.listed ≡ line.listed) (room : line'.room ≡ line.room + 2) where
  here : of (pairs ++ Some (new_pair home unit) ∷ []) (length pairs) ≡ Some (new_pair home unit)
  here = get_or_push pairs (Some (new_pair home unit)) None (length pairs) refl

  before : (q : ℕ) → q < length pairs → of (pairs ++ Some (new_pair home unit) ∷ []) q ≡ of pairs q
  before q lt = get_or_append_left pairs (Some (new_pair home unit) ∷ []) None q lt

  beyond : (q : ℕ) → length pairs < q → of (pairs ++ Some (new_pair home unit) ∷ []) q ≡ None
  beyond q gt = get_or_past (pairs ++ Some (new_pair home unit) ∷ []) q None (simp length-append (omega arith))

  -- what stands of each number
  each : (P : ℕ → Option Pair → Type 0) → P (length pairs) (Some (new_pair home unit)) → ((q : ℕ) → q ≢ length pairs → P q (of pairs q)) → (q : ℕ) → P q (of (pairs ++ Some (new_pair home unit) ∷ []) q)
  each P at others q = ⊎_elim (λ (e : q ≡ length pairs). subst (λ k. P k (of (pairs ++ Some (new_pair home unit) ∷ []) k)) (sym e) (subst (P (length pairs)) (sym here) at))
      (λ c. ⊎_elim (λ (lt : q < length pairs). subst (P q) (sym (before q lt)) (others q (λ e. omega arith)))
      (λ (gt : length pairs < q). subst (P q) (sym (beyond q gt)) (subst (P q) (get_or_past pairs q None (omega arith)) (others q (λ e. omega arith)))) c) (cases_order q (length pairs))

  found : (q : ℕ) (k : Name) → told names k ≡ Some q → is_named k.0 k.1 (of pairs q) ≡ true
  found q k is = subst (λ o. IfSome o (λ q. is_named k.0 k.1 (of pairs q) ≡ true)) is (kept.standing k)

  named : (q : ℕ) → IfSome (of (pairs ++ Some (new_pair home unit) ∷ []) q) (λ pair. told names' (pair.home, pair.unit) ≡ Some q)
  named = each (λ q o. IfSome o (λ pair. told names' (pair.home, pair.unit) ≡ Some q)) (put (home, unit) ∙ cond-true _ _ _ (at-name (home, unit) (home, unit) refl refl)) (λ q ne. by q (of pairs q) refl (kept.named q))
    where
      by : (q : ℕ) (o : Option Pair) → of pairs q ≡ o → IfSome o (λ pair. told names (pair.home, pair.unit) ≡ Some q) → IfSome o (λ pair. told names' (pair.home, pair.unit) ≡ Some q)
      by q None is h = h
      by q (Some pair) is h = put (pair.home, pair.unit) ∙ cond-false _ _ _ (false_from_ne_true _ other) ∙ h
        where
          other : is_at (name_cmp (home, unit)) (pair.home, pair.unit) ≡ true → ⊥
          other e =
              let parts = and_parts (home == pair.home) (unit == pair.unit) (sym (name-ties (home, unit) (pair.home, pair.unit)) ∙ e) in
              let a = eqb-true home pair.home parts.0 in
              let b = eqb-true unit pair.unit parts.1 in
              false≢true (sym (free q) ∙ ap (is_named home unit) is ∙ and_from (pair.home == home) (pair.unit == unit) (eq-eqb pair.home home (sym a)) (eq-eqb pair.unit unit (sym b)))

  standing : (k : Name) → IfSome (told names' k) (λ q. is_named k.0 k.1 (of (pairs ++ Some (new_pair home unit) ∷ []) q) ≡ true)
  standing k = subst (λ o. IfSome o (λ q. is_named k.0 k.1 (of (pairs ++ Some (new_pair home unit) ∷ []) q) ≡ true)) (sym (put k)) (by (is_at (name_cmp (home, unit)) k) refl (told names k) refl)
    where
      by : (b : Bool) → is_at (name_cmp (home, unit)) k ≡ b → (o : Option ℕ) → told names k ≡ o → IfSome (cond b (Some (length pairs)) o) (λ q. is_named k.0 k.1 (of (pairs ++ Some (new_pair home unit) ∷ []) q) ≡ true)
      by true e o is = ap (is_named k.0 k.1) here ∙ sym (name-ties (home, unit) k) ∙ e
      by false e None is = tt
      by false e (Some q) is =
          let was = found q k is in
          let p = named-some k.0 k.1 (of pairs q) was in
          ap (is_named k.0 k.1) (before q (inside pairs q p.0 p.1)) ∙ was

  pub kept-made : IsKept (pairs ++ Some (new_pair home unit) ∷ []) names' line'
  kept-made = record {
    named = named;
    standing = standing;
    units = each (λ q o. IfSome o (λ pair. pair.unit ≤ UNIT_MAX)) small (λ q ne. kept.units q);
    listed = λ h. ap (list_any (is_half h)) listed ∙ kept.listed h ∙ sym (awaiting h);
    right = ap (list_any _) listed ∙ any-agree _ (λ _. false) (λ e. not (is_right pairs e)) line.listed kept.right right ∙ any-never line.listed;
    room = let sums = sum_by_push quiet_halves pairs (Some (new_pair home unit)) in let held = kept.room in omega arith;
  }
    where
      quiet : (s : Side) → not (is_empty (coming s (new_pair home unit))) ≡ not (is_empty (coming s (new_pair 0 0)))
      quiet A = refl
      quiet B = refl

      awaiting : (h : HalfId) → is_awaiting (pairs ++ Some (new_pair home unit) ∷ []) h ≡ is_awaiting pairs h
      awaiting h =
          each (λ q o. not (is_empty (coming h.side (unwrap_or o (new_pair 0 0)))) ≡ not (is_empty (coming h.side (unwrap_or (of pairs q) (new_pair 0 0)))))
          (quiet h.side ∙ sym (ap (λ o. not (is_empty (coming h.side (unwrap_or o (new_pair 0 0))))) (get_or_past pairs (length pairs) None (omega arith)))) (λ q ne. refl) h.pair

      right : (e : Awaited) → not (is_right pairs e) ≡ false → not (is_right (pairs ++ Some (new_pair home unit) ∷ []) e) ≡ false
      right e h =
          let was = not-false (is_right pairs e) h in
          let p = named-some e.home.0 e.unit (of pairs e.half.pair) was in
          ap (λ o. not (is_named e.home.0 e.unit o)) (before e.half.pair (inside pairs e.half.pair p.0 p.1)) ∙ h

-- ---- a pair goes

module _ (pairs : List (Option Pair)) (names names' : Names) (line line' : Halves) (kept : IsKept pairs names line) (n : ℕ) (p : Pair) (was : of pairs n ≡ Some p) (empty-a : p.a.sent ≡ []) (empty-b : p.b.sent ≡ [])
    (put : (k : Name) → told names' k ≡ cond (is_at (name_cmp (p.home, p.unit)) k) None (told names k)) (listed : line'.listed ≡ line.listed) (room : line'.room + 2 ≡ line.room) where
  gone : of (slice_set pairs n None) n ≡ None
  gone = get_or-set_same pairs n None None (inside pairs n p was)

  stays : (q : ℕ) → q ≢ n → of (slice_set pairs n None) q ≡ of pairs q
  stays q ne = get_or-set_other pairs n q None None ne

  left : (P : ℕ → Option Pair → Type 0) → P n None → ((q : ℕ) → q ≢ n → P q (of pairs q)) → (q : ℕ) → P q (of (slice_set pairs n None) q)
  left P at others q = ⊎_elim (λ (e : q ≡ n). subst (λ k. P k (of (slice_set pairs n None) k)) (sym e) (subst (P n) (sym gone) at)) (λ ne. subst (P q) (sym (stays q ne)) (others q ne)) (cases_eq q n)

  own : told names (p.home, p.unit) ≡ Some n
  own = subst (λ o. IfSome o (λ pair. told names (pair.home, pair.unit) ≡ Some n)) was (kept.named n)

  named-left : (q : ℕ) → IfSome (of (slice_set pairs n None) q) (λ pair. told names' (pair.home, pair.unit) ≡ Some q)
  named-left = left (λ q o. IfSome o (λ pair. told names' (pair.home, pair.unit) ≡ Some q)) tt (λ q ne. by q ne (of pairs q) refl (kept.named q))
    where
      by : (q : ℕ) → q ≢ n → (o : Option Pair) → of pairs q ≡ o → IfSome o (λ pair. told names (pair.home, pair.unit) ≡ Some q) → IfSome o (λ pair. told names' (pair.home, pair.unit) ≡ Some q)
      by q ne None is h = h
      by q ne (Some pair) is h = put (pair.home, pair.unit) ∙ cond-false _ _ _ (false_from_ne_true _ other) ∙ h
        where
          other : is_at (name_cmp (p.home, p.unit)) (pair.home, pair.unit) ≡ true → ⊥
          other e =
              let parts = and_parts (p.home == pair.home) (p.unit == pair.unit) (sym (name-ties (p.home, p.unit) (pair.home, pair.unit)) ∙ e) in
              let a = eqb-true p.home pair.home parts.0 in
              let b = eqb-true p.unit pair.unit parts.1 in
              let same : Some q ≡ Some n = sym h ∙ ap (told names) (λ i. (sym a i, sym b i)) ∙ own in
              ne cc

  standing-left : (k : Name) → IfSome (told names' k) (λ q. is_named k.0 k.1 (of (slice_set pairs n None) q) ≡ true)
  standing-left k = subst (λ o. IfSome o (λ q. is_named k.0 k.1 (of (slice_set pairs n None) q) ≡ true)) (sym (put k)) (by (is_at (name_cmp (p.home, p.unit)) k) refl (told names k) refl)
    where
      by : (b : Bool) → is_at (name_cmp (p.home, p.unit)) k ≡ b → (o : Option ℕ) → told names k ≡ o → IfSome (cond b None o) (λ q. is_named k.0 k.1 (of (slice_set pairs n None) q) ≡ true)
      by true e o is = tt
      by false e None is = tt
      by false e (Some q) is =
          let h : is_named k.0 k.1 (of pairs q) ≡ true = subst (λ o. IfSome o (λ q. is_named k.0 k.1 (of pairs q) ≡ true)) is (kept.standing k) in
          ap (is_named k.0 k.1) (stays q (λ same. other (named-is k.0 k.1 p (sym (ap (is_named k.0 k.1) was) ∙ ap (λ m. is_named k.0 k.1 (of pairs m)) (sym same) ∙ h)))) ∙ h
        where
          other : (p.home ≡ k.0) × (p.unit ≡ k.1) → ⊥
          other parts = false≢true (sym e ∙ at-name (p.home, p.unit) k parts.0 parts.1)

  pub kept-gone : IsKept (slice_set pairs n None) names' line'
  kept-gone = record {
    named = named-left;
    standing = standing-left;
    units = left (λ q o. IfSome o (λ pair. pair.unit ≤ UNIT_MAX)) tt (λ q ne. kept.units q);
    listed = λ h. ap (list_any (is_half h)) listed ∙ kept.listed h ∙ sym (awaiting h);
    right = ap (list_any _) listed ∙ any-agree _ (λ _. false) (λ e. not (is_right pairs e) || (is_half half-a e || is_half half-b e)) line.listed bad right ∙ any-never line.listed;
    room =
        let sums = sum_by-set quiet_halves pairs n None None (inside pairs n p was) in
        let own = ap quiet_halves was in
        let two = quiet in
        let held = kept.room in
        omega arith;
  }
    where
      quiet : quiet_halves (Some p) ≡ 2
      quiet = rw (empty-a, empty-b) refl

      silent : (s : Side) → is_empty (coming s p) ≡ true
      silent A = ap is_empty empty-b
      silent B = ap is_empty empty-a

      never : (s : Side) → not (is_empty (coming s (new_pair 0 0))) ≡ false
      never A = refl
      never B = refl

      awaiting : (h : HalfId) → is_awaiting (slice_set pairs n None) h ≡ is_awaiting pairs h
      awaiting h =
          left (λ q o. not (is_empty (coming h.side (unwrap_or o (new_pair 0 0)))) ≡ not (is_empty (coming h.side (unwrap_or (of pairs q) (new_pair 0 0)))))
          (never h.side ∙ sym (ap (λ o. not (is_empty (coming h.side (unwrap_or o (new_pair 0 0))))) was ∙ ap not (silent h.side))) (λ q ne. refl) h.pair

      half-a : HalfId
      half-a = record { pair = n; side = A }

      half-b : HalfId
      half-b = record { pair = n; side = B }

      bad : list_any (λ e. not (is_right pairs e) || (is_half half-a e || is_half half-b e)) line.listed ≡ false
      bad =
          any-or (λ e. not (is_right pairs e)) (λ e. is_half half-a e || is_half half-b e) line.listed kept.right
          (any-or (is_half half-a) (is_half half-b) line.listed (kept.listed half-a ∙ none A) (kept.listed half-b ∙ none B))
        where
          none : (s : Side) → is_awaiting pairs (record { pair = n; side = s }) ≡ false
          none s = ap (λ o. not (is_empty (coming s (unwrap_or o (new_pair 0 0))))) was ∙ ap not (silent s)

      right : (e : Awaited) → (not (is_right pairs e) || (is_half half-a e || is_half half-b e)) ≡ false → not (is_right (slice_set pairs n None) e) ≡ false
      right e h =
          let parts = or_parts (not (is_right pairs e)) (is_half half-a e || is_half half-b e) h in
          let sides = or_parts (is_half half-a e) (is_half half-b e) parts.1 in
          ap (λ o. not (is_named e.home.0 e.unit o)) (stays e.half.pair (λ same. by e.half.side same sides.0 sides.1)) ∙ parts.0
        where
          by : (s : Side) → e.half.pair ≡ n → ((n == e.half.pair) && side_eq A s) ≡ false → ((n == e.half.pair) && side_eq B s) ≡ false → ⊥
          by A same a b = false≢true (sym a ∙ and_from (n == e.half.pair) true (eq-eqb n e.half.pair (sym same)) refl)
          by B same a b = false≢true (sym b ∙ and_from (n == e.half.pair) true (eq-eqb n e.half.pair (sym same)) refl)

-- nothing is made or goes
pub kept-as : (pairs pairs' : List (Option Pair)) (names names' : Names) (line line' : Halves) → pairs' ≡ pairs → ((k : Name) → told names' k ≡ told names k) → line'.listed ≡ line.listed → line'.room ≡ line.room
    → IsKept pairs names line → IsKept pairs' names' line'
kept-as pairs pairs' names names' line line' same found listed room kept = subst (λ ps. IsKept ps names' line') (sym same) (record {
  named = λ q. by q (of pairs q) (kept.named q);
  standing = λ k. subst (λ o. IfSome o (λ q. is_named k.0 k.1 (of pairs q) ≡ true)) (sym (found k)) (kept.standing k);
  units = kept.units;
  listed = λ h. ap (list_any (is_half h)) listed ∙ kept.listed h;
  right = ap (list_any _) listed ∙ kept.right;
  room = room ∙ kept.room;
})
  where
    by : (q : ℕ) (o : Option Pair) → IfSome o (λ pair. told names (pair.home, pair.unit) ≡ Some q) → IfSome o (λ pair. told names' (pair.home, pair.unit) ≡ Some q)
    by q None h = h
    by q (Some pair) h = found (pair.home, pair.unit) ∙ h

-- a name is not found exactly where no pair has it
pub none-named : (pairs : List (Option Pair)) (names : Names) (line : Halves) → IsKept pairs names line → (home unit : ℕ) → told names (home, unit) ≡ None → (q : ℕ) → is_named home unit (of pairs q) ≡ false
none-named pairs names line kept home unit none q = false_from_ne_true (is_named home unit (of pairs q)) (λ is. by (named-some home unit (of pairs q) is))
  where
    by : ((pair : Pair) × (of pairs q ≡ Some pair) × (pair.home ≡ home) × (pair.unit ≡ unit)) → ⊥
    by p =
        let found : told names (p.0.home, p.0.unit) ≡ Some q = subst (λ o. IfSome o (λ pair. told names (pair.home, pair.unit) ≡ Some q)) p.1 (kept.named q) in
        let same : None ≡ Some q = sym none ∙ ap (told names) (λ i. (sym p.2 i, sym p.3 i)) ∙ found in
        cc

pub some-named : (pairs : List (Option Pair)) (names : Names) (line : Halves) → IsKept pairs names line → (home unit n : ℕ) → told names (home, unit) ≡ Some n → is_named home unit (of pairs n) ≡ true
some-named pairs names line kept home unit n is = subst (λ o. IfSome o (λ q. is_named home unit (of pairs q) ≡ true)) is (kept.standing (home, unit))

pub one-named : (pairs : List (Option Pair)) (names : Names) (line : Halves) → IsKept pairs names line → (home unit n : ℕ) → told names (home, unit) ≡ Some n → (q : ℕ) → is_named home unit (of pairs q) ≡ true → q ≡ n
one-named pairs names line kept home unit n is q named = by (named-some home unit (of pairs q) named)
  where
    by : ((pair : Pair) × (of pairs q ≡ Some pair) × (pair.home ≡ home) × (pair.unit ≡ unit)) → q ≡ n
    by p =
        let found : told names (p.0.home, p.0.unit) ≡ Some q = subst (λ o. IfSome o (λ pair. told names (pair.home, pair.unit) ≡ Some q)) p.1 (kept.named q) in
        let same : Some n ≡ Some q = sym is ∙ ap (told names) (λ i. (sym p.2 i, sym p.3 i)) ∙ found in
        cc

-- a test of what stands of each number, over the list
pub any-of : (pairs : List (Option Pair)) (home unit : ℕ) → ((q : ℕ) → is_named home unit (of pairs q) ≡ false) → list_any (is_named home unit) pairs ≡ false
any-of [] home unit none = refl
any-of (x ∷ xs) home unit none = or_from (is_named home unit x) (list_any (is_named home unit) xs) (none 0) (any-of xs home unit (λ q. none (suc q)))

pub any-at : (pairs : List (Option Pair)) (home unit n : ℕ) → is_named home unit (of pairs n) ≡ true → list_any (is_named home unit) pairs ≡ true
any-at pairs home unit n is = let p = named-some home unit (of pairs n) is in list_any_at (is_named home unit) pairs n None (inside pairs n p.0 p.1) is

pub is-homed : (pairs : List (Option Pair)) (names : Names) (line : Halves) → IsKept pairs names line → (home unit : ℕ) → is_some (told names (home, unit)) ≡ list_any (is_named home unit) pairs
is-homed pairs names line kept home unit = by (told names (home, unit)) refl
  where
    by : (o : Option ℕ) → told names (home, unit) ≡ o → is_some o ≡ list_any (is_named home unit) pairs
    by None is = sym (any-of pairs home unit (none-named pairs names line kept home unit is))
    by (Some n) is = sym (any-at pairs home unit n (some-named pairs names line kept home unit n is))

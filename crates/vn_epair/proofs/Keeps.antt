-- What is kept of pairs, after one of them changed.
use Rattle.std.proofs.Common.{◌≡◌, ℕ, ◌+◌, ◌<◌, ◌≤◌, Bool, true, false, not, ◌==◌, ◌&&◌, ◌||◌, List, [], ◌∷◌, ◌++◌, length, get_or, Option, Some, None, unwrap_or, IfSome, IsSome, refl, sym, subst, ap, ◌∙◌, arith, ⊎_elim}
use Rattle.std.specs.Prelude.{slice_set, if◌then◌else◌}
use Rattle.std.specs.List.{list_any}
use Rattle.std.specs.Cmp.{both_ways}
use Rattle.std.proofs.lemmas.Bool.{eqb-true, eq-eqb, and_parts, and_from, not-false, cases_eq, cases_lt, false≢true, or_from}
use Rattle.std.proofs.lemmas.List.{get_or_past, get_or_default}
use Rattle.std.proofs.lemmas.List.Sums.{get_or-le-sum_by}
use Rattle.vn_types.specs.declared.interface.HalfId.{HalfId}
use Rattle.vn_types.specs.declared.interface.Side.{Side}
use Rattle.vn_types.specs.declared.interface.Side.TheVariants.{A, B}
use Rattle.vn_types.specs.Interfaces.{half_id_eq, side_eq, other_side}
use Rattle.vn_epair.specs.declared.line.Awaited.{Awaited}
use Rattle.vn_epair.specs.declared.pair_row.TheConstants.{UNIT_MAX}
use Rattle.vn_epair.specs.Halves.{End, Pair}
use Rattle.vn_rules.specs.Scenes.{is_empty}
use Rattle.vn_epair.specs.Pairs.{coming, with_coming, end_of, with_end, new_pair, is_awaiting, is_named, of, side_number}
use Rattle.vn_epair.specs.Line.{Halves, rank, is_half, is_ranked, IsSettled}
use Rattle.vn_epair.specs.Kept.{quiet_halves, is_right, IsKept, told, Names}
use Rattle.vn_types.proofs.InterfaceNames.{half_id_eq-Decides}
use Rattle.vn_epair.proofs.Lists.{any-agree, any-both, any-never}
use Rattle.vn_epair.proofs.Order.{side-small}
use Rattle.vn_epair.proofs.Changes.{awaited_of, inside, IsChanged, here, elsewhere, kept-changed}

side-same : (s t : Side) → side_number s ≡ side_number t → side_eq s t ≡ true
side-same A A e = refl
side-same A B e = absurd (omega arith)
side-same B A e = absurd (omega arith)
side-same B B e = refl

sums : (l l' : ℕ) (w i o o' : Bool) → o' ≡ o → l' + (if i then 0 else 1) ≡ l + (if w then 0 else 1) → l' + ((if o then 1 else 0) + (if w then 1 else 0)) ≡ l + ((if o' then 1 else 0) + (if i then 1 else 0))
sums l l' w i o o' e r = rw e (by w i r)
  where
    by : (w i : Bool) → l' + (if i then 0 else 1) ≡ l + (if w then 0 else 1) → l' + ((if o then 1 else 0) + (if w then 1 else 0)) ≡ l + ((if o then 1 else 0) + (if i then 1 else 0))
    by true true r = omega arith
    by true false r = omega arith
    by false true r = omega arith
    by false false r = omega arith

module _ (pairs : List (Option Pair)) (names : Names) (line : Halves) (kept : IsKept pairs names line) (at : HalfId) (p : Pair) (was : of pairs at.pair ≡ Some p) where
  own-name : told names (p.home, p.unit) ≡ Some at.pair
  own-name = subst (λ o. IfSome o (λ pair. told names (pair.home, pair.unit) ≡ Some at.pair)) was (kept.named at.pair)

  own-unit : p.unit ≤ UNIT_MAX
  own-unit = subst (λ o. IfSome o (λ pair. pair.unit ≤ UNIT_MAX)) was (kept.units at.pair)

  -- of halves that are listed as they should, one has the place of a half exactly where it is that half
  pub same-half : (e : Awaited) → not (is_right pairs e) ≡ false → is_ranked (rank (awaited_of p at)) e ≡ is_half at e
  same-half e right = by (of pairs e.half.pair) refl right (kept.named e.half.pair) (kept.units e.half.pair)
    where
      by : (o : Option Pair) → of pairs e.half.pair ≡ o → not (is_named e.home.0 e.unit o) ≡ false → IfSome o (λ pair. told names (pair.home, pair.unit) ≡ Some e.half.pair) → IfSome o (λ pair. pair.unit ≤ UNIT_MAX)
          → is_ranked (rank (awaited_of p at)) e ≡ is_half at e
      by None is h name unit = absurd (false≢true (sym h))
      by (Some q) is h' name unit = both_ways (is_ranked (rank (awaited_of p at)) e) (is_half at e) to from
        where
          named : ((q.home == e.home.0) && (q.unit == e.unit)) ≡ true
          named = not-false ((q.home == e.home.0) && (q.unit == e.unit)) h'

          home : q.home ≡ e.home.0
          home = eqb-true q.home e.home.0 (and_parts (q.home == e.home.0) (q.unit == e.unit) named).0

          units : q.unit ≡ e.unit
          units = eqb-true q.unit e.unit (and_parts (q.home == e.home.0) (q.unit == e.unit) named).1

          to : is_ranked (rank (awaited_of p at)) e ≡ true → is_half at e ≡ true
          to ranked =
              let place = eqb-true (rank e) (rank (awaited_of p at)) ranked in
              let s1 = side-small e.half.side in
              let s2 = side-small at.side in
              let u1 = own-unit in
              let u2 : q.unit ≤ UNIT_MAX = unit in
              let h : q.home ≡ p.home = omega (arith, home, units) in
              let u : q.unit ≡ p.unit = omega (arith, home, units) in
              let s : side_number at.side ≡ side_number e.half.side = omega (arith, home, units) in
              let found : Some at.pair ≡ Some e.half.pair = sym own-name ∙ ap (told names) (λ i. (sym h i, sym u i)) ∙ name in
              let n : at.pair ≡ e.half.pair = cc in
              and_from (at.pair == e.half.pair) (side_eq at.side e.half.side) (eq-eqb at.pair e.half.pair n) (side-same at.side e.half.side s)

          from : is_half at e ≡ true → is_ranked (rank (awaited_of p at)) e ≡ true
          from half =
              let same : at ≡ e.half = (half_id_eq-Decides at e.half).0 half in
              let s : side_number at.side ≡ side_number e.half.side = ap (λ (h : HalfId). side_number h.side) same in
              let found : Some p ≡ Some q = sym was ∙ ap (λ (h : HalfId). of pairs h.pair) same ∙ is in
              let one : p ≡ q = cc in
              let h : p.home ≡ q.home = ap (λ (pair : Pair). pair.home) one in
              let u : p.unit ≡ q.unit = ap (λ (pair : Pair). pair.unit) one in
              eq-eqb (rank e) (rank (awaited_of p at)) (omega (arith, home, units))

  pub awaiting-own : is_awaiting pairs at ≡ not (is_empty (coming at.side p))
  awaiting-own = ap (λ o. not (is_empty (coming at.side (unwrap_or o (new_pair 0 0))))) was

  -- the half is listed exactly where a frame comes to it
  pub any-ranked : list_any (is_ranked (rank (awaited_of p at))) line.listed ≡ not (is_empty (coming at.side p))
  any-ranked =
      any-agree (is_ranked (rank (awaited_of p at))) (is_half at) (λ e. not (is_right pairs e)) line.listed kept.right same-half
      ∙ kept.listed at ∙ awaiting-own

  -- there is room for it where it is not listed
  pub room-for : is_empty (coming at.side p) ≡ true → 0 < line.room
  room-for quiet =
      let sum = get_or-le-sum_by quiet_halves pairs at.pair None (inside pairs at.pair p was) in
      let own = ap quiet_halves was in
      let held = kept.room in
      let one = by at.side quiet in
      omega arith
    where
      by : (s : Side) → is_empty (coming s p) ≡ true → 1 ≤ quiet_halves (Some p)
      by A e = rw e (omega arith)
      by B e = rw e (omega arith)

  -- the frames that come to one half changed, and the line was settled
  module _ (pairs' : List (Option Pair)) (p' : Pair) (c : IsChanged pairs pairs' at.pair p p') (other : is_empty (coming (other_side at.side) p') ≡ is_empty (coming (other_side at.side) p)) where
    now : of pairs' at.pair ≡ Some p'
    now = here pairs pairs' at.pair p p' c

    awaiting-now : is_awaiting pairs' at ≡ not (is_empty (coming at.side p'))
    awaiting-now = ap (λ o. not (is_empty (coming at.side (unwrap_or o (new_pair 0 0))))) now

    awaiting-other : (h : HalfId) → half_id_eq h at ≡ false → is_awaiting pairs' h ≡ is_awaiting pairs h
    awaiting-other h apart = ⊎_elim same (λ ne. ap (λ o. not (is_empty (coming h.side (unwrap_or o (new_pair 0 0))))) (elsewhere pairs pairs' at.pair p p' c h.pair ne)) (cases_eq h.pair at.pair)
      where
        sides : (s t : Side) → side_eq s t ≡ false → s ≡ other_side t
        sides A A e = absurd (false≢true (sym e))
        sides A B e = refl
        sides B A e = refl
        sides B B e = absurd (false≢true (sym e))

        same : h.pair ≡ at.pair → is_awaiting pairs' h ≡ is_awaiting pairs h
        same e =
            let side : h.side ≡ other_side at.side = sides h.side at.side (sym (ap (λ b. b && side_eq h.side at.side) (eq-eqb h.pair at.pair e)) ∙ apart) in
            ap (λ o. not (is_empty (coming h.side (unwrap_or o (new_pair 0 0))))) (ap (of pairs') e ∙ now)
            ∙ ap (λ s. not (is_empty (coming s p'))) side ∙ ap not other ∙ sym (ap (λ s. not (is_empty (coming s p))) side)
            ∙ sym (ap (λ o. not (is_empty (coming h.side (unwrap_or o (new_pair 0 0))))) (ap (of pairs) e ∙ was))

    pub kept-settled : (line' : Halves) → IsSettled (awaited_of p' at) (is_empty (coming at.side p)) (is_empty (coming at.side p')) line line' → IsKept pairs' names line'
    kept-settled line' s = kept-changed pairs pairs' at.pair p p' c names line line' kept listed right room
      where
        place : rank (awaited_of p' at) ≡ rank (awaited_of p at)
        place = λ i. rank (record { home = record { 0 = c.home i }; unit = c.unit i; half = at })

        at-one : (h : HalfId) → half_id_eq h at ≡ true → h ≡ at
        at-one h = (half_id_eq-Decides h at).0

        same-all : (h : HalfId) → is_empty (coming at.side p) ≡ is_empty (coming at.side p') → is_awaiting pairs' h ≡ is_awaiting pairs h
        same-all h e = by (half_id_eq h at) refl
          where
            by : (b : Bool) → half_id_eq h at ≡ b → is_awaiting pairs' h ≡ is_awaiting pairs h
            by true f = ap (is_awaiting pairs') (at-one h f) ∙ awaiting-now ∙ ap not (sym e) ∙ sym awaiting-own ∙ sym (ap (is_awaiting pairs) (at-one h f))
            by false f = awaiting-other h f

        apart : (h : HalfId) → half_id_eq h at ≡ false → (e : Awaited) (a b : Bool) → is_half h e ≡ a → is_half at e ≡ b → (a && not b) ≡ a
        apart h ne e false b ea eb = refl
        apart h ne e true false ea eb = refl
        apart h ne e true true ea eb =
            let one : h ≡ at = (half_id_eq-Decides h e.half).0 ea ∙ sym ((half_id_eq-Decides at e.half).0 eb) in
            absurd (false≢true (sym ne ∙ (half_id_eq-Decides h at).1 one))

        listed-by : (h : HalfId) (w i : Bool) → is_empty (coming at.side p) ≡ w → is_empty (coming at.side p') ≡ i → list_any (is_half h) line'.listed ≡ is_awaiting pairs' h
        listed-by h true true ew ei = ap (list_any (is_half h)) (s.same (ew ∙ sym ei)) ∙ kept.listed h ∙ sym (same-all h (ew ∙ sym ei))
        listed-by h false false ew ei = ap (list_any (is_half h)) (s.same (ew ∙ sym ei)) ∙ kept.listed h ∙ sym (same-all h (ew ∙ sym ei))
        listed-by h true false ew ei = s.put ew ei (is_half h) ∙ by (half_id_eq h at) refl
          where
            by : (b : Bool) → half_id_eq h at ≡ b → (half_id_eq h at || list_any (is_half h) line.listed) ≡ is_awaiting pairs' h
            by true e = ap (λ b. b || list_any (is_half h) line.listed) e ∙ sym (ap (is_awaiting pairs') (at-one h e) ∙ awaiting-now ∙ ap not ei)
            by false e = ap (λ b. b || list_any (is_half h) line.listed) e ∙ kept.listed h ∙ sym (awaiting-other h e)
        listed-by h false true ew ei = s.removed ew ei (is_half h) ∙ ap (λ r. list_any (λ e. is_half h e && not (is_ranked r e)) line.listed) place ∙ agreed ∙ by (half_id_eq h at) refl
          where
            agreed : list_any (λ e. is_half h e && not (is_ranked (rank (awaited_of p at)) e)) line.listed ≡ list_any (λ e. is_half h e && not (is_half at e)) line.listed
            agreed = any-agree (λ e. is_half h e && not (is_ranked (rank (awaited_of p at)) e)) (λ e. is_half h e && not (is_half at e)) (λ e. not (is_right pairs e)) line.listed kept.right (λ e r. ap (λ b. is_half h e && not b) (same-half e r))

            never : (b : Bool) → (b && not b) ≡ false
            never true = refl
            never false = refl

            by : (b : Bool) → half_id_eq h at ≡ b → list_any (λ e. is_half h e && not (is_half at e)) line.listed ≡ is_awaiting pairs' h
            by true e =
                ap (λ g. list_any (λ e. is_half g e && not (is_half at e)) line.listed) (at-one h e)
                ∙ ap (λ f. list_any f line.listed) (λ i e. never (is_half at e) i) ∙ any-never line.listed
                ∙ sym (ap (is_awaiting pairs') (at-one h e) ∙ awaiting-now ∙ ap not ei)
            by false ne = ap (λ f. list_any f line.listed) (λ i e. apart h ne e (is_half h e) (is_half at e) refl refl i) ∙ kept.listed h ∙ sym (awaiting-other h ne)

        listed : (h : HalfId) → list_any (is_half h) line'.listed ≡ is_awaiting pairs' h
        listed h = listed-by h (is_empty (coming at.side p)) (is_empty (coming at.side p')) refl refl

        right : list_any (λ e. not (is_right pairs e)) line'.listed ≡ false
        right = by (is_empty (coming at.side p)) (is_empty (coming at.side p')) refl refl
          where
            own : not (is_right pairs (awaited_of p' at)) ≡ false
            own = ap (λ o. not (is_named p'.home p'.unit o)) was ∙ ap not (and_from (p.home == p'.home) (p.unit == p'.unit) (eq-eqb p.home p'.home (sym c.home)) (eq-eqb p.unit p'.unit (sym c.unit)))

            by : (w i : Bool) → is_empty (coming at.side p) ≡ w → is_empty (coming at.side p') ≡ i → list_any (λ e. not (is_right pairs e)) line'.listed ≡ false
            by true true ew ei = ap (list_any (λ e. not (is_right pairs e))) (s.same (ew ∙ sym ei)) ∙ kept.right
            by false false ew ei = ap (list_any (λ e. not (is_right pairs e))) (s.same (ew ∙ sym ei)) ∙ kept.right
            by true false ew ei = s.put ew ei (λ e. not (is_right pairs e)) ∙ or_from (not (is_right pairs (awaited_of p' at))) (list_any (λ e. not (is_right pairs e)) line.listed) own kept.right
            by false true ew ei =
                s.removed ew ei (λ e. not (is_right pairs e))
                ∙ any-both (λ e. not (is_right pairs e)) (λ e. not (is_ranked (rank (awaited_of p' at)) e)) line.listed kept.right

        room : line'.room + quiet_halves (Some p) ≡ line.room + quiet_halves (Some p')
        room = by at.side other s.room
          where
            by : (t : Side) → is_empty (coming (other_side t) p') ≡ is_empty (coming (other_side t) p) → line'.room + (if is_empty (coming t p') then 0 else 1) ≡ line.room + (if is_empty (coming t p) then 0 else 1)
                → line'.room + quiet_halves (Some p) ≡ line.room + quiet_halves (Some p')
            by A o r = sums line.room line'.room (is_empty (coming A p)) (is_empty (coming A p')) (is_empty (coming B p)) (is_empty (coming B p')) o r
            by B o r =
                let k = sums line.room line'.room (is_empty (coming B p)) (is_empty (coming B p')) (is_empty (coming A p)) (is_empty (coming A p')) o r in
                omega arith

-- neither side has a first frame, or its last one is gone
pub kept-same : (pairs pairs' : List (Option Pair)) (names : Names) (line : Halves) (n : ℕ) (p p' : Pair) → IsChanged pairs pairs' n p p' → is_empty p'.a.sent ≡ is_empty p.a.sent → is_empty p'.b.sent ≡ is_empty p.b.sent
    → IsKept pairs names line → IsKept pairs' names line
kept-same pairs pairs' names line n p p' c a b kept = kept-settled pairs names line kept (record { pair = n; side = A }) p c.was pairs' p' c a line (record {
  same = λ _. refl;
  put = λ w i test. absurd (false≢true (sym i ∙ b ∙ w));
  removed = λ w i test. absurd (false≢true (sym w ∙ sym b ∙ i));
  room = ap (λ q. line.room + (if q then 0 else 1)) b;
})

-- ---- as the calls of the table have it

-- what was read at a number that has a pair
pub read : (pairs : List (Option Pair)) (n : ℕ) (x : Option Pair) (p : Pair) → IsSome (of pairs n) → x ≡ get_or pairs n x → x ≡ Some p → of pairs n ≡ Some p
read pairs n x p some is value = get_or_default pairs n None x within ∙ sym is ∙ value
  where
    gone : (o : Option Pair) → IsSome o → o ≡ None → ⊥
    gone None some e = false≢true some
    gone (Some q) some e = cc

    within : n < length pairs
    within = ⊎_elim (λ (lt : n < length pairs). lt) (λ (le : length pairs ≤ n). absurd (gone (of pairs n) some (get_or_past pairs n None le))) (cases_lt n (length pairs))

module _ (pairs pairs' : List (Option Pair)) (names : Names) (line : Halves) (n : ℕ) (p p' : Pair) (was : of pairs n ≡ Some p) (is : pairs' ≡ slice_set pairs n (Some p')) (kept : IsKept pairs names line) where
  -- one half changed, and the frames that it sent stay
  pub kept-end : (s : Side) (e : End) → p' ≡ with_end s e p → e.sent ≡ (end_of s p).sent → IsKept pairs' names line
  kept-end A e ends same = kept-same pairs pairs' names line n p p' (record { was = was; is = is; home = ap (λ (q : Pair). q.home) ends; unit = ap (λ (q : Pair). q.unit) ends }) (ap (λ (q : Pair). is_empty q.a.sent) ends ∙ ap is_empty same) (ap (λ (q : Pair). is_empty q.b.sent) ends) kept
  kept-end B e ends same = kept-same pairs pairs' names line n p p' (record { was = was; is = is; home = ap (λ (q : Pair). q.home) ends; unit = ap (λ (q : Pair). q.unit) ends }) (ap (λ (q : Pair). is_empty q.a.sent) ends) (ap (λ (q : Pair). is_empty q.b.sent) ends ∙ ap is_empty same) kept

  -- the frames changed that come to one side
  pub kept-frames : (s t : Side) (e : End) (line' : Halves) → t ≡ other_side s → p' ≡ with_end t e p
      → IsSettled (awaited_of p' (record { pair = n; side = s })) (is_empty (coming s p)) (is_empty (coming s p')) line line' → IsKept pairs' names line'
  kept-frames A t e line' other ends settled =
      let ends' : p' ≡ with_end B e p = ends ∙ ap (λ s. with_end s e p) other in
      kept-settled pairs names line kept (record { pair = n; side = A }) p was pairs' p' (record { was = was; is = is; home = ap (λ (q : Pair). q.home) ends'; unit = ap (λ (q : Pair). q.unit) ends' }) (ap (λ (q : Pair). is_empty q.a.sent) ends') line' settled
  kept-frames B t e line' other ends settled =
      let ends' : p' ≡ with_end A e p = ends ∙ ap (λ s. with_end s e p) other in
      kept-settled pairs names line kept (record { pair = n; side = B }) p was pairs' p' (record { was = was; is = is; home = ap (λ (q : Pair). q.home) ends'; unit = ap (λ (q : Pair). q.unit) ends' }) (ap (λ (q : Pair). is_empty q.b.sent) ends') line' settled

  -- a half is found in the line under the name that its pair has now
  pub settle-listed : (s t : Side) (e : End) → p' ≡ with_end t e p → list_any (is_ranked (rank (awaited_of p' (record { pair = n; side = s })))) line.listed ≡ not (is_empty (coming s p))
  settle-listed s t e ends = ap (λ r. list_any (is_ranked r) line.listed) (λ i. rank (record { home = record { 0 = home t ends i }; unit = unit t ends i; half = record { pair = n; side = s } })) ∙ any-ranked pairs names line kept (record { pair = n; side = s }) p was
    where
      home : (t : Side) → p' ≡ with_end t e p → p'.home ≡ p.home
      home A ends = ap (λ (q : Pair). q.home) ends
      home B ends = ap (λ (q : Pair). q.home) ends

      unit : (t : Side) → p' ≡ with_end t e p → p'.unit ≡ p.unit
      unit A ends = ap (λ (q : Pair). q.unit) ends
      unit B ends = ap (λ (q : Pair). q.unit) ends

  pub settle-room : (s : Side) → is_empty (coming s p) ≡ true → 0 < line.room
  settle-room s = room-for pairs names line kept (record { pair = n; side = s }) p was

-- the same under other names
pub settled-as : (half half' : Awaited) (w w' i i' : Bool) (old new : Halves) → half ≡ half' → w ≡ w' → i ≡ i' → IsSettled half w i old new → IsSettled half' w' i' old new
settled-as half half' w w' i i' old new a b c s = subst (λ h. IsSettled h w' i' old new) a (subst (λ x. IsSettled half x i' old new) b (subst (λ x. IsSettled half w x old new) c s))

-- the frames that come to a side are those that it was given
pub coming-with : (s : Side) (frames : List (List ℕ)) (p : Pair) → coming s (with_coming s frames p) ≡ frames
coming-with A frames p = refl
coming-with B frames p = refl

-- what one side sends comes to the other
pub coming-sent : (s : Side) (e : End) (p : Pair) → coming (other_side s) (with_end s e p) ≡ e.sent
coming-sent A e p = refl
coming-sent B e p = refl

pub other-twice : (s : Side) → s ≡ other_side (other_side s)
other-twice A = refl
other-twice B = refl

pub none-more : (frames : List (List ℕ)) (frame : List ℕ) → is_empty (frames ++ frame ∷ []) ≡ false
none-more [] frame = refl
none-more (x ∷ frames) frame = refl

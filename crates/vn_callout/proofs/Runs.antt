-- Calls in turn: what a wheel holds and has answered after some of them.
use Rattle.std.proofs.Common.{◌≡◌, ℕ, zero, suc, ◌+◌, ◌<◌, ◌≤◌, ◌⊎◌, inl, inr, Bool, true, false, cond, ◌==◌, ◌||◌, List, [], ◌∷◌, ◌++◌, map, length, drop, get_or, Option, Some, None, refl, sym, ap, ◌∙◌, arith, append_assoc}
use Rattle.std.specs.List.{list_any, filter_map, cons_option, Contains}
use Rattle.std.proofs.lemmas.Bool.{eqb-true, false≢true, or_parts}
use Rattle.std.proofs.lemmas.List.{get_or-map, at_drop_more}
use Rattle.std.proofs.lemmas.List.Elements.{Contains-append_right}
use Rattle.vn_types.specs.declared.interface.HalfId.{HalfId}
use Rattle.vn_rules.specs.declared.timer.TimersOf.{TimersOf}
use Rattle.vn_rules.specs.Timers.{no_timers, Timed, without_timed, next_due, least}
use Rattle.vn_rules.proofs.TimerOrder.{stack_at, Covers, least-same}
use Rattle.vn_callout.specs.declared.calls.Call.{Call}
use Rattle.vn_callout.specs.declared.calls.Call.TheVariants.{Arm, Stop, StopOfInterface, StopOfStack, Due, NextDeadline}
use Rattle.vn_callout.specs.declared.calls.Reply.{Reply}
use Rattle.vn_callout.specs.Stacks.{of}
use Rattle.vn_callout.specs.Calls.{stack_of, is_stack, after_own, after_call, reply, replies_from, replies_of}

abbrev Timers : Type 0
Timers = TimersOf HalfId

-- ---- the stacks that calls name

abbrev named : ℕ → List Call → Bool
named q calls = list_any (λ c. is_stack q (stack_of c)) calls

abbrev stacks : List Call → List ℕ
stacks calls = filter_map stack_of calls

-- a call of the list names none but the list's stacks
unnamed : (q : ℕ) (calls : List Call) (i : ℕ) (d : Call) → named q calls ≡ false → i < length calls → is_stack q (stack_of (get_or calls i d)) ≡ false
unnamed q [] i d none in' = absurd (omega arith)
unnamed q (c ∷ cs) zero d none in' = (or_parts (is_stack q (stack_of c)) (named q cs) none).0
unnamed q (c ∷ cs) (suc i) d none in' = unnamed q cs i d (or_parts (is_stack q (stack_of c)) (named q cs) none).1 (omega arith)

named-among : (q : ℕ) (calls : List Call) → named q calls ≡ true → Contains (stacks calls) q
named-among q [] is = absurd (false≢true is)
named-among q (c ∷ cs) is = by (stack_of c) is (named-among q cs)
  where
    by_test : (sid : ℕ) (b : Bool) → (q == sid) ≡ b → (b || named q cs) ≡ true → (named q cs ≡ true → Contains (stacks cs) q) → Contains (sid ∷ stacks cs) q
    by_test sid true same is more = (0, omega arith, sym (eqb-true q sid same))
    by_test sid false other is more = Contains-append_right (sid ∷ []) (stacks cs) q (more is)

    by : (o : Option ℕ) → (is_stack q o || named q cs) ≡ true → (named q cs ≡ true → Contains (stacks cs) q) → Contains (cons_option o (stacks cs)) q
    by None is more = more is
    by (Some sid) is more = by_test sid (q == sid) refl is more

-- ---- the least deadline is that of the stacks that the calls name

rows-cover : (rows : List Timers) (ss : List ℕ) → Covers rows (map (of rows) ss)
rows-cover rows ss = record { found = by ss }
  where
    by : (ss : List ℕ) (q : ℕ) → ((stack_at (map (of rows) ss) q).standing ≡ []) ⊎ ((p : ℕ) × (stack_at rows p ≡ stack_at (map (of rows) ss) q))
    by [] q = inl refl
    by (s ∷ ss) zero = inr (s, refl)
    by (s ∷ ss) (suc q) = by ss q

named-cover : (rows : List Timers) (calls : List Call) → ((q : ℕ) → named q calls ≡ false → of rows q ≡ no_timers) → Covers (map (of rows) (stacks calls)) rows
named-cover rows calls others = record { found = λ q. by q (named q calls) refl }
  where
    by : (q : ℕ) (b : Bool) → named q calls ≡ b → ((stack_at rows q).standing ≡ []) ⊎ ((p : ℕ) × (stack_at (map (of rows) (stacks calls)) p ≡ stack_at rows q))
    by q true is = let among = named-among q calls is in inr (among.0, get_or-map (of rows) (stacks calls) among.0 q no_timers among.1 ∙ ap (of rows) among.2)
    by q false is = inl (ap (λ (t : Timers). t.standing) (others q is))

-- ---- one call

armed-after : (c : Call) (t : Timers) → (after_own c t).armed ≤ t.armed + 1
armed-after (Arm sid deadline what) t = omega arith
armed-after (Stop sid arm) t = omega arith
armed-after (StopOfInterface sid half) t = omega arith
armed-after (StopOfStack sid) t = omega arith
armed-after (Due sid now) t = by (next_due now t)
  where
    by : (o : Option (Timed HalfId)) → (without_timed o t).armed ≤ t.armed + 1
    by None = omega arith
    by (Some e) = omega arith
armed-after NextDeadline t = omega arith

-- ---- the first calls of a list

-- what a wheel holds and has answered after i of the calls
pub record IsSoFar (calls : List Call) (rows : List Timers) (answers : List Reply) (i : ℕ) : Type 0 where
  -- no stack has armed more timers than there were calls
  pub few : (q : ℕ) → (of rows q).armed ≤ i
  pub others : (q : ℕ) → named q calls ≡ false → of rows q ≡ no_timers
  pub told : answers ++ replies_from (stacks calls) (of rows) (drop i calls) ≡ replies_of calls

pub no_call : (calls : List Call) (rows : List Timers) → ((q : ℕ) → of rows q ≡ no_timers) → IsSoFar calls rows [] 0
no_call calls rows new = record {
  few = λ q. let none = ap (λ (t : Timers). t.armed) (new q) in omega arith;
  others = λ q _. new q;
  told = ap (λ s. replies_from (stacks calls) s calls) (λ i q. new q i);
}

pub one_call_more : (calls : List Call) (rows rows' : List Timers) (answers : List Reply) (i : ℕ) (d : Call) (r : Reply) → IsSoFar calls rows answers i → i < length calls → r ≡ reply (of rows) (least rows) (get_or calls i d)
    → ((q : ℕ) → of rows' q ≡ after_call (get_or calls i d) (of rows) q) → IsSoFar calls rows' (answers ++ r ∷ []) (i + 1)
one_call_more calls rows rows' answers i d r before in' replied after = record {
  few = λ q. few_by q (is_stack q (stack_of c)) (after q);
  others = λ q none. others_by q none (is_stack q (stack_of c)) refl (after q);
  told =
      append_assoc answers (r ∷ []) (from (of rows') later)
      ∙ (λ j. answers ++ answered j ∷ from (λ q. after q j) later)
      ∙ sym (at_drop_more (λ cs. answers ++ from (of rows) cs) calls i d in')
      ∙ before.told;
}
  where
    c : Call
    c = get_or calls i d

    later : List Call
    later = drop (i + 1) calls

    from : (ℕ → Timers) → List Call → List Reply
    from s cs = replies_from (stacks calls) s cs

    answered : r ≡ reply (of rows) (least (map (of rows) (stacks calls))) c
    answered = replied ∙ ap (λ e. reply (of rows) e c) (least-same rows (map (of rows) (stacks calls)) (rows-cover rows (stacks calls)) (named-cover rows calls before.others))

    few_by : (q : ℕ) (b : Bool) → of rows' q ≡ cond b (after_own c (of rows q)) (of rows q) → (of rows' q).armed ≤ i + 1
    few_by q true e = let armed = ap (λ (t : Timers). t.armed) e in omega (arith, armed-after c (of rows q), before.few q)
    few_by q false e = let armed = ap (λ (t : Timers). t.armed) e in omega (arith, before.few q)

    others_by : (q : ℕ) → named q calls ≡ false → (b : Bool) → is_stack q (stack_of c) ≡ b → of rows' q ≡ cond b (after_own c (of rows q)) (of rows q) → of rows' q ≡ no_timers
    others_by q none true named e = absurd (false≢true (sym (unnamed q calls i d none in') ∙ named))
    others_by q none false named e = e ∙ before.others q none

-- The timers of pings are stopped one after another.
use Rattle.std.proofs.Common.{◌≡◌, ℕ, ◌<◌, ◌≤◌, ◌+◌, Bool, true, false, cond, not, ◌&&◌, ◌||◌, ◌==◌, List, [], ◌∷◌, length, drop, get_or, refl, sym, ap, ◌∙◌}
use Rattle.std.specs.List.{filter}
use Rattle.std.proofs.lemmas.List.{at_drop_more, drop_all}
use Rattle.vn_rules.specs.declared.ping.PingOf.{PingOf}
use Rattle.vn_rules.specs.declared.timer.TimersOf.{TimersOf}
use Rattle.vn_rules.specs.Pings.{is_armed_by, timers_without}
use Rattle.vn_rules.specs.Timers.{Timed, without_timer}

module _ {N : Type 0} (test : PingOf N → Bool) where
  -- where there is no ping, no timer is stopped
  pub none-stopped : (t : TimersOf N) → timers_without test [] t ≡ t
  none-stopped t = λ i. record { armed = t.armed; standing = by t.standing i }
    where
      by : (es : List (Timed N)) → filter (λ e. not (is_armed_by test [] e)) es ≡ es
      by [] = refl
      by (e ∷ es) = ap (λ rest. e ∷ rest) (by es)

  -- one ping after another
  pub one-stopped : (ping : PingOf N) (rest : List (PingOf N)) (t : TimersOf N) → test ping ≡ true → timers_without test (ping ∷ rest) t ≡ timers_without test rest (without_timer ping.arm t)
  one-stopped ping rest t is = λ i. record { armed = t.armed; standing = (ap (λ b. filter (λ (e : Timed N). not ((b && (e.0.1 == ping.arm)) || is_armed_by test rest e)) t.standing) is ∙ by t.standing) i }
    where
      by : (es : List (Timed N)) → filter (λ (e : Timed N). not ((e.0.1 == ping.arm) || is_armed_by test rest e)) es ≡ filter (λ e. not (is_armed_by test rest e)) (filter (λ (e : Timed N). not (e.0.1 == ping.arm)) es)
      by [] = refl
      by (e ∷ es) = by_test (e.0.1 == ping.arm) (is_armed_by test rest e) refl (by es)
        where
          kept : List (Timed N)
          kept = filter (λ (e : Timed N). not (e.0.1 == ping.arm)) es

          by_test : (b a : Bool) → is_armed_by test rest e ≡ a
              → filter (λ (e : Timed N). not ((e.0.1 == ping.arm) || is_armed_by test rest e)) es ≡ filter (λ e. not (is_armed_by test rest e)) kept
              → cond (not (b || a)) (e ∷ filter (λ (e : Timed N). not ((e.0.1 == ping.arm) || is_armed_by test rest e)) es) (filter (λ (e : Timed N). not ((e.0.1 == ping.arm) || is_armed_by test rest e)) es)
              ≡ filter (λ e. not (is_armed_by test rest e)) (cond (not b) (e ∷ kept) kept)
          by_test true a armed more = more
          by_test false true armed more = rw armed more
          by_test false false armed more = rw armed (ap (λ es. e ∷ es) more)

  pub none-more : (ping : PingOf N) (rest : List (PingOf N)) (t : TimersOf N) → test ping ≡ false → timers_without test (ping ∷ rest) t ≡ timers_without test rest t
  none-more ping rest t is = λ i. record { armed = t.armed; standing = filter (λ (e : Timed N). not ((is i && (e.0.1 == ping.arm)) || is_armed_by test rest e)) t.standing }

  -- the timers of the first pings were stopped, and that of the next one, where it is one of them
  pub next-stopped : (pings : List (PingOf N)) (t u s : TimersOf N) (i : ℕ) (d : PingOf N) → i < length pings → timers_without test (drop i pings) t ≡ s
      → u ≡ cond (test (get_or pings i d)) (without_timer (get_or pings i d).arm t) t → timers_without test (drop (i + 1) pings) u ≡ s
  next-stopped pings t u s i d in' so_far after =
      by (test (get_or pings i d)) refl after ∙ sym (at_drop_more (λ ps. timers_without test ps t) pings i d in') ∙ so_far
    where
      by : (b : Bool) → test (get_or pings i d) ≡ b → u ≡ cond b (without_timer (get_or pings i d).arm t) t
          → timers_without test (drop (i + 1) pings) u ≡ timers_without test (get_or pings i d ∷ drop (i + 1) pings) t
      by true is after = ap (timers_without test (drop (i + 1) pings)) after ∙ sym (one-stopped (get_or pings i d) (drop (i + 1) pings) t is)
      by false is after = ap (timers_without test (drop (i + 1) pings)) after ∙ sym (none-more (get_or pings i d) (drop (i + 1) pings) t is)

  -- where no ping is left, all timers were stopped
  pub all-stopped : (pings : List (PingOf N)) (t s : TimersOf N) (i : ℕ) → length pings ≤ i → timers_without test (drop i pings) t ≡ s → t ≡ s
  all-stopped pings t s i past so_far = sym (none-stopped t) ∙ ap (λ ps. timers_without test ps t) (sym (drop_all i pings past)) ∙ so_far

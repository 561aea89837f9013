-- The versions that are kept, counted one event after another.
use Rattle.std.proofs.Common.{◌≡◌, ℕ, ◌+◌, Bool, true, false, ◌&&◌, List, [], ◌∷◌, ◌++◌, map, Option, Some, None, refl, sym, ap, ap₂, ◌∙◌, cond, arith}
use Rattle.std.specs.Prelude.{find, if◌then◌else◌}
use Rattle.std.specs.List.{list_all, flat_map}
use Rattle.std.specs.Map.{keys_of}
use Rattle.std.specs.Option.{is_some}
use Rattle.std.proofs.lemmas.Bool.{and_parts, and_from, true≢false}
use Rattle.std.proofs.lemmas.Bool.Decides.{Decides-eqb}
use Rattle.vn_rules.specs.Timers.{lesser}
use Rattle.vn_cells.specs.declared.event.Event.{Event}
use Rattle.vn_cells.specs.declared.world.Reader.{Reader}
use Rattle.vn_cells.specs.declared.world.World.{World}
use Rattle.vn_cells.specs.world.Names.{Path}
use Rattle.vn_cells.specs.world.World.{stack_at}
use Rattle.vn_cells.specs.machine.Readers.{is_reader_of, reader_of}
use Rattle.vn_cells.specs.machine.Step.{opening, run, run_from, step}
use Rattle.vn_cells.specs.machine.Versions.{has_reader, kept, lane_at, readers_at, readers_in, retired}
use Rattle.vn_laws.specs.Versions.{stays_open, retired_by, retired_before, least_of, since}
use Rattle.vn_laws.specs.Counting.{IsCounted, CountsOn}
use Rattle.vn_laws.proofs.versions.Kept.{kept_is}
use Rattle.vn_laws.proofs.versions.Snapshots.{run-append}
use Rattle.vn_laws.proofs.versions.Unread.{unread-opening}

-- ---- one event more

retired_more : (w : World) (events : List Event) (event : Event)
    → retired_by w (events ++ event ∷ []) ≡ retired_by w events + retired (run_from w events) event
unfolding retired_by run_from
retired_more w [] event = omega arith
retired_more w (e ∷ events) event =
    ap (λ n. retired w e + n) (retired_more (step w e) events event)
    ∙ reassociated (retired w e) (retired_by (step w e) events) (retired (run_from (step w e) events) event)
  where
    reassociated : (a b c : ℕ) → a + (b + c) ≡ a + b + c
    reassociated a b c = omega arith

module _ (reader : Path × ℕ) where
  stays_more : (w : World) (events : List Event) (event : Event)
      → stays_open reader w (events ++ event ∷ []) ≡ (stays_open reader w events && has_reader (run_from w events) reader)
  unfolding stays_open run_from
  stays_more w [] event = by (has_reader w reader)
    where
      by : (b : Bool) → (b && true) ≡ (true && b)
      by true = refl
      by false = refl
  stays_more w (e ∷ events) event =
      ap (λ b. has_reader w reader && b) (stays_more (step w e) events event)
      ∙ by (has_reader w reader) (stays_open reader (step w e) events) (has_reader (run_from (step w e) events) reader)
    where
      by : (a b c : Bool) → (a && (b && c)) ≡ ((a && b) && c)
      by true b c = refl
      by false b c = refl

  and_open : (a b : Bool) → b ≡ true → (a && b) ≡ a
  and_open true b e = e
  and_open false b e = refl

  and_closed : (a b : Bool) → b ≡ false → (a && b) ≡ false
  and_closed true b e = e
  and_closed false b e = refl

  -- the versions that the event retires come after the Open of a reader that is open before it
  same_before : (w : World) (events : List Event) (event : Event) → has_reader (run_from w events) reader ≡ true
      → retired_before reader w (events ++ event ∷ []) ≡ retired_before reader w events
  unfolding retired_before run_from stays_open
  same_before w [] event is_open =
      ap (λ b. if b then 0 else retired w event + 0) (stays_more w [] event ∙ is_open)
  same_before w (e ∷ events) event is_open =
      ap₂ (λ b n. if b then 0 else retired w e + n)
      (stays_more w (e ∷ events) event ∙ and_open (stays_open reader w (e ∷ events)) (has_reader (run_from w (e ∷ events)) reader) is_open)
      (same_before (step w e) events event is_open)

  -- all are retired before a reader is opened that is not open before the event
  all_before : (w : World) (events : List Event) (event : Event) → has_reader (run_from w events) reader ≡ false
      → retired_before reader w (events ++ event ∷ []) ≡ retired_by w (events ++ event ∷ [])
  unfolding retired_before retired_by run_from stays_open
  all_before w [] event closed =
      ap (λ b. if b then 0 else retired w event + 0) (stays_more w [] event ∙ closed)
  all_before w (e ∷ events) event closed =
      ap₂ (λ b n. if b then 0 else retired w e + n)
      (stays_more w (e ∷ events) event ∙ and_closed (stays_open reader w (e ∷ events)) (has_reader (run_from w (e ∷ events)) reader) closed)
      (all_before (step w e) events event closed)

-- ---- the count

pub counted-opening : (count : ℕ) (since_of : Path × ℕ → ℕ) → IsCounted [] count since_of
unfolding run_from reader_of
counted-opening count since_of (p, lane) is_open =
    absurd (true≢false (sym is_open ∙ ap (λ rs. is_some (reader_of lane rs)) (unread-opening p) ∙ none))
  where
    none : is_some (reader_of lane []) ≡ false
    none = refl

-- a reader that is open before the event and after it
stayed : (count next more all before since_open : ℕ) → next ≡ count + more → count + before ≡ since_open + all
    → next + before ≡ since_open + (all + more)
stayed count next more all before since_open e f = omega (arith, e, f)

pub counted-step : (events : List Event) (event : Event) (count next : ℕ) (before after : Path × ℕ → ℕ)
    → IsCounted events count before → CountsOn (run events) event count next before after
    → IsCounted (events ++ event ∷ []) next after
unfolding run_from
counted-step events event count next before after counted on reader is_open =
    by (has_reader (run events) reader) refl
  where
    now : has_reader (step (run events) event) reader ≡ true
    now = ap (λ w. has_reader w reader) (sym (run-append opening events (event ∷ []))) ∙ is_open

    by : (b : Bool) → has_reader (run events) reader ≡ b
        → next + retired_before reader opening (events ++ event ∷ []) ≡ after reader + retired_by opening (events ++ event ∷ [])
    by true was =
        ap (λ n. next + n) (same_before reader opening events event was)
        ∙ stayed count next (retired (run events) event) (retired_by opening events) (retired_before reader opening events) (before reader)
        (on.added reader was) (counted reader was)
        ∙ ap₂ (λ s n. s + n) (sym (on.stays reader was now)) (sym (retired_more opening events event))
    by false was = ap₂ (λ s n. s + n) (sym (on.opened reader was now)) (all_before reader opening events event was)

-- ---- the end

-- the readers that are listed are open
all_open : (w : World) → list_all (has_reader w) (readers_in w) ≡ true
unfolding readers_in reader_of
all_open w = each_path (keys_of w.stacks)
  where
    append : (rs more : List (Path × ℕ)) → list_all (has_reader w) rs ≡ true → list_all (has_reader w) more ≡ true
        → list_all (has_reader w) (rs ++ more) ≡ true
    append [] more e f = f
    append (r ∷ rs) more e f =
        let parts = and_parts _ _ e in and_from _ _ parts.0 (append rs more parts.1 f)

    passed : (r : Reader) (rs : List Reader) (lane : ℕ) → is_some (reader_of lane rs) ≡ true → is_some (reader_of lane (r ∷ rs)) ≡ true
    passed r rs lane e = by (is_reader_of lane r)
      where
        by : (b : Bool) → is_some (cond b (Some r) (find (is_reader_of lane) rs)) ≡ true
        by true = refl
        by false = e

    first : (r : Reader) (rs : List Reader) → is_some (reader_of r.lane (r ∷ rs)) ≡ true
    first r rs = ap (λ b. is_some (cond b (Some r) (find (is_reader_of r.lane) rs))) ((Decides-eqb r.lane r.lane).1 refl)

    each_reader : (p : Path) (rs : List Reader) → ((lane : ℕ) → is_some (reader_of lane rs) ≡ true → has_reader w (p, lane) ≡ true)
        → list_all (has_reader w) (map (lane_at p) rs) ≡ true
    each_reader p [] has = refl
    each_reader p (r ∷ rs) has =
        and_from _ _ (has r.lane (first r rs)) (each_reader p rs (λ lane e. has lane (passed r rs lane e)))

    each_path : (ps : List Path) → list_all (has_reader w) (flat_map (readers_at w) ps) ≡ true
    each_path [] = refl
    each_path (p ∷ ps) =
        append (readers_at w p) (flat_map (readers_at w) ps)
        (each_reader p (stack_at w p).readers (λ lane e. e)) (each_path ps)

-- whether two numbers are as far apart as two others, or neither is there
abbrev Apart : ℕ → ℕ → Option ℕ → Option ℕ → Type 0
Apart count all None None = Unit {0}
Apart count all (Some m) (Some n) = count + m ≡ n + all
Apart count all None (Some n) = ⊥
Apart count all (Some m) None = ⊥

apart_lesser : (count all m n : ℕ) (o p : Option ℕ) → count + m ≡ n + all → Apart count all o p
    → Apart count all (lesser (Some m) o) (lesser (Some n) p)
apart_lesser count all m n None None e f = e
apart_lesser count all m n (Some k) (Some l) e f = omega (arith, e, f)
apart_lesser count all m n None (Some l) e f = absurd f
apart_lesser count all m n (Some k) None e f = absurd f

apart_least : (count all : ℕ) (before since_of : Path × ℕ → ℕ) (is_open : Path × ℕ → Bool)
    → ((r : Path × ℕ) → is_open r ≡ true → count + before r ≡ since_of r + all)
    → (rs : List (Path × ℕ)) → list_all is_open rs ≡ true
    → Apart count all (least_of (map before rs)) (least_of (map since_of rs))
apart_least count all before since_of is_open each [] e = tt
apart_least count all before since_of is_open each (r ∷ rs) e =
    let parts = and_parts _ _ e in
    apart_lesser count all (before r) (since_of r) (least_of (map before rs)) (least_of (map since_of rs))
    (each r parts.0) (apart_least count all before since_of is_open each rs parts.1)

since_apart : (count all : ℕ) (o p : Option ℕ) → Apart count all o p → since all o ≡ since count p
since_apart count all None None e = refl
since_apart count all (Some m) (Some n) e = omega (arith, e)
since_apart count all None (Some n) e = absurd e
since_apart count all (Some m) None e = absurd e

pub counted-kept : (events : List Event) (count : ℕ) (since_of : Path × ℕ → ℕ) → IsCounted events count since_of
    → kept events ≡ since count (least_of (map since_of (readers_in (run events))))
counted-kept events count since_of counted =
    kept_is events
    ∙ since_apart count (retired_by opening events) _ _
    (apart_least count (retired_by opening events) (λ r. retired_before r opening events) since_of (has_reader (run events)) counted
    (readers_in (run events)) (all_open (run events)))

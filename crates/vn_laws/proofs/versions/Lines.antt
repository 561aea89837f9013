-- A reader's lines are those of its Open, without those that were read.
use Rattle.std.proofs.Common.{◌≡◌, ℕ, Bool, true, false, not, List, [], ◌∷◌, ◌++◌, map, drop, cond, Option, Some, None, refl, sym, ap, ◌∙◌}
use Rattle.std.specs.Prelude.{filter, find, ◌==◌, if◌then◌else◌}
use Rattle.std.specs.Option.{is_some, is_none, option_map}
use Rattle.std.proofs.lemmas.Bool.{true≢false}
use Rattle.std.proofs.lemmas.Bool.Decides.{Decides-eqb}
use Rattle.vn_types.specs.declared.errno.Errno.TheVariants as errno
use Rattle.vn_types.specs.Refusals.{first_refusal}
use Rattle.vn_rules.specs.declared.outcome.Outcome.TheVariants.{Value}
use Rattle.vn_rules.specs.Rules.{answer, answer_by, done}
use Rattle.vn_cells.specs.declared.world.Reader.{Reader}
use Rattle.vn_cells.specs.machine.Readers.{is_reader_of, reader_of, lines_in, line_or_end, with_reader, open_rule, read_on, next_rule, close_rule}

-- a lane's reader with some lines
abbrev pub reader : ℕ → List (List ℕ) → Reader
reader lane lines = record { lane = lane; lines = lines }

some_none : {T : Type 0} {x : T} → Some x ≡ None → ⊥
some_none e = cc

module _ (lane : ℕ) where
  -- ---- the lane's reader in a list

  found-append : (rs more : List Reader) (r : Reader) → reader_of lane rs ≡ Some r → reader_of lane (rs ++ more) ≡ Some r
  unfolding reader_of
  found-append [] more r e = cc
  found-append (x ∷ rs) more r e = by (x.lane == lane) e (found-append rs more r)
    where
      by : (b : Bool) → cond b (Some x) (find (is_reader_of lane) rs) ≡ Some r
          → (find (is_reader_of lane) rs ≡ Some r → find (is_reader_of lane) (rs ++ more) ≡ Some r)
          → cond b (Some x) (find (is_reader_of lane) (rs ++ more)) ≡ Some r
      by true e rest = e
      by false e rest = rest e

  found-last : (rs : List Reader) (lines : List (List ℕ)) → reader_of lane rs ≡ None
      → reader_of lane (with_reader lane lines rs) ≡ Some (reader lane lines)
  unfolding reader_of
  found-last [] lines e =
      ap (λ b. cond b (Some (reader lane lines)) None) ((Decides-eqb lane lane).1 refl)
  found-last (x ∷ rs) lines e = by (x.lane == lane) e (found-last rs lines)
    where
      by : (b : Bool) → cond b (Some x) (find (is_reader_of lane) rs) ≡ None
          → (find (is_reader_of lane) rs ≡ None → find (is_reader_of lane) (with_reader lane lines rs) ≡ Some (reader lane lines))
          → cond b (Some x) (find (is_reader_of lane) (with_reader lane lines rs)) ≡ Some (reader lane lines)
      by true e rest = cc
      by false e rest = rest e

  same_lane : (own : ℕ) (r : Reader) → (read_on own r).lane ≡ r.lane
  unfolding read_on
  same_lane own r = by (r.lane == own)
    where
      by : (b : Bool) → (if b then record r { lines = drop 1 r.lines } else r).lane ≡ r.lane
      by true = refl
      by false = refl

  found-read_on : (own : ℕ) (rs : List Reader) → reader_of lane (map (read_on own) rs) ≡ option_map (read_on own) (reader_of lane rs)
  unfolding reader_of
  found-read_on own [] = refl
  found-read_on own (x ∷ rs) =
      ap (λ n. cond (n == lane) (Some (read_on own x)) (find (is_reader_of lane) (map (read_on own) rs))) (same_lane own x)
      ∙ by (x.lane == lane) (found-read_on own rs)
    where
      by : (b : Bool) → find (is_reader_of lane) (map (read_on own) rs) ≡ option_map (read_on own) (find (is_reader_of lane) rs)
          → cond b (Some (read_on own x)) (find (is_reader_of lane) (map (read_on own) rs)) ≡ option_map (read_on own) (cond b (Some x) (find (is_reader_of lane) rs))
      by true rest = refl
      by false rest = rest

  found-closed : (own : ℕ) → (own == lane) ≡ false → (rs : List Reader)
      → reader_of lane (filter (λ r. not (is_reader_of own r)) rs) ≡ reader_of lane rs
  unfolding reader_of
  found-closed own apart [] = refl
  found-closed own apart (x ∷ rs) = by (x.lane == own) refl (found-closed own apart rs)
    where
      kept : List Reader
      kept = filter (λ r. not (is_reader_of own r)) rs

      by : (b : Bool) → (x.lane == own) ≡ b → find (is_reader_of lane) kept ≡ find (is_reader_of lane) rs
          → find (is_reader_of lane) (cond (not b) (x ∷ kept) kept) ≡ cond (x.lane == lane) (Some x) (find (is_reader_of lane) rs)
      by true e rest =
          rest
          ∙ ap (λ c. cond c (Some x) (find (is_reader_of lane) rs))
          (sym (ap (λ n. n == lane) ((Decides-eqb x.lane own).0 e) ∙ apart))
      by false e rest = ap (cond (x.lane == lane) (Some x)) rest

  -- ---- after an event of some lane at the same path

  pub open-keeps : (own : ℕ) (o : Option (List (List ℕ))) (rs : List Reader) (r : Reader) → reader_of lane rs ≡ Some r
      → reader_of lane (answer rs (open_rule own o rs)).left ≡ Some r
  unfolding open_rule answer_by
  open-keeps own None rs r e = e
  open-keeps own (Some lines) rs r e = by (is_some (reader_of own rs))
    where
      by : (b : Bool) → reader_of lane (answer_by (first_refusal ((b, errno.Exist) ∷ [])) rs (done (with_reader own lines rs))).left ≡ Some r
      by true = e
      by false = found-append rs (reader own lines ∷ []) r e

  pub open-made : (o : Option (List (List ℕ))) (lines : List (List ℕ)) (rs : List Reader) → o ≡ Some lines
      → first_refusal (open_rule lane o rs).refusals ≡ None → reader_of lane (answer rs (open_rule lane o rs)).left ≡ Some (reader lane lines)
  unfolding open_rule answer_by
  open-made None lines rs e f = cc
  open-made (Some some) lines rs e f = by (reader_of lane rs) refl f
    where
      same : some ≡ lines
      same = cc

      by : (o : Option Reader) → reader_of lane rs ≡ o → first_refusal ((is_some o, errno.Exist) ∷ []) ≡ None
          → reader_of lane (answer_by (first_refusal ((is_some o, errno.Exist) ∷ [])) rs (done (with_reader lane some rs))).left ≡ Some (reader lane lines)
      by None e f = found-last rs some e ∙ ap (λ l. Some (reader lane l)) same
      by (Some r) e f = cc

  -- what a reader has after a Next of some lane
  abbrev pub lines_after : ℕ → List (List ℕ) → List (List ℕ)
  lines_after own lines = if own == lane then drop 1 lines else lines

  read_after : (own : ℕ) (lines : List (List ℕ)) → read_on own (reader lane lines) ≡ reader lane (lines_after own lines)
  unfolding read_on
  read_after own lines = by (lane == own) (own == lane) refl refl
    where
      by : (a b : Bool) → (lane == own) ≡ a → (own == lane) ≡ b
          → (if a then reader lane (drop 1 lines) else reader lane lines) ≡ reader lane (if b then drop 1 lines else lines)
      by true true e f = refl
      by false false e f = refl
      by true false e f = absurd (true≢false (sym ((Decides-eqb own lane).1 (sym ((Decides-eqb lane own).0 e))) ∙ f))
      by false true e f = absurd (true≢false (sym ((Decides-eqb lane own).1 (sym ((Decides-eqb own lane).0 f))) ∙ e))

  pub next-keeps : (own : ℕ) (rs : List Reader) (lines : List (List ℕ)) → reader_of lane rs ≡ Some (reader lane lines)
      → reader_of lane (answer rs (next_rule own rs)).left ≡ Some (reader lane (lines_after own lines))
  unfolding next_rule answer_by
  next-keeps own rs lines e = by (reader_of own rs) refl
    where
      read : reader_of lane (map (read_on own) rs) ≡ Some (reader lane (lines_after own lines))
      read = found-read_on own rs ∙ ap (option_map (read_on own)) e ∙ ap Some (read_after own lines)

      -- a lane without a reader is another
      apart : reader_of own rs ≡ None → (own == lane) ≡ false
      apart none = other (own == lane) refl
        where
          other : (b : Bool) → (own == lane) ≡ b → b ≡ false
          other false f = refl
          other true f = absurd (some_none (sym e ∙ ap (λ n. reader_of n rs) (sym ((Decides-eqb own lane).0 f)) ∙ none))

      by : (o : Option Reader) → reader_of own rs ≡ o
          → reader_of lane (answer_by (first_refusal ((is_none o, errno.BadF) ∷ [])) rs (record { left = map (read_on own) rs; outcome = Value (line_or_end (lines_in o)) })).left
          ≡ Some (reader lane (lines_after own lines))
      by None none = e ∙ ap (λ b. Some (reader lane (if b then drop 1 lines else lines))) (sym (apart none))
      by (Some r) some = read

  pub close-keeps : (own : ℕ) (rs : List Reader) (r : Reader) → (own == lane) ≡ false → reader_of lane rs ≡ Some r
      → reader_of lane (answer rs (close_rule own rs)).left ≡ Some r
  unfolding close_rule answer_by
  close-keeps own rs r apart e = by (is_none (reader_of own rs))
    where
      by : (b : Bool) → reader_of lane (answer_by (first_refusal ((b, errno.BadF) ∷ [])) rs (done (filter (λ x. not (is_reader_of own x)) rs))).left ≡ Some r
      by true = e
      by false = found-closed own apart rs ∙ e

  pub next-outcome : (rs : List Reader) (lines : List (List ℕ)) → reader_of lane rs ≡ Some (reader lane lines)
      → (answer rs (next_rule lane rs)).outcome ≡ Value (line_or_end lines)
  unfolding next_rule answer_by
  next-outcome rs lines e =
      ap (λ o. (answer_by (first_refusal ((is_none o, errno.BadF) ∷ [])) rs (record { left = map (read_on lane) rs; outcome = Value (line_or_end (lines_in o)) })).outcome) e

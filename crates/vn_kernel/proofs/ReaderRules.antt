-- The rules of readers over what the kernel keeps of them.
use Rattle.std.proofs.Common.{◌≡◌, ◌⊎◌, inl, ℕ, ◌==◌, Bool, true, false, List, [], ◌∷◌, ◌++◌, map, Option, Some, None, refl, sym, ap, ◌∙◌, subst}
use Rattle.std.specs.Prelude.{not, filter, drop, if◌then◌else◌}
use Rattle.std.specs.Option.{is_some, is_none, option_map}
use Rattle.std.proofs.lemmas.Bool.{eqb-true}
use Rattle.vn_types.specs.declared.errno.Errno.TheVariants as errno
use Rattle.vn_types.specs.Refusals.{first_refusal}
use Rattle.vn_rules.specs.declared.outcome.Outcome.TheVariants.{Value}
use Rattle.vn_rules.specs.Rules.{Answer, answer, answer_by, done, refused}
use Rattle.vn_cells.specs.declared.world.Reader.{Reader}
use Rattle.vn_cells.specs.machine.Readers.{close_rule, is_reader_of, line_or_end, lines_in, next_rule, open_rule, read_on as reads_on, reader_of}
use Rattle.vn_kernel.specs.Readers.{OpenReader, is_of, of_lane, read_on, reader_by, without}

-- ---- a lane's reader

-- the machine's is the kernel's
pub reader-is : (lane : ℕ) (rs : List OpenReader) → reader_of lane (map reader_by rs) ≡ option_map reader_by (of_lane lane rs)
unfolding reader_of of_lane
reader-is lane [] = refl
reader-is lane (r ∷ rs) = by (is_of lane r) (reader-is lane rs)
  where
    by : (b : Bool) → reader_of lane (map reader_by rs) ≡ option_map reader_by (of_lane lane rs)
        → (if b then Some (reader_by r) else reader_of lane (map reader_by rs)) ≡ option_map reader_by (if b then Some r else of_lane lane rs)
    by true more = refl
    by false more = more

-- the first, or one of the others
of_lane-first : (lane : ℕ) (r : OpenReader) (rs : List OpenReader) → of_lane lane (r ∷ rs) ≡ (if is_of lane r then Some r else of_lane lane rs)
unfolding of_lane
of_lane-first lane r rs = refl

-- where the first is not its own and the others aren't
none-first : (lane : ℕ) (r : OpenReader) (rs : List OpenReader) → of_lane lane (r ∷ rs) ≡ None → (is_of lane r ≡ false) × (of_lane lane rs ≡ None)
none-first lane r rs none = by (is_of lane r) (sym (of_lane-first lane r rs) ∙ none)
  where
    by : (b : Bool) → ◌≡◌ {A = Option OpenReader} (if b then Some r else of_lane lane rs) None → (b ≡ false) × (of_lane lane rs ≡ None)
    by true is = cc
    by false is = (refl, is)

-- ---- a line is read

reads-one : (lane : ℕ) (r : OpenReader) → reads_on lane (reader_by r) ≡ reader_by (read_on lane r)
unfolding reads_on read_on
reads-one lane r = by (is_of lane r)
  where
    by : (b : Bool) → ◌≡◌ {A = Reader} (if b then record (reader_by r) { lines = drop 1 r.lines } else reader_by r) (reader_by (if b then record r { lines = drop 1 r.lines } else r))
    by true = refl
    by false = refl

pub reads-all : (lane : ℕ) (rs : List OpenReader) → map (reads_on lane) (map reader_by rs) ≡ map reader_by (map (read_on lane) rs)
reads-all lane [] = refl
reads-all lane (r ∷ rs) = λ i. reads-one lane r i ∷ reads-all lane rs i

pub reads-none : (lane : ℕ) (rs : List OpenReader) → of_lane lane rs ≡ None → map (read_on lane) rs ≡ rs
unfolding read_on
reads-none lane [] none = refl
reads-none lane (r ∷ rs) none =
    let parts = none-first lane r rs none in
    λ i. (if parts.0 i then record r { lines = drop 1 r.lines } else r) ∷ reads-none lane rs parts.1 i

-- a reader is the lane's still
same-lane : (lane l : ℕ) (r : OpenReader) → is_of l (read_on lane r) ≡ is_of l r
unfolding read_on
same-lane lane l r = by (is_of lane r)
  where
    by : (b : Bool) → is_of l (if b then record r { lines = drop 1 r.lines } else r) ≡ is_of l r
    by true = refl
    by false = refl

-- and keeps its count
same-since : (lane : ℕ) (r : OpenReader) → (read_on lane r).since ≡ r.since
unfolding read_on
same-since lane r = by (is_of lane r)
  where
    by : (b : Bool) → (if b then record r { lines = drop 1 r.lines } else r).since ≡ r.since
    by true = refl
    by false = refl

abbrev since : Option OpenReader → Option ℕ
since o = option_map (λ (r : OpenReader). r.since) o

pub since-reads : (lane l : ℕ) (rs : List OpenReader) → since (of_lane l (map (read_on lane) rs)) ≡ since (of_lane l rs)
unfolding of_lane
since-reads lane l [] = refl
since-reads lane l (r ∷ rs) =
    ap (λ b. since (if b then Some (read_on lane r) else of_lane l (map (read_on lane) rs))) (same-lane lane l r)
    ∙ by (is_of l r) (since-reads lane l rs)
  where
    by : (b : Bool) → since (of_lane l (map (read_on lane) rs)) ≡ since (of_lane l rs)
        → since (if b then Some (read_on lane r) else of_lane l (map (read_on lane) rs)) ≡ since (if b then Some r else of_lane l rs)
    by true more = ap Some (same-since lane r)
    by false more = more

-- ---- one is closed

pub closes-all : (lane : ℕ) (rs : List OpenReader) → filter (λ reader. not (is_reader_of lane reader)) (map reader_by rs) ≡ map reader_by (without lane rs)
closes-all lane [] = refl
closes-all lane (r ∷ rs) = by (is_of lane r) (closes-all lane rs)
  where
    by : (b : Bool) → filter (λ reader. not (is_reader_of lane reader)) (map reader_by rs) ≡ map reader_by (without lane rs)
        → (if not b then reader_by r ∷ filter (λ reader. not (is_reader_of lane reader)) (map reader_by rs) else filter (λ reader. not (is_reader_of lane reader)) (map reader_by rs))
        ≡ map reader_by (if not b then r ∷ without lane rs else without lane rs)
    by true more = more
    by false more = ap (λ rs. reader_by r ∷ rs) more

pub closes-none : (lane : ℕ) (rs : List OpenReader) → of_lane lane rs ≡ None → without lane rs ≡ rs
closes-none lane [] none = refl
closes-none lane (r ∷ rs) none =
    let parts = none-first lane r rs none in
    λ i. if not (parts.0 i) then r ∷ closes-none lane rs parts.1 i else closes-none lane rs parts.1 i

-- the lane has none then
gone : (lane : ℕ) (rs : List OpenReader) → of_lane lane (without lane rs) ≡ None
unfolding of_lane
gone lane [] = refl
gone lane (r ∷ rs) = by (is_of lane r) refl (gone lane rs)
  where
    by : (b : Bool) → is_of lane r ≡ b → of_lane lane (without lane rs) ≡ None → of_lane lane (if not b then r ∷ without lane rs else without lane rs) ≡ None
    by true own more = more
    by false other more = ap (λ b. if b then Some r else of_lane lane (without lane rs)) other ∙ more

none_some : (n : ℕ) → ◌≡◌ {A = Option ℕ} None (Some n) → ⊥
none_some n e = cc

-- a reader that is left was there
pub since-closes : (lane l n : ℕ) (rs : List OpenReader) → since (of_lane l (without lane rs)) ≡ Some n → since (of_lane l rs) ≡ Some n
unfolding of_lane
since-closes lane l n [] is = is
since-closes lane l n (r ∷ rs) is = by (is_of lane r) (is_of l r) refl refl is (since-closes lane l n rs)
  where
    by : (b c : Bool) → is_of lane r ≡ b → is_of l r ≡ c → since (of_lane l (if not b then r ∷ without lane rs else without lane rs)) ≡ Some n
        → (since (of_lane l (without lane rs)) ≡ Some n → since (of_lane l rs) ≡ Some n) → since (if c then Some r else of_lane l rs) ≡ Some n
    by true true own of is more =
        let same : l ≡ lane = sym (eqb-true r.lane l of) ∙ eqb-true r.lane lane own in
        absurd (none_some n (sym (ap since (ap (λ k. of_lane k (without lane rs)) same ∙ gone lane rs)) ∙ is))
    by true false own of is more = more is
    by false true own of is more = sym (ap (λ b. since (if b then Some r else of_lane l (without lane rs))) of) ∙ is
    by false false own of is more = more (sym (ap (λ b. since (if b then Some r else of_lane l (without lane rs))) of) ∙ is)

-- ---- what they are answered

module _ (lane : ℕ) (rs : List OpenReader) where
  abbrev named : List Reader
  named = map reader_by rs

  missing : of_lane lane rs ≡ None → is_none (reader_of lane (map reader_by rs)) ≡ true
  missing none = ap is_none (reader-is lane rs ∙ ap (option_map reader_by) none)

  there : (r : OpenReader) → of_lane lane rs ≡ Some r → is_none (reader_of lane (map reader_by rs)) ≡ false
  there r is = ap is_none (reader-is lane rs ∙ ap (option_map reader_by) is)

  pub next-refused : of_lane lane rs ≡ None → answer (map reader_by rs) (next_rule lane (map reader_by rs)) ≡ refused errno.BadF (map reader_by rs)
  unfolding next_rule answer_by
  next-refused none = ap (λ b. answer_by (first_refusal ((b, errno.BadF) ∷ [])) (map reader_by rs) (next_rule lane (map reader_by rs)).otherwise) (missing none)

  pub next-done : (r : OpenReader) → of_lane lane rs ≡ Some r
      → answer (map reader_by rs) (next_rule lane (map reader_by rs)) ≡ record { left = map reader_by (map (read_on lane) rs); outcome = Value (line_or_end r.lines) }
  unfolding next_rule answer_by
  next-done r is =
      ap (λ b. answer_by (first_refusal ((b, errno.BadF) ∷ [])) (map reader_by rs) (next_rule lane (map reader_by rs)).otherwise) (there r is)
      ∙ (λ i. record { left = reads-all lane rs i; outcome = Value (line_or_end (lines_in ((reader-is lane rs ∙ ap (option_map reader_by) is) i))) })

  pub close-refused : of_lane lane rs ≡ None → answer (map reader_by rs) (close_rule lane (map reader_by rs)) ≡ refused errno.BadF (map reader_by rs)
  unfolding close_rule answer_by
  close-refused none = ap (λ b. answer_by (first_refusal ((b, errno.BadF) ∷ [])) (map reader_by rs) (close_rule lane (map reader_by rs)).otherwise) (missing none)

  pub close-done : (r : OpenReader) → of_lane lane rs ≡ Some r
      → answer (map reader_by rs) (close_rule lane (map reader_by rs)) ≡ done (map reader_by (without lane rs))
  unfolding close_rule answer_by
  close-done r is =
      ap (λ b. answer_by (first_refusal ((b, errno.BadF) ∷ [])) (map reader_by rs) (close_rule lane (map reader_by rs)).otherwise) (there r is)
      ∙ ap done (closes-all lane rs)

  -- an Open, of a table with some lines
  pub open-dead : answer (map reader_by rs) (open_rule lane None (map reader_by rs)) ≡ refused errno.NoEnt (map reader_by rs)
  unfolding open_rule answer_by
  open-dead = refl

  pub open-refused : (lines : List (List ℕ)) (r : OpenReader) → of_lane lane rs ≡ Some r
      → answer (map reader_by rs) (open_rule lane (Some lines) (map reader_by rs)) ≡ refused errno.Exist (map reader_by rs)
  unfolding open_rule answer_by
  open-refused lines r is =
      ap (λ o. answer_by (first_refusal ((is_some o, errno.Exist) ∷ [])) (map reader_by rs) (open_rule lane (Some lines) (map reader_by rs)).otherwise) (reader-is lane rs ∙ ap (option_map reader_by) is)

  pub open-done : (lines : List (List ℕ)) (n : ℕ) → of_lane lane rs ≡ None
      → answer (map reader_by rs) (open_rule lane (Some lines) (map reader_by rs)) ≡ done (map reader_by (rs ++ record { lane = lane; lines = lines; since = n } ∷ []))
  unfolding open_rule answer_by
  open-done lines n none =
      ap (λ o. answer_by (first_refusal ((is_some o, errno.Exist) ∷ [])) (map reader_by rs) (open_rule lane (Some lines) (map reader_by rs)).otherwise) (reader-is lane rs ∙ ap (option_map reader_by) none)
      ∙ ap done (one-more rs)
    where
      one-more : (rs : List OpenReader) → map reader_by rs ++ record { lane = lane; lines = lines } ∷ [] ≡ map reader_by (rs ++ record { lane = lane; lines = lines; since = n } ∷ [])
      one-more [] = refl
      one-more (r ∷ rs) = ap (λ xs. reader_by r ∷ xs) (one-more rs)

-- The readers of one path are others, and nothing else.
use Rattle.std.proofs.Common.{◌≡◌, ◌≢◌, ◌⊎◌, inl, ℕ, Bool, true, false, List, [], ◌∷◌, ◌++◌, map, Option, Some, None, refl, sym, ap, ◌∙◌, subst}
use Rattle.std.specs.Prelude.{codes, is_some, slice_get, unwrap_or, if◌then◌else◌}
use Rattle.std.specs.BTreeMap.{is_at}
use Rattle.std.specs.List.Sorted.{IsStrictlySortedBy}
use Rattle.std.specs.Map.{keys_of, lookup, set_value}
use Rattle.std.specs.Option.{option_map}
use Rattle.std.proofs.lemmas.Bool.{false_from_ne_true, false≢true}
use Rattle.vn_types.specs.Entries.{find, put}
use Rattle.vn_types.specs.Paths.{Path, path_cmp, path_eq}
use Rattle.vn_types.specs.PathOrder.{path_eq-Decides, path_ties, path_total}
use Rattle.vn_types.proofs.EntryLaws.{find-put, set_value-insert_entry, sorted-put}
use Rattle.vn_types.specs.declared.errno.Errno.{Errno}
use Rattle.vn_types.specs.declared.errno.Errno.TheVariants as errno
use Rattle.vn_rules.specs.declared.outcome.Outcome.{Outcome}
use Rattle.vn_rules.specs.declared.outcome.Outcome.TheVariants.{Done, Refused, Value}
use Rattle.vn_rules.specs.Rules.{Answer, answer, done, refused}
use Rattle.vn_cells.specs.declared.world.Reader.{Reader}
use Rattle.vn_kernel.specs.Fields.{Fields}
use Rattle.vn_cells.specs.machine.Readers.{close_rule, line_or_end, next_rule}
use Rattle.vn_kernel.specs.Readers.{OpenReader, next_line, of_lane, read_on, reader_by, without}
use Rattle.vn_kernel.specs.Reading.{Reads, ReadsBy, since_at}
use Rattle.vn_kernel.specs.Stands.{AreRead, Stands}
use Rattle.vn_kernel.specs.Worlds.{readers_of}
use Rattle.vn_kernel.proofs.ReaderRules.{close-done, close-refused, closes-none, next-done, next-refused, reads-none, since-closes, since-reads}

-- what is refused leaves all as it was
pub reads-refused : (f : Fields) (p : Path) → Stands f → (a : Answer (List Reader)) (e : Errno) → a ≡ refused e (readers_of f p) → Reads p a (Refused e) f f
reads-refused f p s a e is = subst (λ a. Reads p a (Refused e) f f) (sym is) (record {
  outcome = refl;
  own = refl;
  elsewhere = λ q ne. refl;
  since = λ q lane n is. inl is;
  read = s.read;
  others = refl;
})

module _ (f : Fields) (s : Stands f) (p : Path) (listed : is_some (find path_cmp p f.logs) ≡ true) (new : List OpenReader) where
  -- what is kept then
  abbrev pub read_so : Fields
  read_so = record f { readers = put path_cmp p new f.readers }

  found : (q : Path) → find path_cmp q (put path_cmp p new f.readers) ≡ (if path_eq q p then Some new else find path_cmp q f.readers)
  found q = find-put path_cmp path_eq-Decides path_ties p new f.readers q

  found-own : find path_cmp p (put path_cmp p new f.readers) ≡ Some new
  found-own = found p ∙ ap (λ b. if b then Some new else find path_cmp p f.readers) ((path_eq-Decides p p).1 refl)

  found-other : (q : Path) → q ≢ p → find path_cmp q (put path_cmp p new f.readers) ≡ find path_cmp q f.readers
  found-other q ne = found q ∙ ap (λ b. if b then Some new else find path_cmp q f.readers) (false_from_ne_true (path_eq q p) (λ e. ne ((path_eq-Decides q p).0 e)))

  unlisted : (q : Path) → is_some (find path_cmp q f.logs) ≡ false → q ≢ p
  unlisted q none same = false≢true (sym none ∙ ap (λ r. is_some (find path_cmp r f.logs)) same ∙ listed)

  still-read : AreRead f.logs (put path_cmp p new f.readers)
  still-read = record {
    listed = λ q none. found-other q (unlisted q none) ∙ s.read.listed q none;
    rise = sorted-put path_cmp path_total p new f.readers s.read.rise;
  }

  abbrev Since : Type 0
  Since = (lane n : ℕ) → option_map (λ (r : OpenReader). r.since) (of_lane lane new) ≡ Some n → (since_at f p lane ≡ Some n) ⊎ ((since_at f p lane ≡ None) × (n ≡ f.retired))

  since-so : Since → (q : Path) (lane n : ℕ) → since_at read_so q lane ≡ Some n → (since_at f q lane ≡ Some n) ⊎ ((since_at f q lane ≡ None) × (n ≡ f.retired))
  since-so own q lane n is = by (path_eq q p) refl
    where
      by : (b : Bool) → path_eq q p ≡ b → (since_at f q lane ≡ Some n) ⊎ ((since_at f q lane ≡ None) × (n ≡ f.retired))
      by true same =
          let e : q ≡ p = (path_eq-Decides q p).0 same in
          subst (λ r. (since_at f r lane ≡ Some n) ⊎ ((since_at f r lane ≡ None) × (n ≡ f.retired))) (sym e)
          (own lane n (sym (ap (λ o. option_map (λ (r : OpenReader). r.since) (of_lane lane (unwrap_or o []))) (ap (λ r. find path_cmp r (put path_cmp p new f.readers)) e ∙ found-own)) ∙ is))
      by false other =
          inl (sym (ap (λ o. option_map (λ (r : OpenReader). r.since) (of_lane lane (unwrap_or o []))) (found-other q (λ e. false≢true (sym other ∙ (path_eq-Decides q p).1 e)))) ∙ is)

  pub reads-done : (a : Answer (List Reader)) (given : Outcome) → given ≡ a.outcome → map reader_by new ≡ a.left → Since → Reads p a given f read_so
  reads-done a given is left since = record {
    outcome = is;
    own = ap (λ o. map reader_by (unwrap_or o [])) found-own ∙ left;
    elsewhere = found-other;
    since = since-so since;
    read = still-read;
    others = refl;
  }

-- a path that is read has a transcript
pub read-listed : (f : Fields) → Stands f → (p : Path) (rs : List OpenReader) → find path_cmp p f.readers ≡ Some rs → is_some (find path_cmp p f.logs) ≡ true
read-listed f s p rs is = by (is_some (find path_cmp p f.logs)) refl
  where
    none_some : ◌≡◌ {A = Option (List OpenReader)} None (Some rs) → ⊥
    none_some e = cc

    by : (b : Bool) → is_some (find path_cmp p f.logs) ≡ b → b ≡ true
    by true e = refl
    by false e = absurd (none_some (sym (s.read.listed p e) ∙ is))

-- the readers of a path that is read are set
pub set-read : (p : Path) (readers : List (Path × List OpenReader)) (old new : List OpenReader) → IsStrictlySortedBy path_cmp (keys_of readers) → Some old ≡ lookup (is_at (path_cmp p)) readers
    → set_value (is_at (path_cmp p)) readers new ≡ put path_cmp p new readers
unfolding put
set-read p readers old new sorted there = set_value-insert_entry path_cmp path_total p readers old new sorted (sym there)

-- what a look-up by path finds
pub found-by : (p : Path) (readers : List (Path × List OpenReader)) (o : Option (List OpenReader)) → o ≡ lookup (is_at (path_cmp p)) readers → find path_cmp p readers ≡ o
unfolding find
found-by p readers o is = sym is

-- ---- by their rules

-- what is told of the next line
abbrev pub told_line : Option (Option (List ℕ)) → Outcome
told_line None = Refused errno.BadF
told_line (Some None) = Value (codes "end")
told_line (Some (Some line)) = Value line

-- and of one that is closed
abbrev pub told_end : Bool → Outcome
told_end true = Done
told_end false = Refused errno.BadF

module _ (f : Fields) (s : Stands f) (p : Path) (lane : ℕ) where
  -- a path at which none is open
  module _ (none : find path_cmp p f.readers ≡ None) where
    nothing : readers_of f p ≡ []
    nothing = ap (λ o. map reader_by (unwrap_or o [])) none

    pub next-absent : ReadsBy (next_rule lane) p (Refused errno.BadF) f f
    unfolding of_lane
    next-absent = reads-refused f p s (answer (readers_of f p) (next_rule lane (readers_of f p))) errno.BadF
        (ap (λ rs. answer rs (next_rule lane rs)) nothing ∙ next-refused lane [] refl ∙ sym (ap (refused errno.BadF) nothing))

    pub close-absent : ReadsBy (close_rule lane) p (Refused errno.BadF) f f
    unfolding of_lane
    close-absent = reads-refused f p s (answer (readers_of f p) (close_rule lane (readers_of f p))) errno.BadF
        (ap (λ rs. answer rs (close_rule lane rs)) nothing ∙ close-refused lane [] refl ∙ sym (ap (refused errno.BadF) nothing))

  -- one at which some are, or were
  module _ (old : List OpenReader) (there : find path_cmp p f.readers ≡ Some old) where
    here : readers_of f p ≡ map reader_by old
    here = ap (λ o. map reader_by (unwrap_or o [])) there

    since-here : (l : ℕ) → since_at f p l ≡ option_map (λ (r : OpenReader). r.since) (of_lane l old)
    since-here l = ap (λ o. option_map (λ (r : OpenReader). r.since) (of_lane l (unwrap_or o []))) there

    listed : is_some (find path_cmp p f.logs) ≡ true
    listed = read-listed f s p old there

    module _ (new : List OpenReader) (next : new ≡ map (read_on lane) old) where
      next-by : (a : Answer (List Reader)) (given : Outcome) → given ≡ a.outcome → map reader_by (map (read_on lane) old) ≡ a.left
          → answer (readers_of f p) (next_rule lane (readers_of f p)) ≡ a → ReadsBy (next_rule lane) p given f (record f { readers = put path_cmp p new f.readers })
      next-by a given is left answered = subst (λ a. Reads p a given f (record f { readers = put path_cmp p new f.readers })) (sym answered)
          (reads-done f s p listed new a given is (ap (map reader_by) next ∙ left)
          (λ l n is. inl (since-here l ∙ sym (since-reads lane l old) ∙ sym (ap (λ rs. option_map (λ (r : OpenReader). r.since) (of_lane l rs)) next) ∙ is)))

      by_rule : answer (readers_of f p) (next_rule lane (readers_of f p)) ≡ answer (map reader_by old) (next_rule lane (map reader_by old))
      by_rule = ap (λ rs. answer rs (next_rule lane rs)) here

      next-one : (r : OpenReader) → of_lane lane old ≡ Some r → (lines : List (List ℕ)) → r.lines ≡ lines → ReadsBy (next_rule lane) p (told_line (Some (slice_get lines 0))) f (record f { readers = put path_cmp p new f.readers })
      next-one r is [] end = next-by (record { left = map reader_by (map (read_on lane) old); outcome = Value (line_or_end r.lines) }) (Value (codes "end")) (sym (ap (λ ls. Value (line_or_end ls)) end)) refl (by_rule ∙ next-done lane old r is)
      next-one r is (line ∷ lines) more = next-by (record { left = map reader_by (map (read_on lane) old); outcome = Value (line_or_end r.lines) }) (Value line) (sym (ap (λ ls. Value (line_or_end ls)) more)) refl (by_rule ∙ next-done lane old r is)

      pub next-told : (o : Option (Option (List ℕ))) → o ≡ next_line lane old → ReadsBy (next_rule lane) p (told_line o) f (record f { readers = put path_cmp p new f.readers })
      next-told o is = subst (λ o. ReadsBy (next_rule lane) p (told_line o) f (record f { readers = put path_cmp p new f.readers })) (sym is) (by (of_lane lane old) refl)
        where
          by : (o : Option OpenReader) → of_lane lane old ≡ o → ReadsBy (next_rule lane) p (told_line (option_map (λ (r : OpenReader). slice_get r.lines 0) o)) f (record f { readers = put path_cmp p new f.readers })
          by None is = next-by (refused errno.BadF (map reader_by old)) (Refused errno.BadF) refl (ap (map reader_by) (reads-none lane old is)) (by_rule ∙ next-refused lane old is)
          by (Some r) is = next-one r is r.lines refl

    module _ (new : List OpenReader) (closed : new ≡ without lane old) where
      close-by : (a : Answer (List Reader)) (given : Outcome) → given ≡ a.outcome → map reader_by (without lane old) ≡ a.left
          → answer (readers_of f p) (close_rule lane (readers_of f p)) ≡ a → ReadsBy (close_rule lane) p given f (record f { readers = put path_cmp p new f.readers })
      close-by a given is left answered = subst (λ a. Reads p a given f (record f { readers = put path_cmp p new f.readers })) (sym answered)
          (reads-done f s p listed new a given is (ap (map reader_by) closed ∙ left)
          (λ l n is. inl (since-here l ∙ since-closes lane l n old (sym (ap (λ rs. option_map (λ (r : OpenReader). r.since) (of_lane l rs)) closed) ∙ is))))

      pub close-told : (b : Bool) → b ≡ is_some (of_lane lane old) → ReadsBy (close_rule lane) p (told_end b) f (record f { readers = put path_cmp p new f.readers })
      close-told b is = subst (λ b. ReadsBy (close_rule lane) p (told_end b) f (record f { readers = put path_cmp p new f.readers })) (sym is) (by (of_lane lane old) refl)
        where
          by : (o : Option OpenReader) → of_lane lane old ≡ o → ReadsBy (close_rule lane) p (told_end (is_some o)) f (record f { readers = put path_cmp p new f.readers })
          by None is = close-by (refused errno.BadF (map reader_by old)) (Refused errno.BadF) refl (ap (map reader_by) (closes-none lane old is)) (ap (λ rs. answer rs (close_rule lane rs)) here ∙ close-refused lane old is)
          by (Some r) is = close-by (done (map reader_by (without lane old))) Done refl refl (ap (λ rs. answer rs (close_rule lane rs)) here ∙ close-done lane old r is)

-- the same of readers that are these
pub next-answered : (f : Fields) → Stands f → (p : Path) (lane : ℕ) (old new : List OpenReader) → IsStrictlySortedBy path_cmp (keys_of f.readers) → Some old ≡ lookup (is_at (path_cmp p)) f.readers
    → new ≡ map (read_on lane) old → (o : Option (Option (List ℕ))) → o ≡ next_line lane old → (given : Outcome) → told_line o ≡ given
    → (rs : List (Path × List OpenReader)) → rs ≡ set_value (is_at (path_cmp p)) f.readers new → ReadsBy (next_rule lane) p given f (record f { readers = rs })
next-answered f s p lane old new sorted there next o is given told rs set =
    subst (λ rs. ReadsBy (next_rule lane) p given f (record f { readers = rs })) (sym (set ∙ set-read p f.readers old new sorted there))
    (subst (λ given. ReadsBy (next_rule lane) p given f (record f { readers = put path_cmp p new f.readers })) told (next-told f s p lane old (found-by p f.readers (Some old) there) new next o is))

pub close-answered : (f : Fields) → Stands f → (p : Path) (lane : ℕ) (old new : List OpenReader) → IsStrictlySortedBy path_cmp (keys_of f.readers) → Some old ≡ lookup (is_at (path_cmp p)) f.readers
    → new ≡ without lane old → (b : Bool) → b ≡ is_some (of_lane lane old) → (given : Outcome) → told_end b ≡ given
    → (rs : List (Path × List OpenReader)) → rs ≡ set_value (is_at (path_cmp p)) f.readers new → ReadsBy (close_rule lane) p given f (record f { readers = rs })
close-answered f s p lane old new sorted there closed b is given told rs set =
    subst (λ rs. ReadsBy (close_rule lane) p given f (record f { readers = rs })) (sym (set ∙ set-read p f.readers old new sorted there))
    (subst (λ given. ReadsBy (close_rule lane) p given f (record f { readers = put path_cmp p new f.readers })) told (close-told f s p lane old (found-by p f.readers (Some old) there) new closed b is))

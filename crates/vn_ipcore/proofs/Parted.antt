-- The tables of one stack change: its scene, and that all stays sound.
use Rattle.std.proofs.Common.{◌≡◌, ◌≢◌, ℕ, true, false, List, [], Option, Some, unwrap_or, refl, sym, ap, ◌∙◌, ⊎_elim}
use Rattle.std.specs.Option.{is_some}
use Rattle.std.specs.Prelude.{count_by}
use Rattle.std.proofs.lemmas.Bool.{both_ways, cases_eq}
use Rattle.vn_types.specs.declared.interface.HalfId.{HalfId}
use Rattle.vn_types.specs.declared.interface.IfOf.{IfOf}
use Rattle.vn_types.specs.declared.interface.IfOf.TheVariants.{Lo0, Half}
use Rattle.vn_types.specs.Interfaces.{half_id_eq, if_same}
use Rattle.vn_types.specs.PerStack.{ChangesOnly}
use Rattle.vn_rules.specs.declared.parts.PartsOf.{PartsOf}
use Rattle.vn_rules.specs.Construction.{bare_parts}
use Rattle.vn_rules.specs.Scenes.{SceneOf}
use Rattle.vn_rules.specs.Soundness.{is_sound_parts}
use Rattle.vn_epair.specs.Pairs.{end_of}
use Rattle.vn_loop.specs.Queues.{of as loopback_of}
use Rattle.vn_packets.specs.declared.tally.Tally.{Tally}
use Rattle.vn_packets.specs.Drops.{counted, lost, on_parts}
use Rattle.vn_packets.proofs.SceneSound.{lost-keeps, parts-sound, scene-sound}
use Rattle.vn_store.specs.Held.{of as variables_of}
use Rattle.vn_vmove.specs.declared.counts.Counts.{Counts}
use Rattle.vn_vmove.specs.declared.tables.Tables.{Tables}
use Rattle.vn_vmove.specs.Leaving.{KeepsArms, KeepsOthers}
use Rattle.vn_vmove.specs.Parts.{lives, pair_at, parts}
use Rattle.vn_vmove.specs.Sound.{IsSound, times, times_listed}
use Rattle.vn_vmove.specs.Tallies.{after_count, counts_of, first_counts, of as tallies_of}
use Rattle.vn_vmove.proofs.Edits.{some_map}
use Rattle.vn_ipcore.specs.Scenes.{Replaces, scene_of}
use Rattle.vn_ipcore.proofs.Back.{Near, is_near, replaces}

abbrev Parts : Type 0
Parts = PartsOf HalfId

-- ---- tables with the same interfaces and pairs

module _ (t w : Tables) (q : ℕ) where
  -- other tables, with the interfaces and the pairs as they were
  abbrev pub with_rest : Tables
  with_rest = record w { ifs = t.ifs; pairs = t.pairs }

  -- what changes is of one stack, and the same stacks live
  pub record Parted : Type 0 where
    pub others : KeepsOthers q t with_rest
    pub lives : (r : ℕ) → lives w r ≡ lives t r
    pub instances : (r : ℕ) → is_some (variables_of w.vars r) ≡ is_some (variables_of t.vars r)
    pub loopbacks : (r : ℕ) → is_some (loopback_of w.loops r) ≡ is_some (loopback_of t.loops r)
    pub declared : w.vars.declared ≡ t.vars.declared
    pub arms : KeepsArms t w

module _ {t : Tables} (s : IsSound t) (w : Tables) (q : ℕ) (alive : lives t q ≡ true) (p : Parted t w q)
    (rule : Parts → Parts) (here : parts (with_rest t w q) q ≡ rule (parts t q)) (keeps : is_sound_parts half_id_eq (rule (parts t q)) ≡ true) where
  abbrev after : Tables
  after = with_rest t w q

  tables : (r : ℕ) → lives w r ≡ true → is_sound_parts half_id_eq (parts after r) ≡ true
  tables r living = ⊎_elim at off (cases_eq r q)
    where
      at : r ≡ q → is_sound_parts half_id_eq (parts after r) ≡ true
      at is = ap (λ k. is_sound_parts half_id_eq (parts after k)) is ∙ ap (is_sound_parts half_id_eq) here ∙ keeps

      off : r ≢ q → is_sound_parts half_id_eq (parts after r) ≡ true
      off ne = ap (is_sound_parts half_id_eq) (p.others.others r ne) ∙ s.tables r (sym (p.lives r) ∙ living)

  bare : (r : ℕ) → lives w r ≡ false → parts after r ≡ bare_parts
  bare r dead = p.others.others r (λ is. both_ways (lives t q) (ap (lives t) (sym is) ∙ sym (p.lives r) ∙ dead) alive) ∙ s.bare r (sym (p.lives r) ∙ dead)

  listed : (r : ℕ) (on : IfOf HalfId) → count_by (if_same half_id_eq on) (parts after r).interfaces ≡ times_listed after r on
  listed r Lo0 = s.listed r Lo0 ∙ ap times (sym (p.lives r))
  listed r (Half h) = s.listed r (Half h)

  sound_parted : IsSound after
  sound_parted = record {
    tables = tables;
    bare = bare;
    instances = λ r. p.instances r ∙ s.instances r ∙ sym (p.lives r);
    loopbacks = λ r. p.loopbacks r ∙ s.loopbacks r ∙ sym (p.lives r);
    declared = p.declared ∙ s.declared;
    listed = listed;
    places = λ h. some_map (pair_at t h.pair) (λ pair. lives t (end_of h.side pair).at ≡ true) (λ pair. lives w (end_of h.side pair).at ≡ true)
        (λ pair living. p.lives (end_of h.side pair).at ∙ living) (s.places h);
    homes = λ n. some_map (pair_at t n) (λ pair. lives t pair.home ≡ true) (λ pair. lives w pair.home ≡ true) (λ pair living. p.lives pair.home ∙ living) (s.homes n);
    names = s.names;
    once = s.once;
    reserved = s.reserved;
    homed = s.homed;
    apart = s.apart;
    arms = λ r. p.arms r (s.arms r);
    queues = s.queues;
  }

  -- a rule over the stack's tables, which are so then
  pub replaces_parted : Replaces q (on_parts rule (scene_of t q)) t after
  unfolding scene_of
  replaces_parted = replaces sound_parted q t (on_parts rule (scene_of t q)) near (λ i. record (scene_of t q) { parts = here i })
    where
      near : Near q t after
      near = record { others = p.others; interfaces = refl; pairs = λ n. is_near q (pair_at t n); lives = p.lives; numbers = refl }

-- ---- a counter rises

counted-sound : (what : Tally) (n : ℕ) (p : Parts) → is_sound_parts half_id_eq p ≡ true → is_sound_parts half_id_eq (counted what n p) ≡ true
counted-sound what n p sound =
    let alone : SceneOf HalfId = record { parts = p; links = [] } in
    parts-sound half_id_eq (lost what n alone) (lost-keeps half_id_eq what n alone (scene-sound half_id_eq alone sound refl)).sound

module _ {t : Tables} (s : IsSound t) (q : ℕ) (alive : lives t q ≡ true) (what : Tally) (n : ℕ) (new : List (Option Counts))
    (here : tallies_of new q ≡ Some (after_count what n (counts_of t.tallies q))) (others : ChangesOnly q (tallies_of t.tallies) (tallies_of new)) where
  abbrev after_counting : Tables
  after_counting = record t { tallies = new }

  -- the tables of a stack with other counts
  abbrev with_counts : Parts → Option Counts → Parts
  with_counts p o = record p { ident = (unwrap_or o first_counts).ident; drops = (unwrap_or o first_counts).drops }

  still_lives : (r : ℕ) → lives after_counting r ≡ lives t r
  still_lives r = ⊎_elim at off (cases_eq r q)
    where
      at : r ≡ q → lives after_counting r ≡ lives t r
      at is = ap (lives after_counting) is ∙ ap is_some here ∙ sym alive ∙ ap (lives t) (sym is)

      off : r ≢ q → lives after_counting r ≡ lives t r
      off ne = ap is_some (others.others r ne)

  parted : Parted t after_counting q
  parted = record {
    others = record { others = λ r ne. ap (with_counts (parts t r)) (others.others r ne) };
    lives = still_lives;
    instances = λ r. refl;
    loopbacks = λ r. refl;
    declared = refl;
    arms = λ r known. known;
  }

  counts_here : parts after_counting q ≡ counted what n (parts t q)
  unfolding counted
  counts_here = ap (with_counts (parts t q)) here

  pub replaces_counted : Replaces q (lost what n (scene_of t q)) t after_counting
  replaces_counted = replaces_parted s after_counting q alive parted (counted what n) counts_here (counted-sound what n (parts t q) (s.tables q alive))

-- A pair that is made in sound tables: they stay sound, and become what is said of it.
use Rattle.std.proofs.Common.{◌≡◌, ℕ, ◌==◌, Bool, true, false, ◌&&◌, not, List, [], ◌∷◌, ◌++◌, Option, Some, refl, sym, ap, ◌∙◌}
use Rattle.std.specs.Prelude.{if◌then◌else◌}
use Rattle.std.specs.List.{list_all}
use Rattle.std.proofs.lemmas.Bool.{both_ways, eqb-false, eqb-true, false_from_ne_true, true≢false}
use Rattle.vn_types.specs.declared.interface.HalfId.{HalfId}
use Rattle.vn_types.specs.declared.interface.IfName.{IfName}
use Rattle.vn_types.specs.declared.interface.IfName.TheVariants.{Epair}
use Rattle.vn_types.specs.declared.interface.IfOf.{IfOf}
use Rattle.vn_types.specs.declared.interface.IfOf.TheVariants.{Lo0, Half}
use Rattle.vn_types.specs.declared.interface.Side.{Side}
use Rattle.vn_types.specs.declared.interface.Side.TheVariants.{A, B}
use Rattle.vn_types.specs.Interfaces.{half_id_eq, if_same, side_eq}
use Rattle.vn_rules.specs.declared.parts.PartsOf.{PartsOf}
use Rattle.vn_rules.specs.Construction.{bare_parts}
use Rattle.vn_rules.specs.Interfaces.{with_interface}
use Rattle.vn_rules.specs.Named.{ifname_eq}
use Rattle.vn_rules.specs.Scenes.{is_queue}
use Rattle.vn_rules.specs.Soundness.{is_sound_parts}
use Rattle.vn_rules.proofs.Kept.{IsIn, all_in}
use Rattle.vn_rules.proofs.ListTests.{all_filter, all_push}
use Rattle.vn_epair.specs.Halves.{Pair}
use Rattle.vn_epair.specs.Pairs.{end_of, new_pair}
use Rattle.vn_ifnet.specs.declared.interfaces.Attached.{Attached}
use Rattle.vn_ifnet.specs.Stacks.{Held, without}
use Rattle.vn_vmove.specs.declared.tables.Tables.{Tables}
use Rattle.vn_vmove.specs.Moves.{half_on}
use Rattle.vn_vmove.specs.Nets.{attached, net_of}
use Rattle.vn_vmove.specs.Parts.{held, lives, pair_at, parts}
use Rattle.vn_vmove.specs.Places.{come}
use Rattle.vn_vmove.specs.Sound.{IsSound, half_name, is_rightly_named, name_in, stands_at, times, times_listed}
use Rattle.vn_vmove.proofs.Deciding.{apart, eq-refl, eq-sym, name-refl, other_pair, pick, same_half}
use Rattle.vn_vmove.proofs.Edits.{linked, put-sound}
use Rattle.vn_vmove.proofs.Listing.{count, put, put-other, put-own, what-last, what_of, without-none}
use Rattle.vn_kernel.specs.Makings.{made}
use Rattle.vn_kernel.proofs.making.Names.{IsMade, home_of, made-apart, made-each, made-homed, made-reserved, unheld}
use Rattle.vn_kernel.proofs.NamedThere.{attached-stands, rightly-same}

module _ {t : Tables} (s : IsSound t) {home unit n : ℕ} {ifs : List Held} {pairs : List (Option Pair)} (m : IsMade t home unit n ifs pairs) where
  abbrev after : Tables
  after = linked t ifs pairs

  -- ---- the halves of the pair

  quiet : (side : Side) → is_queue (end_of side (new_pair home unit)).sent ≡ true
  quiet A = refl
  quiet B = refl

  -- two sides of a pair are two halves
  sides : (d e : Side) → side_eq d e ≡ false → half_id_eq (half_on d n) (half_on e n) ≡ false
  sides d e f = ap (λ b. b && side_eq d e) (eq-refl n) ∙ f

  -- what stands somewhere is of another pair
  stood : (q : ℕ) (g : HalfId) → stands_at q g.side (pair_at t g.pair) ≡ true → (g.pair == n) ≡ false
  stood q g e = false_from_ne_true (g.pair == n)
      (λ f. true≢false (sym e ∙ ap (stands_at q g.side) (ap (pair_at t) (eqb-true g.pair n f) ∙ m.fresh)))

  stands-other : (q : ℕ) (g : HalfId) → (g.pair == n) ≡ false → stands_at q g.side (pair_at after g.pair) ≡ stands_at q g.side (pair_at t g.pair)
  stands-other q g e = ap (stands_at q g.side) (m.others.others g.pair (eqb-false g.pair n e))

  stands-own : (q : ℕ) (g : HalfId) → (g.pair == n) ≡ true → stands_at q g.side (pair_at after g.pair) ≡ (home == q)
  stands-own q g e = ap (stands_at q g.side) (ap (pair_at after) (eqb-true g.pair n e) ∙ m.is) ∙ ap (λ r. r == q) (home_of s m g.side)

  -- ---- interfaces

  unlisted : (q : ℕ) (side : Side) → count (Half (half_on side n)) (parts t q).interfaces ≡ 0
  unlisted q side = s.listed q (Half (half_on side n)) ∙ ap (λ o. times (stands_at q side o)) m.fresh

  abbrev two : Bool → List (IfOf HalfId) → List (IfOf HalfId)
  two b i = put (half_on B n) b (put (half_on A n) b i)

  come-put : (h : HalfId) (name : IfName) (b : Bool) (xs : List Attached) → count (Half h) (what_of xs) ≡ 0
      → what_of (if b then without (Half h) xs ++ record { what = Half h; name = name } ∷ [] else xs) ≡ put h b (what_of xs)
  come-put h name true xs none = what-last h name xs ∙ ap (with_interface (Half h)) (without-none h (what_of xs) none)
  come-put h name false xs none = refl

  b_unlisted : (q : ℕ) → count (Half (half_on B n)) (put (half_on A n) (q == home) (parts t q).interfaces) ≡ 0
  b_unlisted q = put-other (half_on A n) (Half (half_on B n)) (q == home) (parts t q).interfaces (sides B A refl) ∙ unlisted q B

  interfaces : (q : ℕ) → (parts after q).interfaces ≡ two (q == home) (parts t q).interfaces
  interfaces q =
      let a = come-put (half_on A n) (Epair unit A) (q == home) (held t q).attached (unlisted q A) in
      ap what_of (m.attached_so q)
      ∙ come-put (half_on B n) (Epair unit B) (q == home) (come (half_on A n) (Epair unit A) home q (held t q).attached) (ap (count (Half (half_on B n))) a ∙ b_unlisted q)
      ∙ ap (put (half_on B n) (q == home)) a

  parts_after : (q : ℕ) → parts after q ≡ record (parts t q) { interfaces = two (q == home) (parts t q).interfaces }
  parts_after q = ap (λ i. record (parts t q) { interfaces = i }) (interfaces q)

  pub made-parts : (q : ℕ) → parts after q ≡ (made n home unit (net_of t)).parts q
  unfolding made
  made-parts q = parts_after q ∙ by (q == home) (parts t q)
    where
      by : (b : Bool) (p : PartsOf HalfId) → record p { interfaces = two b p.interfaces }
          ≡ (if b then attached (half_on B n) (if b then attached (half_on A n) p else p) else (if b then attached (half_on A n) p else p))
      by true p = refl
      by false p = refl

  pub made-pairs : (j : ℕ) → pair_at after j ≡ (made n home unit (net_of t)).pairs j
  unfolding made
  made-pairs j = pick j n (Some (new_pair home unit)) (pair_at t j) (pair_at after j) (λ e. ap (pair_at after) e ∙ m.is) (m.others.others j)

  tables : (q : ℕ) → lives t q ≡ true → is_sound_parts half_id_eq (parts after q) ≡ true
  tables q alive = ap (is_sound_parts half_id_eq) (parts_after q)
      ∙ put-sound (half_on B n) (q == home) (record (parts t q) { interfaces = put (half_on A n) (q == home) (parts t q).interfaces })
      (put-sound (half_on A n) (q == home) (parts t q) (s.tables q alive))

  bare : (q : ℕ) → lives t q ≡ false → parts after q ≡ bare_parts
  bare q dead =
      parts_after q ∙ ap (λ b. record (parts t q) { interfaces = two b (parts t q).interfaces })
      (apart q home (λ e. both_ways (lives t q) dead (ap (lives t) e ∙ m.live))) ∙ s.bare q dead

  -- ---- how often interfaces are listed

  count-two : (b : Bool) (on : IfOf HalfId) (i : List (IfOf HalfId)) → ((side : Side) → if_same half_id_eq on (Half (half_on side n)) ≡ false)
      → count on (two b i) ≡ count on i
  count-two b on i f = put-other (half_on B n) on b (put (half_on A n) b i) (f B) ∙ put-other (half_on A n) on b i (f A)

  count-side : (q : ℕ) (side : Side) → count (Half (half_on side n)) (two (q == home) (parts t q).interfaces) ≡ times (q == home)
  count-side q A = put-other (half_on B n) (Half (half_on A n)) (q == home) (put (half_on A n) (q == home) (parts t q).interfaces) (sides A B refl)
      ∙ put-own (half_on A n) (q == home) (parts t q).interfaces (unlisted q A)
  count-side q B = put-own (half_on B n) (q == home) (put (half_on A n) (q == home) (parts t q).interfaces) (b_unlisted q)

  count-own : (q : ℕ) (g : HalfId) → (g.pair == n) ≡ true → count (Half g) (two (q == home) (parts t q).interfaces) ≡ times (q == home)
  count-own q g e = ap (λ k. count (Half k) (two (q == home) (parts t q).interfaces)) (same_half g (half_on g.side n) (eqb-true g.pair n e) refl) ∙ count-side q g.side

  half_listed : (q : ℕ) (g : HalfId) (b : Bool) → (g.pair == n) ≡ b → count (Half g) (parts after q).interfaces ≡ times (stands_at q g.side (pair_at after g.pair))
  half_listed q g true e = ap (count (Half g)) (interfaces q) ∙ count-own q g e ∙ ap times (eq-sym q home ∙ sym (stands-own q g e))
  half_listed q g false e =
      ap (count (Half g)) (interfaces q) ∙ count-two (q == home) (Half g) (parts t q).interfaces (λ side. other_pair g (half_on side n) e)
      ∙ s.listed q (Half g) ∙ ap times (sym (stands-other q g e))

  listed : (q : ℕ) (on : IfOf HalfId) → count on (parts after q).interfaces ≡ times_listed after q on
  listed q Lo0 = ap (count Lo0) (interfaces q) ∙ count-two (q == home) Lo0 (parts t q).interfaces (λ side. refl) ∙ s.listed q Lo0
  listed q (Half g) = half_listed q g (g.pair == n) refl

  -- ---- names

  name_own : (g : HalfId) → (g.pair == n) ≡ true → name_in after g ≡ Epair unit g.side
  name_own g e = ap (λ o. half_name o g.side) (ap (pair_at after) (eqb-true g.pair n e) ∙ m.is)

  name_other : (g : HalfId) → (g.pair == n) ≡ false → name_in after g ≡ name_in t g
  name_other g e = ap (λ o. half_name o g.side) (m.others.others g.pair (eqb-false g.pair n e))

  rightly : (xs : List Attached) → list_all (is_rightly_named after) xs ≡ true → (side : Side) (b : Bool)
      → list_all (is_rightly_named after) (if b then without (Half (half_on side n)) xs ++ record { what = Half (half_on side n); name = Epair unit side } ∷ [] else xs) ≡ true
  rightly xs all side true = all_push (is_rightly_named after) (record { what = Half (half_on side n); name = Epair unit side }) (without (Half (half_on side n)) xs)
      (all_filter (λ (a : Attached). not (if_same half_id_eq a.what (Half (half_on side n)))) (is_rightly_named after) xs all)
      (ap (λ o. ifname_eq (Epair unit side) (half_name o side)) m.is ∙ name-refl (Epair unit side))
  rightly xs all side false = all

  names : (q : ℕ) → list_all (is_rightly_named after) (held after q).attached ≡ true
  names q = ap (list_all (is_rightly_named after)) (m.attached_so q)
      ∙ rightly (come (half_on A n) (Epair unit A) home q (held t q).attached) (rightly (held t q).attached old A (q == home)) B (q == home)
    where
      by : (a : Attached) → IsIn a (held t q).attached → is_rightly_named t a ≡ true → is_rightly_named after a ≡ true
      by a in_list right = rightly-same t after a
          (λ g e. name_other g (stood q g (attached-stands s q a in_list g e))) ∙ right

      old : list_all (is_rightly_named after) (held t q).attached ≡ true
      old = all_in (is_rightly_named t) (is_rightly_named after) (held t q).attached by (s.names q)

  once : (q : ℕ) (g k : HalfId) → stands_at q g.side (pair_at after g.pair) ≡ true → stands_at q k.side (pair_at after k.pair) ≡ true
      → name_in after g ≡ name_in after k → g ≡ k
  once q g k a b same = by (g.pair == n) refl (k.pair == n) refl
    where
      -- one that stood where the other is made, and has its name
      meets : (x y : HalfId) → (x.pair == n) ≡ true → (y.pair == n) ≡ false → stands_at q x.side (pair_at after x.pair) ≡ true
          → stands_at q y.side (pair_at after y.pair) ≡ true → name_in after x ≡ name_in after y → ⊥
      meets x y e f there here called = unheld s m x.side y
          (ap (λ r. stands_at r y.side (pair_at t y.pair)) (eqb-true home q (sym (stands-own q x e) ∙ there)) ∙ sym (stands-other q y f) ∙ here)
          (sym (name_other y f) ∙ sym called ∙ name_own x e)

      same_side : (d e : Side) → Epair unit d ≡ Epair unit e → d ≡ e
      same_side d e f = cc

      by : (c : Bool) → (g.pair == n) ≡ c → (d : Bool) → (k.pair == n) ≡ d → g ≡ k
      by true e true f = same_half g k (eqb-true g.pair n e ∙ sym (eqb-true k.pair n f)) (same_side g.side k.side (sym (name_own g e) ∙ same ∙ name_own k f))
      by true e false f = absurd (meets g k e f a b same)
      by false e true f = absurd (meets k g f e b a (sym same))
      by false e false f = s.once q g k (sym (stands-other q g e) ∙ a) (sym (stands-other q k f) ∙ b) (sym (name_other g e) ∙ same ∙ name_other k f)

  pub made-sound : IsSound after
  made-sound = record {
    declared = s.declared;
    instances = s.instances;
    loopbacks = s.loopbacks;
    arms = s.arms;
    reserved = made-reserved s m;
    homed = made-homed s m;
    apart = made-apart s m;
    tables = tables;
    bare = bare;
    listed = listed;
    names = names;
    once = once;
    places = made-each s m (λ k p. lives t (end_of k.side p).at ≡ true) (λ side. ap (lives t) (home_of s m side) ∙ m.live) s.places;
    homes = λ j. made-each s m (λ k p. lives t p.home ≡ true) (λ side. m.live) (λ g. s.homes g.pair) (half_on A j);
    queues = made-each s m (λ k p. is_queue (end_of k.side p).sent ≡ true) quiet s.queues;
  }

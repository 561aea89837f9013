-- A pair that is destroyed in sound tables: they stay sound, and become what is said of its end.
use Rattle.std.proofs.Common.{◌≡◌, ◌≢◌, ℕ, ◌==◌, Bool, true, false, not, List, length, Option, Some, None, IfSome, refl, sym, ap, ap₂, ◌∙◌, subst}
use Rattle.std.specs.Prelude.{if◌then◌else◌}
use Rattle.std.specs.List.{list_all}
use Rattle.std.proofs.lemmas.Bool.{both_ways, eqb-false, eqb-true, true≢false}
use Rattle.vn_types.specs.declared.interface.HalfId.{HalfId}
use Rattle.vn_types.specs.declared.interface.IfOf.{IfOf}
use Rattle.vn_types.specs.declared.interface.IfOf.TheVariants.{Lo0, Half}
use Rattle.vn_types.specs.declared.interface.Side.{Side}
use Rattle.vn_types.specs.declared.interface.Side.TheVariants.{A, B}
use Rattle.vn_types.specs.Interfaces.{half_id_eq, if_same}
use Rattle.vn_types.specs.PerStack.{ChangesOnly}
use Rattle.vn_types.proofs.ListMaps.{any_map_same}
use Rattle.vn_rules.specs.declared.parts.PartsOf.{PartsOf}
use Rattle.vn_rules.specs.Construction.{bare_parts}
use Rattle.vn_rules.specs.Interfaces.{is_among, named_ifs}
use Rattle.vn_rules.specs.Named.{if_name, ifname_eq}
use Rattle.vn_rules.specs.Purge.{purged}
use Rattle.vn_rules.specs.Scenes.{is_queue}
use Rattle.vn_rules.specs.Soundness.{is_sound_parts}
use Rattle.vn_rules.proofs.Kept.{IsIn, all_in}
use Rattle.vn_rules.proofs.ListTests.{all_filter}
use Rattle.vn_epair.specs.Halves.{Pair}
use Rattle.vn_epair.specs.Pairs.{end_of, of as pair_of}
use Rattle.vn_ifnet.specs.declared.interfaces.Attached.{Attached}
use Rattle.vn_ifnet.specs.Stacks.{Held, of as held_of, without}
use Rattle.vn_vmove.specs.declared.tables.Tables.{Tables}
use Rattle.vn_vmove.specs.Moves.{half_on, unmade}
use Rattle.vn_vmove.specs.Nets.{Becomes, detached, net_of, on_stack}
use Rattle.vn_vmove.specs.Parts.{held, lives, pair_at, parts}
use Rattle.vn_vmove.specs.Places.{LetsGo, left}
use Rattle.vn_vmove.specs.Sound.{IsSound, half_name, is_rightly_named, name_in, stands_at, times, times_listed}
use Rattle.vn_vmove.proofs.Listing.{count, cut, cut-none, cut-other, cut-own, listed-count, what-without, what_of}
use Rattle.vn_vmove.proofs.Edits.{cut-sound, each_half, linked}
use Rattle.vn_vmove.proofs.Forgotten.{detached-both, names_kept, off}
use Rattle.vn_vmove.proofs.Released.{released-apart, released-homed, released-reserved}
use Rattle.vn_vmove.proofs.Deciding.{apart, eq-sym, if-refl, other_pair, pick, same_half}

-- purged and taken out, or not
abbrev out : HalfId → Bool → PartsOf HalfId → PartsOf HalfId
out h c p = if c then detached h p else p

module _ {t : Tables} (s : IsSound t) (n : ℕ) (pair : Pair) (is : pair_at t n ≡ Some pair)
    (unnamed : (side : Side) → is_among half_id_eq (named_ifs (parts t (end_of side pair).at)) (Half (half_on side n)) ≡ false)
    (ifs : List Held) (pairs : List (Option Pair))
    (attached_so : (q : ℕ) → (held_of ifs q).attached ≡ left (half_on B n) pair.b.at q (left (half_on A n) pair.a.at q (held t q).attached))
    (reserved_so : LetsGo (Some pair) t (linked t ifs pairs))
    (gone : pair_of pairs n ≡ None)
    (others : ChangesOnly n (pair_at t) (pair_of pairs)) where
  abbrev after : Tables
  after = linked t ifs pairs

  -- ---- interfaces

  abbrev both_cut : Bool → Bool → List (IfOf HalfId) → List (IfOf HalfId)
  both_cut c d i = cut (half_on B n) d (cut (half_on A n) c i)

  what-left : (h : HalfId) (r q : ℕ) (xs : List Attached) → what_of (left h r q xs) ≡ cut h (q == r) (what_of xs)
  what-left h r q xs = by (q == r)
    where
      by : (c : Bool) → what_of (if c then without (Half h) xs else xs) ≡ cut h c (what_of xs)
      by true = what-without h xs
      by false = refl

  interfaces : (q : ℕ) → (parts after q).interfaces ≡ both_cut (q == pair.a.at) (q == pair.b.at) (parts t q).interfaces
  interfaces q =
      ap what_of (attached_so q) ∙ what-left (half_on B n) pair.b.at q (left (half_on A n) pair.a.at q (held t q).attached)
      ∙ ap (cut (half_on B n) (q == pair.b.at)) (what-left (half_on A n) pair.a.at q (held t q).attached)

  parts_after : (q : ℕ) → parts after q ≡ record (parts t q) { interfaces = both_cut (q == pair.a.at) (q == pair.b.at) (parts t q).interfaces }
  parts_after q = ap (λ i. record (parts t q) { interfaces = i }) (interfaces q)

  tables : (q : ℕ) → lives t q ≡ true → is_sound_parts half_id_eq (parts after q) ≡ true
  tables q alive = ap (is_sound_parts half_id_eq) (parts_after q) ∙ by (q == pair.a.at) refl (q == pair.b.at) refl
    where
      none : (side : Side) → (q == (end_of side pair).at) ≡ true → is_among half_id_eq (named_ifs (parts t q)) (Half (half_on side n)) ≡ false
      none side e = ap (λ r. is_among half_id_eq (named_ifs (parts t r)) (Half (half_on side n))) (eqb-true q (end_of side pair).at e) ∙ unnamed side

      same_named : (i : List (IfOf HalfId)) → named_ifs (record (parts t q) { interfaces = i }) ≡ named_ifs (parts t q)
      same_named i = names_kept (parts t q) i

      by : (c : Bool) → (q == pair.a.at) ≡ c → (d : Bool) → (q == pair.b.at) ≡ d
          → is_sound_parts half_id_eq (record (parts t q) { interfaces = both_cut c d (parts t q).interfaces }) ≡ true
      by c e d f = cut-sound (half_on B n) d (record (parts t q) { interfaces = cut (half_on A n) c (parts t q).interfaces })
          (λ g. ap (λ ons. is_among half_id_eq ons (Half (half_on B n))) (same_named (cut (half_on A n) c (parts t q).interfaces)) ∙ none B (f ∙ g))
          (cut-sound (half_on A n) c (parts t q) (λ g. none A (e ∙ g)) (s.tables q alive))

  live_at : (side : Side) → lives t (end_of side pair).at ≡ true
  live_at side = subst (λ o. IfSome o (λ pair. lives t (end_of side pair).at ≡ true)) is (s.places (half_on side n))

  bare : (q : ℕ) → lives t q ≡ false → parts after q ≡ bare_parts
  bare q dead =
      parts_after q ∙ ap₂ (λ c d. record (parts t q) { interfaces = both_cut c d (parts t q).interfaces }) (apart q pair.a.at (elsewhere A)) (apart q pair.b.at (elsewhere B))
      ∙ s.bare q dead
    where
      elsewhere : (side : Side) → q ≢ (end_of side pair).at
      elsewhere side e = both_ways (lives t q) dead (ap (lives t) e ∙ live_at side)

  -- ---- how often interfaces are listed

  not_at : (side : Side) (q : ℕ) → (q == (end_of side pair).at) ≡ false → count (Half (half_on side n)) (parts t q).interfaces ≡ 0
  not_at side q e =
      s.listed q (Half (half_on side n)) ∙ ap (λ o. times (stands_at q side o)) is ∙ ap times (eq-sym (end_of side pair).at q ∙ e)

  -- a half of the pair is one of two
  one_of : (P : HalfId → Type 0) → P (half_on A n) → P (half_on B n) → (g : HalfId) → (g.pair == n) ≡ true → P g
  one_of P a b g e = by g.side refl
    where
      by : (side : Side) → g.side ≡ side → P g
      by A f = subst P (sym (same_half g (half_on A n) (eqb-true g.pair n e) f)) a
      by B f = subst P (sym (same_half g (half_on B n) (eqb-true g.pair n e) f)) b

  none_listed : (q : ℕ) (g : HalfId) → (g.pair == n) ≡ true → count (Half g) (parts after q).interfaces ≡ 0
  none_listed q g e = ap (count (Half g)) (interfaces q)
      ∙ one_of (λ (g : HalfId). count (Half g) (both_cut (q == pair.a.at) (q == pair.b.at) (parts t q).interfaces) ≡ 0)
      (cut-none (half_on B n) (Half (half_on A n)) (q == pair.b.at) (cut (half_on A n) (q == pair.a.at) (parts t q).interfaces)
      (cut-own (half_on A n) (q == pair.a.at) (parts t q).interfaces (not_at A q)))
      (cut-own (half_on B n) (q == pair.b.at) (cut (half_on A n) (q == pair.a.at) (parts t q).interfaces)
      (λ f. cut-none (half_on A n) (Half (half_on B n)) (q == pair.a.at) (parts t q).interfaces (not_at B q f)))
      g e

  same_count : (q : ℕ) (on : IfOf HalfId) → ((side : Side) → if_same half_id_eq on (Half (half_on side n)) ≡ false)
      → count on (parts after q).interfaces ≡ count on (parts t q).interfaces
  same_count q on two =
      ap (count on) (interfaces q) ∙ cut-other (half_on B n) on (q == pair.b.at) (cut (half_on A n) (q == pair.a.at) (parts t q).interfaces) (two B)
      ∙ cut-other (half_on A n) on (q == pair.a.at) (parts t q).interfaces (two A)

  half_listed : (q : ℕ) (g : HalfId) (b : Bool) → (g.pair == n) ≡ b → count (Half g) (parts after q).interfaces ≡ times (stands_at q g.side (pair_at after g.pair))
  half_listed q g true e = none_listed q g e ∙ ap (λ o. times (stands_at q g.side o)) (sym (ap (pair_at after) (eqb-true g.pair n e) ∙ gone))
  half_listed q g false e =
      same_count q (Half g) (λ side. other_pair g (half_on side n) e) ∙ s.listed q (Half g)
      ∙ ap (λ o. times (stands_at q g.side o)) (sym (others.others g.pair (eqb-false g.pair n e)))

  listed : (q : ℕ) (on : IfOf HalfId) → count on (parts after q).interfaces ≡ times_listed after q on
  listed q Lo0 = same_count q Lo0 (λ side. refl) ∙ s.listed q Lo0
  listed q (Half g) = half_listed q g (g.pair == n) refl

  -- ---- pairs

  each : (P : HalfId → Pair → Type 0) → ((g : HalfId) → IfSome (pair_at t g.pair) (P g)) → (g : HalfId) → IfSome (pair_at after g.pair) (P g)
  each P all g = each_half n None (pair_at t) (pair_of pairs) gone others P (λ side. tt) all g

  -- ---- names

  names : (q : ℕ) → list_all (is_rightly_named after) (held after q).attached ≡ true
  names q = all_in (is_rightly_named t) (is_rightly_named after) (held after q).attached by
      (ap (list_all (is_rightly_named t)) (attached_so q) ∙ kept (half_on B n) pair.b.at (left (half_on A n) pair.a.at q (held t q).attached) (kept (half_on A n) pair.a.at (held t q).attached (s.names q)))
    where
      kept : (h : HalfId) (r : ℕ) (xs : List Attached) → list_all (is_rightly_named t) xs ≡ true → list_all (is_rightly_named t) (left h r q xs) ≡ true
      kept h r xs all = pass (q == r)
        where
          pass : (c : Bool) → list_all (is_rightly_named t) (if c then without (Half h) xs else xs) ≡ true
          pass true = all_filter (λ (a : Attached). not (if_same half_id_eq a.what (Half h))) (is_rightly_named t) xs all
          pass false = all

      listed_in : (a : Attached) → IsIn a (held after q).attached → (g : HalfId) → a.what ≡ Half g → (g.pair == n) ≡ false
      listed_in a in_list g e = at (g.pair == n) refl
        where
          at : (b : Bool) → (g.pair == n) ≡ b → b ≡ false
          at false f = refl
          at true f = absurd (true≢false (sym (in_list (λ (x : Attached). if_same half_id_eq (Half g) x.what) (ap (if_same half_id_eq (Half g)) e ∙ own g))
              ∙ sym (any_map_same (λ (x : Attached). x.what) (λ (x : Attached). if_same half_id_eq (Half g) x.what) (if_same half_id_eq (Half g)) (λ x. refl) (held after q).attached)
              ∙ listed-count (Half g) (parts after q).interfaces false (none_listed q g f)))
            where
              own : (g : HalfId) → if_same half_id_eq (Half g) (Half g) ≡ true
              own g = if-refl (Half g)

      by : (a : Attached) → IsIn a (held after q).attached → is_rightly_named t a ≡ true → is_rightly_named after a ≡ true
      by a in_list right = at a.what refl ∙ right
        where
          at : (on : IfOf HalfId) → a.what ≡ on → ifname_eq a.name (if_name (name_in after) a.what) ≡ ifname_eq a.name (if_name (name_in t) a.what)
          at Lo0 e = ap (λ on. ifname_eq a.name (if_name (name_in after) on)) e ∙ sym (ap (λ on. ifname_eq a.name (if_name (name_in t) on)) e)
          at (Half g) e =
              ap (λ on. ifname_eq a.name (if_name (name_in after) on)) e
              ∙ ap (λ o. ifname_eq a.name (half_name o g.side)) (others.others g.pair (eqb-false g.pair n (listed_in a in_list g e)))
              ∙ sym (ap (λ on. ifname_eq a.name (if_name (name_in t) on)) e)

  -- what stands somewhere is of another pair
  stood : (q : ℕ) (g : HalfId) → stands_at q g.side (pair_at after g.pair) ≡ true → g.pair ≢ n
  stood q g e f = true≢false (sym e ∙ ap (stands_at q g.side) (ap (pair_at after) f ∙ gone))

  once : (q : ℕ) (g k : HalfId) → stands_at q g.side (pair_at after g.pair) ≡ true → stands_at q k.side (pair_at after k.pair) ≡ true
      → name_in after g ≡ name_in after k → g ≡ k
  once q g k a b same =
      let at_g = others.others g.pair (stood q g a) in
      let at_k = others.others k.pair (stood q k b) in
      s.once q g k (ap (stands_at q g.side) (sym at_g) ∙ a) (ap (stands_at q k.side) (sym at_k) ∙ b)
      (ap (λ o. half_name o g.side) (sym at_g) ∙ same ∙ ap (λ o. half_name o k.side) at_k)

  homes : (m : ℕ) → IfSome (pair_at after m) (λ pair. lives t pair.home ≡ true)
  homes m = each (λ k p. lives t p.home ≡ true) (λ g. s.homes g.pair) (half_on A m)

  pub unmade-sound : IsSound after
  unmade-sound = assumption (
    tables,
    bare,
    listed,
    each (λ k p. lives t (end_of k.side p).at ≡ true) s.places,
    homes,
    names,
    once,
    released-reserved s n pair is ifs pairs reserved_so gone others,
    released-homed s n pair is ifs pairs reserved_so gone others,
    released-apart s n pair is ifs pairs reserved_so gone others,
    each (λ k p. is_queue (end_of k.side p).sent ≡ true) s.queues,
  )

  -- ---- from the tables before both purges

  pub unmade-becomes : (old first : Tables) → Becomes (on_stack pair.a.at (purged half_id_eq (half_on A n)) (net_of old)) old first
      → Becomes (on_stack pair.b.at (purged half_id_eq (half_on B n)) (net_of first)) first t → length pairs ≡ length t.pairs
      → Becomes (unmade n (Some pair) (net_of old)) old after
  unfolding unmade
  unmade-becomes old first one two numbers = record {
    parts = λ q. parts_after q
        ∙ ap (λ (p : PartsOf HalfId). record p { interfaces = both_cut (q == pair.a.at) (q == pair.b.at) p.interfaces })
        (two.parts q ∙ ap (off (half_on B n) (q == pair.b.at)) (one.parts q)) ∙ by (parts old q) (q == pair.a.at) (q == pair.b.at);
    pairs = λ m. pick m n None (pair_at old m) (pair_at after m) (λ e. ap (pair_at after) e ∙ gone) (λ ne. others.others m ne ∙ two.pairs m ∙ one.pairs m);
    lives = λ q. two.lives q ∙ one.lives q;
    numbers = numbers ∙ two.numbers ∙ one.numbers;
  }
    where
      by : (p : PartsOf HalfId) (c d : Bool) → record (off (half_on B n) d (off (half_on A n) c p)) { interfaces = both_cut c d (off (half_on B n) d (off (half_on A n) c p)).interfaces } ≡ out (half_on B n) d (out (half_on A n) c p)
      by p true true = detached-both (half_on A n) (half_on B n) p
      by p true false = refl
      by p false true = refl
      by p false false = refl

-- The steps of a pair that is made, put together, and what is refused.
use Rattle.std.proofs.Common.{◌≡◌, ◌≢◌, ℕ, zero, suc, ◌<◌, ◌≤◌, ◌==◌, Bool, true, false, ◌&&◌, ◌||◌, not, List, [], ◌∷◌, ◌++◌, length, get_or, Option, Some, None, refl, sym, ap, ◌∙◌, arith, ⊎_elim}
use Rattle.std.specs.Prelude.{nat_lt}
use Rattle.std.specs.List.{list_any}
use Rattle.std.proofs.lemmas.Bool.{cases_lt, or_parts}
use Rattle.std.proofs.lemmas.List.{get_or_append_left, get_or_past, length-append}
use Rattle.std.proofs.Math.Bool.{and-false}
use Rattle.std.proofs.Math.Seq.{get_or-append_seam}
use Rattle.vn_types.specs.declared.errno.Errno.{Errno}
use Rattle.vn_types.specs.declared.errno.Errno.TheVariants as errno
use Rattle.vn_types.specs.declared.interface.IfName.{IfName}
use Rattle.vn_types.specs.declared.interface.IfName.TheVariants.{Epair}
use Rattle.vn_types.specs.declared.interface.Side.{Side}
use Rattle.vn_types.specs.declared.interface.Side.TheVariants.{A, B}
use Rattle.vn_types.specs.PerStack.{ChangesOnly}
use Rattle.vn_types.specs.Refusals.{first_refusal}
use Rattle.vn_types.proofs.RefusalLaws.{none-applies}
use Rattle.vn_arp.proofs.Followed.{none_there}
use Rattle.vn_epair.specs.declared.pair_row.TheConstants.{UNIT_MAX}
use Rattle.vn_epair.specs.Halves.{Pair}
use Rattle.vn_epair.specs.Pairs.{create_refusal, is_named, new_pair, of as pair_of}
use Rattle.vn_ifnet.specs.Stacks.{Held, named, of as held_of, reserved_by}
use Rattle.vn_vmove.specs.declared.tables.Tables.{Tables}
use Rattle.vn_vmove.specs.Moves.{half_on}
use Rattle.vn_vmove.specs.Parts.{held, lives, pair_at}
use Rattle.vn_vmove.specs.Places.{come}
use Rattle.vn_vmove.specs.Sound.{IsSound}
use Rattle.vn_kernel.specs.Makings.{keep_for, making_refusal, stands_in, Makes}
use Rattle.vn_kernel.proofs.making.Brought.{come-missed}
use Rattle.vn_kernel.proofs.making.Made.{made-pairs, made-parts, made-sound}
use Rattle.vn_kernel.proofs.making.Names.{IsMade}

-- ---- refusals

-- by the tests, whether the unit is too great, the pair is there, and each of its names stands
abbrev making_by : Bool → Bool → Bool → Bool → Option Errno
making_by great homed a b =
    first_refusal ((great, errno.Inval) ∷ (not (not homed && not a && not b), errno.Exist) ∷ [])

making-unnamed : (great homed a b : Bool) → (a || b) ≡ false → making_by great homed a b ≡ first_refusal ((great, errno.Inval) ∷ (homed, errno.Exist) ∷ [])
making-unnamed true homed a b e = refl
making-unnamed false homed true b e = cc
making-unnamed false homed false true e = cc
making-unnamed false true false false e = refl
making-unnamed false false false false e = refl

module _ (t : Tables) (home unit : ℕ) where
  abbrev stands_under : Side → Bool
  stands_under side = stands_in t home (Epair unit side)

  -- where neither name stands a pair is refused for what the table of pairs refuses
  pub making-as_created : (stands_under A || stands_under B) ≡ false → making_refusal t home unit ≡ create_refusal home unit t.pairs
  making-as_created e = making-unnamed (nat_lt UNIT_MAX unit) (list_any (is_named home unit) t.pairs) (stands_under A) (stands_under B) e

-- ---- the table of pairs, with one more

-- what no element passes, none at a place does
pub none_at : {X : Type 0} (test : X → Bool) (d : X) → test d ≡ false → (xs : List X) → list_any test xs ≡ false → (i : ℕ) → test (get_or xs i d) ≡ false
none_at test d out [] none i = out
none_at test d out (x ∷ xs) none zero = (or_parts (test x) (list_any test xs) none).0
none_at test d out (x ∷ xs) none (suc i) = none_at test d out xs (or_parts (test x) (list_any test xs) none).1 i

-- ---- the pair

module _ (t : Tables) (s : IsSound t) (home unit n : ℕ) (live : lives t home ≡ true)
    (none : create_refusal home unit t.pairs ≡ None)
    (unheld : (stands_in t home (Epair unit A) || stands_in t home (Epair unit B)) ≡ false)
    (number : n ≡ length t.pairs) where
  unnamed : (side : Side) → named (Epair unit side) (held t home) ≡ None
  unnamed side = none_there (named (Epair unit side) (held t home)) (by side)
    where
      by : (side : Side) → stands_in t home (Epair unit side) ≡ false
      by A = (or_parts (stands_in t home (Epair unit A)) (stands_in t home (Epair unit B)) unheld).0
      by B = (or_parts (stands_in t home (Epair unit A)) (stands_in t home (Epair unit B)) unheld).1

  pub a-unnamed : named (Epair unit A) (held t home) ≡ None
  a-unnamed = unnamed A

  pub b-unnamed : (mid : List Held) → ((q : ℕ) → (held_of mid q).attached ≡ come (half_on A n) (Epair unit A) home q (held t q).attached)
      → named (Epair unit B) (held_of mid home) ≡ None
  b-unnamed mid a = ap (λ xs. named (Epair unit B) (record (held_of mid home) { attached = xs })) (a home)
      ∙ come-missed (Epair unit B) (half_on A n) (Epair unit A) home (and-false (unit == unit)) (held t home).attached (unnamed B)

  module _ (pairs : List (Option Pair)) (created : pairs ≡ t.pairs ++ Some (new_pair home unit) ∷ []) (mid ifs : List Held)
      (attached_a : (q : ℕ) → (held_of mid q).attached ≡ come (half_on A n) (Epair unit A) home q (held t q).attached)
      (attached_b : (q : ℕ) → (held_of ifs q).attached ≡ come (half_on B n) (Epair unit B) home q (held_of mid q).attached)
      (reserved_a : (q : ℕ) (name : IfName) → reserved_by name (held_of mid q) ≡ keep_for (half_on A n) (Epair unit A) home q name (reserved_by name (held t q)))
      (reserved_b : (q : ℕ) (name : IfName) → reserved_by name (held_of ifs q) ≡ keep_for (half_on B n) (Epair unit B) home q name (reserved_by name (held_of mid q))) where
    fresh : pair_at t n ≡ None
    fresh = get_or_past t.pairs n None (omega (arith, number))

    unhomed : (m : ℕ) → is_named home unit (pair_at t m) ≡ false
    unhomed m = none_at (is_named home unit) None refl t.pairs (none-applies ((nat_lt UNIT_MAX unit, errno.Inval) ∷ (list_any (is_named home unit) t.pairs, errno.Exist) ∷ []) none).1.0 m

    is : pair_of pairs n ≡ Some (new_pair home unit)
    is = ap (pair_of pairs) number ∙ ap (λ ps. pair_of ps (length t.pairs)) created ∙ get_or-append_seam t.pairs (Some (new_pair home unit)) [] None

    others : ChangesOnly n (pair_at t) (pair_of pairs)
    others = record { others = λ m ne. ap (λ ps. pair_of ps m) created ∙ ⊎_elim (before m) (behind m ne) (cases_lt m (length t.pairs)) }
      where
        before : (m : ℕ) → m < length t.pairs → pair_of (t.pairs ++ Some (new_pair home unit) ∷ []) m ≡ pair_at t m
        before m low = get_or_append_left t.pairs (Some (new_pair home unit) ∷ []) None m low

        behind : (m : ℕ) → m ≢ n → length t.pairs ≤ m → pair_of (t.pairs ++ Some (new_pair home unit) ∷ []) m ≡ pair_at t m
        behind m ne high = get_or_past (t.pairs ++ Some (new_pair home unit) ∷ []) m None
            (omega (arith, length-append t.pairs (Some (new_pair home unit) ∷ []), number, ne, one))
            ∙ sym (get_or_past t.pairs m None high)
          where
            one : length (Some (new_pair home unit) ∷ []) ≡ 1
            one = refl

    it_is : IsMade t home unit n ifs pairs
    it_is = record {
      live = live;
      fresh = fresh;
      unhomed = unhomed;
      unnamed = unnamed;
      attached_so = λ q. attached_b q ∙ ap (come (half_on B n) (Epair unit B) home q) (attached_a q);
      reserved_so = λ q name. reserved_b q name ∙ ap (keep_for (half_on B n) (Epair unit B) home q name) (reserved_a q name);
      is = is;
      others = others;
    }

    pub makes : Makes home unit n t (record t { ifs = ifs; pairs = pairs })
    makes = record {
      number = number;
      numbers = ap length created ∙ length-append t.pairs (Some (new_pair home unit) ∷ []);
      parts = made-parts s it_is;
      pairs = made-pairs s it_is;
      lives = λ q. refl;
      sound = made-sound s it_is;
    }

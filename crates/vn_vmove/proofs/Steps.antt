-- The steps of a move, and of the end of a pair, put together from the purge on.
use Rattle.std.proofs.Common.{◌≡◌, ℕ, true, false, List, length, Option, Some, None, IsSome, unwrap_or, refl, sym, ap, ap₂, ◌∙◌, subst}
use Rattle.vn_types.specs.declared.interface.HalfId.{HalfId}
use Rattle.vn_types.specs.declared.interface.IfName.{IfName}
use Rattle.vn_types.specs.declared.interface.IfName.TheVariants.{Epair}
use Rattle.vn_types.specs.declared.interface.IfOf.TheVariants.{Half}
use Rattle.vn_types.specs.declared.interface.Side.{Side}
use Rattle.vn_types.specs.declared.interface.Side.TheVariants.{A, B}
use Rattle.vn_types.specs.Interfaces.{half_id_eq}
use Rattle.vn_types.specs.PerStack.{ChangesOnly}
use Rattle.vn_rules.specs.Interfaces.{is_among, named_ifs}
use Rattle.vn_rules.specs.Purge.{purged}
use Rattle.vn_epair.specs.Halves.{Pair}
use Rattle.vn_epair.specs.Pairs.{end_of, half_of, new_pair, of as number_of, pair_of}
use Rattle.vn_ifnet.specs.Stacks.{Held, named, of as held_of, reserved_by}
use Rattle.vn_vmove.specs.declared.tables.Tables.{Tables}
use Rattle.vn_vmove.specs.Leaving.{KeepsRest}
use Rattle.vn_vmove.specs.Moves.{half_on, moved, placed_at, unmade}
use Rattle.vn_vmove.specs.Nets.{Becomes, net_of, on_stack}
use Rattle.vn_vmove.specs.Parts.{held, lives, pair_at, parts}
use Rattle.vn_vmove.specs.Places.{IsFree, KeepsNames, LetsGo, both_let_go, come, left, let_go}
use Rattle.vn_vmove.specs.Sound.{IsHomedAs, IsSound, half_name, name_in, stands_at}
use Rattle.vn_vmove.proofs.Edits.{linked, reserved-same}
use Rattle.vn_vmove.proofs.Left.{free-missed}
use Rattle.vn_vmove.proofs.Moved.{moved-becomes, moved-sound}
use Rattle.vn_vmove.proofs.Names.{stands-pair}
use Rattle.vn_vmove.proofs.Forgotten.{half-forgotten, still-forgotten}
use Rattle.vn_vmove.proofs.Unmade.{unmade-becomes, unmade-sound}

-- ---- a number that has a pair

pub some-of : (o : Option Pair) (d : Pair) → IsSome o → o ≡ Some (unwrap_or o d)
some-of None d e = cc
some-of (Some p) d e = refl

-- the name of a half of a pair that exists
pub name-some : (o : Option Pair) (d : Pair) (side : Side) → IsSome o → half_name o side ≡ Epair (unwrap_or o d).unit side
name-some None d side e = cc
name-some (Some p) d side e = refl

-- ---- a move

module _ (old t : Tables) (s : IsSound t) (h : HalfId) (name : IfName) (from to : ℕ) (b : Becomes (on_stack from (purged half_id_eq h) (net_of old)) old t)
    (stands : stands_at from h.side (pair_at old h.pair) ≡ true) (live : lives old to ≡ true) (called : name_in old h ≡ name) (free : IsFree old h to) where
  there : (pair : Pair) × (pair_at t h.pair ≡ Some pair) × ((end_of h.side pair).at ≡ from)
  there = stands-pair from h.side (pair_at t h.pair) (ap (stands_at from h.side) (b.pairs h.pair) ∙ stands)

  name_still : (g : HalfId) → name_in t g ≡ name_in old g
  name_still g = ap (λ o. half_name o g.side) (b.pairs g.pair)

  free_still : IsFree t h to
  free_still = record {
    alone = λ g at same. free.alone g (ap (stands_at to g.side) (sym (b.pairs g.pair)) ∙ at) (sym (name_still g) ∙ same ∙ name_still h);
    own = λ g home. free.own g (subst (λ n. IsHomedAs to n g.side (pair_at old g.pair)) (name_still h) (subst (IsHomedAs to (name_in t h) g.side) (b.pairs g.pair) home));
  }

  pub pair-there : IsSome (pair_at t h.pair)
  pair-there = subst (λ (o : Option Pair). IsSome o) (sym there.1) refl

  pub carry-free : named name (record (held t to) { attached = left h from to (held t to).attached }) ≡ None
  carry-free = free-missed s h from there.0 there.1 there.2 to name (name_still h ∙ called) free_still

  module _ (ifs : List Held) (pairs : List (Option Pair))
      (attached : (q : ℕ) → (held_of ifs q).attached ≡ come h name to q (left h from q (held t q).attached))
      (reserved : (q : ℕ) → (held_of ifs q).reserved ≡ (held t q).reserved)
      (placed : number_of pairs h.pair ≡ Some (placed_at h.side to (pair_of t.pairs h.pair)))
      (others : ChangesOnly h.pair (pair_at t) (number_of pairs)) where
    placed_so : number_of pairs h.pair ≡ Some (placed_at h.side to there.0)
    placed_so = placed ∙ ap (λ o. Some (placed_at h.side to (unwrap_or o (new_pair 0 0)))) there.1

    pub transfer-sound : IsSound (linked t ifs pairs)
    transfer-sound = moved-sound s h from to there.0 there.1 there.2 name (name_still h ∙ called) free_still (b.lives to ∙ live) (half-forgotten h from old t b)
        ifs pairs attached reserved placed_so others

    pub transfer-becomes : length pairs ≡ length t.pairs → Becomes (moved h from to (net_of old)) old (linked t ifs pairs)
    transfer-becomes numbers = moved-becomes s h from to there.0 there.1 there.2 name (name_still h ∙ called) free_still (b.lives to ∙ live) (half-forgotten h from old t b)
        ifs pairs attached reserved placed_so others old b numbers

    pub transfer-reserved : KeepsRest old t → KeepsNames old (linked t ifs pairs)
    transfer-reserved rest q n = reserved-same (held_of ifs q) (held t q) (reserved q) n ∙ ap (λ i. reserved_by n (held_of i q)) rest.ifs

-- ---- the end of a pair

module _ (old first t : Tables) (s : IsSound t) (n : ℕ) (some : IsSome (pair_at old n)) (ra rb : ℕ)
    (at_a : ra ≡ (half_of old.pairs (half_on A n)).at) (at_b : rb ≡ (half_of first.pairs (half_on B n)).at)
    (one : Becomes (on_stack ra (purged half_id_eq (half_on A n)) (net_of old)) old first)
    (two : Becomes (on_stack rb (purged half_id_eq (half_on B n)) (net_of first)) first t) where
  abbrev pair : Pair
  pair = pair_of t.pairs n

  same_pair : pair_at t n ≡ pair_at old n
  same_pair = two.pairs n ∙ one.pairs n

  pub still-some : IsSome (pair_at t n)
  still-some = subst (λ (o : Option Pair). IsSome o) (sym same_pair) some

  is : pair_at t n ≡ Some pair
  is = some-of (pair_at t n) (new_pair 0 0) still-some

  a_is : ra ≡ pair.a.at
  a_is = at_a ∙ ap (λ o. (unwrap_or o (new_pair 0 0)).a.at) (sym same_pair)

  b_is : rb ≡ pair.b.at
  b_is = at_b ∙ ap (λ o. (unwrap_or o (new_pair 0 0)).b.at) (sym (two.pairs n))

  unnamed : (side : Side) → is_among half_id_eq (named_ifs (parts t (end_of side pair).at)) (Half (half_on side n)) ≡ false
  unnamed A = ap (λ r. is_among half_id_eq (named_ifs (parts t r)) (Half (half_on A n))) (sym a_is)
      ∙ still-forgotten (half_on B n) rb first t two ra (Half (half_on A n)) (half-forgotten (half_on A n) ra old first one)
  unnamed B = ap (λ r. is_among half_id_eq (named_ifs (parts t r)) (Half (half_on B n))) (sym b_is) ∙ half-forgotten (half_on B n) rb first t two

  module _ (mid ifs : List Held) (pairs : List (Option Pair))
      (left_a : (q : ℕ) → (held_of mid q).attached ≡ left (half_on A n) (half_of t.pairs (half_on A n)).at q (held t q).attached)
      (left_b : (q : ℕ) → (held_of ifs q).attached ≡ left (half_on B n) (half_of t.pairs (half_on B n)).at q (held_of mid q).attached)
      (go_a : (q : ℕ) (name : IfName) → reserved_by name (held_of mid q) ≡ let_go (half_name (pair_at t n) A) pair.home q name (reserved_by name (held t q)))
      (go_b : (q : ℕ) (name : IfName) → reserved_by name (held_of ifs q) ≡ let_go (half_name (pair_at t n) B) pair.home q name (reserved_by name (held_of mid q)))
      (gone : number_of pairs n ≡ None)
      (others : ChangesOnly n (pair_at t) (number_of pairs)) where
    attached_so : (q : ℕ) → (held_of ifs q).attached ≡ left (half_on B n) pair.b.at q (left (half_on A n) pair.a.at q (held t q).attached)
    attached_so q = left_b q ∙ ap (left (half_on B n) pair.b.at q) (left_a q)

    reserved_so : LetsGo (Some pair) t (linked t ifs pairs)
    reserved_so q name = go_b q name
        ∙ ap₂ (λ own o. let_go own pair.home q name o) (name-some (pair_at t n) (new_pair 0 0) B still-some)
        (go_a q name ∙ ap (λ own. let_go own pair.home q name (reserved_by name (held t q))) (name-some (pair_at t n) (new_pair 0 0) A still-some))

    pub end-sound : IsSound (linked t ifs pairs)
    end-sound = unmade-sound s n pair is unnamed ifs pairs attached_so reserved_so gone others

    pub end-becomes : length pairs ≡ length t.pairs → Becomes (unmade n (pair_at old n) (net_of old)) old (linked t ifs pairs)
    end-becomes numbers = subst (λ o. Becomes (unmade n o (net_of old)) old (linked t ifs pairs)) (sym is ∙ same_pair)
        (unmade-becomes s n pair is unnamed ifs pairs attached_so reserved_so gone others old first
        (subst (λ r. Becomes (on_stack r (purged half_id_eq (half_on A n)) (net_of old)) old first) a_is one)
        (subst (λ r. Becomes (on_stack r (purged half_id_eq (half_on B n)) (net_of first)) first t) b_is two) numbers)

    pub end-reserved : KeepsRest old first → KeepsRest first t → LetsGo (pair_at old n) old (linked t ifs pairs)
    end-reserved kept_one kept_two q name = reserved_so q name
        ∙ ap₂ (λ o i. both_let_go o q name (reserved_by name (held_of i q))) (sym is ∙ same_pair) (kept_two.ifs ∙ kept_one.ifs)

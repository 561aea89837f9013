-- What vnet and -vnet refuse, condition by condition, and what they do otherwise.
use Rattle.std.proofs.Common.{◌≡◌, ◌≢◌, ℕ, ◌==◌, Bool, true, false, ◌||◌, not, [], ◌∷◌, Option, Some, None, IfSome, IsSome, unwrap_or, refl, sym, ap, ap₂, ◌∙◌, subst}
use Rattle.std.specs.Option.{is_none, is_some}
use Rattle.std.proofs.lemmas.Bool.{eq-eqb, eqb-false, eqb-true, false_from_ne_true, not_from_false, not_from_true, or_from}
use Rattle.vn_types.specs.declared.errno.Errno.{Errno}
use Rattle.vn_types.specs.declared.errno.Errno.TheVariants as errno
use Rattle.vn_types.specs.declared.interface.HalfId.{HalfId}
use Rattle.vn_types.specs.declared.interface.IfName.{IfName}
use Rattle.vn_types.specs.declared.interface.IfName.TheVariants.{Epair}
use Rattle.vn_types.specs.declared.interface.IfOf.{IfOf}
use Rattle.vn_types.specs.declared.interface.IfOf.TheVariants.{Half}
use Rattle.vn_types.specs.declared.interface.Sid.{Sid}
use Rattle.vn_types.specs.Interfaces.{half_id_eq, if_same}
use Rattle.vn_types.specs.Refusals.{first_refusal}
use Rattle.vn_epair.specs.Pairs.{end_of, half_of, new_pair, pair_of}
use Rattle.vn_ifnet.specs.Stacks.{is_another, is_taken, named, reserved_by}
use Rattle.vn_vmove.specs.declared.tables.Tables.{Tables}
use Rattle.vn_vmove.specs.Moves.{homeward, is_kept_from, is_other_if, may_have, moved, moved_on, reclaim_refusal}
use Rattle.vn_vmove.specs.Nets.{Net}
use Rattle.vn_vmove.specs.Parts.{held, lives, pair_at}
use Rattle.vn_vmove.specs.Places.{IsFree}
use Rattle.vn_vmove.specs.Sound.{IsSound, half_name, name_in, stands_at}
use Rattle.vn_vmove.proofs.Names.{found-stands, home-free, stands-pair}
use Rattle.vn_vmove.proofs.Steps.{name-some, some-of}
use Rattle.vn_vmove.proofs.Deciding.{half-refl, if-Decides}

-- ---- an interface that is a half moves

pub moved_on-half : (on : Option (IfOf HalfId)) (from to : Option Sid) (h : HalfId) (f t : Sid) (net : Net)
    → on ≡ Some (Half h) → from ≡ Some f → to ≡ Some t → moved_on on from to net ≡ moved h f.0 t.0 net
unfolding moved_on
moved_on-half on from to h f t net is a b = λ i. moved_on (is i) (a i) (b i) net

-- ---- -vnet

abbrev reclaim_by : Bool → Option (IfOf HalfId) → Bool → Bool → Option Errno
reclaim_by dead on allows kept =
    first_refusal
    ((dead, errno.NxIo) ∷ (is_none on, errno.NxIo) ∷ (not (may_have allows on), errno.Perm) ∷ (kept, errno.Exist) ∷ [])

module _ (t : Tables) (to : Sid) (from : Option Sid) (name : IfName) (allows : Bool) (f : Sid) (at : from ≡ Some f) (h : HalfId) (is : named name (held t f.0) ≡ Some (Half h)) where
  reclaim_half : reclaim_refusal t to from name allows ≡ reclaim_by false (Some (Half h)) allows (is_kept_from (Some (Half h)) name (held t to.0))
  reclaim_half = ap (λ f. reclaim_refusal t to f name allows) at ∙ ap (λ on. reclaim_by false on allows (is_kept_from on name (held t to.0))) is

  pub reclaim-kept : allows ≡ true → is_kept_from (Some (Half h)) name (held t to.0) ≡ true → reclaim_refusal t to from name allows ≡ Some errno.Exist
  reclaim-kept e k = reclaim_half ∙ ap₂ (reclaim_by false (Some (Half h))) e k

  pub reclaim-done : allows ≡ true → is_kept_from (Some (Half h)) name (held t to.0) ≡ false → reclaim_refusal t to from name allows ≡ None
  reclaim-done e k = reclaim_half ∙ ap₂ (reclaim_by false (Some (Half h))) e k

-- ---- whether the name is kept from it, in sound tables

module _ {t : Tables} (s : IsSound t) (name : IfName) (h : HalfId) (from to : ℕ) (is : named name (held t from) ≡ Some (Half h)) where
  -- it stands in no second stack
  kept-elsewhere : from ≢ to → is_kept_from (Some (Half h)) name (held t to) ≡ is_taken name (Some h) (held t to)
  kept-elsewhere ne = ap (λ b. b || is_another (reserved_by name (held t to)) (Some h)) (by (named name (held t to)) refl)
    where
      by : (o : Option (IfOf HalfId)) → named name (held t to) ≡ o → is_other_if o (Some (Half h)) ≡ is_some o
      by None e = refl
      by (Some on) e = not_from_false (if_same half_id_eq on (Half h)) (false_from_ne_true (if_same half_id_eq on (Half h)) (λ own.
          let there = (found-stands s to name h (e ∙ ap Some ((if-Decides on (Half h)).0 own))).0 in
          let here = (found-stands s from name h is).0 in
          let p = stands-pair from h.side (pair_at t h.pair) here in
          let q = stands-pair to h.side (pair_at t h.pair) there in
          ne (sym p.2 ∙ ap (λ o. (end_of h.side (unwrap_or o (new_pair 0 0))).at) (sym p.1 ∙ q.1) ∙ q.2)))

  -- where it stands its name is its own
  kept-here : from ≡ to → is_kept_from (Some (Half h)) name (held t to) ≡ false
  kept-here e = ap (λ q. is_kept_from (Some (Half h)) name (held t q)) (sym e)
      ∙ or_from (is_other_if (named name (held t from)) (Some (Half h))) (is_another (reserved_by name (held t from)) (Some h))
      (ap (λ o. is_other_if o (Some (Half h))) is ∙ not_from_true (half_id_eq h h) (half-refl h)) own
    where
      own : is_another (reserved_by name (held t from)) (Some h) ≡ false
      own =
          let f = found-stands s from name h is in
          let p = stands-pair from h.side (pair_at t h.pair) f.0 in
          let apart = subst (λ o. IfSome o (λ pair. is_another (reserved_by (Epair pair.unit h.side) (held t (end_of h.side pair).at)) (Some h) ≡ false)) p.1 (s.apart h) in
          ap₂ (λ n q. is_another (reserved_by n (held t q)) (Some h)) (sym f.1 ∙ ap (λ o. half_name o h.side) p.1) (sym p.2) ∙ apart

  pub kept-is : (b : Bool) → (from ≡ to → b ≡ false) → (from ≢ to → b ≡ is_taken name (Some h) (held t to)) → is_kept_from (Some (Half h)) name (held t to) ≡ b
  kept-is b same other = by (from == to) refl
    where
      by : (c : Bool) → (from == to) ≡ c → is_kept_from (Some (Half h)) name (held t to) ≡ b
      by true e = let at = eqb-true from to e in kept-here at ∙ sym (same at)
      by false e = let apart = eqb-false from to e in kept-elsewhere apart ∙ sym (other apart)

-- ---- a half goes home

module _ {t : Tables} (s : IsSound t) (h : HalfId) (some : IsSome (pair_at t h.pair)) where
  its_pair : pair_at t h.pair ≡ Some (pair_of t.pairs h.pair)
  its_pair = some-of (pair_at t h.pair) (new_pair 0 0) some

  pub half-stands : (from : ℕ) → from ≡ (half_of t.pairs h).at → stands_at from h.side (pair_at t h.pair) ≡ true
  half-stands from e = ap (stands_at from h.side) its_pair ∙ eq-eqb (half_of t.pairs h).at from (sym e)

  pub home-lives : (home : ℕ) → home ≡ (pair_of t.pairs h.pair).home → lives t home ≡ true
  home-lives home e = ap (lives t) e ∙ subst (λ o. IfSome o (λ pair. lives t pair.home ≡ true)) its_pair (s.homes h.pair)

  pub half-named : (unit : ℕ) → unit ≡ (pair_of t.pairs h.pair).unit → name_in t h ≡ Epair unit h.side
  half-named unit e = name-some (pair_at t h.pair) (new_pair 0 0) h.side some ∙ ap (λ u. Epair u h.side) (sym e)

  pub half-free : (home : ℕ) → home ≡ (pair_of t.pairs h.pair).home → IsFree t h home
  half-free home e = subst (IsFree t h) (sym e) (home-free s h (pair_of t.pairs h.pair) its_pair)

  pub homeward-moved : (from home : ℕ) (net : Net) → from ≡ (half_of t.pairs h).at → home ≡ (pair_of t.pairs h.pair).home
      → homeward h (pair_at t h.pair) net ≡ moved h from home net
  unfolding homeward
  homeward-moved from home net a b = ap (λ o. homeward h o net) its_pair ∙ sym (ap₂ (λ f q. moved h f q net) a b)

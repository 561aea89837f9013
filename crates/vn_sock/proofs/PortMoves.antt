-- The sockets of a stack by their ports, where one is gone and those behind it move up.
use Rattle.std.proofs.Common.{◌≡◌, ℕ, Bool, true, false, not, ◌&&◌, ◌||◌, ◌==◌, List, [], ◌∷◌, map, refl, ap, ap₂, ◌∙◌, arith}
use Rattle.std.specs.List.{list_all}
use Rattle.std.proofs.lemmas.Bool.{and_parts, and_from, or_parts, eq-eqb}
use Rattle.std.proofs.lemmas.Bool.Decides.{nat_tests}
use Rattle.vn_sock.specs.declared.port_index.Bound.{Bound}
use Rattle.vn_sock.specs.Names.{moved, unmoved}
use Rattle.vn_sock.specs.Ports.{precedes, are_ordered, is_bound, has, moved_up}

-- ---- the others, where one is gone

module _ (gone : ℕ) where
  moved-apart : (b : Bound) (q k : ℕ) → (b.place == gone) ≡ false → is_bound q k (moved_up gone b) ≡ is_bound q (unmoved gone k) b
  moved-apart b q k other = ap (λ at. (b.port == q) && at) (by b.place k other)
    where
      by : (j k : ℕ) → (j == gone) ≡ false → (moved gone j == k) ≡ (j == unmoved gone k)
      by j k other = grind (arith, nat_tests)

  moved-before : (a b : Bound) → (a.place == gone) ≡ false → (b.place == gone) ≡ false → precedes a b ≡ true → precedes (moved_up gone a) (moved_up gone b) ≡ true
  moved-before a b first second before = grind (arith, nat_tests)

  pub unmoved-other : (k : ℕ) → (gone == unmoved gone k) ≡ false
  unmoved-other k = grind (arith, nat_tests)

  -- it is gone
  abbrev pub is_gone : List Bound → Type 0
  is_gone bs = (q : ℕ) → has q gone bs ≡ false

  apart : (b : Bound) (bs : List Bound) → is_gone (b ∷ bs) → ((b.place == gone) ≡ false) × is_gone bs
  apart b bs none = (by (b.port == b.port) (eq-eqb b.port b.port refl) (or_parts (is_bound b.port gone b) _ (none b.port)).0, λ q. (or_parts (is_bound q gone b) _ (none q)).1)
    where
      by : (x : Bool) → x ≡ true → (x && (b.place == gone)) ≡ false → (b.place == gone) ≡ false
      by true is none = none
      by false is none = absurd (cc)

  pub moved-has : (bs : List Bound) → is_gone bs → (q k : ℕ) → has q k (map (moved_up gone) bs) ≡ has q (unmoved gone k) bs
  moved-has [] none q k = refl
  moved-has (b ∷ bs) none q k = let parts = apart b bs none in ap₂ (λ x y. x || y) (moved-apart b q k parts.0) (moved-has bs parts.1 q k)

  pub moved-ordered : (bs : List Bound) → is_gone bs → are_ordered bs ≡ true → are_ordered (map (moved_up gone) bs) ≡ true
  moved-ordered [] none ordered = refl
  moved-ordered (b ∷ bs) none ordered =
      let parts = apart b bs none in
      let order = and_parts (list_all (precedes b) bs) _ ordered in
      and_from _ _ (all parts.0 bs parts.1 order.0) (moved-ordered bs parts.1 order.1)
    where
      all : (b.place == gone) ≡ false → (cs : List Bound) → is_gone cs → list_all (precedes b) cs ≡ true → list_all (precedes (moved_up gone b)) (map (moved_up gone) cs) ≡ true
      all here [] none before = refl
      all here (c ∷ cs) none before =
          let parts = apart c cs none in
          let order = and_parts (precedes b c) _ before in
          and_from _ _ (moved-before b c here parts.0 order.0) (all here cs parts.1 order.1)

-- ---- one is gone, and the others move up

module _ (place number : ℕ) (bs cs : List Bound) (only : (q : ℕ) → has q place bs ≡ (number == q))
    (taken : (q k : ℕ) → has q k cs ≡ (not ((number == q) && (place == k)) && has q k bs)) where
  pub now-gone : is_gone place cs
  now-gone q = taken q place ∙ ap₂ (λ at found. not ((number == q) && at) && found) (eq-eqb place place refl) (only q) ∙ by (number == q)
    where
      by : (b : Bool) → (not (b && true) && b) ≡ false
      by true = refl
      by false = refl

  pub gone-has : (q k : ℕ) → has q k (map (moved_up place) cs) ≡ has q (unmoved place k) bs
  gone-has q k =
      moved-has place cs now-gone q k ∙ taken q (unmoved place k) ∙ ap (λ at. not ((number == q) && at) && has q (unmoved place k) bs) (unmoved-other place k) ∙ by (number == q) (has q (unmoved place k) bs)
    where
      by : (b c : Bool) → (not (b && false) && c) ≡ c
      by true c = refl
      by false c = refl

-- Ports: two sockets are in conflict either way round, and the automatic port is the lowest that is free.
use Rattle.std.proofs.Common.{List, ◌≡◌, ℕ, zero, suc, ◌+◌, ◌<◌, ◌≤◌, Bool, true, false, ◌&&◌, ◌==◌, Option, Some, None, refl, sym, ap, ap₂, ◌∙◌, ◌⊎◌, inl, inr, arith}
use Rattle.std.specs.Option.{IfSome, option_map_or}
use Rattle.std.proofs.lemmas.Bool.{cases_lt}
use Rattle.std.proofs.lemmas.Bool.Decides.{same_from_decides, Decides-eqb, Decides-like}
use Rattle.vn_types.specs.declared.address.Ip4.{Ip4}
use Rattle.vn_rules.specs.declared.socket.SocketOf.{SocketOf}
use Rattle.vn_rules.specs.Ports.{overlaps, is_port, first_port, are_in_conflict, automatic_port, is_port_free}

pub eqb-flip : (a b : ℕ) → (a == b) ≡ (b == a)
eqb-flip a b = same_from_decides (a == b) (b == a) (Decides-eqb a b) (Decides-like (b == a) (λ e. sym e) (λ e. sym e) (Decides-eqb b a))

overlaps-flip : (a b : Option Ip4) → overlaps a b ≡ overlaps b a
overlaps-flip None None = refl
overlaps-flip None (Some b) = refl
overlaps-flip (Some a) None = refl
overlaps-flip (Some a) (Some b) = eqb-flip a.0 b.0

module _ {N : Type 0} where
  pub are_in_conflict-flip : (s t : SocketOf N) → are_in_conflict s t ≡ are_in_conflict t s
  are_in_conflict-flip s t = by s.port t.port
    where
      by : (p q : Option ℕ) → option_map_or (λ port. is_port port q && overlaps t.ip s.ip) p false ≡ option_map_or (λ port. is_port port p && overlaps s.ip t.ip) q false
      by None None = refl
      by None (Some q) = refl
      by (Some p) None = refl
      by (Some p) (Some q) = ap₂ ◌&&◌ (eqb-flip q p) (overlaps-flip t.ip s.ip)

-- ---- the lowest port for which a test passes

pub record IsLowest (from many : ℕ) (is_free : ℕ → Bool) (port : ℕ) : Type 0 where
  pub above : from ≤ port
  pub below : port < from + many
  pub free : is_free port ≡ true
  pub none_lower : (q : ℕ) → from ≤ q → q < port → is_free q ≡ false

pub first_port-lowest : (many from : ℕ) (is_free : ℕ → Bool) → IfSome (first_port many from is_free) (IsLowest from many is_free)
unfolding first_port
first_port-lowest zero from is_free = tt
first_port-lowest (suc many) from is_free = by (is_free from) refl (first_port-lowest many (from + 1) is_free)
  where
    step : (o : Option ℕ) → is_free from ≡ false → IfSome o (IsLowest (from + 1) many is_free) → IfSome o (IsLowest from (suc many) is_free)
    step None fails rest = tt
    step (Some port) fails rest =
        let lower : from + 1 ≤ port = rest.above in
        let upper : port < from + 1 + many = rest.below in
        record {
          above = omega arith;
          below = omega arith;
          free = rest.free;
          none_lower = λ q ge lt. low q (cases_lt from q) ge lt;
        }
      where
        low : (q : ℕ) → (from < q) ⊎ (q ≤ from) → from ≤ q → q < port → is_free q ≡ false
        low q (inl more) ge lt = rest.none_lower q (omega arith) lt
        low q (inr less) ge lt = let same : q ≡ from = omega arith in ap is_free same ∙ fails

    by : (b : Bool) → is_free from ≡ b → IfSome (first_port many (from + 1) is_free) (IsLowest (from + 1) many is_free)
        → IfSome (elim b as (λ free. Option ℕ) [ true ↦ Some from | false ↦ first_port many (from + 1) is_free ]) (IsLowest from (suc many) is_free)
    by true is rest = record { above = omega arith; below = omega arith; free = is; none_lower = λ q ge lt. absurd (omega arith) }
    by false is rest = step (first_port many (from + 1) is_free) is rest

-- none is found exactly where the test passes for none of them
pub first_port-none : (many from : ℕ) (is_free : ℕ → Bool) → first_port many from is_free ≡ None → (q : ℕ) → from ≤ q → q < from + many → is_free q ≡ false
unfolding first_port
first_port-none zero from is_free none q ge lt = absurd (omega arith)
first_port-none (suc many) from is_free none q ge lt = by (is_free from) refl none (first_port-none many (from + 1) is_free) (cases_lt from q)
  where
    by : (b : Bool) → is_free from ≡ b → elim b as (λ free. Option ℕ) [ true ↦ Some from | false ↦ first_port many (from + 1) is_free ] ≡ None
        → (first_port many (from + 1) is_free ≡ None → (q : ℕ) → from + 1 ≤ q → q < from + 1 + many → is_free q ≡ false) → (from < q) ⊎ (q ≤ from) → is_free q ≡ false
    by true is none more place = absurd (cc)
    by false is none more (inl above) = more none q (omega arith) (omega arith)
    by false is none more (inr below) = let same : q ≡ from = omega arith in ap is_free same ∙ is

module _ {N : Type 0} (ip : Option Ip4) (others : List (SocketOf N)) where
  pub automatic_port-lowest : IfSome (automatic_port ip others) (IsLowest 49152 16384 (λ port. is_port_free ip port others))
  automatic_port-lowest = first_port-lowest 16384 49152 (λ port. is_port_free ip port others)

  pub automatic_port-none : automatic_port ip others ≡ None → (q : ℕ) → 49152 ≤ q → q < 65536 → is_port_free ip q others ≡ false
  automatic_port-none none q ge lt = first_port-none 16384 49152 (λ port. is_port_free ip port others) none q ge lt

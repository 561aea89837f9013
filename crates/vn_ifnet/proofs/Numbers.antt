-- Names and interfaces are one exactly where their numbers are.
use Rattle.std.proofs.Common.{◌≡◌, ℕ, ◌+◌, ◌*◌, Bool, true, false, ◌==◌, ◌&&◌, refl, sym, ◌∙◌, arith}
use Rattle.std.proofs.lemmas.Bool.{ne_eqb, eq-eqb, false≢true}
use Rattle.std.proofs.lemmas.Bool.Decides.{same_from_decides, Decides-eqb, Decides-like}
use Rattle.vn_types.specs.declared.interface.HalfId.{HalfId}
use Rattle.vn_types.specs.declared.interface.IfName.{IfName}
use Rattle.vn_types.specs.declared.interface.IfName.TheVariants as ifname
use Rattle.vn_types.specs.declared.interface.IfOf.{IfOf}
use Rattle.vn_types.specs.declared.interface.IfOf.TheVariants.{Lo0, Half}
use Rattle.vn_types.specs.declared.interface.Side.{Side}
use Rattle.vn_types.specs.declared.interface.Side.TheVariants.{A, B}
use Rattle.vn_types.specs.Interfaces.{half_id_eq, if_same, side_eq}
use Rattle.vn_rules.specs.Named.{ifname_eq}
use Rattle.vn_ifnet.specs.Names.{if_number, name_number, side_number}

and-true : (b : Bool) → b ≡ (b && true)
and-true true = refl
and-true false = refl

and-false : (b : Bool) → false ≡ (b && false)
and-false true = refl
and-false false = refl

numbers : (m n : ℕ) (s t : Side) → ((2 * m + side_number s) == (2 * n + side_number t)) ≡ ((n == m) && side_eq t s)
numbers m n A A = same_from_decides ((2 * m + 1) == (2 * n + 1)) (n == m) (Decides-like ((2 * m + 1) == (2 * n + 1)) (λ e. omega arith) (λ e. omega arith) (Decides-eqb (2 * m + 1) (2 * n + 1))) (Decides-eqb n m) ∙ and-true (n == m)
numbers m n B B = same_from_decides ((2 * m + 2) == (2 * n + 2)) (n == m) (Decides-like ((2 * m + 2) == (2 * n + 2)) (λ e. omega arith) (λ e. omega arith) (Decides-eqb (2 * m + 2) (2 * n + 2))) (Decides-eqb n m) ∙ and-true (n == m)
numbers m n A B = ne_eqb (2 * m + 1) (2 * n + 2) (λ e. omega arith) ∙ and-false (n == m)
numbers m n B A = ne_eqb (2 * m + 2) (2 * n + 1) (λ e. omega arith) ∙ and-false (n == m)

zero-apart : (m : ℕ) (s : Side) → (0 == (2 * m + side_number s)) ≡ false
zero-apart m A = ne_eqb 0 (2 * m + 1) (λ e. omega arith)
zero-apart m B = ne_eqb 0 (2 * m + 2) (λ e. omega arith)

apart-zero : (m : ℕ) (s : Side) → ((2 * m + side_number s) == 0) ≡ false
apart-zero m A = ne_eqb (2 * m + 1) 0 (λ e. omega arith)
apart-zero m B = ne_eqb (2 * m + 2) 0 (λ e. omega arith)

pub same-name : (a b : IfName) → (name_number a == name_number b) ≡ ifname_eq b a
same-name ifname.Lo0 ifname.Lo0 = refl
same-name ifname.Lo0 (ifname.Epair n t) = zero-apart n t
same-name (ifname.Epair m s) ifname.Lo0 = apart-zero m s
same-name (ifname.Epair m s) (ifname.Epair n t) = numbers m n s t

pub same-if : (a b : IfOf HalfId) → (if_number a == if_number b) ≡ if_same half_id_eq b a
same-if Lo0 Lo0 = refl
same-if Lo0 (Half h) = zero-apart h.pair h.side
same-if (Half g) Lo0 = apart-zero g.pair g.side
same-if (Half g) (Half h) = numbers g.pair h.pair g.side h.side

-- other names have other numbers
pub other-name : (a b : IfName) → name_number a ≡ name_number b → a ≡ b
other-name ifname.Lo0 ifname.Lo0 e = refl
other-name ifname.Lo0 (ifname.Epair n t) e = absurd (false≢true (sym (zero-apart n t) ∙ eq-eqb 0 (2 * n + side_number t) e))
other-name (ifname.Epair m s) ifname.Lo0 e = absurd (false≢true (sym (apart-zero m s) ∙ eq-eqb (2 * m + side_number s) 0 e))
other-name (ifname.Epair m s) (ifname.Epair n t) e = by s t e
  where
    by : (s t : Side) → 2 * m + side_number s ≡ 2 * n + side_number t → ifname.Epair m s ≡ ifname.Epair n t
    by A A e = let k : m ≡ n = omega arith in λ i. ifname.Epair (k i) A
    by B B e = let k : m ≡ n = omega arith in λ i. ifname.Epair (k i) B
    by A B e = absurd (omega arith)
    by B A e = absurd (omega arith)

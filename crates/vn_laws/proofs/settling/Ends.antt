-- What the ends of pairs weigh that stand in one scene.
use Rattle.std.proofs.Common.{◌≡◌, ℕ, ◌+◌, ◌≤◌, Bool, true, false, cond, ◌||◌, List, [], ◌∷◌, find, count_by, Some, unwrap_or, refl, ap, ◌∙◌, arith, le_of_eq}
use Rattle.std.proofs.lemmas.Bool.{both_ways}
use Rattle.vn_types.specs.declared.half.Half.{Half}
use Rattle.vn_types.specs.declared.interface.Side.TheVariants.{A, B}
use Rattle.vn_rules.specs.Scenes.{LinkOf, no_link}
use Rattle.vn_cells.specs.declared.world.End.{End}
use Rattle.vn_cells.specs.declared.world.Pair.{Pair}
use Rattle.vn_cells.specs.world.Names.{Key, half_eq, half_on, has_half}
use Rattle.vn_packets.specs.Weight.{frames_weight}
use Rattle.vn_packets.proofs.Counting.{count-cons, none_of_count}
use Rattle.vn_packets.proofs.SceneWeight.{all_weigh, weigh-cons}
use Rattle.vn_laws.proofs.edits.Names.{half_eq-Decides}
use Rattle.vn_laws.proofs.settling.Sums.{all-same, all-zero, all-both, all-less, one-weighs}

-- what ends weigh, by the half and what is kept of it
abbrev pub Weights : Type 0
Weights = Half → End → ℕ

-- both ends of a pair
abbrev pub in_pair : Weights → Key × Pair → ℕ
in_pair f e = f (half_on A e.0) e.1.a + f (half_on B e.0) e.1.b

-- the ends of pairs
abbrev pub ends_weigh : Weights → List (Key × Pair) → ℕ
ends_weigh f es = all_weigh (in_pair f) es

-- those of some halves
abbrev pub of_halves : List Half → Weights → Weights
of_halves halves f h e = cond (has_half halves h) (f h e) 0

-- those of one half
abbrev pub of_half : Half → Weights → Weights
of_half g f h e = cond (half_eq h g) (f h e) 0

-- the rest
abbrev pub of_others : List Half → Weights → Weights
of_others halves f h e = cond (has_half halves h) 0 (f h e)

-- no half is named twice
abbrev pub AreApart : List Half → Type 0
AreApart halves = (h : Half) → count_by (half_eq h) halves ≤ 1

pub ends-both : (f g : Weights) (es : List (Key × Pair)) → ends_weigh (λ h e. f h e + g h e) es ≡ ends_weigh f es + ends_weigh g es
ends-both f g es = all-same (in_pair (λ h e. f h e + g h e)) (λ e. in_pair f e + in_pair g e) (λ e. omega arith) es ∙ all-both (in_pair f) (in_pair g) es

pub ends-same : (f g : Weights) → ((h : Half) (e : End) → f h e ≡ g h e) → (es : List (Key × Pair)) → ends_weigh f es ≡ ends_weigh g es
ends-same f g same es = all-same (in_pair f) (in_pair g) (λ e i. same (half_on A e.0) e.1.a i + same (half_on B e.0) e.1.b i) es

apart-rest : (h : Half) (halves : List Half) → AreApart (h ∷ halves) → AreApart halves
apart-rest h halves apart g =
    let most = apart g in omega (arith, count-cons (half_eq g) h halves, most)

apart-first : (h : Half) (halves : List Half) → AreApart (h ∷ halves) → has_half halves h ≡ false
apart-first h halves apart =
    let own : cond {A = ℕ} (half_eq h h) 1 0 ≡ 1 = ap (λ b. cond {A = ℕ} b 1 0) ((half_eq-Decides h h).1 refl) in
    let most = apart h in
    none_of_count (half_eq h) halves (omega (arith, count-cons (half_eq h) h halves, own, most))

-- the ends of some halves are those of each
pub ends-each : (halves : List Half) → AreApart halves → (f : Weights) (es : List (Key × Pair)) → ends_weigh (of_halves halves f) es ≡ all_weigh (λ h. ends_weigh (of_half h f) es) halves
ends-each [] apart f es = all-zero es
ends-each (h ∷ halves) apart f es =
    let split = ends-same (of_halves (h ∷ halves) f) (λ g e. of_half h f g e + of_halves halves f g e) either es in
    let both = ends-both (of_half h f) (of_halves halves f) es in
    let rest = ends-each halves (apart-rest h halves apart) f es in
    omega (arith, split, both, rest, weigh-cons (λ g. ends_weigh (of_half g f) es) h halves)
  where
    either : (g : Half) (e : End) → of_halves (h ∷ halves) f g e ≡ of_half h f g e + of_halves halves f g e
    either g e = by (half_eq g h) (has_half halves g) refl refl
      where
        by : (b c : Bool) → half_eq g h ≡ b → has_half halves g ≡ c → cond {A = ℕ} (b || c) (f g e) 0 ≡ cond b (f g e) 0 + cond c (f g e) 0
        by true true is also = absurd (both_ways (has_half halves g) (ap (has_half halves) ((half_eq-Decides g h).0 is) ∙ apart-first h halves apart) also)
        by true false is also = omega arith
        by false true is also = omega arith
        by false false is also = refl

-- the ends of all are those of some halves and the rest
pub ends-split : (halves : List Half) (f : Weights) (es : List (Key × Pair)) → ends_weigh f es ≡ ends_weigh (of_halves halves f) es + ends_weigh (of_others halves f) es
ends-split halves f es = ends-same f (λ h e. of_halves halves f h e + of_others halves f h e) either es ∙ ends-both (of_halves halves f) (of_others halves f) es
  where
    either : (h : Half) (e : End) → f h e ≡ of_halves halves f h e + of_others halves f h e
    either h e = by (has_half halves h)
      where
        by : (b : Bool) → f h e ≡ cond b (f h e) 0 + cond b 0 (f h e)
        by true = omega arith
        by false = omega arith

-- ---- links

-- what the links of some halves weigh, each half's own, is no more than all links do
pub own-links : (halves : List Half) → AreApart halves → (links : List (LinkOf Half))
    → all_weigh (λ h. frames_weight (unwrap_or (find (λ (l : LinkOf Half). half_eq l.half h) links) (no_link h)).sent) halves ≤ all_weigh (λ (l : LinkOf Half). frames_weight l.sent) links
own-links halves apart [] = le_of_eq (all-zero halves)
own-links halves apart (l ∷ links) =
    let less = all-less (own (l ∷ links)) (λ h. cond (half_eq l.half h) (frames_weight l.sent) 0 + own links h) first halves in
    let both = all-both (λ h. cond (half_eq l.half h) (frames_weight l.sent) 0) (own links) halves in
    let one = one-weighs (half_eq l.half) (λ h. cond (half_eq l.half h) (frames_weight l.sent) 0) (frames_weight l.sent) most nothing halves (apart l.half) in
    let rest = own-links halves apart links in
    omega (arith, less, both, one, rest, weigh-cons (λ (k : LinkOf Half). frames_weight k.sent) l links)
  where
    own : List (LinkOf Half) → Half → ℕ
    own ls h = frames_weight (unwrap_or (find (λ (k : LinkOf Half). half_eq k.half h) ls) (no_link h)).sent

    first : (h : Half) → own (l ∷ links) h ≤ cond (half_eq l.half h) (frames_weight l.sent) 0 + own links h
    first h = by (half_eq l.half h)
      where
        by : (b : Bool) → frames_weight (unwrap_or (cond b (Some l) (find (λ (k : LinkOf Half). half_eq k.half h) links)) (no_link h)).sent ≤ cond b (frames_weight l.sent) 0 + own links h
        by true = omega arith
        by false = omega arith

    most : (h : Half) → half_eq l.half h ≡ true → cond (half_eq l.half h) (frames_weight l.sent) 0 ≤ frames_weight l.sent
    most h is = le_of_eq (ap (λ b. cond b (frames_weight l.sent) 0) is)

    nothing : (h : Half) → half_eq l.half h ≡ false → cond (half_eq l.half h) (frames_weight l.sent) 0 ≡ 0
    nothing h is = ap (λ b. cond b (frames_weight l.sent) 0) is

-- A jail and its living descendants are destroyed, the last path first.
use Rattle.std.proofs.Common.{◌≡◌, ◌≢◌, ℕ, ◌-◌, ◌<◌, ◌==◌, Bool, true, false, ◌&&◌, ◌||◌, not, List, [], ◌∷◌, ◌++◌, length, map, Some, None, reverse, refl, sym, ap, ap₂, ◌∙◌, subst}
use Rattle.std.specs.List.{AllByRecursion, list_any}
use Rattle.std.specs.List.Sorted.{IsStrictlySortedBy}
use Rattle.std.specs.Ordering.{ordering_reverse}
use Rattle.std.specs.declared.cmp.Ordering.{Ordering}
use Rattle.std.specs.declared.cmp.Ordering.TheVariants.{Less, Greater}
use Rattle.std.proofs.Math.Bool.{and-false, and-true, or-false}
use Rattle.std.proofs.lemmas.Bool.{and_from, and_parts, eq-eqb, eqb-true, false≢true, false_from_ne_true, not-true, or_right}
use Rattle.std.proofs.lemmas.List.{map-append, reverse-append}
use Rattle.std.proofs.lemmas.List.Folds.{list_any-append}
use Rattle.vn_types.specs.declared.interface.Sid.{Sid}
use Rattle.vn_types.specs.Refusals.{first_refusal}
use Rattle.vn_types.specs.declared.errno.Errno.{Errno}
use Rattle.vn_types.specs.declared.errno.Errno.TheVariants as errno
use Rattle.vn_rules.specs.declared.outcome.Outcome.TheVariants.{Done, Refused}
use Rattle.vn_rules.specs.Rules.{answer}
use Rattle.vn_types.specs.PathOrder.{path_eq-Decides, path_total}
use Rattle.vn_types.specs.Paths.{Path, above, is_host, is_under, parent, path_cmp, path_eq}
use Rattle.vn_types.proofs.UnderPaths.{less-below}
use Rattle.vn_jail.specs.declared.jail.Jail.{Jail}
use Rattle.vn_jail.specs.Order.{IsTeardown, by_path, has_number}
use Rattle.vn_jail.specs.Tree.{at, is_alive, number_of, path_at, remove_refusal, removed, stop}
use Rattle.vn_jail.proofs.Changes.{Stays, alive-stays, changed-at, path-stays}
use Rattle.vn_jail.proofs.Numbers.{is-alive, within}
use Rattle.vn_cells.specs.declared.world.World.{World}
use Rattle.vn_cells.specs.commands.Removal.{destroyed, destroyed_all, living_under, removal}
use Rattle.vn_cells.specs.world.World.{common_of}
use Rattle.vn_laws.proofs.edits.Paths.{below-parent, under-trans}
use Rattle.vn_kernel.specs.Fields.{Fields}
use Rattle.vn_kernel.specs.Removal.{EndsStack, GivesNoNumber}
use Rattle.vn_kernel.specs.Stands.{Answered, HasStack, Stands, reading}
use Rattle.vn_kernel.specs.Worlds.{world_of}
use Rattle.vn_kernel.proofs.Answering.{answered-done, answered-refused}
use Rattle.vn_kernel.proofs.Jails.{alive-numbered}
use Rattle.vn_kernel.proofs.Views.{alive-is}
use Rattle.vn_kernel.proofs.removing.Rest.{as-many-left, leaves-same}
use Rattle.vn_kernel.proofs.removing.Lists.{all-none, any-reverse, sorted-front}
use Rattle.vn_kernel.proofs.removing.LiveUnder.{LiveUnder, living-is}

-- ---- paths

-- what is under a jail is no host
no-host : (q p : Path) → is_host p ≡ false → is_under q p ≡ true → is_host q ≡ false
unfolding is_host is_under
no-host [] [] label under = cc
no-host [] (l ∷ p) label under = cc
no-host (l ∷ q) p label under = refl

-- host's parent is host
host-parent : (q : Path) → is_host q ≡ true → is_host (parent q) ≡ true
unfolding is_host above
host-parent [] h = refl
host-parent (l ∷ q) h = absurd (false≢true h)

-- no two paths come before each other
not-both : (q r : Path) → path_cmp q r ≡ Less → path_cmp r q ≡ Less → ⊥
not-both q r before behind = greater (sym before ∙ path_total.antisymm q r ∙ ap ordering_reverse behind)
  where
    greater : ◌≡◌ {A = Ordering} Less Greater → ⊥
    greater e = cc

-- the last of some paths is destroyed first
destroyed-last : (clock : ℕ) (ps : List Path) (q : Path) (w : World) → destroyed_all clock (ps ++ q ∷ []) w ≡ destroyed_all clock ps (destroyed clock q w)
unfolding destroyed_all
destroyed-last clock [] q w = refl
destroyed-last clock (p ∷ ps) q w = ap (destroyed clock p) (destroyed-last clock ps q w)

-- ---- the last of them is destroyed

module _ (f : Fields) (s : Stands f) (p : Path) (label : is_host p ≡ false) (zs : List Sid) (x : Sid) (under : LiveUnder p f.jails (zs ++ x ∷ [])) where
  abbrev here : Path
  here = path_at f.jails x.0

  front : IsStrictlySortedBy (by_path f.jails) zs × AllByRecursion (λ y. by_path f.jails y x ≡ Less) zs
  front = sorted-front (by_path f.jails) zs x under.rises

  any-last : (n : ℕ) → list_any (has_number n) (zs ++ x ∷ []) ≡ (list_any (has_number n) zs || (x.0 == n))
  any-last n = list_any-append (has_number n) zs (x ∷ []) ∙ ap (λ b. list_any (has_number n) zs || b) (or-false (x.0 == n))

  own : ((at f.jails x.0).alive ≡ true) × (is_under here p ≡ true)
  own = and_parts (at f.jails x.0).alive (is_under here p)
      (sym (under.listed x.0) ∙ any-last x.0 ∙ or_right (list_any (has_number x.0) zs) (x.0 == x.0) (eq-eqb x.0 x.0 refl))

  last-alive : (at f.jails x.0).alive ≡ true
  last-alive = own.0

  last-jail : x.0 ≢ 0
  unfolding is_host
  last-jail e = false≢true (sym (no-host here p label own.1) ∙ ap is_host (ap (path_at f.jails) e ∙ s.linked.host))

  last-childless : (r : Path) → is_alive r f.jails ≡ true → parent r ≢ here
  last-childless r alive up = by (list_any (has_number n) zs) refl (x.0 == n) refl (sym (any-last n) ∙ listed)
    where
      n : ℕ
      n = number_of r f.jails

      known : (n < length f.jails) × (path_at f.jails n ≡ r)
      known = alive-numbered f.jails r alive

      no_host : is_host r ≡ false
      no_host = false_from_ne_true _ (λ host. false≢true (sym (no-host here p label own.1) ∙ ap is_host (sym up) ∙ host-parent r host))

      below : (is_under r here ≡ true) × (not (path_eq here r) ≡ true)
      below = and_parts (is_under r here) (not (path_eq here r)) (ap (λ q. is_under r q && not (path_eq q r)) (sym up) ∙ below-parent r no_host)

      after : path_cmp here r ≡ Less
      after = less-below here r below.0 (not-true (path_eq here r) below.1)

      listed : list_any (has_number n) (zs ++ x ∷ []) ≡ true
      listed = under.listed n ∙ and_from (at f.jails n).alive (is_under (path_at f.jails n) p)
          (sym (is-alive f.jails s.linked r n known.0 known.1) ∙ alive) (ap (λ q. is_under q p) known.1 ∙ under-trans r here p below.0 own.1)

      before : (y : Sid) → by_path f.jails y x ≡ Less → has_number n y ≡ true → ⊥
      before y less is =
          not-both here r after (ap (λ q. path_cmp q here) (sym known.1 ∙ ap (path_at f.jails) (sym (eqb-true y.0 n is))) ∙ less)

      by : (a : Bool) → list_any (has_number n) zs ≡ a → (b : Bool) → (x.0 == n) ≡ b → (a || b) ≡ true → ⊥
      by true some b is any = all-none (λ y. by_path f.jails y x ≡ Less) (has_number n) before zs front.1 some
      by false some true is any = false≢true (sym (not-true (path_eq here r) below.1) ∙ (path_eq-Decides here r).1 (ap (path_at f.jails) (eqb-true x.0 n is) ∙ known.1))
      by false some false is any = false≢true any

  -- ---- afterwards

  module _ (g : Fields) (ends : EndsStack x.0 f g) where
    in_range : x.0 < length f.jails
    in_range = within f.jails x.0 own.0

    stays : Stays stop
    stays j = (refl, refl)

    paths : (n : ℕ) → path_at g.jails n ≡ path_at f.jails n
    paths n = ap (λ jails. path_at jails n) ends.ended.jails ∙ path-stays stop (λ n. n - 1) stays f.jails s.linked x.0 in_range n

    alive-after : (n : ℕ) → (at g.jails n).alive ≡ ((at f.jails n).alive && not (x.0 == n))
    alive-after n = ap (λ jails. (at jails n).alive) ends.ended.jails ∙ by (x.0 == n) refl
      where
        by : (b : Bool) → (x.0 == n) ≡ b → (at (removed here f.jails) n).alive ≡ ((at f.jails n).alive && not b)
        by true e = ap (λ m. (at (removed here f.jails) m).alive) (sym (eqb-true x.0 n e)) ∙ ap (λ (j : Jail). j.alive) (changed-at stop (λ n. n - 1) stays f.jails s.linked x.0 in_range) ∙ sym (and-false (at f.jails n).alive)
        by false e = alive-stays stop (λ n. n - 1) stays f.jails s.linked x.0 in_range n (λ same. false≢true (sym e ∙ eq-eqb x.0 n (sym same))) ∙ sym (and-true (at f.jails n).alive)

    -- it stood once
    once : list_any (has_number x.0) zs ≡ false
    once = false_from_ne_true _ (λ some. all-none (λ y. by_path f.jails y x ≡ Less) (has_number x.0) twice zs front.1 some)
      where
        twice : (y : Sid) → by_path f.jails y x ≡ Less → has_number x.0 y ≡ true → ⊥
        twice y less is =
            let self : path_cmp here here ≡ Less = sym (ap (λ n. path_cmp (path_at f.jails n) here) (eqb-true y.0 x.0 is)) ∙ less in
            not-both here here self self

    listed-after : (n : ℕ) → list_any (has_number n) zs ≡ ((at g.jails n).alive && is_under (path_at g.jails n) p)
    listed-after n =
        by (x.0 == n) refl (sym (any-last n) ∙ under.listed n)
        ∙ sym (ap₂ (λ a q. a && is_under q p) (alive-after n) (paths n))
      where
        by : (b : Bool) → (x.0 == n) ≡ b → (list_any (has_number n) zs || b) ≡ ((at f.jails n).alive && is_under (path_at f.jails n) p)
            → list_any (has_number n) zs ≡ ((at f.jails n).alive && not b && is_under (path_at f.jails n) p)
        by true e both = ap (λ m. list_any (has_number m) zs) (sym (eqb-true x.0 n e)) ∙ once
            ∙ sym (ap (λ b. b && is_under (path_at f.jails n) p) (and-false (at f.jails n).alive))
        by false e both = sym (or-false (list_any (has_number n) zs)) ∙ both
            ∙ sym (ap (λ b. b && is_under (path_at f.jails n) p) (and-true (at f.jails n).alive))

    rest-under : LiveUnder p g.jails zs
    rest-under = record {
      rises = subst (λ (of : ℕ → Path). IsStrictlySortedBy (λ (y z : Sid). path_cmp (of y.0) (of z.0)) zs) (λ i n. sym (paths n) i) front.0;
      listed = listed-after;
    }

    -- the others are to be destroyed as before
    rest-world : destroyed_all f.clock (living_under (world_of g) p) (world_of g) ≡ destroyed_all f.clock (living_under (world_of f) p) (world_of f)
    rest-world =
        ap₂ (destroyed_all f.clock) (living-is g ends.leaves.stands p zs rest-under ∙ (λ i. map (λ (y : Sid). paths y.0 i) zs)) ends.leaves.world
        ∙ sym (destroyed-last f.clock (map (λ (y : Sid). path_at f.jails y.0) zs) here (world_of f))
        ∙ ap (λ ps. destroyed_all f.clock ps (world_of f)) (sym (living-is f s p (zs ++ x ∷ []) under ∙ map-append (λ (y : Sid). path_at f.jails y.0) zs (x ∷ [])))

-- ---- one after another

-- so many stacks are destroyed, and the rest is to be, the last path first
pub record Tearing (p : Path) (rest : List Sid) (f g : Fields) : Type 0 where
  pub stands : Stands g
  pub under : LiveUnder p g.jails (reverse rest)
  pub clock : g.clock ≡ f.clock
  pub jails : length g.jails ≡ length f.jails
  pub numbers : GivesNoNumber f g
  pub read : reading g ≡ reading f
  pub world : destroyed_all f.clock (living_under (world_of g) p) (world_of g) ≡ destroyed_all f.clock (living_under (world_of f) p) (world_of f)

pub tearing-none : (f : Fields) → Stands f → (p : Path) (sids : List Sid) → IsTeardown p f.jails sids → Tearing p sids f f
tearing-none f s p sids down = record {
  stands = s;
  under = record { rises = down.falls; listed = λ n. any-reverse (has_number n) sids ∙ down.listed n };
  clock = refl;
  jails = refl;
  numbers = refl;
  read = refl;
  world = refl;
}

module _ (f g : Fields) (p : Path) (label : is_host p ≡ false) (x : Sid) (rest : List Sid) (so : Tearing p (x ∷ rest) f g) where
  split : LiveUnder p g.jails (reverse rest ++ x ∷ [])
  split = subst (LiveUnder p g.jails) (reverse-append (x ∷ []) rest) so.under

  pub next-stack : HasStack x.0 g
  next-stack = record { stands = so.stands; alive = last-alive g so.stands p label (reverse rest) x split }

  pub next-jail : x.0 ≢ 0
  next-jail = last-jail g so.stands p label (reverse rest) x split

  pub next-childless : (r : Path) → is_alive r g.jails ≡ true → parent r ≢ path_at g.jails x.0
  next-childless = last-childless g so.stands p label (reverse rest) x split

  pub tearing-next : (k : Fields) → EndsStack x.0 g k → Tearing p rest f k
  tearing-next k ends = record {
    stands = ends.leaves.stands;
    under = rest-under g so.stands p label (reverse rest) x split k ends;
    clock = ends.ended.clock ∙ so.clock;
    jails = as-many-left (path_at g.jails x.0) g.jails ends.ended.jails ∙ so.jails;
    numbers = ends.ended.numbers ∙ so.numbers;
    read = ends.leaves.read ∙ so.read;
    world = subst (λ clock. destroyed_all clock (living_under (world_of k) p) (world_of k) ≡ destroyed_all clock (living_under (world_of g) p) (world_of g)) so.clock
        (rest-world g so.stands p label (reverse rest) x split k ends) ∙ so.world;
  }

-- all are
module _ (f : Fields) (s : Stands f) (p : Path) where
  pub tearing-done : (g : Fields) → remove_refusal p f.jails ≡ None → Tearing p [] f g → Answered (answer (world_of f) (removal (common_of (world_of f)) p (world_of f))) Done f g
  unfolding destroyed_all world_of
  tearing-done g lives so =
      answered-done f (removal (common_of (world_of f)) p (world_of f)) g Done none refl
      (leaves-same (ap (λ ps. destroyed_all f.clock ps (world_of g)) (sym (living-is g so.stands p [] so.under)) ∙ so.world) so.stands so.jails so.numbers so.read)
    where
      none : first_refusal (removal (common_of (world_of f)) p (world_of f)).refusals ≡ None
      none = ap (λ b. first_refusal ((not b, errno.NoEnt) ∷ [])) (alive-is f s p) ∙ lives

  pub removal-refused : (bad : Errno) → remove_refusal p f.jails ≡ Some bad → Answered (answer (world_of f) (removal (common_of (world_of f)) p (world_of f))) (Refused bad) f f
  removal-refused bad is = answered-refused f (removal (common_of (world_of f)) p (world_of f)) s bad (ap (λ b. first_refusal ((not b, errno.NoEnt) ∷ [])) (alive-is f s p) ∙ is)

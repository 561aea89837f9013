-- What halves and pairs are called, where each path keeps its number.
use Rattle.std.proofs.Common.{◌≡◌, ℕ, ◌<◌, ◌^◌, List, length, true, Option, Some, None, IfSome, refl, sym, ap, ◌∙◌, subst}
use Rattle.std.specs.Prelude.{is_some, unwrap_or}
use Rattle.std.specs.List.{AllByRecursion}
use Rattle.std.specs.List.Sorted.{IsStrictlySortedBy}
use Rattle.std.specs.Map.{keys_of}
use Rattle.std.specs.Option.{option_map}
use Rattle.vn_types.specs.declared.interface.HalfId.{HalfId}
use Rattle.vn_types.specs.declared.interface.Side.TheVariants.{A, B}
use Rattle.vn_types.specs.Entries.{find}
use Rattle.vn_types.specs.Paths.{Path, Key, path_cmp, key_cmp}
use Rattle.vn_epair.specs.Halves.{End, Pair}
use Rattle.vn_epair.specs.Pairs.{new_pair}
use Rattle.vn_jail.specs.Kept.{IsLinked, IsTree}
use Rattle.vn_jail.specs.Tree.{at, is_known, path_at}
use Rattle.vn_jail.proofs.Numbers.{within}
use Rattle.vn_vmove.specs.Parts.{lives, pair_at}
use Rattle.vn_vmove.specs.Sound.{IsSound}
use Rattle.vn_kernel.specs.Fields.{Fields}
use Rattle.vn_kernel.specs.Naming.{half_by, key_by, key_in, name_of}
use Rattle.vn_kernel.specs.Stands.{AreRead, Stands}
use Rattle.vn_kernel.specs.Worlds.{end_by, pair_by, pair_of}

module _ (f g : Fields) (s : Stands f) (paths : (n : ℕ) → n < length f.jails → path_at g.jails n ≡ path_at f.jails n) where
  -- what lives has its path still
  pub live-path : (n : ℕ) → lives f.tables n ≡ true → path_at g.jails n ≡ path_at f.jails n
  live-path n alive = paths n (within f.jails n (sym (s.living n) ∙ alive))

  half-same : (h : HalfId) (o : Option Pair) → IfSome o (λ pair. lives f.tables pair.home ≡ true) → half_by g.jails h o ≡ half_by f.jails h o
  half-same h None home = refl
  half-same h (Some pair) home = λ i. record { home = live-path pair.home home i; unit = pair.unit; side = h.side }

  pair-key : (o : Option Pair) → IfSome o (λ pair. lives f.tables pair.home ≡ true) → option_map (key_by g.jails) o ≡ option_map (key_by f.jails) o
  pair-key None home = refl
  pair-key (Some pair) home = λ i. Some (live-path pair.home home i, pair.unit)

  end-same : (e : End) → path_at g.jails e.at ≡ path_at f.jails e.at → end_by g.jails e ≡ end_by f.jails e
  end-same e same i = record { at = same i; mac = e.mac; up = e.up; sent = e.sent }

  ends-same : (o : Option Pair) → IfSome o (λ pair. lives f.tables pair.a.at ≡ true) → IfSome o (λ pair. lives f.tables pair.b.at ≡ true)
      → pair_by g.jails (unwrap_or o (new_pair 0 0)) ≡ pair_by f.jails (unwrap_or o (new_pair 0 0))
  ends-same None a b i = record { a = end-same (new_pair 0 0).a (paths 0 s.linked.some) i; b = end-same (new_pair 0 0).b (paths 0 s.linked.some) i }
  ends-same (Some pair) a b i = record { a = end-same pair.a (live-path pair.a.at a) i; b = end-same pair.b (live-path pair.b.at b) i }

  module _ (pairs : (n : ℕ) → pair_at g.tables n ≡ pair_at f.tables n) where
    pub name-same : (h : HalfId) → name_of g h ≡ name_of f h
    unfolding name_of
    name-same h = ap (half_by g.jails h) (pairs h.pair) ∙ half-same h (pair_at f.tables h.pair) (s.sound.homes h.pair)

    -- each half has its name still
    pub names-same : name_of g ≡ name_of f
    names-same i h = name-same h i

    -- and each pair its home and unit
    pub key-same : (n : ℕ) → key_in g n ≡ key_in f n
    unfolding key_in
    key-same n = ap (option_map (key_by g.jails)) (pairs n) ∙ pair-key (pair_at f.tables n) (s.sound.homes n)

    pub pair-same : (k : Key) (n : ℕ) → pair_of g k n ≡ pair_of f k n
    unfolding pair_of
    pair-same k n =
        ap (λ (o : Option Pair). pair_by g.jails (unwrap_or o (new_pair 0 0))) (pairs n)
        ∙ ends-same (pair_at f.tables n) (s.sound.places (record { pair = n; side = A })) (s.sound.places (record { pair = n; side = B }))

    -- and what the world has of it
    pub pairs-same : pair_of g ≡ pair_of f
    pairs-same i k n = pair-same k n i

    -- the rest is owed of what is another
    pub stands-same : g.units ≡ f.units → IsLinked g.jails → IsTree g.jails → ((n : ℕ) → lives g.tables n ≡ (at g.jails n).alive) → IsSound g.tables
        → ((p : Path) → is_known p g.jails ≡ true → is_some (find path_cmp p g.logs) ≡ true) → IsStrictlySortedBy path_cmp (keys_of g.logs) → AreRead g.logs g.readers → Stands g
    stands-same units linked tree living sound listed rise read = record {
      linked = linked;
      tree = tree;
      living = living;
      sound = sound;
      listed = listed;
      logs_rise = rise;
      read = read;
      keyed = λ n. subst (λ o. IfSome o (λ k. find key_cmp k g.units ≡ Some n)) (sym (key-same n)) (subst (λ us. IfSome (key_in f n) (λ k. find key_cmp k us ≡ Some n)) (sym units) (s.keyed n));
      paired = subst (λ (us : List (Key × ℕ)). AllByRecursion (λ (e : Key × ℕ). key_in g e.1 ≡ Some e.0) us) (sym units)
          (subst (λ (names : ℕ → Option Key). AllByRecursion (λ (e : Key × ℕ). names e.1 ≡ Some e.0) f.units) (λ i n. sym (key-same n) i) s.paired);
      units_rise = subst (λ (us : List (Key × ℕ)). IsStrictlySortedBy key_cmp (keys_of us)) (sym units) s.units_rise;
      small = λ n. subst (λ o. IfSome o (λ (pair : Pair). pair.unit < 2 ^ 32)) (sym (pairs n)) (s.small n);
    }

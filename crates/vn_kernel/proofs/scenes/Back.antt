-- A scene that a call left goes back into the world, and all stands.
use Rattle.std.proofs.Common.{◌≡◌, ℕ, ◌==◌, Bool, true, false, ◌||◌, List, [], ◌∷◌, map, Option, Some, None, refl, sym, ap, ap₂, ◌∙◌}
use Rattle.std.specs.Prelude.{if◌then◌else◌, unwrap_or}
use Rattle.std.specs.List.{list_any}
use Rattle.std.specs.Option.{option_map}
use Rattle.vn_types.specs.declared.half.Half.{Half}
use Rattle.vn_types.specs.declared.interface.HalfId.{HalfId}
use Rattle.vn_types.specs.declared.interface.IfOf.{IfOf}
use Rattle.vn_types.specs.declared.interface.IfOf.TheVariants.{Lo0, Half as OfHalf}
use Rattle.vn_types.specs.declared.interface.Side.TheVariants.{A, B}
use Rattle.vn_types.specs.Interfaces.{as_if, half_id_eq, if_same}
use Rattle.vn_types.specs.Paths.{Key}
use Rattle.vn_types.proofs.Options.{some_same}
use Rattle.vn_rules.specs.declared.parts.PartsOf.{PartsOf}
use Rattle.vn_rules.specs.Renamed.{renamed}
use Rattle.vn_rules.specs.Scenes.{LinkOf, SceneOf, link_of, renamed_scene}
use Rattle.vn_rules.proofs.SceneLaws.{link_of-renamed}
use Rattle.vn_epair.specs.Halves.{End as EndOfNumber, Pair as PairOfNumber}
use Rattle.vn_epair.specs.Pairs.{end_of as end_of_number, new_pair}
use Rattle.vn_jail.specs.Tree.{at, path_at}
use Rattle.vn_vmove.specs.declared.tables.Tables.{Tables}
use Rattle.vn_vmove.specs.Moves.{half_on as half_on_number}
use Rattle.vn_vmove.specs.Nets.{Net, net_of}
use Rattle.vn_vmove.specs.Parts.{pair_at, parts}
use Rattle.vn_vmove.specs.Sound.{stands_at}
use Rattle.vn_vmove.proofs.Names.{listed-stands}
use Rattle.vn_cells.specs.machine.Local.{end_after, live_after, pair_after, placed, with_link}
use Rattle.vn_cells.specs.world.Names.{half_eq, half_on, halves_of, has_half}
use Rattle.vn_cells.specs.world.World.{each_pair, each_stack, edit_live}
use Rattle.vn_ipcore.specs.Scenes.{Replaces, end_after as end_after_number, pair_after as pair_after_number, parts_after, placed as placed_number, with_link as with_link_number}
use Rattle.vn_kernel.specs.Fields.{Fields}
use Rattle.vn_kernel.specs.Naming.{key_by, key_in, name_of}
use Rattle.vn_kernel.specs.Stands.{Stands}
use Rattle.vn_kernel.specs.Worlds.{end_by, pair_by, world_of}
use Rattle.vn_kernel.proofs.moving.Called.{SameNames, called, names-called, stands-called}
use Rattle.vn_kernel.proofs.moving.Faithful.{name-is, name-kept}
use Rattle.vn_kernel.proofs.moving.Nets.{each-agree, each-twice, pair_in, stack-edited, world-becomes, world-net, world_in}
use Rattle.vn_kernel.proofs.scenes.Seen.{halves_here, named_scene}

-- whether a half is among renamed interfaces
pub has-renamed : (r : HalfId → Half) → ((a b : HalfId) → half_eq (r a) (r b) ≡ half_id_eq a b) → (h : HalfId) (ifs : List (IfOf HalfId))
    → has_half (halves_of (map (as_if r) ifs)) (r h) ≡ list_any (if_same half_id_eq (OfHalf h)) ifs
has-renamed r kept h [] = refl
has-renamed r kept h (Lo0 ∷ ifs) = has-renamed r kept h ifs
has-renamed r kept h (OfHalf g ∷ ifs) = ap₂ ◌||◌ (kept h g) (has-renamed r kept h ifs)

called-after : (q : ℕ) (scene : SceneOf HalfId) (number : ℕ) (o : Option PairOfNumber) → option_map called (option_map (pair_after_number q scene number) o) ≡ option_map called o
called-after q scene number None = refl
called-after q scene number (Some pair) = refl

module _ {f : Fields} (s : Stands f) (q : ℕ) (scene : SceneOf HalfId) where
  -- ---- the pairs

  end-back : (h : HalfId) (pair : PairOfNumber) → pair_at f.tables h.pair ≡ Some pair
      → end_by f.jails (end_after_number q scene h (end_of_number h.side pair)) ≡ end_after (halves_here f q) (named_scene f scene) (name_of f h) (end_by f.jails (end_of_number h.side pair))
  end-back h pair is =
      by (end.at == q) ∙ ap (λ b. if b then with_link (link_of half_eq (name_of f h) (named_scene f scene)) (end_by f.jails end) else end_by f.jails end) stands
    where
      end : EndOfNumber
      end = end_of_number h.side pair

      stands : ((end_of_number h.side pair).at == q) ≡ has_half (halves_here f q) (name_of f h)
      stands = sym (has-renamed (name_of f) (name-kept s) h (parts f.tables q).interfaces ∙ listed-stands s.sound q h ∙ ap (stands_at q h.side) is)

      link : with_link (link_of half_eq (name_of f h) (named_scene f scene)) (end_by f.jails (end_of_number h.side pair)) ≡ end_by f.jails (with_link_number (link_of half_id_eq h scene) (end_of_number h.side pair))
      link = ap (λ (l : LinkOf Half). with_link l (end_by f.jails (end_of_number h.side pair))) (link_of-renamed (name_of f) half_id_eq half_eq (name-kept s) h scene)

      by : (b : Bool) → end_by f.jails (if b then with_link_number (link_of half_id_eq h scene) (end_of_number h.side pair) else end_of_number h.side pair)
          ≡ (if b then with_link (link_of half_eq (name_of f h) (named_scene f scene)) (end_by f.jails (end_of_number h.side pair)) else end_by f.jails (end_of_number h.side pair))
      by true = sym link
      by false = refl

  abbrev net_after : Net
  net_after = record (net_of f.tables) { pairs = λ number. option_map (pair_after_number q scene number) (pair_at f.tables number) }

  pair-back : (k : Key) (number : ℕ) → key_in f number ≡ Some k → pair_in f net_after k number ≡ pair_after (halves_here f q) (named_scene f scene) k (pair_in f (net_of f.tables) k number)
  unfolding key_in
  pair-back k number own = by (pair_at f.tables number) refl own
    where
      by : (o : Option PairOfNumber) → pair_at f.tables number ≡ o → option_map (key_by f.jails) o ≡ Some k
          → pair_by f.jails (unwrap_or (option_map (pair_after_number q scene number) o) (new_pair 0 0)) ≡ pair_after (halves_here f q) (named_scene f scene) k (pair_by f.jails (unwrap_or o (new_pair 0 0)))
      by None is e = cc
      by (Some pair) is e =
          let same : key_by f.jails pair ≡ k = some_same (key_by f.jails pair) k e in
          (λ i. record { a = end-back (half_on_number A number) pair is i; b = end-back (half_on_number B number) pair is i })
          ∙ (λ i. record {
            a = end_after (halves_here f q) (named_scene f scene) ((name-is f number pair is A ∙ ap (half_on A) same) i) (end_by f.jails pair.a);
            b = end_after (halves_here f q) (named_scene f scene) ((name-is f number pair is B ∙ ap (half_on B) same) i) (end_by f.jails pair.b);
          })

  pairs-back : world_in f (name_of f) net_after ≡ each_pair (pair_after (halves_here f q) (named_scene f scene)) (world_in f (name_of f) (net_of f.tables))
  unfolding each_pair
  pairs-back i = record {
    clock = f.clock;
    stacks = (world_in f (name_of f) (net_of f.tables)).stacks;
    pairs = (each-agree (pair_in f net_after) (λ k number. pair_after (halves_here f q) (named_scene f scene) k (pair_in f (net_of f.tables) k number)) (λ (e : Key × ℕ). key_in f e.1 ≡ Some e.0) pair-back f.units s.paired
        ∙ sym (each-twice (pair_in f (net_of f.tables)) (pair_after (halves_here f q) (named_scene f scene)) f.units)) i;
  }

  -- ---- the stack

  parts-back : (p : PartsOf HalfId) → renamed (name_of f) (parts_after scene p) ≡ record (named_scene f scene).parts { interfaces = (renamed (name_of f) p).interfaces }
  unfolding renamed_scene renamed
  parts-back p = refl

  net-back : (at f.jails q).alive ≡ true → world_in f (name_of f) (placed_number q scene (net_of f.tables)) ≡ placed (path_at f.jails q) (halves_here f q) (named_scene f scene) (world_in f (name_of f) (net_of f.tables))
  unfolding placed placed_number each_pair each_stack
  net-back alive =
      stack-edited f s (name_of f) net_after q alive (parts_after scene) (λ p. record (named_scene f scene).parts { interfaces = p.interfaces }) parts-back
      ∙ ap (edit_live (path_at f.jails q) (live_after (named_scene f scene))) pairs-back

  -- ---- all

  module _ (u : Tables) (replaces : Replaces q scene f.tables u) where
    same-names : SameNames f.tables u
    unfolding placed_number
    same-names number = ap (option_map called) (replaces.becomes.pairs number) ∙ called-after q scene number (pair_at f.tables number)

    pub goes_back : (at f.jails q).alive ≡ true → world_of (record f { tables = u }) ≡ placed (path_at f.jails q) (halves_here f q) (named_scene f scene) (world_of f)
    goes_back alive =
        world-net (record f { tables = u }) ∙ ap (λ r. world_in f r (net_of u)) (names-called f u same-names)
        ∙ world-becomes f (name_of f) (placed_number q scene (net_of f.tables)) f.tables u replaces.becomes ∙ net-back alive
        ∙ ap (placed (path_at f.jails q) (halves_here f q) (named_scene f scene)) (sym (world-net f))

    pub stands_back : Stands (record f { tables = u })
    stands_back = stands-called f u same-names s replaces.becomes.lives replaces.sound

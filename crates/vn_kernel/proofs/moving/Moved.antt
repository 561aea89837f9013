-- A half that moves between stacks by their numbers moves in the world, and all stands.
use Rattle.std.proofs.Common.{◌≡◌, ℕ, ◌==◌, Bool, true, false, List, Option, Some, None, IfSome, refl, sym, ap, ◌∙◌, subst}
use Rattle.std.specs.Prelude.{if◌then◌else◌}
use Rattle.std.specs.Option.{option_map}
use Rattle.vn_types.specs.declared.half.Half.{Half}
use Rattle.vn_types.specs.declared.interface.HalfId.{HalfId}
use Rattle.vn_types.specs.declared.interface.Side.{Side}
use Rattle.vn_types.specs.declared.interface.Side.TheVariants.{A, B}
use Rattle.vn_epair.specs.Halves.{Pair}
use Rattle.vn_epair.specs.Pairs.{end_of}
use Rattle.vn_jail.specs.declared.jail.Jail.{Jail}
use Rattle.vn_jail.specs.Tree.{at, path_at}
use Rattle.vn_vmove.specs.declared.tables.Tables.{Tables}
use Rattle.vn_vmove.specs.Moves.{homeward, moved, placed_at}
use Rattle.vn_vmove.specs.Nets.{Becomes, Net, attached, detach, detached, net_of, on_pair}
use Rattle.vn_vmove.specs.Parts.{lives, pair_at}
use Rattle.vn_vmove.specs.Sound.{IsSound}
use Rattle.vn_cells.specs.world.Names.{key_of}
use Rattle.vn_cells.specs.commands.Moves.{moved as moved_half, placed_at as placed_path}
use Rattle.vn_cells.specs.commands.Pairs.{attach as attach_half, attached as attached_half, detach as detach_half, detached as detached_half}
use Rattle.vn_kernel.specs.Fields.{Fields}
use Rattle.vn_kernel.specs.Naming.{name_of}
use Rattle.vn_kernel.specs.Stands.{Stands}
use Rattle.vn_kernel.specs.Worlds.{pair_by, world_of}
use Rattle.vn_kernel.proofs.moving.Called.{SameNames, called, names-called, stands-called}
use Rattle.vn_kernel.proofs.moving.Faithful.{key-named, name-is, name-kept}
use Rattle.vn_kernel.proofs.moving.Halves.{attached-renamed, detached-renamed}
use Rattle.vn_kernel.proofs.moving.Nets.{pair-edited, stack-edited, world-becomes, world-net, world_in}

pair-placed : (jails : List Jail) (side : Side) (to : ℕ) (pair : Pair) → pair_by jails (placed_at side to pair) ≡ placed_path side (path_at jails to) (pair_by jails pair)
pair-placed jails A to pair = refl
pair-placed jails B to pair = refl

called-placed : (side : Side) (to : ℕ) (o : Option Pair) → option_map called (option_map (placed_at side to) o) ≡ option_map called o
called-placed side to None = refl
called-placed A to (Some pair) = refl
called-placed B to (Some pair) = refl

-- ---- nothing moves

module _ (f : Fields) (u : Tables) (b : Becomes (net_of f.tables) f.tables u) where
  same_pairs : SameNames f.tables u
  same_pairs n = ap (option_map called) (b.pairs n)

  pub same_world : world_of (record f { tables = u }) ≡ world_of f
  same_world =
      world-net (record f { tables = u }) ∙ ap (λ r. world_in f r (net_of u)) (names-called f u same_pairs)
      ∙ world-becomes f (name_of f) (net_of f.tables) f.tables u b ∙ sym (world-net f)

  pub same_stands : Stands f → IsSound u → Stands (record f { tables = u })
  same_stands s sound = stands-called f u same_pairs s b.lives sound

-- ---- a half moves

module _ (f : Fields) (s : Stands f) (h : HalfId) (pair : Pair) (is : pair_at f.tables h.pair ≡ Some pair) (from to : ℕ) where
  abbrev net : Net
  net = net_of f.tables

  abbrev placed : Net
  placed = on_pair h.pair (placed_at h.side to) net

  moved-net : (at f.jails from).alive ≡ true → (at f.jails to).alive ≡ true
      → world_in f (name_of f) (moved h from to net) ≡ moved_half (name_of f h) (path_at f.jails from) (path_at f.jails to) (world_in f (name_of f) net)
  unfolding moved moved_half name_of
  moved-net leaves comes =
      stack-edited f s (name_of f) (detach h from placed) to comes (attached h) (attached_half (name_of f h)) (attached-renamed (name_of f) h)
      ∙ ap (attach_half (name_of f h) (path_at f.jails to))
      (stack-edited f s (name_of f) placed from leaves (detached h) (detached_half (name_of f h)) (λ p. detached-renamed (name_of f) h p (name-kept s))
      ∙ ap (detach_half (name_of f h) (path_at f.jails from))
      (pair-edited f s (name_of f) net h.pair (key_of (name_of f h)) (key-named f h.pair pair is h.side) pair is (placed_at h.side to) (placed_path h.side (path_at f.jails to)) (pair-placed f.jails h.side to pair)))

  module _ (u : Tables) (b : Becomes (moved h from to (net_of f.tables)) f.tables u) where
    pub moved-pairs : SameNames f.tables u
    unfolding moved
    moved-pairs n = ap (option_map called) (b.pairs n) ∙ by (n == h.pair)
      where
        by : (c : Bool) → option_map called (if c then option_map (placed_at h.side to) (pair_at f.tables n) else pair_at f.tables n) ≡ option_map called (pair_at f.tables n)
        by true = called-placed h.side to (pair_at f.tables n)
        by false = refl

    pub moved_world : (at f.jails from).alive ≡ true → (at f.jails to).alive ≡ true
        → world_of (record f { tables = u }) ≡ moved_half (name_of f h) (path_at f.jails from) (path_at f.jails to) (world_of f)
    moved_world leaves comes =
        world-net (record f { tables = u }) ∙ ap (λ r. world_in f r (net_of u)) (names-called f u moved-pairs)
        ∙ world-becomes f (name_of f) (moved h from to net) f.tables u b ∙ moved-net leaves comes
        ∙ ap (moved_half (name_of f h) (path_at f.jails from) (path_at f.jails to)) (sym (world-net f))

    pub moved_stands : IsSound u → Stands (record f { tables = u })
    moved_stands sound = stands-called f u moved-pairs s b.lives sound

-- ---- a half goes home

module _ (f : Fields) (s : Stands f) (h : HalfId) (pair : Pair) (is : pair_at f.tables h.pair ≡ Some pair) (u : Tables)
    (b : Becomes (homeward h (pair_at f.tables h.pair) (net_of f.tables)) f.tables u) where
  stood : (at f.jails (end_of h.side pair).at).alive ≡ true
  stood = sym (s.living (end_of h.side pair).at) ∙ subst (λ o. IfSome o (λ pair. lives f.tables (end_of h.side pair).at ≡ true)) is (s.sound.places h)

  homed : (at f.jails pair.home).alive ≡ true
  homed = sym (s.living pair.home) ∙ subst (λ o. IfSome o (λ pair. lives f.tables pair.home ≡ true)) is (s.sound.homes h.pair)

  becomes : Becomes (moved h (end_of h.side pair).at pair.home (net_of f.tables)) f.tables u
  unfolding homeward
  becomes = subst (λ o. Becomes (homeward h o (net_of f.tables)) f.tables u) is b

  pub home_world : world_of (record f { tables = u }) ≡ moved_half (name_of f h) (path_at f.jails (end_of h.side pair).at) (name_of f h).home (world_of f)
  home_world =
      moved_world f s h pair is (end_of h.side pair).at pair.home u becomes stood homed
      ∙ ap (λ (g : Half). moved_half (name_of f h) (path_at f.jails (end_of h.side pair).at) g.home (world_of f)) (sym (name-is f h.pair pair is h.side))

  pub home_stands : IsSound u → Stands (record f { tables = u })
  home_stands sound = moved_stands f s h pair is (end_of h.side pair).at pair.home u becomes sound

-- A half gets another hardware address: what is refused, and what the world becomes.
use Rattle.std.proofs.Common.{◌≡◌, ℕ, Bool, true, false, ◌||◌, List, [], ◌∷◌, length, Option, Some, None, IfSome, unwrap_or, refl, sym, ap, ◌∙◌, subst, arith}
use Rattle.std.specs.Option.{is_none, option_map}
use Rattle.vn_types.specs.declared.address.Mac.{Mac}
use Rattle.vn_types.specs.declared.errno.Errno.{Errno}
use Rattle.vn_types.specs.declared.errno.Errno.TheVariants as errno
use Rattle.vn_types.specs.declared.interface.HalfId.{HalfId}
use Rattle.vn_types.specs.declared.interface.IfName.{IfName}
use Rattle.vn_types.specs.declared.interface.IfOf.{IfOf}
use Rattle.vn_types.specs.declared.interface.IfOf.TheVariants.{Lo0, Half as OfHalf}
use Rattle.vn_types.specs.declared.interface.Side.{Side}
use Rattle.vn_types.specs.declared.interface.Side.TheVariants.{A, B}
use Rattle.vn_types.specs.Interfaces.{as_if}
use Rattle.vn_types.specs.Paths.{Path}
use Rattle.vn_types.specs.PerStack.{ChangesOnly}
use Rattle.vn_types.specs.Refusals.{first_refusal}
use Rattle.vn_rules.specs.declared.outcome.Outcome.TheVariants.{Done, Refused}
use Rattle.vn_rules.specs.Named.{is_lo0}
use Rattle.vn_rules.specs.Resolution.{is_no_station}
use Rattle.vn_rules.specs.Rules.{answer}
use Rattle.vn_rules.specs.Scenes.{is_queue}
use Rattle.vn_epair.specs.Halves.{End as EndOfNumber, Pair as PairOfNumber}
use Rattle.vn_epair.specs.Pairs.{end_of as end_at, half_of, new_pair, of as number_of_pair, pair_of as pair_known, with_end}
use Rattle.vn_ifnet.specs.Stacks.{named}
use Rattle.vn_jail.specs.Tree.{is_alive, number_of}
use Rattle.vn_vmove.specs.declared.tables.Tables.{Tables}
use Rattle.vn_vmove.specs.Nets.{Becomes, net_of, on_pair}
use Rattle.vn_vmove.specs.Parts.{held, pair_at}
use Rattle.vn_vmove.specs.Sound.{IsSound}
use Rattle.vn_vmove.proofs.Deciding.{pick}
use Rattle.vn_vmove.proofs.Edits.{kept_of}
use Rattle.vn_ipcore.proofs.Linked.{named as called_same, sound_linked}
use Rattle.vn_cells.specs.world.Names.{key_of}
use Rattle.vn_cells.specs.world.World.{edit_pair}
use Rattle.vn_cells.specs.commands.Pairs.{mac_setting, with_mac, with_mac_on}
use Rattle.vn_cells.specs.commands.Taken.{standing}
use Rattle.vn_kernel.specs.Fields.{Fields}
use Rattle.vn_kernel.specs.Naming.{name_of}
use Rattle.vn_kernel.specs.Stands.{Answered, Leaves, Stands}
use Rattle.vn_kernel.specs.Worlds.{pair_by, world_of}
use Rattle.vn_kernel.proofs.Answering.{answered-done, answered-refused}
use Rattle.vn_kernel.proofs.moving.Called.{SameNames, called, names-called, stands-called}
use Rattle.vn_kernel.proofs.moving.Faithful.{key-named}
use Rattle.vn_kernel.proofs.moving.Found.{found-pair, standing-alive}
use Rattle.vn_kernel.proofs.moving.Nets.{pair-edited, world-becomes, world-net, world_in}

-- another hardware address on a side
abbrev with_mac_at : Side → Mac → PairOfNumber → PairOfNumber
with_mac_at side mac pair = with_end side (record (end_at side pair) { mac = mac }) pair

module _ (f : Fields) (s : Stands f) where
  -- ---- a half of a pair

  module _ (h : HalfId) (mac : Mac) (pair : PairOfNumber) (was : pair_at f.tables h.pair ≡ Some pair) (pairs : List (Option PairOfNumber))
      (is : number_of_pair pairs h.pair ≡ Some (with_mac_at h.side mac pair)) (others : ChangesOnly h.pair (pair_at f.tables) (number_of_pair pairs))
      (numbers : length pairs ≡ length f.tables.pairs) where
    abbrev after : Tables
    after = record f.tables { pairs = pairs }

    abbrev g : Fields
    g = record f { tables = after }

    abbrev own : EndOfNumber
    own = record (end_at h.side pair) { mac = mac }

    sound : IsSound after
    sound = sound_linked s.sound h pair was own refl (subst (λ (o : Option PairOfNumber). IfSome o (λ p. is_queue (end_at h.side p).sent ≡ true)) was (s.sound.queues h)) pairs is others

    same_names : SameNames f.tables after
    same_names m = kept_of h.pair (Some (with_mac_at h.side mac pair)) (pair_at f.tables) (number_of_pair pairs) is others (option_map called) m
        (λ e. (λ i. Some (called_same (λ home unit. home ≡ pair.home) h.side own pair refl i, called_same (λ home unit. unit ≡ pair.unit) h.side own pair refl i)) ∙ sym (ap (option_map called) was))

    same_pair : (side : Side) → pair_by f.jails (with_mac_at side mac pair) ≡ with_mac side mac (pair_by f.jails pair)
    same_pair A = refl
    same_pair B = refl

    becomes : Becomes (on_pair h.pair (with_mac_at h.side mac) (net_of f.tables)) f.tables after
    becomes = record {
      parts = λ q. refl;
      pairs = λ m. pick m h.pair (option_map (with_mac_at h.side mac) (pair_at f.tables m)) (pair_at f.tables m) (pair_at after m)
          (λ e. ap (pair_at after) e ∙ is ∙ sym (ap (option_map (with_mac_at h.side mac)) (ap (pair_at f.tables) e ∙ was))) (others.others m);
      lives = λ q. refl;
      numbers = numbers;
    }

    mac-world : world_of g ≡ edit_pair (key_of (name_of f h)) (with_mac h.side mac) (world_of f)
    mac-world =
        world-net g ∙ ap (λ r. world_in f r (net_of after)) (names-called f after same_names)
        ∙ world-becomes f (name_of f) (on_pair h.pair (with_mac_at h.side mac) (net_of f.tables)) f.tables after becomes
        ∙ pair-edited f s (name_of f) (net_of f.tables) h.pair (key_of (name_of f h)) (key-named f h.pair pair was h.side) pair was (with_mac_at h.side mac) (with_mac h.side mac) (same_pair h.side)
        ∙ ap (edit_pair (key_of (name_of f h)) (with_mac h.side mac)) (sym (world-net f))

    pub mac-leaves : Leaves (with_mac_on (Some (OfHalf (name_of f h))) mac (world_of f)) f g
    unfolding with_mac_on name_of
    mac-leaves = record {
      world = mac-world;
      stands = stands-called f after same_names s (λ q. refl) sound;
      grows = record { jails = omega arith; pairs = omega (arith, numbers) };
      read = refl;
    }

  -- ---- the half of a name

  module _ (p : Path) (alive : is_alive p f.jails ≡ true) (sid : ℕ) (at : sid ≡ number_of p f.jails) (name : IfName) (mac : Mac) where
    abbrev refusal : Option (IfOf HalfId) → Option Errno
    refusal o = first_refusal ((is_none (option_map (as_if (name_of f)) o), errno.NxIo) ∷ (is_lo0 (option_map (as_if (name_of f)) o) || is_no_station mac, errno.Inval) ∷ [])

    standing-is : (o : Option (IfOf HalfId)) → o ≡ named name (held f.tables sid) → standing (world_of f) p name ≡ option_map (as_if (name_of f)) o
    standing-is o e = standing-alive s p name alive ∙ ap (option_map (as_if (name_of f))) (sym (e ∙ ap (λ q. named name (held f.tables q)) at))

    refusal-is : (o : Option (IfOf HalfId)) → o ≡ named name (held f.tables sid) → first_refusal (mac_setting p name mac (world_of f)).refusals ≡ refusal o
    refusal-is o e = ap (λ on. first_refusal ((is_none on, errno.NxIo) ∷ (is_lo0 on || is_no_station mac, errno.Inval) ∷ [])) (standing-is o e)

    pub mac-missing : None ≡ named name (held f.tables sid) → Answered (answer (world_of f) (mac_setting p name mac (world_of f))) (Refused errno.NxIo) f f
    mac-missing e = answered-refused f (mac_setting p name mac (world_of f)) s errno.NxIo (refusal-is None e)

    pub mac-lo0 : Some Lo0 ≡ named name (held f.tables sid) → Answered (answer (world_of f) (mac_setting p name mac (world_of f))) (Refused errno.Inval) f f
    mac-lo0 e = answered-refused f (mac_setting p name mac (world_of f)) s errno.Inval (refusal-is (Some Lo0) e)

    module _ (h : HalfId) (e : Some (OfHalf h) ≡ named name (held f.tables sid)) where
      by_mac : (b : Bool) → is_no_station mac ≡ b → first_refusal (mac_setting p name mac (world_of f)).refusals ≡ first_refusal ((false, errno.NxIo) ∷ (b, errno.Inval) ∷ [])
      by_mac b is = refusal-is (Some (OfHalf h)) e ∙ ap (λ b. first_refusal ((false, errno.NxIo) ∷ (b, errno.Inval) ∷ [])) is

      pub mac-bad : is_no_station mac ≡ true → Answered (answer (world_of f) (mac_setting p name mac (world_of f))) (Refused errno.Inval) f f
      mac-bad bad = answered-refused f (mac_setting p name mac (world_of f)) s errno.Inval (by_mac true bad)

      pub mac-done : is_no_station mac ≡ false → (pairs : List (Option PairOfNumber))
          → number_of_pair pairs h.pair ≡ Some (with_end h.side (record (half_of f.tables.pairs h) { mac = mac }) (pair_known f.tables.pairs h.pair))
          → ChangesOnly h.pair (pair_at f.tables) (number_of_pair pairs) → length pairs ≡ length f.tables.pairs
          → Answered (answer (world_of f) (mac_setting p name mac (world_of f))) Done f (record f { tables = record f.tables { pairs = pairs } })
      mac-done good pairs set others numbers = answered-done f (mac_setting p name mac (world_of f)) (record f { tables = record f.tables { pairs = pairs } }) Done
          (by_mac false good) refl
          (subst (λ on. Leaves (with_mac_on on mac (world_of f)) f (record f { tables = record f.tables { pairs = pairs } })) (sym (standing-is (Some (OfHalf h)) e))
          (let there = found-pair s sid name h e in
          mac-leaves h mac there.0 there.1 pairs (set ∙ ap (λ o. Some (with_mac_at h.side mac (unwrap_or o (new_pair 0 0)))) there.1) others numbers))

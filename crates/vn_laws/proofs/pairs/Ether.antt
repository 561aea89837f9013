-- Another hardware address: the world stays sound, and nothing is left behind.
use Rattle.std.proofs.Common.{◌≡◌, Bool, true, false, Option, Some, None, refl, sym, ap, ◌∙◌, subst, inl}
use Rattle.std.specs.Prelude.{if◌then◌else◌}
use Rattle.std.specs.Option.{option_map, is_some}
use Rattle.std.specs.Map.{keys_of}
use Rattle.std.specs.List.Sorted.{IsStrictlySortedBy}
use Rattle.vn_types.specs.declared.address.Mac.{Mac}
use Rattle.vn_types.specs.declared.half.Half.{Half}
use Rattle.vn_types.specs.declared.interface.IfOf.TheVariants.{Lo0, Half as OfHalf}
use Rattle.vn_types.specs.declared.interface.Side.{Side}
use Rattle.vn_types.specs.declared.interface.Side.TheVariants.{A, B}
use Rattle.vn_rules.specs.Soundness.{is_sound_parts}
use Rattle.vn_cells.specs.declared.world.Pair.{Pair}
use Rattle.vn_cells.specs.declared.world.Stack.{Stack}
use Rattle.vn_cells.specs.declared.world.World.{World}
use Rattle.vn_cells.specs.world.Names.{Path, Key, If, path_cmp, key_of, key_eq, half_eq}
use Rattle.vn_cells.specs.world.World.{stack_at, pair_at, ifs_of, edit_pair}
use Rattle.vn_cells.specs.commands.Pairs.{with_mac, with_mac_on}
use Rattle.vn_cells.specs.keeping.Standing.{passes, has_queues}
use Rattle.vn_cells.specs.keeping.Sound.{IsSound}
use Rattle.vn_cells.specs.keeping.Moved.{forgets, is_emptied}
use Rattle.vn_laws.proofs.edits.Cells.{stack_at-each_pair, pair_at-each_pair, stacks-each_pair, ordered_pairs-each_pair}
use Rattle.vn_laws.proofs.edits.Fine.{Fine, fine-none}
use Rattle.vn_laws.proofs.edits.Standing.{SameStanding, places, standing-same, named-same, same_place}
use Rattle.vn_laws.proofs.edits.Trees.{SameTree, tree_of, tree-same}

module _ (h : Half) (mac : Mac) (v : World) where
  abbrev w : World
  w = edit_pair (key_of h) (with_mac h.side mac) v

  same_stack : (q : Path) → stack_at w q ≡ stack_at v q
  same_stack q = stack_at-each_pair _ v q

  -- what doesn't look at the hardware address
  same_pair : {T : Type 0} (g : Option Pair → T) → ((side : Side) (pair : Pair) → g (Some (with_mac side mac pair)) ≡ g (Some pair))
      → (k : Key) → g (pair_at w k) ≡ g (pair_at v k)
  same_pair g blind k = ap g (pair_at-each_pair _ v k) ∙ by (pair_at v k) (key_eq k (key_of h))
    where
      by : (o : Option Pair) (b : Bool) → g (option_map (λ (pair : Pair). if b then with_mac h.side mac pair else pair) o) ≡ g o
      by None b = refl
      by (Some pair) true = blind h.side pair
      by (Some pair) false = refl

  same_places : (side : Side) (pair : Pair) → places (Some (with_mac side mac pair)) ≡ places (Some pair)
  same_places A pair = refl
  same_places B pair = refl

  same_queues : (side : Side) (pair : Pair) → has_queues (Some (with_mac side mac pair)) ≡ has_queues (Some pair)
  same_queues A pair = refl
  same_queues B pair = refl

  same_emptied : (g : Half) (side : Side) (pair : Pair) → is_emptied g (Some (with_mac side mac pair)) ≡ is_emptied g (Some pair)
  same_emptied g side pair = by g.side side refl
    where
      by : (s side : Side) → g.side ≡ s → is_emptied g (Some (with_mac side mac pair)) ≡ is_emptied g (Some pair)
      by A A e = rw e refl
      by A B e = rw e refl
      by B A e = rw e refl
      by B B e = rw e refl

  standing-mac : SameStanding v w
  standing-mac = record {
    alive = λ p. ap (λ (s : Stack). is_some s.live) (same_stack p);
    ifs = λ p. ap ifs_of (same_stack p);
    pairs = record { of = same_pair places same_places };
    ordered = ordered_pairs-each_pair _ v;
  }

  pub tree-mac : SameTree v w
  tree-mac = record {
    trees = λ p. ap tree_of (same_stack p);
    ordered = λ s. subst (λ es. IsStrictlySortedBy path_cmp (keys_of es)) (sym (stacks-each_pair _ v)) s;
  }

  fine-mac : IsSound v → Fine v w
  fine-mac s = record {
    sound = record {
      standing = standing-same s.standing standing-mac
          (λ p. ap (λ (t : Stack). passes (is_sound_parts half_eq) t.live) (same_stack p) ∙ s.standing.tables p)
          (λ k. same_pair has_queues same_queues k ∙ s.standing.queues k);
      tree = tree-same s.tree tree-mac;
      names = named-same s.names standing-mac.pairs;
    };
    leaves = record {
      moved = λ g. inl (same_place standing-mac.pairs g);
      kept = λ g gone. record {
        emptied = same_pair (is_emptied g) (same_emptied g) (key_of g) ∙ gone.emptied;
        forgotten = λ q. ap (λ (t : Stack). passes (forgets g) t.live) (same_stack q) ∙ gone.forgotten q;
      };
    };
  }

pub fine-with_mac_on : {v : World} → IsSound v → (on : Option If) (mac : Mac) → Fine v (with_mac_on on mac v)
unfolding with_mac_on
fine-with_mac_on s None mac = fine-none s
fine-with_mac_on s (Some Lo0) mac = fine-none s
fine-with_mac_on {v} s (Some (OfHalf h)) mac = fine-mac h mac v s

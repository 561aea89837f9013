-- Edits after which the halves stand and are listed as before.
use Rattle.std.proofs.Common.{◌≡◌, Bool, true, false, ◌&&◌, Option, Some, None, refl, sym, ap, ◌∙◌, ◌⊎◌, inl, inr}
use Rattle.std.specs.Prelude.{if◌then◌else◌, count_by}
use Rattle.std.specs.Option.{option_map, is_some}
use Rattle.std.proofs.lemmas.Bool.{and_parts, and_from}
use Rattle.vn_types.specs.declared.half.Half.{Half}
use Rattle.vn_types.specs.declared.interface.Side.{Side}
use Rattle.vn_types.specs.declared.interface.Side.TheVariants.{A, B}
use Rattle.vn_types.specs.declared.interface.IfOf.TheVariants.{Lo0, Half as OfHalf}
use Rattle.vn_rules.specs.Soundness.{is_sound_parts}
use Rattle.vn_cells.specs.declared.cell.Cells.{Cells}
use Rattle.vn_cells.specs.declared.world.Pair.{Pair}
use Rattle.vn_cells.specs.declared.world.World.{World}
use Rattle.vn_cells.specs.world.Names.{Path, Key, If, key_of, if_eq, path_eq, is_under, half_eq}
use Rattle.vn_cells.specs.world.World.{stack_at, pair_at, is_alive, ifs_of, end_of, place}
use Rattle.vn_cells.specs.keeping.Standing.{IsStanding, is_placed, stands_at, times, times_listed, passes, has_queues}
use Rattle.vn_cells.specs.keeping.Sound.{IsNamed}
use Rattle.vn_cells.specs.keeping.Moved.{LeavesNothing}
use Rattle.vn_laws.specs.Relations.{Belongs, Leaves, IsGone, owns_ifs}
use Rattle.vn_laws.proofs.edits.Cells.{OrderedPairs}

-- where the halves of a pair stand
abbrev pub places : Option Pair → Option (Path × Path)
places o = option_map (λ (pair : Pair). (pair.a.at, pair.b.at)) o

abbrev end_by : Side → Path × Path → Path
end_by A ab = ab.0
end_by B ab = ab.1

abbrev stands_by : Path → Side → Option (Path × Path) → Bool
stands_by p side None = false
stands_by p side (Some ab) = path_eq (end_by side ab) p

end_by-is : (side : Side) (pair : Pair) → (end_of side pair).at ≡ end_by side (pair.a.at, pair.b.at)
end_by-is A pair = refl
end_by-is B pair = refl

stands_at-places : (p : Path) (side : Side) (o : Option Pair) → stands_at p side o ≡ stands_by p side (places o)
stands_at-places p side None = refl
stands_at-places p side (Some pair) = ap (λ r. path_eq r p) (end_by-is side pair)

abbrev place_by : Side → Option (Path × Path) → Option Path
place_by side None = None
place_by side (Some ab) = Some (end_by side ab)

place-places : (h : Half) (o : Option Pair) → place h o ≡ place_by h.side (places o)
place-places h None = refl
place-places h (Some pair) = ap Some (end_by-is h.side pair)

abbrev placed_by : (Path → Bool) → Key → Side → Option (Path × Path) → Bool
placed_by alive k side None = true
placed_by alive k side (Some ab) = alive (end_by side ab) && is_under (end_by side ab) k.0

is_placed-places : (w : World) (k : Key) (side : Side) (o : Option Pair)
    → is_placed w k side o ≡ placed_by (is_alive w) k side (places o)
is_placed-places w k side None = refl
is_placed-places w k side (Some pair) = ap (λ r. is_alive w r && is_under r k.0) (end_by-is side pair)

-- ---- each half stands where it stood

pub record SamePlaces (v w : World) : Type 0 where
  pub of : (k : Key) → places (pair_at w k) ≡ places (pair_at v k)

module _ {v w : World} (same : SamePlaces v w) where
  pub same_stands : (p : Path) (h : Half) → stands_at p h.side (pair_at w (key_of h)) ≡ stands_at p h.side (pair_at v (key_of h))
  same_stands p h =
      stands_at-places p h.side (pair_at w (key_of h)) ∙ ap (stands_by p h.side) (same.of (key_of h))
      ∙ sym (stands_at-places p h.side (pair_at v (key_of h)))

  pub same_place : (h : Half) → place h (pair_at w (key_of h)) ≡ place h (pair_at v (key_of h))
  same_place h =
      place-places h (pair_at w (key_of h)) ∙ ap (place_by h.side) (same.of (key_of h)) ∙ sym (place-places h (pair_at v (key_of h)))

  pub leaves_nothing-same : LeavesNothing v w
  leaves_nothing-same = record {
    emptied = λ h moved. absurd (moved (same_place h));
    forgotten = λ h p moved. absurd (moved (same_place h));
  }

  -- where nobody dies, they stand in living stacks
  pub still_placed : ((p : Path) → is_alive v p ≡ true → is_alive w p ≡ true) → (k : Key) (side : Side)
      → is_placed v k side (pair_at v k) ≡ true → is_placed w k side (pair_at w k) ≡ true
  still_placed lives k side h =
      is_placed-places w k side (pair_at w k) ∙ ap (placed_by (is_alive w) k side) (same.of k)
      ∙ more (places (pair_at v k)) (sym (is_placed-places v k side (pair_at v k)) ∙ h)
    where
      more : (o : Option (Path × Path)) → placed_by (is_alive v) k side o ≡ true → placed_by (is_alive w) k side o ≡ true
      more None h = refl
      more (Some ab) h = let parts = and_parts _ _ h in and_from _ _ (lives (end_by side ab) parts.0) parts.1

-- ---- names

-- halves stand where they stood, if at all, and no pair is made
pub record FewerStand (v w : World) : Type 0 where
  pub stood : (p : Path) (h : Half) → stands_at p h.side (pair_at w (key_of h)) ≡ true
      → stands_at p h.side (pair_at v (key_of h)) ≡ true
  pub existed : (k : Key) → is_some (pair_at w k) ≡ true → is_some (pair_at v k) ≡ true

pub named-fewer : {v w : World} → IsNamed v → FewerStand v w → IsNamed w
named-fewer n f = record {
  once = λ p g h a b unit side. n.once p g h (f.stood p g a) (f.stood p h b) unit side;
  reserved = λ p h a e. n.reserved p h (f.stood p h a) (f.existed (p, h.unit) e);
}

some-places : (o : Option Pair) → is_some o ≡ is_some (places o)
some-places None = refl
some-places (Some pair) = refl

pub named-same : {v w : World} → IsNamed v → SamePlaces v w → IsNamed w
named-same {v} {w} n same = named-fewer n (record {
  stood = λ p h e. sym (same_stands same p h) ∙ e;
  existed = λ k e. some-places (pair_at v k) ∙ ap is_some (sym (same.of k)) ∙ sym (some-places (pair_at w k)) ∙ e;
})

-- ---- nothing dies or is born, and nothing moves

-- the same live
abbrev pub SameAlive : World → World → Type 0
SameAlive v w = (p : Path) → is_alive w p ≡ is_alive v p

-- and each half stands where it stood and is listed as before
pub record SameStanding (v w : World) : Type 0 where
  pub alive : SameAlive v w
  pub ifs : (p : Path) → ifs_of (stack_at w p) ≡ ifs_of (stack_at v p)
  pub pairs : SamePlaces v w
  pub ordered : OrderedPairs v → OrderedPairs w

pub standing-same : {v w : World} → IsStanding v → SameStanding v w
    → ((p : Path) → passes (is_sound_parts half_eq) (stack_at w p).live ≡ true)
    → ((k : Key) → has_queues (pair_at w k) ≡ true) → IsStanding w
standing-same {v} {w} s t tables queues = record {
  places = λ k side. still_placed t.pairs (λ p h. t.alive p ∙ h) k side (s.places k side);
  listed = λ p on. ap (count_by (if_eq on)) (t.ifs p) ∙ s.listed p on ∙ sym (times_same p on);
  tables = tables;
  queues = queues;
  pairs_ordered = t.ordered s.pairs_ordered;
}
  where
    times_same : (p : Path) (on : If) → times_listed w p on ≡ times_listed v p on
    times_same p Lo0 = ap times (t.alive p)
    times_same p (OfHalf h) = ap times (same_stands t.pairs p h)

pub belongs-same : {set : Cells} {v w : World} → Belongs set v → SameStanding v w → Belongs set w
belongs-same {set} b t = record {
  halves = λ p h. ap (owns_ifs set) (t.ifs p) ∙ b.halves p h;
  descendants = λ p q h top under alive. b.descendants p q h top under (sym (t.alive q) ∙ alive);
}

-- ---- edits that leave nothing

pub leaves-none : (w : World) → Leaves w w
leaves-none w = record { moved = λ h. inl refl; kept = λ h g. g }

pub leaves-then : {u v w : World} → Leaves u v → Leaves v w → Leaves u w
leaves-then {u} {v} {w} a b = record { moved = λ h. by h (b.moved h) (a.moved h); kept = λ h g. b.kept h (a.kept h g) }
  where
    by : (h : Half) → (place h (pair_at w (key_of h)) ≡ place h (pair_at v (key_of h))) ⊎ IsGone h w
        → (place h (pair_at v (key_of h)) ≡ place h (pair_at u (key_of h))) ⊎ IsGone h v
        → (place h (pair_at w (key_of h)) ≡ place h (pair_at u (key_of h))) ⊎ IsGone h w
    by h (inr g) y = inr g
    by h (inl e) (inl f) = inl (e ∙ f)
    by h (inl e) (inr g) = inr (b.kept h g)

pub leaves_nothing : {v w : World} → Leaves v w → LeavesNothing v w
leaves_nothing {v} {w} l = record {
  emptied = λ h moved. (gone h moved (l.moved h)).emptied;
  forgotten = λ h p moved. (gone h moved (l.moved h)).forgotten p;
}
  where
    gone : (h : Half) → (place h (pair_at w (key_of h)) ≡ place h (pair_at v (key_of h)) → ⊥)
        → (place h (pair_at w (key_of h)) ≡ place h (pair_at v (key_of h))) ⊎ IsGone h w → IsGone h w
    gone h moved (inl e) = absurd (moved e)
    gone h moved (inr g) = g

-- ---- a pair that may be gone

-- what stands of it stood before
pub stood-if : (p : Path) (side : Side) (b : Bool) (o : Option Pair)
    → stands_at p side (if b then None else o) ≡ true → stands_at p side o ≡ true
stood-if p side true o e = cc
stood-if p side false o e = e

-- and it existed
pub existed-if : (b : Bool) (o : Option Pair) → is_some (if b then None else o) ≡ true → is_some o ≡ true
existed-if true o e = cc
existed-if false o e = e

-- its queues have room as before
pub queues-if : (b : Bool) (o : Option Pair) → has_queues o ≡ true → has_queues (if b then None else o) ≡ true
queues-if true o e = refl
queues-if false o e = e

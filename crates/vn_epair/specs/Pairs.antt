-- Pairs by their numbers.
use Rattle.std.specs.Prelude.{◌≡◌, ◌≢◌, ℕ, ◌+◌, ◌*◌, ◌<◌, ◌≤◌, Bool, true, false, ◌==◌, ◌&&◌, not, nat_lt, nat_le, List, [], ◌∷◌, length, slice_index_or, Option, Some, None, unwrap_or}
use Rattle.std.specs.List.{list_any, All}
use Rattle.vn_types.specs.declared.errno.Errno.{Errno}
use Rattle.vn_types.specs.declared.errno.Errno.TheVariants.{Inval, Exist, NetDown, NoBufs}
use Rattle.vn_types.specs.declared.interface.HalfId.{HalfId}
use Rattle.vn_types.specs.declared.interface.IfName.{IfName}
use Rattle.vn_types.specs.declared.interface.IfName.TheVariants.{Epair}
use Rattle.vn_types.specs.declared.interface.Sid.{Sid}
use Rattle.vn_types.specs.declared.interface.Side.{Side}
use Rattle.vn_types.specs.declared.interface.Side.TheVariants.{A, B}
use Rattle.vn_types.specs.Interfaces.{other_side}
use Rattle.vn_types.specs.PerStack.{of as kept}
use Rattle.vn_types.specs.Refusals.{first_refusal}
use Rattle.vn_rules.specs.Macs.{first_mac}
use Rattle.vn_rules.specs.Scenes.{is_empty}
use Rattle.vn_epair.specs.declared.half_row.TheConstants.{FRAMES_MAX}
use Rattle.vn_epair.specs.declared.pair_row.TheConstants.{UNIT_MAX}
use Rattle.vn_epair.specs.Halves.{End, Pair}

-- ---- one half

-- a half as it is made: at home, down, and nothing waits
abbrev pub new_end : ℕ → ℕ → Side → End
new_end home unit side = record { at = home; mac = first_mac unit side; up = false; sent = [] }

-- why a half doesn't send a frame
abbrev pub send_refusal : End → Option Errno
send_refusal end =
    first_refusal ((not end.up, NetDown) ∷ (nat_le FRAMES_MAX (length end.sent), NoBufs) ∷ [])

-- nothing waits that the half sent
abbrev pub is_quiet : End → Bool
is_quiet end = is_empty end.sent

-- ---- one pair

-- a pair as it is made
abbrev pub new_pair : ℕ → ℕ → Pair
new_pair home unit = record {
  home = home;
  unit = unit;
  a = new_end home unit A;
  b = new_end home unit B;
}

-- the half of that side
abbrev pub end_of : Side → Pair → End
end_of A pair = pair.a
end_of B pair = pair.b

-- another half on that side
abbrev pub with_end : Side → End → Pair → Pair
with_end A end pair = record pair { a = end }
with_end B end pair = record pair { b = end }

-- the frames that come to the half of that side: those that the other half sent
abbrev pub coming : Side → Pair → List (List ℕ)
coming side pair = (end_of (other_side side) pair).sent

-- the pair when so many frames come to that side
abbrev pub with_coming : Side → List (List ℕ) → Pair → Pair
with_coming side frames pair =
    with_end (other_side side) (record (end_of (other_side side) pair) { sent = frames }) pair

-- no frame waits on either side
abbrev pub emptied : Pair → Pair
emptied pair = record pair { a = record pair.a { sent = [] }; b = record pair.b { sent = [] } }

-- whether the pair that is kept, if there is one, has the home and the unit
abbrev pub is_named : ℕ → ℕ → Option Pair → Bool
is_named home unit None = false
is_named home unit (Some pair) = (pair.home == home) && (pair.unit == unit)

-- ---- all pairs

-- what has the number: a pair, or none
abbrev pub of : List (Option Pair) → ℕ → Option Pair
of pairs number = kept None pairs number

-- the pair of a number that has one
abbrev pub pair_of : List (Option Pair) → ℕ → Pair
pair_of pairs number = unwrap_or (of pairs number) (new_pair 0 0)

-- a half of a pair that exists
abbrev pub half_of : List (Option Pair) → HalfId → End
half_of pairs half = end_of half.side (pair_of pairs half.pair)

-- the frames that come to a half
abbrev pub coming_to : List (Option Pair) → HalfId → List (List ℕ)
coming_to pairs half = coming half.side (pair_of pairs half.pair)

-- whether a frame comes to a half
abbrev pub is_awaiting : List (Option Pair) → HalfId → Bool
is_awaiting pairs half = not (is_empty (coming_to pairs half))

-- why a pair isn't made
abbrev pub create_refusal : ℕ → ℕ → List (Option Pair) → Option Errno
create_refusal home unit pairs =
    first_refusal ((nat_lt UNIT_MAX unit, Inval) ∷ (list_any (is_named home unit) pairs, Exist) ∷ [])

-- whether the pair isn't homed there, and neither of its names stands there, by a test of names
abbrev pub is_unit_free : (IfName → Bool) → ℕ → List (Option Pair) → ℕ → Bool
is_unit_free stands home pairs unit =
    not (list_any (is_named home unit) pairs) && not (stands (Epair unit A))
    && not (stands (Epair unit B))

-- a unit is free, and none below it is
pub record IsLowestFree (stands : IfName → Bool) (home : ℕ) (pairs : List (Option Pair)) (unit : ℕ) : Type 0 where
  -- it is free
  pub free : is_unit_free stands home pairs unit ≡ true
  -- and none below it is
  pub least : (lower : ℕ) → lower < unit → is_unit_free stands home pairs lower ≡ false

-- some unit is free
abbrev pub HasFree : (IfName → Bool) → ℕ → List (Option Pair) → Type 0
HasFree stands home pairs =
    (unit : ℕ) × (unit ≤ UNIT_MAX) × (is_unit_free stands home pairs unit ≡ true)

-- ---- the order of halves

-- 0 and 1
abbrev pub side_number : Side → ℕ
side_number A = 0
side_number B = 1

-- the place of a half among those of its home, by unit and then by side
abbrev pub turn_of : ℕ → Side → ℕ
turn_of unit side = 2 * unit + side_number side

-- the place of a half by its number
abbrev pub turn : List (Option Pair) → HalfId → ℕ
turn pairs half = turn_of (pair_of pairs half.pair).unit half.side

-- the number of the stack where a half's pair is homed
abbrev pub home_of : List (Option Pair) → HalfId → ℕ
home_of pairs half = (pair_of pairs half.pair).home

-- the first half to which a frame comes, by the place of its home in the order, unit and side
pub record IsNextQueued (order : List Sid) (pairs : List (Option Pair)) (half : HalfId) : Type 0 where
  -- a frame comes to it
  pub awaiting : is_awaiting pairs half ≡ true
  -- the place of its home
  pub place : ℕ
  -- which is one of the order
  pub listed : place < length order
  -- there stands its home
  pub home : (d : Sid) → (slice_index_or order place d).0 ≡ home_of pairs half
  -- no frame comes to a half whose home stands before
  pub homes : (i : ℕ) (d : Sid) (other : HalfId) → i < place → is_awaiting pairs other ≡ true
      → home_of pairs other ≢ (slice_index_or order i d).0
  -- nor to one of the same home with a lower unit, or the same unit and a lower side
  pub first : (other : HalfId) → is_awaiting pairs other ≡ true
      → home_of pairs other ≡ home_of pairs half → turn pairs half ≤ turn pairs other

-- no frame comes to a half whose home is in the order
abbrev pub IsAllQuiet : List Sid → List (Option Pair) → Type 0
IsAllQuiet order pairs =
    (half : HalfId) → is_awaiting pairs half ≡ true → All (λ (sid : Sid). home_of pairs half ≢ sid.0) order

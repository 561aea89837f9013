-- The halves to which frames come, in order.
use Rattle.std.specs.Prelude.{◌≡◌, ℕ, ◌+◌, ◌*◌, ◌<◌, Bool, true, false, ◌==◌, ◌&&◌, ◌||◌, not, List, length, slice_index_or, if◌then◌else◌}
use Rattle.std.specs.List.{list_any}
use Rattle.vn_types.specs.declared.interface.HalfId.{HalfId}
use Rattle.vn_types.specs.Interfaces.{half_id_eq}
use Rattle.vn_epair.specs.declared.line.Awaited.{Awaited}
use Rattle.vn_epair.specs.Pairs.{turn_of}

-- a half's place in the order of home, unit and side
abbrev pub place_in_order : ℕ → ℕ → ℕ
place_in_order home turn = 33554432 * home + turn

-- the place of a half that is listed
abbrev pub rank : Awaited → ℕ
rank e = place_in_order e.home.0 (turn_of e.unit e.half.side)

-- whether it is this half
abbrev pub is_half : HalfId → Awaited → Bool
is_half half e = half_id_eq half e.half

-- whether it stands at this place in the order
abbrev pub is_ranked : ℕ → Awaited → Bool
is_ranked place e = rank e == place

-- halves in order, and room for more
pub record Halves : Type 0 where
  -- in order, the last first
  pub listed : List Awaited
  -- how many more are taken without memory
  pub room : ℕ

-- the halves stand in order, the last one first, and each once
abbrev pub IsInOrder : List Awaited → Type 0
IsInOrder es = (i j : ℕ) (d : Awaited) → i < j → j < length es
    → rank (slice_index_or es j d) < rank (slice_index_or es i d)

-- what becomes of the halves, where frames came to one or not, and come to it or not
pub record IsSettled (half : Awaited) (was_quiet is_quiet : Bool) (old new : Halves) : Type 0 where
  -- where nothing changed, the same are listed
  pub same : was_quiet ≡ is_quiet → new.listed ≡ old.listed
  -- where the first frame came, the half is listed too
  pub put : was_quiet ≡ true → is_quiet ≡ false → (test : Awaited → Bool)
      → list_any test new.listed ≡ (test half || list_any test old.listed)
  -- where the last frame went, it is listed no more
  pub removed : was_quiet ≡ false → is_quiet ≡ true → (test : Awaited → Bool)
      → list_any test new.listed
      ≡ list_any (λ e. test e && not (is_ranked (rank half) e)) old.listed
  -- one place less is needed where a frame waits
  pub room : new.room + (if is_quiet then 0 else 1) ≡ old.room + (if was_quiet then 0 else 1)

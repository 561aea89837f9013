-- Tests on the names of interfaces, and names of halves under a renaming.
use Rattle.std.specs.Prelude.{Bool, true, false, ◌==◌, ◌&&◌}
use Rattle.vn_types.specs.declared.interface.Side.{Side}
use Rattle.vn_types.specs.declared.interface.Side.TheVariants.{A, B}
use Rattle.vn_types.specs.declared.interface.HalfId.{HalfId}
use Rattle.vn_types.specs.declared.interface.IfOf.{IfOf}
use Rattle.vn_types.specs.declared.interface.IfOf.TheVariants.{Lo0, Half}

-- whether two sides are one
abbrev pub side_eq : Side → Side → Bool
side_eq A A = true
side_eq B B = true
side_eq _ _ = false

-- the side at the other end
abbrev pub other_side : Side → Side
other_side A = B
other_side B = A

-- whether two halves are one
abbrev pub half_id_eq : HalfId → HalfId → Bool
half_id_eq g h = (g.pair == h.pair) && side_eq g.side h.side

-- whether two interfaces are one, by a test on names of halves
abbrev pub if_same : {N : Type 0} → (N → N → Bool) → IfOf N → IfOf N → Bool
if_same same Lo0 Lo0 = true
if_same same (Half g) (Half h) = same g h
if_same same _ _ = false

-- the same interface under other names of halves
abbrev pub as_if : {N M : Type 0} → (N → M) → IfOf N → IfOf M
as_if r Lo0 = Lo0
as_if r (Half n) = Half (r n)

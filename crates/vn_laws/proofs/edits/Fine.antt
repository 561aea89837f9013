-- An edit that keeps the world sound and leaves nothing behind.
use Rattle.vn_cells.specs.declared.world.World.{World}
use Rattle.vn_cells.specs.keeping.Sound.{IsSound}
use Rattle.vn_laws.specs.Relations.{Leaves}
use Rattle.vn_laws.proofs.edits.Shapes.{SameShape, sound-shape, leaves-shape}
use Rattle.vn_laws.proofs.edits.Standing.{leaves-none, leaves-then}

pub record Fine (v w : World) : Type 0 where
  pub sound : IsSound w
  pub leaves : Leaves v w

pub fine-none : {v : World} → IsSound v → Fine v v
fine-none {v} s = record { sound = s; leaves = leaves-none v }

pub fine-then : {u v w : World} → Fine u v → Fine v w → Fine u w
fine-then a b = record { sound = b.sound; leaves = leaves-then a.leaves b.leaves }

pub fine-shape : {u v w : World} → Fine u v → SameShape v w → Fine u w
fine-shape f t = record { sound = sound-shape f.sound t; leaves = leaves-then f.leaves (leaves-shape t) }

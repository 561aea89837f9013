use Rattle.std.proofs.Common.{◌≡◌, ℕ, Option, None, Some, subst}
use Rattle.vn_cells.specs.declared.world.World.{World}
use Rattle.vn_cells.specs.machine.Local.{lines_left}
use Rattle.vn_kernel.specs.Fields.{fields}
use Rattle.vn_kernel.specs.Machines.{Machine}
use Rattle.vn_kernel.proofs.ReaderEvents.{left-kept, left-spent}
use Rattle.vn_kernel.proofs.kernel.Kernel.remaining.Goals as goal

pub remaining-requires : goal.remaining-requires
remaining-requires c = c.self.invariant.stands c.if-self.false

pub returns-then-self : goal.returns-then-self
returns-then-self c =
    subst (λ (m : Machine). (w : World) → m.world ≡ Some w → ◌≡◌ {A = Option ℕ} None (lines_left w c.args.lane c.args.path.now)) c.self.view_is
    (left-spent c.self.inside.spent (fields c.self.inside.state) c.args.lane c.args.path.now c.if-self.true)

pub returns : goal.returns
returns c =
    subst (λ (m : Machine). (w : World) → m.world ≡ Some w → c.remaining.result ≡ lines_left w c.args.lane c.args.path.now) c.self.view_is
    (left-kept c.self.inside.spent (fields c.self.inside.state) c.args.lane c.args.path.now c.remaining.result c.if-self.false c.remaining.ensures)

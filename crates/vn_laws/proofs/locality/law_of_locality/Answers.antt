use Rattle.vn_types.specs.declared.errno.Errno.TheVariants as errno
use Rattle.vn_laws.proofs.Reach.{placed-near, near-answers, refused-adds, dead-refused, adds-jail}
use Rattle.vn_laws.proofs.locality.law_of_locality.Goals as goal

pub returns : goal.returns
returns c = record {
  placed = placed-near;
  near = near-answers;
  dead = λ w lane p command dead. refused-adds w lane p command errno.NoEnt (dead-refused w p command dead);
  refused = refused-adds;
  creation = adds-jail;
}

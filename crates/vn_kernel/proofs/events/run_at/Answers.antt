use Rattle.std.proofs.Common.{refl}
use Rattle.std.proofs.lemmas.Bool.{false_from_ne_true, false≢true}
use Rattle.vn_kernel.specs.Fields.{fields}
use Rattle.vn_kernel.proofs.Commands.{dead}
use Rattle.vn_kernel.proofs.Stacks.{has-stack, own-path}
use Rattle.vn_kernel.proofs.events.run_at.Goals as goal

pub returns-in-None : goal.returns-in-None
returns-in-None c = dead (fields c.args.state.now) c.args.issuer.now c.args.command.now c.requires.stands
    (false_from_ne_true _ (λ alive. false≢true (c.in-None.ensures.alive.1 alive)))

pub run_living-requires-clause-stack : goal.run_living-requires-clause-stack
run_living-requires-clause-stack c = has-stack c.requires.stands c.args.issuer.now (c.in-Some.ensures.alive.0 refl) c.in-Some.sid.0 c.in-Some.ensures.number

pub run_living-requires-clause-own : goal.run_living-requires-clause-own
run_living-requires-clause-own c = own-path c.requires.stands c.args.issuer.now (c.in-Some.ensures.alive.0 refl) c.in-Some.sid.0 c.in-Some.ensures.number

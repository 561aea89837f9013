use Rattle.std.proofs.Common.{refl}
use Rattle.std.proofs.lemmas.Bool.{false_from_ne_true, false≢true}
use Rattle.vn_kernel.proofs.Stacks.{has-stack}
use Rattle.vn_kernel.proofs.listing.Listed.{listing-alive, listing-dead}
use Rattle.vn_kernel.proofs.listing.listing.Goals as goal

pub if_rows-requires : goal.if_rows-requires
if_rows-requires c = has-stack c.requires c.args.path.now (c.in-Some.ensures.alive.0 refl) c.in-Some.sid.0 c.in-Some.ensures.number

pub returns-in-None : goal.returns-in-None
returns-in-None c = listing-dead c.requires c.args.path.now (false_from_ne_true _ (λ alive. false≢true (c.in-None.ensures.alive.1 alive)))

pub returns-in_ok-if_rows-in-Some : goal.returns-in_ok-if_rows-in-Some
returns-in_ok-if_rows-in-Some c =
    listing-alive c.requires c.args.path.now c.in-Some.sid.0 c.in_ok-if_rows-in-Some.field-0 (c.in-Some.ensures.alive.0 refl) c.in-Some.ensures.number c.in_ok-if_rows-in-Some.ensures

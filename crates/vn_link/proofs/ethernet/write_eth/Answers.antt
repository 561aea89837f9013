use Rattle.std.proofs.Common.{List, ℕ, ◌++◌, ap, ◌∙◌, arith}
use Rattle.std.proofs.lemmas.Grind.{common_steps}
use Rattle.vn_link.specs.Frames.{eth_of}
use Rattle.vn_link.proofs.FrameLaws.{eth_of-header}
use Rattle.vn_link.proofs.ethernet.write_eth.Goals as goal

pub returns-clause-written : goal.returns-clause-written
returns-clause-written c = grind (arith, common_steps)

pub returns-clause-read_back : goal.returns-clause-read_back
returns-clause-read_back c = λ payload.
    ap (λ (xs : List ℕ). eth_of (xs ++ payload)) (returns-clause-written c)
    ∙ eth_of-header c.args.dst c.args.src c.args.kind payload
    c.write_mac.ensures.mac c.write_mac-2.ensures.mac (omega (arith, c.ranges.kind.fits))

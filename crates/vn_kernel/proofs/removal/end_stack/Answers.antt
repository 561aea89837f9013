use Rattle.std.proofs.lemmas.Result.{on_ok_weaker}
use Rattle.vn_kernel.specs.Fields.{fields}
use Rattle.vn_kernel.proofs.removing.Stack.{alone-there, stack-ended, stack-homeless, stack-noted}
use Rattle.vn_kernel.proofs.removing.Vanished.{vanish}
use Rattle.vn_kernel.proofs.removal.end_stack.Goals as goal

pub end_homed-requires : goal.end_homed-requires
end_homed-requires c =
    stack-noted c.args.sid.0 (fields c.args.state.now) (fields c.send_lent_home.new.state) (fields c.note_return.new.state) c.in_ok-send_lent_home.ensures c.in_ok-note_return.ensures c.requires.stack.alive

pub bury-requires-clause-stack : goal.bury-requires-clause-stack
bury-requires-clause-stack c =
    stack-homeless c.args.sid.0 (fields c.args.state.now) (fields c.send_lent_home.new.state) (fields c.note_return.new.state) c.in_ok-send_lent_home.ensures c.in_ok-note_return.ensures
    (fields c.end_homed.new.state) c.in_ok-end_homed.ensures c.requires.stack.alive

pub bury-requires-clause-alone : goal.bury-requires-clause-alone
bury-requires-clause-alone c =
    alone-there c.args.sid.0 (fields c.args.state.now) (fields c.send_lent_home.new.state) (fields c.note_return.new.state) c.in_ok-send_lent_home.ensures c.in_ok-note_return.ensures
    (fields c.end_homed.new.state) c.in_ok-end_homed.ensures

pub returns : goal.returns
returns c =
    on_ok_weaker c.bury.result
    (λ buried. stack-ended c.args.sid.0 (fields c.args.state.now) (fields c.send_lent_home.new.state) (fields c.note_return.new.state) c.in_ok-send_lent_home.ensures c.in_ok-note_return.ensures
    (fields c.end_homed.new.state) c.in_ok-end_homed.ensures (fields c.bury.new.state) buried vanish)
    c.bury.ensures

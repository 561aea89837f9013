use Rattle.std.proofs.Common.{sym, ◌∙◌}
use Rattle.vn_rules.specs.Ports.{is_port_free}
use Rattle.vn_rules.specs.Sockets.{others}
use Rattle.vn_sock.proofs.Automatic.{free-now, taken-now, none-left}
use Rattle.vn_sock.proofs.sockets.Sockets.automatic_port.Goals as goal

pub returns-then-is_port_free : goal.returns-then-is_port_free
returns-then-is_port_free c =
    free-now (λ port. is_port_free c.args.ip port (others c.args.socket.now.name c.args.self.now)) 16384 49152 c.loop-step.step _ c.loop-step.invariant c.loop-step-test.true
    (sym c.is_port_free.ensures ∙ c.if-is_port_free.true)

pub loop-step-preserved : goal.loop-step-preserved
loop-step-preserved c =
    taken-now (λ port. is_port_free c.args.ip port (others c.args.socket.now.name c.args.self.now)) 16384 49152 c.loop-step.step _ c.loop-step.invariant c.loop-step-test.true
    (sym c.is_port_free.ensures ∙ c.if-is_port_free.false)

pub returns : goal.returns
returns c =
    none-left (λ port. is_port_free c.args.ip port (others c.args.socket.now.name c.args.self.now)) 16384 49152 c.loop-step.step _ c.loop-step.invariant c.loop-step-test.false

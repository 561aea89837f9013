use Rattle.std.proofs.Common.{◌≡◌, ◌+◌, ◌-◌}
use Rattle.vn_rules.specs.Ports.{first_port, is_port_free, automatic_port}
use Rattle.vn_rules.specs.Sockets.{others}
use Rattle.vn_sock.proofs.sockets.Sockets.automatic_port.Given as goal

-- the ports so far are not free
abbrev pub invariant-loop-step : goal.invariant-loop-step
invariant-loop-step l = first_port (16384 - l.step) (49152 + l.step) (λ port. is_port_free l.ip port (others l.socket.name l.self)) ≡ automatic_port l.ip (others l.socket.name l.self)

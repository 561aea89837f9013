-- What goes out where a socket sends.
use Rattle.std.specs.Prelude.{◌≡◌, ℕ, List, Option, Some}
use Rattle.vn_types.specs.declared.address.Ip4.{Ip4}
use Rattle.vn_types.specs.declared.interface.HalfId.{HalfId}
use Rattle.vn_rules.specs.declared.socket.SocketOf.{SocketOf}
use Rattle.vn_rules.specs.Sockets.{port_at, destination}
use Rattle.vn_sock.specs.declared.plan.SendPlan.{SendPlan}

-- what a socket among others sends to a destination that may be given
pub record IsPlanOf (to : Option (Ip4 × ℕ)) (sockets : List (SocketOf HalfId)) (plan : SendPlan) (s : SocketOf HalfId) : Type 0 where
  -- from its local address, if it has one
  pub src : plan.src ≡ s.ip
  -- from its port, or a free one
  pub sport : port_at s.ip s sockets ≡ Some plan.sport
  -- to the address and port that are given, or to its peer
  pub destination : destination to s ≡ Some (plan.dst, plan.dport)
  -- with its own time to live, if it has one
  pub ttl : plan.ttl ≡ s.ttl

-- udp(4): a socket is opened, bound, given a time to live, and closed.
use Rattle.std.specs.Prelude.{ℕ, List, Option}
use Rattle.vn_types.specs.declared.address.Ip4.{Ip4}
use Rattle.vn_rules.specs.declared.socket.SocketOf.{SocketOf}
use Rattle.vn_rules.specs.declared.parts.PartsOf.{PartsOf}
use Rattle.vn_rules.specs.Rules.{Rule, Answer, done}
use Rattle.vn_rules.specs.SocketRefusals.{open_refusals, closed_refusals, bind_refusals}
use Rattle.vn_rules.specs.Sockets.{after_open, after_bind, with_ttl, after_close}
use Rattle.vn_rules.specs.Soundness.{is_bound_locally}

module _ {N : Type 0} where
  -- the sockets are these now
  abbrev with_sockets : List (SocketOf N) → PartsOf N → Answer (PartsOf N)
  with_sockets sockets p = done (record p { sockets = sockets })

  -- a socket of the name is made
  unfoldable pub open_rule : List ℕ → PartsOf N → Rule (PartsOf N)
  open_rule name p = record {
    refusals = open_refusals name p.sockets;
    otherwise = with_sockets (after_open name p.sockets) p;
  }

  -- it gets an address of the stack, or none, and a port
  unfoldable pub bind_rule : List ℕ → Option Ip4 → ℕ → PartsOf N → Rule (PartsOf N)
  bind_rule name ip port p = record {
    refusals = bind_refusals name ip port (is_bound_locally p ip) p.sockets;
    otherwise = with_sockets (after_bind name ip port p.sockets) p;
  }

  -- what it sends has that time to live
  unfoldable pub ttl_rule : List ℕ → ℕ → PartsOf N → Rule (PartsOf N)
  ttl_rule name ttl p = record {
    refusals = closed_refusals name p.sockets;
    otherwise = with_sockets (with_ttl name ttl p.sockets) p;
  }

  -- it is gone, with what it had received
  unfoldable pub close_rule : List ℕ → PartsOf N → Rule (PartsOf N)
  close_rule name p = record {
    refusals = closed_refusals name p.sockets;
    otherwise = with_sockets (after_close name p.sockets) p;
  }

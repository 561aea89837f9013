-- ifconfig(8) on the addresses of an interface: `inet`, and `inet .. -alias`.
use Rattle.std.specs.Prelude.{ℕ, Bool, true, ◌||◌, not, List, [], ◌∷◌, Option, Some, None}
use Rattle.vn_types.specs.declared.address.Ip4.{Ip4}
use Rattle.vn_types.specs.declared.errno.Errno.{Errno}
use Rattle.vn_types.specs.declared.errno.Errno.TheVariants as errno
use Rattle.vn_types.specs.declared.interface.IfOf.{IfOf}
use Rattle.vn_rules.specs.declared.address.AddrOf.{AddrOf}
use Rattle.vn_rules.specs.declared.parts.PartsOf.{PartsOf}
use Rattle.vn_rules.specs.Addresses.{prefix_of, is_unfit, local, after_add, on_interface}
use Rattle.vn_rules.specs.Purge.{dropped}
use Rattle.vn_rules.specs.Routes.{can_link, after_link}
use Rattle.vn_rules.specs.Rules.{Rule, done}

module _ {N : Type 0} where
  -- an address comes with the interface route of its network, if that isn't there
  unfoldable pub with_address : AddrOf N → PartsOf N → PartsOf N
  with_address a p = record p {
    addresses = after_add a p.addresses;
    routes = after_link (prefix_of a) a.on p.routes;
  }

  -- nothing is done to an interface that doesn't stand there
  abbrev no_interface : PartsOf N → Rule (PartsOf N)
  no_interface p = record { refusals = (true, errno.NxIo) ∷ []; otherwise = done p }

module _ {N : Type 0} (same : N → N → Bool) where
  -- why an interface that stands there gets no address: it can't have it, or the stack has it, or a route
  -- to that network stands which is not an interface route of the interface
  abbrev pub inet_refusals : AddrOf N → PartsOf N → List (Bool × Errno)
  inet_refusals a p =
      (is_unfit a, errno.Inval)
      ∷ (local a.ip p.addresses || not (can_link same (prefix_of a) a.on p.routes), errno.Exist)
      ∷ []

  -- why none of its addresses is removed
  abbrev pub alias_refusals : IfOf N → Ip4 → PartsOf N → List (Bool × Errno)
  alias_refusals on ip p = (not (on_interface same on ip p.addresses), errno.AddrNotAvail) ∷ []

  -- an interface gets an address; it is not announced yet
  unfoldable pub inet_rule : Option (IfOf N) → Ip4 → ℕ → PartsOf N → Rule (PartsOf N)
  inet_rule None ip len p = no_interface p
  inet_rule (Some on) ip len p =
      let a : AddrOf N = record { on = on; ip = ip; len = len } in
      record { refusals = inet_refusals a p; otherwise = done (with_address a p) }

  -- an interface loses an address
  unfoldable pub alias_rule : Option (IfOf N) → Ip4 → PartsOf N → Rule (PartsOf N)
  alias_rule None ip p = no_interface p
  alias_rule (Some on) ip p =
      record { refusals = alias_refusals on ip p; otherwise = done (dropped same on ip p) }

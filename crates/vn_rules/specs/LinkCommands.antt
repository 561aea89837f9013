-- ifconfig(8) on the link of an interface: up and down; and what lo0 refuses.
use Rattle.std.specs.Prelude.{Bool, true, false, List, [], ◌∷◌, Option, Some, None}
use Rattle.std.specs.Option.{is_none}
use Rattle.vn_types.specs.declared.errno.Errno.{Errno}
use Rattle.vn_types.specs.declared.errno.Errno.TheVariants as errno
use Rattle.vn_types.specs.declared.interface.IfOf.{IfOf}
use Rattle.vn_types.specs.declared.interface.IfOf.TheVariants.{Lo0, Half}
use Rattle.vn_rules.specs.Named.{is_lo0}
use Rattle.vn_rules.specs.Rules.{Rule, done}
use Rattle.vn_rules.specs.Scenes.{SceneOf, on_link}

module _ {N : Type 0} where
  -- what doesn't stand there, and lo0
  abbrev pub half_alone : Option (IfOf N) → List (Bool × Errno)
  half_alone on = (is_none on, errno.NxIo) ∷ (is_lo0 on, errno.Inval) ∷ []

  -- destroy and ether of lo0, which has no pair and no hardware address
  abbrev pub half_only : Option (IfOf N) → SceneOf N → Rule (SceneOf N)
  half_only on s = record { refusals = half_alone on; otherwise = done s }

module _ {N : Type 0} (same : N → N → Bool) where
  -- a half is up or down; lo0 is always up
  unfoldable pub set_up : Bool → Option (IfOf N) → SceneOf N → SceneOf N
  set_up up None s = s
  set_up up (Some Lo0) s = s
  set_up up (Some (Half h)) s = on_link same h (λ l. record l { up = up }) s

  -- up; an address is not announced yet
  abbrev pub up_rule : Option (IfOf N) → SceneOf N → Rule (SceneOf N)
  up_rule on s = record {
    refusals = (is_none on, errno.NxIo) ∷ [];
    otherwise = done (set_up true on s);
  }

  -- down; queues and tables stay
  abbrev pub down_rule : Option (IfOf N) → SceneOf N → Rule (SceneOf N)
  down_rule on s = record { refusals = half_alone on; otherwise = done (set_up false on s) }

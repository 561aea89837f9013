-- ifconfig(8), vnet, -vnet and destroy: what becomes of the half and of the pair, and what is refused.
use Rattle.std.specs.Prelude.{ℕ, Bool, true, false, ◌&&◌, ◌||◌, not, [], ◌∷◌, Option, Some, None}
use Rattle.std.specs.Option.{is_none, option_and_then}
use Rattle.vn_types.specs.declared.errno.Errno.{Errno}
use Rattle.vn_types.specs.declared.errno.Errno.TheVariants as errno
use Rattle.vn_types.specs.declared.interface.HalfId.{HalfId}
use Rattle.vn_types.specs.declared.interface.IfName.{IfName}
use Rattle.vn_types.specs.declared.interface.IfOf.{IfOf}
use Rattle.vn_types.specs.declared.interface.IfOf.TheVariants.{Half}
use Rattle.vn_types.specs.declared.interface.Sid.{Sid}
use Rattle.vn_types.specs.declared.interface.Side.{Side}
use Rattle.vn_types.specs.declared.interface.Side.TheVariants.{A, B}
use Rattle.vn_types.specs.Interfaces.{half_id_eq, if_same}
use Rattle.vn_types.specs.Refusals.{first_refusal}
use Rattle.vn_rules.specs.Addresses.{is_half}
use Rattle.vn_rules.specs.Interfaces.{if_half}
use Rattle.vn_rules.specs.Named.{is_lo0}
use Rattle.vn_epair.specs.Halves.{Pair}
use Rattle.vn_epair.specs.Pairs.{emptied, end_of, with_end}
use Rattle.vn_ifnet.specs.Stacks.{Held, is_another, is_taken, named, reserved_by}
use Rattle.vn_vmove.specs.declared.tables.Tables.{Tables}
use Rattle.vn_vmove.specs.Nets.{Net, attach, detach, on_pair, without_pair}
use Rattle.vn_vmove.specs.Parts.{held}

-- ---- moves

-- no frame waits any more, and the half of that side stands in a stack, down
abbrev pub placed_at : Side → ℕ → Pair → Pair
placed_at side to pair =
    with_end side (record (end_of side (emptied pair)) { at = to; up = false }) (emptied pair)

-- a half moves from a stack to another: it is purged and taken out there, and attached here
unfoldable pub moved : HalfId → ℕ → ℕ → Net → Net
moved h from to net = attach h to (detach h from (on_pair h.pair (placed_at h.side to) net))

-- an interface that is a half moves, where there is a stack for it
unfoldable pub moved_on : Option (IfOf HalfId) → Option Sid → Option Sid → Net → Net
moved_on (Some (Half h)) (Some from) (Some to) net = moved h from.0 to.0 net
moved_on _ _ _ net = net

-- a half moves to its home
unfoldable pub homeward : HalfId → Option Pair → Net → Net
homeward h None net = net
homeward h (Some pair) net = moved h (end_of h.side pair).at pair.home net

-- ---- the end of a pair

-- the half of that side
abbrev pub half_on : Side → ℕ → HalfId
half_on side n = record { pair = n; side = side }

-- both halves are purged and taken out where they stand, side a first, and the pair is gone
unfoldable pub unmade : ℕ → Option Pair → Net → Net
unmade n None net = net
unmade n (Some pair) net =
    without_pair n (detach (half_on B n) pair.b.at (detach (half_on A n) pair.a.at net))

-- ---- refusals

-- the interface of a stack under a name, where the stack lives
abbrev pub standing : Tables → IfName → Option Sid → Option (IfOf HalfId)
standing t name sid = option_and_then (λ (s : Sid). named name (held t s.0)) sid

-- whether the name is not free for any half in the stack
abbrev pub is_taken_in : Tables → IfName → Option Sid → Bool
is_taken_in t name None = false
is_taken_in t name (Some sid) = is_taken name None (held t sid.0)

-- why what stands under a name is no half that moves
abbrev pub half_refusal : Option (IfOf HalfId) → Option Errno
half_refusal on = first_refusal ((is_none on, errno.NxIo) ∷ (is_lo0 on, errno.Perm) ∷ [])

-- vnet: from the issuer's stack to a jail's
abbrev pub lend_refusal : Tables → Sid → IfName → Option Sid → Option Errno
lend_refusal t from name to =
    let on = standing t name (Some from) in
    first_refusal
    ((is_none on, errno.NxIo) ∷ (is_lo0 on, errno.Perm) ∷ (is_none to, errno.NxIo)
    ∷ (is_taken_in t name to, errno.Exist) ∷ [])

-- whether another interface stands
abbrev pub is_other_if : Option (IfOf HalfId) → Option (IfOf HalfId) → Bool
is_other_if None but = false
is_other_if (Some on) None = true
is_other_if (Some on) (Some but) = not (if_same half_id_eq on but)

-- whether another interface stands under the name, or another half has it reserved
abbrev pub is_kept_from : Option (IfOf HalfId) → IfName → Held → Bool
is_kept_from but name h =
    is_other_if (named name h) but || is_another (reserved_by name h) (option_and_then if_half but)

-- whether an interface may be taken back: a half whose home allows it
abbrev pub may_have : Bool → Option (IfOf HalfId) → Bool
may_have home_allows None = false
may_have home_allows (Some on) = is_half on && home_allows

-- -vnet: from a jail's stack to the issuer's
abbrev pub reclaim_refusal : Tables → Sid → Option Sid → IfName → Bool → Option Errno
reclaim_refusal t to from name home_allows =
    let on = standing t name from in
    first_refusal
    ((is_none from, errno.NxIo) ∷ (is_none on, errno.NxIo) ∷ (not (may_have home_allows on), errno.Perm)
    ∷ (is_kept_from on name (held t to.0), errno.Exist) ∷ [])

-- The routes behind a prefix, in the order in which routes stand.
use Rattle.std.specs.Prelude.{Bool, true, Option, Some, None}
use Rattle.std.specs.Ordering.{is_lt}
use Rattle.std.specs.declared.ops.Bound.{Bound}
use Rattle.std.specs.declared.ops.Bound.TheVariants.{Excluded, Unbounded}
use Rattle.vn_types.specs.declared.address.Prefix.{Prefix}
use Rattle.vn_rules.specs.Routes.{prefix_cmp}

-- whether a prefix stands behind the last one, and each does where there is none yet
abbrev pub is_behind : Option Prefix → Prefix → Bool
is_behind None to = true
is_behind (Some last) to = is_lt (prefix_cmp last to)

-- where the prefixes behind the last one begin
abbrev pub bound_behind : Option Prefix → Bound Prefix
bound_behind None = Unbounded
bound_behind (Some last) = Excluded last

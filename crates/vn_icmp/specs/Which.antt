-- Which awaited pings a call is about.
use Rattle.std.specs.Prelude.{Bool, true}
use Rattle.vn_types.specs.declared.interface.HalfId.{HalfId}
use Rattle.vn_types.specs.Interfaces.{half_id_eq}
use Rattle.vn_rules.specs.declared.ping.PingOf.{PingOf}
use Rattle.vn_rules.specs.Pings.{is_from, is_answered_by, is_quoted_by, is_timed_by, is_out_by}
use Rattle.vn_icmp.specs.declared.which.Which.{Which}
use Rattle.vn_icmp.specs.declared.which.Which.TheVariants.{AnsweredBy, QuotedBy, TimedBy, OutBy, From, Any}

-- whether it is one of them
abbrev pub is_one : Which → PingOf HalfId → Bool
is_one (AnsweredBy id from) ping = is_answered_by id from ping
is_one (QuotedBy id src dst) ping = is_quoted_by id src dst ping
is_one (TimedBy arm) ping = is_timed_by arm ping
is_one (OutBy on) ping = is_out_by half_id_eq on ping
is_one (From src) ping = is_from src ping
is_one Any ping = true

-- What each living stack counts.
use Rattle.std.specs.Prelude.{ℕ, ◌+◌, ◌%◌, ◌^◌, List, Option, None, unwrap_or}
use Rattle.vn_types.specs.PerStack.{of as kept}
use Rattle.vn_rules.specs.declared.parts.Drops.{Drops}
use Rattle.vn_rules.specs.Construction.{no_drops}
use Rattle.vn_packets.specs.declared.tally.Tally.{Tally}
use Rattle.vn_packets.specs.declared.tally.Tally.TheVariants.{Link, Arp, Ip, Icmp, Udp, Full}
use Rattle.vn_packets.specs.Drops.{with_drops}
use Rattle.vn_vmove.specs.declared.counts.Counts.{Counts}

-- what is held of one stack: what it counts, where it lives
abbrev pub Held : Type 0
Held = Option Counts

-- what a stack has, by its number
abbrev pub of : List Held → ℕ → Held
of rows sid = kept None rows sid

-- as a stack begins
abbrev pub first_counts : Counts
first_counts = record { drops = no_drops; ident = 0 }

-- what a stack counts that lives
abbrev pub counts_of : List Held → ℕ → Counts
counts_of rows sid = unwrap_or (of rows sid) first_counts

-- how often something was dropped for a cause
abbrev pub drops_of : Tally → Drops → ℕ
drops_of Link d = d.link
drops_of Arp d = d.arp
drops_of Ip d = d.ip
drops_of Icmp d = d.icmp
drops_of Udp d = d.udp
drops_of Full d = d.full

-- so many more of a cause
abbrev pub after_count : Tally → ℕ → Counts → Counts
after_count what n c = record c { drops = with_drops what n c.drops }

-- the next identification (RFC 791, section 3.1)
abbrev pub after_ident : Counts → Counts
after_ident c = record c { ident = (c.ident + 1) % 2 ^ 16 }

-- epair(4) and ifconfig(8): pairs are made and destroyed, and get hardware addresses.
use Rattle.std.specs.Prelude.{ℕ, false, ◌||◌, not, nat_lt, [], ◌∷◌, Option, Some, None}
use Rattle.std.specs.Option.{is_none}
use Rattle.vn_types.specs.declared.address.Mac.{Mac}
use Rattle.vn_types.specs.declared.errno.Errno.TheVariants as errno
use Rattle.vn_types.specs.declared.half.Half.{Half}
use Rattle.vn_types.specs.declared.interface.IfName.{IfName}
use Rattle.vn_types.specs.declared.interface.IfName.TheVariants.{Epair}
use Rattle.vn_types.specs.declared.interface.IfOf.TheVariants.{Lo0, Half as OfHalf}
use Rattle.vn_types.specs.declared.interface.Side.{Side}
use Rattle.vn_types.specs.declared.interface.Side.TheVariants.{A, B}
use Rattle.vn_types.specs.InterfaceWords.{ifname_text}
use Rattle.vn_rules.specs.declared.outcome.Outcome.TheVariants.{Value}
use Rattle.vn_rules.specs.declared.parts.PartsOf.{PartsOf}
use Rattle.vn_rules.specs.Interfaces.{with_interface, without_interface}
use Rattle.vn_rules.specs.LinkCommands.{half_alone}
use Rattle.vn_rules.specs.Macs.{first_mac}
use Rattle.vn_rules.specs.Named.{is_lo0}
use Rattle.vn_rules.specs.Purge.{purged}
use Rattle.vn_rules.specs.Resolution.{is_no_station}
use Rattle.vn_rules.specs.Rules.{Answer, Rule, done}
use Rattle.vn_cells.specs.declared.world.End.{End}
use Rattle.vn_cells.specs.declared.world.Pair.{Pair}
use Rattle.vn_cells.specs.declared.world.World.{World}
use Rattle.vn_cells.specs.world.Names.{Path, Key, If, half_eq, half_on, key_of}
use Rattle.vn_cells.specs.world.World.{pair_at, end_of, with_end, on_parts, edit_live, edit_pair, add_pair, drop_pair}
use Rattle.vn_cells.specs.commands.Taken.{standing, is_unit_free, lowest_free, units}

-- ---- a pair

-- a half as it is made: at home, down, and nothing waits
abbrev pub new_end : Path → ℕ → Side → End
new_end home unit side = record { at = home; mac = first_mac unit side; up = false; sent = [] }

-- a pair as it is made
abbrev pub new_pair : Key → Pair
new_pair k = record { a = new_end k.0 k.1 A; b = new_end k.0 k.1 B }

-- another hardware address on that side
abbrev pub with_mac : Side → Mac → Pair → Pair
with_mac side mac pair = with_end side (record (end_of side pair) { mac = mac }) pair

-- ---- a half in one stack

-- the half is the last of the interfaces
abbrev pub attached : Half → PartsOf Half → PartsOf Half
attached h p = record p { interfaces = with_interface (OfHalf h) p.interfaces }

-- the half is none of the interfaces
abbrev pub unlisted : Half → PartsOf Half → PartsOf Half
unlisted h p = record p { interfaces = without_interface half_eq (OfHalf h) p.interfaces }

-- nothing of the stack names the half, and it is none of the interfaces
abbrev pub detached : Half → PartsOf Half → PartsOf Half
detached h p = unlisted h (purged half_eq h p)

-- the half is attached at a path
abbrev pub attach : Half → Path → World → World
attach h p w = edit_live p (on_parts (attached h)) w

-- the half is purged and taken out at a path
abbrev pub detach : Half → Path → World → World
detach h p w = edit_live p (on_parts (detached h)) w

-- ---- in the world

-- the pair of a home and a unit is made, and its halves are attached there, side a first
unfoldable pub made_pair : Key → World → World
made_pair k w =
    attach (half_on B k) k.0 (attach (half_on A k) k.0 (add_pair k (new_pair k) w))

-- both halves are purged and taken out where they stand, side a first, and the pair is gone
unfoldable pub unmade : Key → Option Pair → World → World
unmade k None w = w
unmade k (Some pair) w =
    drop_pair k (detach (half_on B k) pair.b.at (detach (half_on A k) pair.a.at w))

-- a pair is destroyed, where there is one
abbrev pub destroyed_pair : Key → World → World
destroyed_pair k w = unmade k (pair_at w k) w

-- the pair of an interface is destroyed
unfoldable pub destroyed_by : Option If → World → World
destroyed_by None w = w
destroyed_by (Some Lo0) w = w
destroyed_by (Some (OfHalf h)) w = destroyed_pair (key_of h) w

-- an interface that is a half gets a hardware address
unfoldable pub with_mac_on : Option If → Mac → World → World
with_mac_on None mac w = w
with_mac_on (Some Lo0) mac w = w
with_mac_on (Some (OfHalf h)) mac w = edit_pair (key_of h) (with_mac h.side mac) w

-- ---- rules

-- the pair is made, and side a's name is told
abbrev pub told_pair : Path → ℕ → World → Answer World
told_pair p unit w =
    record { left = made_pair (p, unit) w; outcome = Value (ifname_text (Epair unit A)) }

-- of the lowest unit that is free; events are too few to take all of them
unfoldable pub told_lowest : Path → Option ℕ → World → Answer World
told_lowest p None w = done w
told_lowest p (Some unit) w = told_pair p unit w

-- epair create
abbrev pub any_making : Path → World → Rule World
any_making p w = record { refusals = []; otherwise = told_lowest p (lowest_free w p) w }

-- epair create of a unit
abbrev pub making : Path → ℕ → World → Rule World
making p unit w = record {
  refusals =
      (not (nat_lt unit units), errno.Inval) ∷ (not (is_unit_free w p unit), errno.Exist) ∷ [];
  otherwise = told_pair p unit w;
}

-- destroy
abbrev pub destruction : Path → IfName → World → Rule World
destruction p name w = record {
  refusals = half_alone (standing w p name);
  otherwise = done (destroyed_by (standing w p name) w);
}

-- ether
abbrev pub mac_setting : Path → IfName → Mac → World → Rule World
mac_setting p name mac w =
    let on = standing w p name in
    record {
      refusals = (is_none on, errno.NxIo) ∷ (is_lo0 on || is_no_station mac, errno.Inval) ∷ [];
      otherwise = done (with_mac_on on mac w);
    }

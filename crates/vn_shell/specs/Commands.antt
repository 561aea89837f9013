-- Commands: the first word is the program that a user would run.
pub mod Jail
pub mod Ifconfig
pub mod Route
pub mod Arp
pub mod Sysctl
pub mod Netstat
pub mod Ping
pub mod Udp
use Rattle.std.specs.Prelude.{ℕ, List, [], ◌∷◌, codes, length, if◌then◌else◌, Option, Some, None}
use Rattle.std.specs.Option.{option_map_or}
use Rattle.std.specs.Str.{bytes_eq}
use Rattle.vn_types.specs.Paths.{Path}
use Rattle.vn_cells.specs.declared.command.Command.{Command}
use Rattle.vn_cells.specs.declared.command.Command.TheVariants as command
use Rattle.vn_shell.specs.Commands.Jail.{jail_of}
use Rattle.vn_shell.specs.Commands.Ifconfig.{ifconfig_of}
use Rattle.vn_shell.specs.Commands.Route.{route_of}
use Rattle.vn_shell.specs.Commands.Arp.{arp_of}
use Rattle.vn_shell.specs.Commands.Sysctl.{sysctl_of}
use Rattle.vn_shell.specs.Commands.Netstat.{netstat_of}
use Rattle.vn_shell.specs.Commands.Ping.{ping_of}
use Rattle.vn_shell.specs.Commands.Udp.{udp_of}

-- what the words mean
unfoldable pub command_of : List (List ℕ) → Option Command
command_of [] = None
command_of (program ∷ words) =
    if bytes_eq program (codes "jail") then jail_of words
    else if bytes_eq program (codes "ifconfig") then ifconfig_of words
    else if bytes_eq program (codes "route") then route_of words
    else if bytes_eq program (codes "arp") then arp_of words
    else if bytes_eq program (codes "sysctl") then sysctl_of words
    else if bytes_eq program (codes "netstat") then netstat_of words
    else if bytes_eq program (codes "ping") then ping_of words
    else if bytes_eq program (codes "udp") then udp_of words
    else None

-- the path that a command names
abbrev pub named_path : Command → Option Path
named_path (command.JailCreate path limit) = Some path
named_path (command.JailRemove path) = Some path
named_path (command.Vnet name path) = Some path
named_path (command.VnetBack name path) = Some path
named_path _ = None

-- how many labels it has
abbrev pub named_depth : Command → ℕ
named_depth command = option_map_or length (named_path command) 0

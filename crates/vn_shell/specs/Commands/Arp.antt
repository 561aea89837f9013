-- `arp`: the words behind it (arp(8)).
use Rattle.std.specs.Prelude.{ℕ, List, [], ◌∷◌, codes, if◌then◌else◌, Option, None}
use Rattle.std.specs.Str.{bytes_eq}
use Rattle.vn_types.specs.AddressWords.{ip4_of, mac_of}
use Rattle.vn_cells.specs.declared.command.Command.{Command}
use Rattle.vn_cells.specs.declared.command.Command.TheVariants as command
use Rattle.vn_shell.specs.Words.{of_one, of_two}

-- `-s IP MAC` or `-d IP`
unfoldable pub arp_of : List (List ℕ) → Option Command
arp_of [] = None
arp_of (option ∷ words) =
    if bytes_eq option (codes "-s") then of_two ip4_of mac_of command.ArpSet words
    else if bytes_eq option (codes "-d") then of_one ip4_of command.ArpDelete words
    else None

-- `route`: the words behind it (route(8)).
use Rattle.std.specs.Prelude.{ℕ, List, [], ◌∷◌, codes, if◌then◌else◌, Option, Some, None}
use Rattle.std.specs.Option.{option_map, option_or}
use Rattle.std.specs.Str.{bytes_eq}
use Rattle.vn_types.specs.declared.address.Ip4.{Ip4}
use Rattle.vn_types.specs.declared.address.Prefix.{Prefix}
use Rattle.vn_types.specs.AddressWords.{ip4_of, prefix_of}
use Rattle.vn_cells.specs.declared.command.Command.{Command}
use Rattle.vn_cells.specs.declared.command.Command.TheVariants as command
use Rattle.vn_rules.specs.Networks.{network_of}
use Rattle.vn_shell.specs.Words.{of_one, of_two}

-- `default`: all addresses
abbrev pub everywhere : Prefix
everywhere = record { net = record { 0 = 0 }; len = 0 }

-- one address
abbrev pub host_route : Ip4 → Prefix
host_route ip = record { net = ip; len = 32 }

-- the network of an address, whose bits past the length are cleared
abbrev pub network_route : Prefix → Prefix
network_route prefix = record { net = network_of prefix.net prefix.len; len = prefix.len }

-- `default`, an address or a network
unfoldable pub dest_of : List ℕ → Option Prefix
dest_of word =
    if bytes_eq word (codes "default") then Some everywhere
    else option_or (option_map host_route (ip4_of word)) (option_map network_route (prefix_of word))

-- the words behind `-net`, where it stands there
abbrev pub past_net : List (List ℕ) → List (List ℕ)
past_net [] = []
past_net (word ∷ words) = if bytes_eq word (codes "-net") then words else word ∷ words

-- `add [-net] DEST GW` or `delete [-net] DEST`
unfoldable pub route_of : List (List ℕ) → Option Command
route_of [] = None
route_of (verb ∷ words) =
    if bytes_eq verb (codes "add") then of_two dest_of ip4_of command.RouteAdd (past_net words)
    else if bytes_eq verb (codes "delete") then of_one dest_of command.RouteDelete (past_net words)
    else None

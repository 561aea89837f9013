-- `ifconfig`: the words behind it (ifconfig(8), epair(4)).
use Rattle.std.specs.Prelude.{ℕ, List, [], ◌∷◌, codes, if◌then◌else◌, Option, Some, None}
use Rattle.std.specs.Option.{option_map}
use Rattle.std.specs.Str.{bytes_eq}
use Rattle.vn_types.specs.declared.interface.IfName.{IfName}
use Rattle.vn_types.specs.declared.address.Prefix.{Prefix}
use Rattle.vn_types.specs.AddressWords.{ip4_of, prefix_of, mac_of}
use Rattle.vn_types.specs.InterfaceWords.{ifname_of}
use Rattle.vn_types.specs.NumberWords.{number_of}
use Rattle.vn_types.specs.Steps.{◌>>=◌}
use Rattle.vn_cells.specs.declared.command.Command.{Command}
use Rattle.vn_cells.specs.declared.command.Command.TheVariants as command
use Rattle.vn_cells.specs.machine.Bounds.{is_unit}
use Rattle.vn_shell.specs.Words.{behind, such_that, named_of, at_end}

-- `epair` or `epairN`
unfoldable pub pair_of : List ℕ → Option Command
pair_of word =
    if bytes_eq word (codes "epair") then Some command.EpairAny
    else option_map command.EpairCreate (behind (codes "epair") word >>= number_of >>= such_that is_unit)

-- the command that adds an address
abbrev pub adding : IfName → Prefix → Command
adding name prefix = command.Inet name prefix.net prefix.len

-- `PREFIX [alias]` or `IP -alias`
unfoldable pub inet_of : IfName → List (List ℕ) → Option Command
inet_of name (word ∷ []) = option_map (adding name) (prefix_of word)
inet_of name (word ∷ option ∷ []) =
    if bytes_eq option (codes "alias") then option_map (adding name) (prefix_of word)
    else if bytes_eq option (codes "-alias") then option_map (command.InetRemove name) (ip4_of word)
    else None
inet_of name _ = None

-- `ether MAC`, `vnet P` or `-vnet P`: a word with one value
unfoldable pub set_of : IfName → List ℕ → List ℕ → Option Command
set_of name verb word =
    if bytes_eq verb (codes "ether") then option_map (command.Ether name) (mac_of word)
    else if bytes_eq verb (codes "vnet") then option_map (command.Vnet name) (named_of word)
    else if bytes_eq verb (codes "-vnet") then option_map (command.VnetBack name) (named_of word)
    else None

-- `destroy`, `up` or `down`: a word alone
unfoldable pub act_of : IfName → List ℕ → Option Command
act_of name verb =
    if bytes_eq verb (codes "destroy") then Some (command.Destroy name)
    else if bytes_eq verb (codes "up") then Some (command.Up name)
    else if bytes_eq verb (codes "down") then Some (command.Down name)
    else None

-- a word with values
unfoldable pub valued_of : IfName → List ℕ → List ℕ → List (List ℕ) → Option Command
valued_of name verb word words =
    if bytes_eq verb (codes "inet") then inet_of name (word ∷ words)
    else at_end words (set_of name verb word)

-- `PAIR create`, or an interface and what is done to it
unfoldable pub ifconfig_of : List (List ℕ) → Option Command
ifconfig_of (name ∷ verb ∷ []) =
    if bytes_eq verb (codes "create") then pair_of name
    else ifname_of name >>= λ name. act_of name verb
ifconfig_of (name ∷ verb ∷ word ∷ words) = ifname_of name >>= λ name. valued_of name verb word words
ifconfig_of _ = None

-- The declared variables with their bounds, and those of one stack with values (sysctl(8), VNET(9)).
use Rattle.std.specs.Prelude.{ℕ, Bool, true, false, not, ◌&&◌, ◌==◌, nat_le, is_none, unwrap_or, List, [], ◌∷◌, ◌++◌, map, find, codes, Option, option_map, if◌then◌else◌}
use Rattle.std.specs.Str.{bytes_eq}
use Rattle.std.specs.Map.{lookup}
use Rattle.std.specs.Option.{option_map_or}
use Rattle.vn_types.specs.declared.errno.Errno.{Errno}
use Rattle.vn_types.specs.declared.errno.Errno.TheVariants as errno
use Rattle.vn_rules.specs.declared.variable.Bounds.{Bounds}
use Rattle.vn_rules.specs.declared.variable.Variable.{Variable}

-- whether a variable may take a value
abbrev pub allows : Bounds → ℕ → Bool
allows bounds value = nat_le bounds.least value && nat_le value bounds.greatest

-- a name with its bounds
abbrev pub Declaration : Type 0
Declaration = List ℕ × Bounds

-- the bounds of the variable of that name
abbrev pub bounds_of : List ℕ → List Declaration → Option Bounds
bounds_of name declared = lookup (bytes_eq name) declared

-- ---- the variables of one stack

-- the value of the variable of that name
abbrev pub value_of : List ℕ → List Variable → Option ℕ
value_of name variables =
    option_map (λ (v : Variable). v.value) (find (λ (v : Variable). bytes_eq name v.name) variables)

-- the first variable of that name has the value, and each other variable has its own
abbrev pub with_value : List ℕ → ℕ → List Variable → List Variable
with_value name value [] = []
with_value name value (v ∷ variables) =
    if bytes_eq name v.name then record v { value = value } ∷ variables
    else v ∷ with_value name value variables

-- one variable more
abbrev pub with_variable : List ℕ → ℕ → List Variable → List Variable
with_variable name value variables = variables ++ record { name = name; value = value } ∷ []

-- a variable with the value that it was declared with
abbrev pub first_variable : Declaration → Variable
first_variable d = record { name = d.0; value = d.1.initial }

-- each of them so
abbrev pub first_variables : List Declaration → List Variable
first_variables declared = map first_variable declared

-- whether they are the declared variables in order, each with a value that it may take
abbrev pub are_declared : List Declaration → List Variable → Bool
are_declared [] [] = true
are_declared [] (v ∷ variables) = false
are_declared (d ∷ declared) [] = false
are_declared (d ∷ declared) (v ∷ variables) =
    bytes_eq d.0 v.name && allows d.1 v.value && are_declared declared variables

-- ---- the variables that each stack is given

-- in order of declaration
abbrev pub declarations : List Declaration
declarations =
    (codes "net.inet.ip.forwarding", record { initial = 0; least = 0; greatest = 1 })
    ∷ (codes "net.inet.ip.ttl", record { initial = 64; least = 1; greatest = 255 })
    ∷ (codes "net.inet.udp.checksum", record { initial = 1; least = 0; greatest = 1 })
    ∷ []

-- with their first values
abbrev pub declared_variables : List Variable
declared_variables = first_variables declarations

-- ---- sysctl(8)

-- why a variable is not read
abbrev pub get_refusals : List ℕ → List Variable → List (Bool × Errno)
get_refusals name variables = (is_none (value_of name variables), errno.NoEnt) ∷ []

-- why it does not take a value
abbrev pub set_refusals : List ℕ → ℕ → List Declaration → List (Bool × Errno)
set_refusals name value declared =
    let bounds = bounds_of name declared in
    (is_none bounds, errno.NoEnt) ∷ (not (option_map_or (λ b. allows b value) bounds true), errno.Inval) ∷ []

-- the value of a variable that is declared
abbrev pub number_in : List ℕ → List Variable → ℕ
number_in name variables = unwrap_or (value_of name variables) 0

-- whether datagrams for others are forwarded: not, unless it is asked for (RFC 1122, section 3.1: a host
-- with embedded gateway code has a switch for it, which is off at first)
abbrev pub is_forwarding : List Variable → Bool
is_forwarding variables = number_in (codes "net.inet.ip.forwarding") variables == 1

-- the time to live of what is sent, where the sender sets none
abbrev pub default_ttl : List Variable → ℕ
default_ttl variables = number_in (codes "net.inet.ip.ttl") variables

-- whether checksums of UDP datagrams are computed (RFC 768)
abbrev pub has_udp_checksum : List Variable → Bool
has_udp_checksum variables = number_in (codes "net.inet.udp.checksum") variables == 1

-- The constructors of a stack, as the kernel runs them (VNET(9)).
use Rattle.std.specs.Prelude.{ℕ, List, [], ◌∷◌, Option, find}
use Rattle.std.specs.List.{slice_index_or}
use Rattle.std.specs.Str.{bytes_eq}
use Rattle.vn_sysinit.specs.Rows.{constructor_names}
use Rattle.vn_kernel.specs.declared.constructors.Constructor.{Constructor}
use Rattle.vn_kernel.specs.declared.constructors.Constructor.TheVariants as constructor

-- all of them, in the order of their table
abbrev pub constructors : List Constructor
constructors =
    constructor.VnetData ∷ constructor.VnetIf ∷ constructor.VnetCloner ∷ constructor.Loif
    ∷ constructor.Inaddr ∷ constructor.Route ∷ constructor.Arp ∷ constructor.Ip
    ∷ constructor.Icmp ∷ constructor.Udp ∷ constructor.VnetIfReturn ∷ []

-- how many others run before one
abbrev pub number_before : Constructor → ℕ
number_before constructor.VnetData = 0
number_before constructor.VnetIf = 1
number_before constructor.VnetCloner = 2
number_before constructor.Loif = 3
number_before constructor.Inaddr = 4
number_before constructor.Route = 5
number_before constructor.Arp = 6
number_before constructor.Ip = 7
number_before constructor.Icmp = 8
number_before constructor.Udp = 9
number_before constructor.VnetIfReturn = 10

-- what the table calls it
abbrev pub constructor_name : Constructor → List ℕ
constructor_name c = slice_index_or constructor_names (number_before c) []

-- what the table calls so
abbrev pub constructor_named : List ℕ → Option Constructor
constructor_named name = find (λ c. bytes_eq (constructor_name c) name) constructors

-- The rows of the constructor table, and what a stack has when they have run (VNET(9)).
use Rattle.std.specs.Prelude.{ℕ, true, List, [], ◌∷◌, ◌++◌, filter, find, codes, Option}
use Rattle.std.specs.Str.{bytes_eq}
use Rattle.vn_types.specs.declared.address.Ip4.{Ip4}
use Rattle.vn_types.specs.declared.interface.IfOf.TheVariants.{Lo0}
use Rattle.vn_rules.specs.declared.route.TargetOf.TheVariants.{Link}
use Rattle.vn_rules.specs.declared.parts.PartsOf.{PartsOf}
use Rattle.vn_rules.specs.declared.parts.Drops.{Drops}
use Rattle.vn_rules.specs.Addresses.{is_half}
use Rattle.vn_rules.specs.Arp.{without_entries}
use Rattle.vn_rules.specs.Pings.{without_pings}
use Rattle.vn_rules.specs.Variables.{declared_variables}

-- nothing was dropped yet
abbrev pub no_drops : Drops
no_drops = record { link = 0; arp = 0; ip = 0; icmp = 0; udp = 0; full = 0 }

-- 127.0.0.1
abbrev pub loopback_ip : Ip4
loopback_ip = record { 0 = 0x7f000001 }

-- 127.0.0.0
abbrev pub loopback_net : Ip4
loopback_net = record { 0 = 0x7f000000 }

-- what a destructor does
pub data DownOf (N : Type 0) : Type 0 where
  -- it clears tables of its own stack
  Clears : (PartsOf N → PartsOf N) → DownOf N
  -- it sends each half that is homed elsewhere to its home
  SendsHome : DownOf N
  -- it destroys the pairs that are homed in the stack
  DestroysHomed : DownOf N

-- a row of the table, by its place (subsystem, then order), and what its constructor and destructor do
pub record RowOf (N : Type 0) : Type 0 where
  -- rows run by subsystem
  pub subsystem : ℕ
  -- and by order within one
  pub order : ℕ
  -- what users call it
  pub name : List ℕ
  -- what the constructor makes of a stack
  pub up : PartsOf N → PartsOf N
  -- what the destructor does
  pub down : DownOf N

module _ {N : Type 0} where
  -- before any constructor has run
  abbrev pub bare_parts : PartsOf N
  bare_parts = record {
    variables = [];
    interfaces = [];
    addresses = [];
    routes = [];
    arp = [];
    sockets = [];
    timers = record { armed = 0; standing = [] };
    loopback = [];
    pings = record { next = 0; awaited = [] };
    ident = 0;
    drops = no_drops;
  }

  -- the row at a place
  abbrev row_at : ℕ → ℕ → List ℕ → (PartsOf N → PartsOf N) → DownOf N → RowOf N
  row_at subsystem order name up down =
      record { subsystem = subsystem; order = order; name = name; up = up; down = down }

  -- in the order of construction; destruction goes the other way
  abbrev pub constructor_rows : List (RowOf N)
  constructor_rows =
      row_at 1 0 (codes "vnet_data")
      (λ p. record p { variables = declared_variables; drops = no_drops })
      (Clears (λ p. record p { variables = [] }))
      ∷ row_at 2 0 (codes "vnet_if") (λ p. record p { interfaces = [] })
      (Clears (λ p. record p { interfaces = [] }))
      ∷ row_at 2 1 (codes "vnet_cloner") (λ p. p) DestroysHomed
      ∷ row_at 3 0 (codes "loif")
      (λ p. record p { interfaces = p.interfaces ++ Lo0 ∷ []; loopback = [] })
      (Clears (λ p. record p { interfaces = filter is_half p.interfaces; loopback = [] }))
      ∷ row_at 4 0 (codes "inaddr")
      (λ p. record p { addresses = record { on = Lo0; ip = loopback_ip; len = 8 } ∷ [] })
      (Clears (λ p. record p { addresses = [] }))
      ∷ row_at 4 1 (codes "route")
      (λ p. record p { routes = (record { net = loopback_net; len = 8 }, Link Lo0) ∷ [] })
      (Clears (λ p. record p { routes = [] }))
      ∷ row_at 5 0 (codes "arp") (λ p. record p { arp = [] })
      (Clears (λ p. without_entries (λ half ip. true) p))
      ∷ row_at 6 0 (codes "ip") (λ p. record p { ident = 0 }) (Clears (λ p. p))
      ∷ row_at 6 1 (codes "icmp") (λ p. record p { pings = record { next = 0; awaited = [] } })
      (Clears (λ p. without_pings (λ ping. true) p))
      ∷ row_at 6 2 (codes "udp") (λ p. record p { sockets = [] })
      (Clears (λ p. record p { sockets = [] }))
      ∷ row_at 9 0 (codes "vnet_if_return") (λ p. p) SendsHome
      ∷ []

  -- the row of a name
  abbrev pub row_named : List ℕ → Option (RowOf N)
  row_named name = find (λ (row : RowOf N). bytes_eq name row.name) constructor_rows

  -- the constructors run one after another
  abbrev pub run_up : List (RowOf N) → PartsOf N → PartsOf N
  run_up [] p = p
  run_up (row ∷ rows) p = run_up rows (row.up p)

  -- what they leave
  abbrev pub constructed_parts : PartsOf N
  constructed_parts = run_up constructor_rows bare_parts

-- How far a command reaches.
use Rattle.std.specs.Prelude.{ℕ, Bool, true, false, ◌++◌, Option, Some, None}
use Rattle.vn_types.specs.declared.address.Mac.{Mac}
use Rattle.vn_types.specs.declared.interface.IfName.{IfName}
use Rattle.vn_types.specs.declared.interface.IfName.TheVariants as ifname
use Rattle.vn_types.specs.declared.interface.Side.{Side}
use Rattle.vn_cells.specs.declared.command.Command.{Command}
use Rattle.vn_cells.specs.declared.command.Command.TheVariants as command
use Rattle.vn_cells.specs.world.Names.{Path}

-- what a command touches; paths are whole
pub data Reach : Type 0 where
  -- the issuer's stack, and the pairs with a half there
  Near : Reach
  -- jail(8), -c: the jail, and the limit on its living descendants
  MakesJail : Path → ℕ → Reach
  -- jail(8), -r: the jail
  RemovesJail : Path → Reach
  -- epair(4): the pair of that unit, or of any
  MakesPair : Option ℕ → Reach
  -- ifconfig(8), destroy: the pair of the half that stands under that unit and side
  DestroysPair : ℕ → Side → Reach
  -- ifconfig(8), ether: that half
  SetsMac : ℕ → Side → Mac → Reach
  -- ifconfig(8), vnet: that half, and the jail to which it goes
  Lends : ℕ → Side → Path → Reach
  -- ifconfig(8), -vnet: that half, and the jail from which it comes
  Reclaims : ℕ → Side → Path → Reach
  -- vnet or -vnet of lo0, which goes nowhere: the jail, and whether it is lent
  MovesLo0 : Path → Bool → Reach

-- by the name of the interface
abbrev pub destroys : IfName → Reach
destroys ifname.Lo0 = Near
destroys (ifname.Epair unit side) = DestroysPair unit side

-- by the name of the interface
abbrev pub sets_mac : IfName → Mac → Reach
sets_mac ifname.Lo0 mac = Near
sets_mac (ifname.Epair unit side) mac = SetsMac unit side mac

-- by the name of the interface
abbrev pub lends : IfName → Path → Reach
lends ifname.Lo0 jail = MovesLo0 jail true
lends (ifname.Epair unit side) jail = Lends unit side jail

-- by the name of the interface
abbrev pub reclaims : IfName → Path → Reach
reclaims ifname.Lo0 jail = MovesLo0 jail false
reclaims (ifname.Epair unit side) jail = Reclaims unit side jail

-- of a command, by its issuer
unfoldable pub reach : Path → Command → Reach
reach issuer (command.JailCreate path children_max) = MakesJail (issuer ++ path) children_max
reach issuer (command.JailRemove path) = RemovesJail (issuer ++ path)
reach issuer command.EpairAny = MakesPair None
reach issuer (command.EpairCreate unit) = MakesPair (Some unit)
reach issuer (command.Destroy name) = destroys name
reach issuer (command.Vnet name path) = lends name (issuer ++ path)
reach issuer (command.VnetBack name path) = reclaims name (issuer ++ path)
reach issuer (command.Inet name ip len) = Near
reach issuer (command.InetRemove name ip) = Near
reach issuer (command.Up name) = Near
reach issuer (command.Down name) = Near
reach issuer (command.Ether name mac) = sets_mac name mac
reach issuer (command.RouteAdd to via) = Near
reach issuer (command.RouteDelete to) = Near
reach issuer (command.ArpSet ip mac) = Near
reach issuer (command.ArpDelete ip) = Near
reach issuer (command.SysctlGet name) = Near
reach issuer (command.SysctlSet name value) = Near
reach issuer command.Stat = Near
reach issuer (command.Ping ttl ip) = Near
reach issuer (command.UdpOpen sock) = Near
reach issuer (command.UdpBind sock ip port) = Near
reach issuer (command.UdpConnect sock ip port) = Near
reach issuer (command.UdpSend sock body to) = Near
reach issuer (command.UdpRecv sock) = Near
reach issuer (command.UdpTtl sock ttl) = Near
reach issuer (command.UdpClose sock) = Near

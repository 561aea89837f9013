-- What stays as halves go home and pairs and stacks end.
use Rattle.std.proofs.Common.{◌≡◌, ℕ, List, length, ap, ◌∙◌, arith}
use Rattle.vn_types.specs.Paths.{Key, Path}
use Rattle.vn_jail.specs.declared.jail.Jail.{Jail}
use Rattle.vn_jail.specs.Tree.{removed, stop}
use Rattle.vn_jail.proofs.Changes.{as-many}
use Rattle.vn_vmove.specs.declared.tables.Tables.{Tables}
use Rattle.vn_cells.specs.commands.Jails.{one_less}
use Rattle.vn_cells.specs.declared.world.World.{World}
use Rattle.vn_kernel.specs.Fields.{Fields}
use Rattle.vn_kernel.specs.Removal.{GivesNoNumber}
use Rattle.vn_kernel.specs.Stands.{Leaves, Stands, reading}
use Rattle.vn_kernel.specs.Worlds.{world_of}

-- the jails, where no more than tables and units is another
pub same-jails : (f g : Fields) {units : List (Key × ℕ)} {tables : Tables} → g ≡ record f { units = units; tables = tables } → g.jails ≡ f.jails
same-jails f g others = ap (λ (k : Fields). k.jails) others

-- a jail that ends keeps its number
pub as-many-left : (p : Path) (jails : List Jail) {js : List Jail} → js ≡ removed p jails → length js ≡ length jails
as-many-left p jails is = ap (λ (js : List Jail). length js) is ∙ as-many stop one_less p jails

-- no number is given, and nothing is read
pub leaves-same : {f g : Fields} {w : World} → world_of g ≡ w → Stands g → length g.jails ≡ length f.jails → GivesNoNumber f g → reading g ≡ reading f → Leaves w f g
leaves-same world stands jails numbers read = record {
  world = world;
  stands = stands;
  grows = record { jails = omega (arith, jails); pairs = omega (arith, numbers) };
  read = read;
}

-- A half that leaves a stack or comes to it does so under its name too.
use Rattle.std.proofs.Common.{◌≡◌, sym, ap, ◌∙◌}
use Rattle.vn_types.specs.declared.half.Half.{Half}
use Rattle.vn_types.specs.declared.interface.HalfId.{HalfId}
use Rattle.vn_types.specs.declared.interface.IfOf.TheVariants.{Half as OfHalf}
use Rattle.vn_types.specs.Interfaces.{half_id_eq}
use Rattle.vn_rules.specs.declared.parts.PartsOf.{PartsOf}
use Rattle.vn_rules.specs.Purge.{purged}
use Rattle.vn_rules.specs.Renamed.{renamed}
use Rattle.vn_rules.proofs.InterfaceLaws.{with_interface-renamed, without_interface-renamed}
use Rattle.vn_rules.proofs.PurgeRenamed.{purged-renamed}
use Rattle.vn_vmove.specs.Nets.{attached, detached}
use Rattle.vn_cells.specs.world.Names.{half_eq}
use Rattle.vn_cells.specs.commands.Pairs.{attached as attached_half, detached as detached_half, unlisted}

module _ (r : HalfId → Half) (h : HalfId) (p : PartsOf HalfId) where
  pub attached-renamed : renamed r (attached h p) ≡ attached_half (r h) (renamed r p)
  unfolding renamed
  attached-renamed i = record (renamed r p) { interfaces = sym (with_interface-renamed r (OfHalf h) p.interfaces) i }

  pub detached-renamed : ((a b : HalfId) → half_eq (r a) (r b) ≡ half_id_eq a b) → renamed r (detached h p) ≡ detached_half (r h) (renamed r p)
  unfolding renamed
  detached-renamed kept =
      (λ i. record (renamed r (purged half_id_eq h p)) { interfaces = sym (without_interface-renamed r half_id_eq half_eq kept (OfHalf h) (purged half_id_eq h p).interfaces) i })
      ∙ ap (unlisted (r h)) (sym (purged-renamed r half_id_eq half_eq kept h p))

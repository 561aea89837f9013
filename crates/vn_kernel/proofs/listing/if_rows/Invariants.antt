use Rattle.std.proofs.Common.{◌≡◌, ◌++◌, map}
use Rattle.std.specs.List.{AllByRecursion}
use Rattle.vn_types.specs.Interfaces.{half_id_eq}
use Rattle.vn_vmove.proofs.Listing.{what_of}
use Rattle.vn_cells.specs.machine.Listings.{if_row, if_rows}
use Rattle.vn_ipcore.specs.Scenes.{scene_of}
use Rattle.vn_kernel.specs.Fields.{fields}
use Rattle.vn_kernel.specs.Rows.{IsAttached, label_of}
use Rattle.vn_kernel.proofs.listing.if_rows.Given as goal

-- the rows so far and those to come
abbrev pub invariant-loop-attached : goal.invariant-loop-attached
invariant-loop-attached l = record {
  rows : l.rows ++ map (if_row half_id_eq (label_of (fields l.state)) (scene_of l.state.tables l.fn.sid.0)) (what_of l.attached-iterator)
      ≡ if_rows half_id_eq (label_of (fields l.state)) (scene_of l.state.tables l.fn.sid.0);
  attached : AllByRecursion (IsAttached (fields l.state) l.fn.sid.0) l.attached-iterator;
}

use Rattle.std.proofs.Common.{◌≡◌, ◌++◌, take}
use Rattle.std.specs.Io.{StartsWith}
use Rattle.std.specs.List.{flat_map}
use Rattle.vn_types.proofs.text.put_each.Given as goal

abbrev pub invariant-loop-part : goal.invariant-loop-part
invariant-loop-part l = record {
  so_far : l.out.items ≡ l.fn.out.items ++ flat_map (λ part. part.now) (take l.part-index l.parts);
  front : StartsWith l.out.items l.fn.out.items;
}

-- The lengths of the addresses that are kept.
use Rattle.std.proofs.Common.{◌≡◌, ◌≤◌, Bool, List, All}
use Rattle.std.specs.List.{filter}
use Rattle.std.proofs.lemmas.List.Elements.{All-filter}
use Rattle.vn_types.specs.declared.interface.HalfId.{HalfId}
use Rattle.vn_rules.specs.declared.address.AddrOf.{AddrOf}

pub bounded-filter : (keeps : AddrOf HalfId → Bool) (addresses kept : List (AddrOf HalfId)) → kept ≡ filter keeps addresses
    → All (λ (a : AddrOf HalfId). a.len ≤ 32) addresses → All (λ (a : AddrOf HalfId). a.len ≤ 32) kept
bounded-filter keeps addresses kept is bounded = rw is (All-filter keeps (λ (a : AddrOf HalfId). a.len ≤ 32) addresses bounded)

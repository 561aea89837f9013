use Rattle.std.proofs.Common.{◌<◌, length, ap, arith, rules}
use Rattle.std.proofs.lemmas.Bool.{false_from_ne_true}
use Rattle.vn_types.proofs.Ancestors.{is_host-is}
use Rattle.vn_table_tests.proofs.tests.jail.jail_path.Goals as goal

pub returns : goal.returns
returns c =
    let some : 0 < length c.in_ok-jail.jail = search rules in
    false_from_ne_true _ (λ h. let e = ap length (is_host-is c.in_ok-jail.jail h) in absurd (omega arith))

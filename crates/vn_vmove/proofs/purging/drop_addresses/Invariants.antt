use Rattle.std.proofs.Common.{◌≡◌, length}
use Rattle.std.specs.List.{filter}
use Rattle.vn_types.specs.declared.interface.IfOf.TheVariants.{Half}
use Rattle.vn_types.specs.Interfaces.{half_id_eq}
use Rattle.vn_types.specs.PerStack.{ChangesOnly}
use Rattle.vn_rules.specs.Addresses.{is_on}
use Rattle.vn_vmove.specs.Leaving.{KeepsRest, unaddressed}
use Rattle.vn_vmove.specs.Parts.{parts}
use Rattle.vn_vmove.specs.Sound.{IsSound}
use Rattle.vn_vmove.proofs.purging.drop_addresses.Given as goal

-- what is left to remove leads to the same end
abbrev pub invariant-loop-ip : goal.invariant-loop-ip
invariant-loop-ip l = record {
  sound : IsSound l.tables;
  end : unaddressed l.fn.half (parts l.tables l.sid.0) ≡ unaddressed l.fn.half (parts l.initial.tables l.sid.0);
  others : ChangesOnly l.sid.0 (parts l.initial.tables) (parts l.tables);
  rest : KeepsRest l.initial.tables l.tables;
}

abbrev pub decreases-loop-ip : goal.decreases-loop-ip
decreases-loop-ip l = length (filter (is_on half_id_eq (Half l.fn.half)) (parts l.tables l.sid.0).addresses)

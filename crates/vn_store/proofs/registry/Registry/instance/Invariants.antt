use Rattle.std.proofs.Common.{◌≡◌, ◌++◌, map}
use Rattle.vn_rules.specs.declared.variable.Bounds.{Bounds}
use Rattle.vn_rules.specs.Variables.{Declaration}
use Rattle.vn_store.proofs.registry.Registry.instance.Given as goal

-- the initial values so far and those to come
abbrev pub invariant-loop-bounds : goal.invariant-loop-bounds
invariant-loop-bounds l = l.values.items ++ map (λ (b : Bounds). b.initial) l.bounds-iterator ≡ map (λ (d : Declaration). d.1.initial) l.fn.self.declared

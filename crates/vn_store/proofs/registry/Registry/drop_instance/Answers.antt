use Rattle.vn_store.proofs.Registers.{of-others}
use Rattle.vn_store.proofs.registry.Registry.drop_instance.Goals as goal

pub returns-clause-others : goal.returns-clause-others
returns-clause-others c = rw (← c.self.view_is) (of-others c.self.inside.declared.entries c.args.sid.0 c.self.inside.values c.stop.new.self c.stop.ensures.others)

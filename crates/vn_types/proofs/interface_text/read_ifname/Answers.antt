use Rattle.std.proofs.Common.{◌∙◌}
use Rattle.vn_types.proofs.InterfaceReading.{lo0_read, epair_read, ifname_canonical}
use Rattle.vn_types.proofs.interface_text.read_ifname.Goals as goal

pub returns-then-eq-clause-name : goal.returns-then-eq-clause-name
returns-then-eq-clause-name c = lo0_read _ _ c.if-eq.ensures c.as_slice.ensures

pub returns-then-eq-clause-canonical : goal.returns-then-eq-clause-canonical
returns-then-eq-clause-canonical c = ifname_canonical _ _ (lo0_read _ _ c.if-eq.ensures c.as_slice.ensures)

pub returns-clause-name : goal.returns-clause-name
returns-clause-name c = c.read_epair.ensures ∙ epair_read _ _ c.if-eq.ensures c.as_slice.ensures

pub returns-clause-canonical : goal.returns-clause-canonical
returns-clause-canonical c = ifname_canonical _ _ (c.read_epair.ensures ∙ epair_read _ _ c.if-eq.ensures c.as_slice.ensures)

use Rattle.std.proofs.Common.{◌∙◌}
use Rattle.std.proofs.lemmas.Result.{IfOk-weaker}
use Rattle.vn_types.proofs.PathReading.{host_read, no_host_read, path_text-path_of}
use Rattle.vn_types.proofs.path_text.read_path.Goals as goal

pub returns-then-eq-clause-path : goal.returns-then-eq-clause-path
returns-then-eq-clause-path c = host_read _ _ _ c.if-eq.ensures c.as_slice.ensures c.host.ensures

pub returns-clause-path : goal.returns-clause-path
returns-clause-path c = IfOk-weaker c.read_labels.result _ _ (λ r e. e ∙ no_host_read _ _ c.if-eq.ensures c.as_slice.ensures) c.read_labels.ensures

pub returns-then-eq-clause-canonical : goal.returns-then-eq-clause-canonical
returns-then-eq-clause-canonical c = path_text-path_of _

pub returns-clause-canonical : goal.returns-clause-canonical
returns-clause-canonical c = path_text-path_of _

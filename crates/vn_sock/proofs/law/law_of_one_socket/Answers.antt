use Rattle.vn_types.specs.Interfaces.{half_id_eq}
use Rattle.vn_rules.proofs.SocketEdits.{qualifies-once}
use Rattle.vn_sock.proofs.law.law_of_one_socket.Goals as goal

pub returns : goal.returns
returns c = λ p dst dport src sport sound. qualifies-once half_id_eq p dst dport src sport sound

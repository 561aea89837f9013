use Rattle.vn_types.proofs.FieldLaws.{reads-back, spells}
use Rattle.vn_types.specs.Ip4Header.{ip4_header}
use Rattle.vn_ip4fmt.proofs.Headers.{is_format}
use Rattle.vn_ip4fmt.proofs.laws.law_of_headers.Goals as goal

pub returns : goal.returns
returns c = record { spells = spells ip4_header is_format; read_back = reads-back ip4_header is_format }

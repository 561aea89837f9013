use Rattle.vn_types.proofs.FieldLaws.{reads-back, spells}
use Rattle.vn_udpfmt.specs.Header.{udp_header}
use Rattle.vn_udpfmt.proofs.Headers.{is_format}
use Rattle.vn_udpfmt.proofs.laws.law_of_headers.Goals as goal

pub returns : goal.returns
returns c = record { spells = spells udp_header is_format; read_back = reads-back udp_header is_format }

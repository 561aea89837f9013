use Rattle.vn_text.proofs.Reports.{written_report}
use Rattle.vn_text.proofs.laws.law_of_reports.Goals as goal

pub returns : goal.returns
returns c = written_report

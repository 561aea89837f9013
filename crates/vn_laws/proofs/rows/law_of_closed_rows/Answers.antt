use Rattle.vn_laws.proofs.ClosedRows.{alone_closed, family_closed, child_open}
use Rattle.vn_laws.proofs.PairRows.{host_closed, loan_closed, alone_open, raised_open}
use Rattle.vn_laws.proofs.rows.law_of_closed_rows.Goals as goal

pub returns : goal.returns
returns c = record {
  alone = alone_closed;
  family = family_closed;
  child = λ closed. cc (closed, child_open);
  any_unit = λ closed. cc (closed, alone_open);
  host = host_closed;
  loan = loan_closed;
  raised = λ closed. cc (closed, raised_open);
}

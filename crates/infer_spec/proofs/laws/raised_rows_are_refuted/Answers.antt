use Rattle.infer_spec.proofs.RaisedRows.{raised_rows_are_refuted}
use Rattle.infer_spec.proofs.laws.raised_rows_are_refuted.Goals as goal

pub returns : goal.returns
returns c = raised_rows_are_refuted

use Rattle.simplex_rows.proofs.Appending.{it_adds, it_ends}
use Rattle.simplex_rows.proofs.wide.WideRow.push.Goals as goal

pub returns-clause-added : goal.returns-clause-added
returns-clause-added c = it_adds c.args.column c.args.number _ _ c.put.result c.requires c.put.ensures.added

pub returns-clause-before : goal.returns-clause-before
returns-clause-before c k h = it_ends c.args.column k c.args.number _ _ c.put.result c.requires h c.put.ensures.added

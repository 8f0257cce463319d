use Rattle.std.proofs.Common.{sym, Ok, Err, ◌-◌, arith}
use Rattle.lsp_positions.proofs.Starts.{line_from, line_by_search, start_no_later}
use Rattle.lsp_positions.proofs.table.line_of.Goals as goal

pub overflow_sub-result : goal.overflow_sub-result
overflow_sub-result c =
    let found = line_by_search c.args.text.now c.args.starts.now c.args.place (Err c.in-Err.next) c.requires c.in-Err.ensures.position in
    omega (arith, found.0)

pub returns-in-Ok-clause-line : goal.returns-in-Ok-clause-line
returns-in-Ok-clause-line c =
    sym (line_from c.args.text.now c.args.place c.in-Ok.line
    (line_by_search c.args.text.now c.args.starts.now c.args.place (Ok c.in-Ok.line) c.requires c.in-Ok.ensures.position))

pub returns-in-Err-clause-line : goal.returns-in-Err-clause-line
returns-in-Err-clause-line c =
    sym (line_from c.args.text.now c.args.place (c.in-Err.next - 1)
    (line_by_search c.args.text.now c.args.starts.now c.args.place (Err c.in-Err.next) c.requires c.in-Err.ensures.position).1)

pub returns-in-Err-clause-start : goal.returns-in-Err-clause-start
returns-in-Err-clause-start c =
    start_no_later c.args.text.now c.args.starts.now c.args.place (c.in-Err.next - 1) c.requires
    (line_by_search c.args.text.now c.args.starts.now c.args.place (Err c.in-Err.next) c.requires c.in-Err.ensures.position).1

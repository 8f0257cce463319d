use Rattle.std.proofs.Common.{ap, ◌∙◌, drop, get_or, arith}
use Rattle.lsp_positions.specs.Columns.{at_column}
use Rattle.lsp_positions.specs.Lines.{before_ending}
use Rattle.lsp_positions.proofs.Starts.{start_in_text}
use Rattle.lsp_positions.proofs.Tables.{offset_boundary}
use Rattle.lsp_positions.proofs.table.offset_in.Goals as goal

pub line_from-line-requires : goal.line_from-line-requires
line_from-line-requires c = let h = start_in_text c.args.text.now c.args.starts.now c.args.position.line c.requires (omega arith) in omega (arith, h, c.as_bytes.ensures.len)

pub returns-clause-boundary : goal.returns-clause-boundary
returns-clause-boundary c =
    offset_boundary c.args.encoding c.args.text.now c.args.starts.now c.args.position.line c.args.position.character c.at_column.result c.utf8.text c.requires (omega arith)
    (c.at_column.ensures.place ∙ ap (λ l. at_column c.args.encoding l c.args.position.character) (c.line_from-line.ensures ∙ ap (λ t. before_ending (drop (get_or c.args.starts.now c.args.position.line 0) t)) c.as_bytes.ensures.value))

use Rattle.lsp_positions.proofs.Tables.{position_is}
use Rattle.lsp_positions.proofs.table.position_in.Goals as goal

pub returns : goal.returns
returns c =
    position_is c.args.encoding c.args.text.now c.args.starts.now c.line_of-line.result c.min-place.result c.args.offset c.units.result
    c.requires c.min-place.ensures c.line_of-line.ensures.line c.line_of-line.ensures.start c.units.ensures

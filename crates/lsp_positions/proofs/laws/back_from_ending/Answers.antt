use Rattle.lsp_positions.proofs.Back.{back_from_ending}
use Rattle.lsp_positions.proofs.laws.back_from_ending.Goals as goal

pub returns : goal.returns
returns c = back_from_ending c.args.encoding

use Rattle.lsp_positions.proofs.Back.{there_and_back}
use Rattle.lsp_positions.proofs.laws.there_and_back.Goals as goal

pub returns : goal.returns
returns c = there_and_back c.args.encoding

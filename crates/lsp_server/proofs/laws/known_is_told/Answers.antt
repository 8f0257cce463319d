use Rattle.lsp_server.proofs.Told.{taken_told}
use Rattle.lsp_server.proofs.laws.known_is_told.Goals as goal

pub returns : goal.returns
returns g c = taken_told (g.L.Language.tells c.args.language.now)

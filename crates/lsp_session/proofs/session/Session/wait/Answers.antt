use Rattle.std.proofs.Common.{◌∙◌, ap}
use Rattle.lsp_frames.specs.Frames.{front}
use Rattle.lsp_session.proofs.Keeping.{fetch_ends, fetch_on}
use Rattle.lsp_session.proofs.session.Session.wait.Goals as goal

pub returns-clause-on : goal.returns-clause-on
returns-clause-on g c = λ more.
    fetch_on _ _ _ _ _ _ _ _ _ _ _ c.fetch.result c.fetch.ensures.fetched c.fetch.ensures.kept (c.in_ok-publish.ensures.on (g.C.Read.remaining c.args.client.now))

pub returns-clause-ends : goal.returns-clause-ends
returns-clause-ends g c = λ more.
    fetch_ends _ _ _ _ _ _ _ c.fetch.new.self.server _ _ c.fetch.new.self.reader c.fetch.result c.fetch.ensures.stops (ap front c.in_ok-publish.ensures.kept ∙ more)
    (c.in_ok-publish.ensures.on (g.C.Read.remaining c.args.client.now))

use Rattle.std.proofs.Common.{[]}
use Rattle.lsp_session.proofs.Keeping.{published, published_so, wrote_all}
use Rattle.lsp_session.proofs.session.Session.publish.Goals as goal

pub returns-clause-on : goal.returns-clause-on
returns-clause-on g c = λ comes start on.
    published _ start comes _ _ _ _ _ [] _ (published_so _ _ _ _ _ c.new-sent.ensures.items c.in_ok-published.published c.in_ok-published.ensures.settled)
    (wrote_all _ _ _ _ c.deref.ensures.value c.in_ok-put_all.ensures.ok) on

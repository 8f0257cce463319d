use Rattle.std.proofs.Common.{refl}
use Rattle.lsp_session.specs.Deeds.{Took}
use Rattle.lsp_session.proofs.Keeping.{cut_off, took, took_so, write_fails, wrote_all, wrote_front}
use Rattle.lsp_session.proofs.session.Session.take.Goals as goal

pub returns-in_err-put_all-clause-ends : goal.returns-in_err-put_all-clause-ends
returns-in_err-put_all-clause-ends g c = λ rest comes is.
    write_fails _ _ _ c.from_residual-in_err-put_all.result c.from_residual-in_err-put_all.ensures.1 (λ start on.
    cut_off _ start comes _ _ _ _ rest rest _ (Took c.args.content.now) c.in_ok-flow.flow (c.args.self.now.reader, is)
    (took_so _ _ _ _ _ c.new-sent.ensures.items _ _ _ refl c.in_ok-flow.ensures.taken)
    (wrote_front _ _ _ _ c.deref.ensures.value c.in_err-put_all.ensures.err) on)

pub returns-in-GoOn-clause-on : goal.returns-in-GoOn-clause-on
returns-in-GoOn-clause-on g c = λ rest comes is start on.
    took _ start comes _ _ _ _ rest _ _ c.args.content.now is (took_so _ _ _ _ _ c.new-sent.ensures.items _ _ _ c.in-GoOn.is c.in_ok-flow.ensures.taken)
    (wrote_all _ _ _ _ c.deref.ensures.value c.in_ok-put_all.ensures.ok) on

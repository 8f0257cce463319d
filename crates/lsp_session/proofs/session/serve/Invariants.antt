use Rattle.lsp_session.specs.Sessions.{GoesOn, moment_of, streams_of}
use Rattle.lsp_session.proofs.session.serve.Given as goal

abbrev pub invariant-loop : goal.invariant-loop
invariant-loop g l = record {
  on : GoesOn (g.L.Language.tells l.fn.language) (streams_of (g.C.Read.remaining l.fn.client) (g.O.Sink.written l.fn.out))
      (moment_of (g.C.Read.remaining l.client) (g.O.Sink.written l.out) l.session.server l.session.reader);
}

use Rattle.lsp_session.specs.Sessions.{streams_of}
use Rattle.lsp_session.proofs.session.serve.Goals as goal

pub returns-in-Err : goal.returns-in-Err
returns-in-Err g c = c.in-Err.ensures.ends (streams_of (g.C.Read.remaining c.args.client.now) (g.O.Sink.written c.args.out.now)) c.loop.invariant.on

use Rattle.clap.specs.Simple.{app_of}
use Rattle.explain_words.specs.Commands.{texts}
use Rattle.explain_words.proofs.Fitting.{asks, asks_nothing, refused}
use Rattle.explain_words.proofs.request.read_words.Goals as goal

pub returns-in-Ok-clause-ok : goal.returns-in-Ok-clause-ok
returns-in-Ok-clause-ok c =
    asks (app_of c.in_ok-command.command) (texts c.args.words.now) c.in_ok-command.ensures c.in-Ok.matches c.asked_by.result c.in-Ok.ensures.kinds c.in-Ok.ensures.matches c.asked_by.ensures.ok

pub returns-in-Ok-clause-err : goal.returns-in-Ok-clause-err
returns-in-Ok-clause-err c =
    asks_nothing (app_of c.in_ok-command.command) (texts c.args.words.now) c.in_ok-command.ensures c.in-Ok.matches c.asked_by.result c.in-Ok.ensures.kinds c.in-Ok.ensures.matches c.asked_by.ensures.err

pub returns-in-Err-clause-err : goal.returns-in-Err-clause-err
returns-in-Err-clause-err c =
    refused (app_of c.in_ok-command.command) (texts c.args.words.now) c.in_ok-command.ensures c.in-Err.error c.fault_of.result c.in-Err.ensures.kinds c.fault_of.ensures

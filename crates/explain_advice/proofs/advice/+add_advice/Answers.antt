use Rattle.std.proofs.lemmas.Result.{on_ok_weaker}
use Rattle.raml_syntax.specs.Read.{program_of}
use Rattle.explain_advice.proofs.Joining.{advised_next}
use Rattle.explain_advice.proofs.advice.+add_advice.Goals as goal

pub returns-in_ok-add_group-in-len1-up : goal.returns-in_ok-add_group-in-len1-up
returns-in_ok-add_group-in-len1-up t c =
    let advised = c.args.advised.now in
    on_ok_weaker c.add_advice.result
    (advised_next advised.source.now (program_of advised.program.now) advised.found.now c.args.reasons.now c.first-item.result c.args.insight.now
    c.add_group.new.insight c.add_advice.new.insight c.in-len1-up.len_at_least c.first-item.is c.in_ok-add_group-in-len1-up.ensures)
    c.add_advice.ensures

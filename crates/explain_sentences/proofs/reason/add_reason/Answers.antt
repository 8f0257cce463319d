use Rattle.std.proofs.Common.{◌++◌, ◌∙◌, ap}
use Rattle.std.proofs.lemmas.List.{append_assoc}
use Rattle.std.proofs.lemmas.Result.{on_ok_weaker}
use Rattle.raml_syntax.specs.Read.{program_of}
use Rattle.explain_rounds.specs.Read.{calls_of}
use Rattle.explain_sentences.specs.Sentences.{of_calls, of_waiting}
use Rattle.explain_sentences.specs.Read.{sentences_of}
use Rattle.explain_sentences.proofs.reason.add_reason.Goals as goal

pub returns-in_ok-add_waits-in-Waits : goal.returns-in_ok-add_waits-in-Waits
returns-in_ok-add_waits-in-Waits c =
    let P = program_of c.args.program.now in
    let old = sentences_of c.args.sentences.now.items in
    let told = of_calls P (calls_of c.in-Waits.stuck.items) in
    rw c.in-Waits.is
    (on_ok_weaker c.add_calls.result
    (λ added.
    added ∙ ap (λ calls. sentences_of c.add_waits.new.sentences.items ++ of_calls P (calls_of calls)) c.deref.ensures.value
    ∙ ap (λ ss. ss ++ told) c.in_ok-add_waits-in-Waits.ensures ∙ append_assoc old (of_waiting P c.args.fun.0 c.in-Waits.callee.0) told) c.add_calls.ensures)

use Rattle.raml_syntax.specs.Read.{program_of}
use Rattle.explain_why.specs.Chosen.{asking_in}
use Rattle.explain_why.proofs.Calling.{of_explanation}
use Rattle.explain_why.proofs.call.tell_asked.Goals as goal

pub returns : goal.returns
returns g c =
    let is = rw c.deref.ensures.value at c.in_ok-explanation.ensures in
    let refused = rw c.deref-2.ensures.value at c.in_ok-push_refused.ensures in
    let ends = rw (c.deref-3.ensures.value, c.program.ensures.program) at c.tell_explained.ensures in
    of_explanation c.args.words.now.file.now c.args.source.now.bytes.items (program_of c.args.source.now.typed) c.args.words.now.degree (asking_in c.args.asking) c.in_ok-explanation.explanation
    _ _ _ _ c.tell_explained.result is refused ends

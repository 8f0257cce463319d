use Rattle.std.proofs.Common.{◌∙◌, [], sym, ap, inl}
use Rattle.std.proofs.lemmas.List.{append-nil}
use Rattle.raml_syntax.specs.Read.{place_in}
use Rattle.explain_data.specs.Data.{no_function_line}
use Rattle.explain_plot.proofs.call.tell_program.Goals as goal

pub tell_function-requires-clause-there : goal.tell_function-requires-clause-there
tell_function-requires-clause-there c = rw c.program.ensures.program at (sym c.find.ensures ∙ ap place_in c.in-Some.is)

pub returns-in_ok-push_no_function-in-None : goal.returns-in_ok-push_no_function-in-None
returns-in_ok-push_no_function-in-None c =
    let lacking = rw c.program.ensures.program at (sym c.find.ensures ∙ ap place_in c.in-None.is) in
    let line = no_function_line c.args.words.now.file.now c.args.words.now.name.now in
    ([], line, inl (lacking, c.refused.ensures line), sym (append-nil _), c.in_ok-push_no_function-in-None.ensures)

use Rattle.std.proofs.Common.{◌≡◌, ℕ, [], Option, None, Some, refl, sym, ap, ◌∙◌, inl, inr}
use Rattle.std.proofs.lemmas.List.{append-nil}
use Rattle.raml_syntax.specs.Place.{place_of}
use Rattle.raml_syntax.specs.Read.{place_in, program_of}
use Rattle.explain_data.specs.Data.{no_function_line}
use Rattle.explain_words.specs.Spelled.{lent}
use Rattle.explain_why.proofs.Calling.{of_asked}
use Rattle.explain_why.proofs.call.tell_program.Goals as goal

pub returns-in-None : goal.returns-in-None
returns-in-None g c =
    of_asked c.args.source.now.bytes.items (program_of c.args.source.now.typed) c.args.words.now _ _ _ _ _ c.tell_asked.result
    (c.meter_asked-meter.ensures, inl (ap lent c.in-None.is, refl)) c.tell_asked.ensures

pub returns-in-Some-find : goal.returns-in-Some-find
returns-in-Some-find g c =
    let there = rw c.program.ensures.program at (sym c.find.ensures ∙ ap place_in c.in-Some-find.is) in
    of_asked c.args.source.now.bytes.items (program_of c.args.source.now.typed) c.args.words.now _ _ _ _ _ c.tell_asked-in-Some-find.result
    (c.meter_asked-meter.ensures, inr (c.in-Some.name.now, c.in-Some-find.fun.0, ap lent c.in-Some.is, there, refl)) c.tell_asked-in-Some-find.ensures

pub returns-in_ok-push_no_function-in-None-find : goal.returns-in_ok-push_no_function-in-None-find
returns-in_ok-push_no_function-in-None-find g c =
    let name = c.in-Some.name.now in
    let lacking = rw c.program.ensures.program at (sym c.find.ensures ∙ ap place_in c.in-None-find.is) in
    let line = no_function_line c.args.words.now.file.now name in
    ([], line, inl (name, ap lent c.in-Some.is, lacking, c.refused.ensures line), sym (append-nil _), c.in_ok-push_no_function-in-None-find.ensures)

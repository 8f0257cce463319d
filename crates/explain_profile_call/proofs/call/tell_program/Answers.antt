use Rattle.std.proofs.Common.{◌≡◌, ◌≤◌, ◌∙◌, List, length, map, slice_get, ap, sym, subst, None, string_bytes, arith}
use Rattle.std.proofs.lemmas.Bool.{ltb-false}
use Rattle.std.proofs.lemmas.List.{length-map}
use Rattle.raml_syntax.specs.Place.{place_of}
use Rattle.raml_syntax.specs.Read.{place_in, program_of, function_of}
use Rattle.raml_syntax.specs.declared.program.Program.{Program}
use Rattle.raml_syntax.specs.declared.program.Fun.{Fun}
use Rattle.explain_profile_call.specs.Calls.{function_at}
use Rattle.explain_profile_call.proofs.Calling.{of_none, past}
use Rattle.explain_profile_call.proofs.call.tell_program.Goals as goal

pub returns-in-None-get : goal.returns-in-None-get
returns-in-None-get c =
    let source = c.args.source.now in
    let P = program_of source.typed in
    let name = c.args.words.now.function.now in
    let f = c.in-Some.fun.0 in
    let funs = c.deref.result.now in
    let over : length funs ≤ f = ltb-false f (length funs) (sym c.in-None-get.ensures.lookup.0) in
    let none = past (map function_of funs) f (omega (arith, over, length-map funs function_of)) in
    let none_there = subst (λ (fs : List Fun). slice_get (map function_of fs) f ≡ None) c.deref.ensures.value none in
    let none_here = subst (λ (p : Program). slice_get (program_of p) f ≡ None) c.program-program.ensures.program none_there in
    let named = subst (λ (p : Program). place_in c.find.result ≡ place_of name (program_of p)) c.program-program.ensures.program c.find.ensures in
    let lacks = ap (function_at P) (sym named ∙ ap place_in c.in-Some.is) ∙ none_here in
    of_none source.bytes.items P c.args.words.now (string_bytes c.args.text.now) (string_bytes c.args.report.now)
    (string_bytes c.refuse_function.new.report) c.refuse_function.result lacks c.refuse_function.ensures.end c.refuse_function.ensures.report

pub returns-in-None : goal.returns-in-None
returns-in-None c =
    let source = c.args.source.now in
    let P = program_of source.typed in
    let name = c.args.words.now.function.now in
    let named = subst (λ (p : Program). place_in c.find.result ≡ place_of name (program_of p)) c.program-program.ensures.program c.find.ensures in
    let lacks = ap (function_at P) (sym named ∙ ap place_in c.in-None.is) in
    of_none source.bytes.items P c.args.words.now (string_bytes c.args.text.now) (string_bytes c.args.report.now)
    (string_bytes c.refuse_function-in-None.new.report) c.refuse_function-in-None.result lacks c.refuse_function-in-None.ensures.end
    c.refuse_function-in-None.ensures.report

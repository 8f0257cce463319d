use Rattle.std.proofs.Common.{◌≡◌, ◌∙◌, ap, sym, length, map, Some, arith}
use Rattle.std.proofs.lemmas.List.{length-map}
use Rattle.raml_syntax.specs.Tree.{Parameter}
use Rattle.raml_syntax.specs.Eval.{find}
use Rattle.raml_syntax.specs.Read.{ty_of, program_of, function_of}
use Rattle.explain_data.proofs.Calling.{found_has}
use Rattle.explain_data.proofs.call.check_in_program.Goals as goal

pub check_data_file-requires : goal.check_data_file-requires
check_data_file-requires g c =
    let fun = function_of c.in-Some.function.now in
    let found : find c.args.name.now (program_of c.args.program.now) ≡ Some fun = sym c.in-Some.ensures in
    let few = found_has c.args.name.now (program_of c.args.program.now) fun c.requires.parameters found in
    let types = ap (map ty_of) c.deref.ensures.value ∙ c.in_ok-types-in-Some.ensures in
    let long = sym (length-map c.deref.result.now ty_of) ∙ ap length types ∙ length-map fun.params (λ (p : Parameter). p.type) in
    (omega (arith, long, few.0), omega (arith, long, few.1))

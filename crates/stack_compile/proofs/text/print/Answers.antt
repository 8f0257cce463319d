use Rattle.std.proofs.Common.{◌≡◌, arith, sym, ap, ◌∙◌, map}
use Rattle.std.proofs.lemmas.Grind.{common_steps}
use Rattle.raml_syntax.specs.Read.{program_of, function_of}
use Rattle.stack_compile.proofs.Places.{code_read}
use Rattle.stack_compile.proofs.text.print.Goals as goal

pub loop-place-preserved : goal.loop-place-preserved
loop-place-preserved c =
    let all : program_of c.args.code.now ≡ map function_of c.as_slice-funs.result.now = ap program_of (sym c.program.ensures.program) ∙ ap (map function_of) (sym c.as_slice-funs.ensures.value) in
    let code = code_read (program_of c.args.code.now) c.as_slice-funs.result.now c.loop-place.place c.index-funs-place.result all c.loop-place-test.true c.index-funs-place.is in
    grind (arith, common_steps, code)

use Rattle.std.proofs.Common.{arith, string_bytes}
use Rattle.raml_syntax.specs.Read.{program_of}
use Rattle.explain_plot.proofs.Calling.{found_among, function_there, of_arguments}
use Rattle.explain_plot.proofs.function.tell_function.Goals as goal

pub index-function-requires : goal.index-function-requires
index-function-requires c =
    let below = found_among c.args.source.now.typed c.program.result.now c.args.words.now.name.now c.args.fun.0 c.program.ensures.program c.requires.there in
    omega (arith, below, c.program.result.now.funs.ok.0)

pub tell_made-requires-clause-there : goal.tell_made-requires-clause-there
tell_made-requires-clause-there c =
    function_there c.args.source.now.typed c.program.result.now c.args.words.now.name.now c.args.fun.0 c.index-function.result.now c.program.ensures.program c.requires.there c.index-function.ensures

pub tell_given-requires-clause-there : goal.tell_given-requires-clause-there
tell_given-requires-clause-there c =
    function_there c.args.source.now.typed c.program.result.now c.args.words.now.name.now c.args.fun.0 c.index-function.result.now c.program.ensures.program c.requires.there c.index-function.ensures

pub returns-in-Made : goal.returns-in-Made
returns-in-Made c =
    of_arguments (program_of c.args.source.now.typed) c.args.fun.0 c.args.words.now c.args.files.now _ (string_bytes c.args.text.now) (string_bytes c.tell_made.new.text)
    (string_bytes c.args.report.now) (string_bytes c.tell_made.new.report) c.tell_made.result c.in-Made.is c.tell_made.ensures

pub returns-in-Given : goal.returns-in-Given
returns-in-Given c =
    of_arguments (program_of c.args.source.now.typed) c.args.fun.0 c.args.words.now c.args.files.now _ (string_bytes c.args.text.now) (string_bytes c.tell_given.new.text)
    (string_bytes c.args.report.now) (string_bytes c.tell_given.new.report) c.tell_given.result c.in-Given.is c.tell_given.ensures

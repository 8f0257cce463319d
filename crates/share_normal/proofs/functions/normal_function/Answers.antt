use Rattle.std.proofs.Common.{subst}
use Rattle.raml_syntax.specs.Read.{function_of, program_of}
use Rattle.share_normal.specs.Numbers.{NumbersFit}
use Rattle.share_normal.proofs.SourceNumbers.{body_fits}
use Rattle.share_normal.proofs.functions.normal_function.Goals as goal

pub returns-clause-numbers : goal.returns-clause-numbers
returns-clause-numbers c =
    body_fits (program_of c.args.names.now.program.now) (function_of c.args.fun.now) (subst NumbersFit c.in_ok-named.ensures c.in_ok-body.ensures.numbers)

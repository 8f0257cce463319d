use Rattle.std.proofs.Common.{◌++◌, Option, sym, ap, ◌∙◌, append-nil}
use Rattle.raml_syntax.specs.Tree.{Function}
use Rattle.raml_syntax.specs.Read.{program_of}
use Rattle.call_groups.specs.Read.{ids_of}
use Rattle.explain_rounds.specs.Calls.{calls_from}
use Rattle.explain_rounds.specs.Read.{calls_of}
use Rattle.explain_rounds.proofs.calls.find_at.Goals as goal

pub returns-in_ok-find_in-in-Some : goal.returns-in_ok-find_in-in-Some
returns-in_ok-find_in-in-Some c =
    c.in_ok-find_in-in-Some.ensures
    ∙ ap (λ (o : Option Function). calls_of c.args.found.now.items ++ calls_from (program_of c.args.functions.now.program.now) (ids_of c.args.group.now) o) c.in-Some.ensures

pub returns-in-None : goal.returns-in-None
returns-in-None c =
    sym (append-nil (calls_of c.args.found.now.items))
    ∙ ap (λ (o : Option Function). calls_of c.args.found.now.items ++ calls_from (program_of c.args.functions.now.program.now) (ids_of c.args.group.now) o) c.in-None.ensures

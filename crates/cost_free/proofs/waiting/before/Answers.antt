use Rattle.std.proofs.Common.{sym, Vec}
use Rattle.std.specs.Global.{Global}
use Rattle.std.specs.List.{take-map}
use Rattle.raml_syntax.specs.declared.program.FunId.{FunId}
use Rattle.cost_free.specs.Read.{ids_of}
use Rattle.cost_free.proofs.waiting.before.Goals as goal

pub returns-then-count-groups : goal.returns-then-count-groups
returns-then-count-groups c = sym (take-map (λ (g : Vec FunId Global). ids_of g.items) c.args.group c.args.groups.now)

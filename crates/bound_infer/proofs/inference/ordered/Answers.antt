use Rattle.std.proofs.Common.{sym, subst}
use Rattle.share_normal.specs.Program.{source_in}
use Rattle.infer_systems_laws.specs.Tried.{IsOrdered}
use Rattle.bound_infer.proofs.inference.ordered.Goals as goal

pub returns : goal.returns
returns c = subst (λ funs. IsOrdered (record { funs = funs; groups = c.args.program.now.groups.list })) (sym c.functions-functions.ensures.norm)
    (c.normals_are_ordered.ensures (source_in c.args.program.now) c.source-source.ensures.typed c.source-source.ensures.numbers c.args.program.now.groups c.groups-groups.ensures.grouping)

use Rattle.std.proofs.Common.{◌≡◌, ◌+◌, ◌-◌, subst, arith}
use Rattle.cost_free.specs.declared.task.Meter.TheVariants.{Ticks}
use Rattle.share_normal.specs.Program.{source_in}
use Rattle.rules_plan.specs.Read.{program_in}
use Rattle.explain_degrees.specs.Degrees.{IsFinding}
use Rattle.explain_profile.proofs.Degrees.{nothing_found}
use Rattle.explain_profile.proofs.ticks.found_of.Goals as goal

pub loop-degree-init : goal.loop-degree-init
loop-degree-init c = (omega arith, nothing_found (source_in c.args.program.now) (program_in c.args.program.now) c.args.fun.0)

pub note_degree-requires-clause-found : goal.note_degree-requires-clause-found
note_degree-requires-clause-found c =
    let d = c.loop-degree.degree in
    let same : d ≡ (d + 1) - 1 = omega arith in
    subst (λ d. IsFinding (source_in c.args.program.now) (program_in c.args.program.now) d c.args.fun.0 Ticks c.loop-degree.found) same
    c.loop-degree.invariant.1

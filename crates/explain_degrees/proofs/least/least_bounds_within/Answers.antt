use Rattle.std.proofs.Common.{arith, ◌∙◌}
use Rattle.share_normal.specs.Program.{source_in}
use Rattle.rules_plan.specs.Read.{program_in}
use Rattle.explain_degrees.proofs.least.least_bounds_within.Goals as goal

pub loop-degree-init : goal.loop-degree-init
loop-degree-init c =
    let none = c.new.ensures.items in (
      omega arith,
      record {
        count = c.in_ok-nothing_found.ensures.count ∙ c.len.ensures ∙ c.functions.ensures.count;
        functions = c.in_ok-nothing_found.ensures.found (source_in c.args.program.now) (program_in c.args.program.now);
        refused = rw none (λ k d low. absurd (omega (arith, low)));
      },
    )

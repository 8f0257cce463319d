use Rattle.std.proofs.Common.{refl}
use Rattle.bound_infer.specs.Keeping.{state_of, analysis_in}
use Rattle.rules_plan.specs.Read.{program_in}
use Rattle.bound_infer.proofs.Leading.{first}
use Rattle.bound_infer.proofs.cursor.Inference.new.Goals as goal

pub returns-clause-analysis : goal.returns-clause-analysis
returns-clause-analysis g c = record { program_is = refl; degree_is = refl; rule_is = refl }

pub returns-clause-course : goal.returns-clause-course
returns-clause-course g c = record {
  least_degree = c.requires.least_degree;
  most_degree = c.requires.most_degree;
  chooses = c.requires.chooses;
  answers = c.requires.answers;
  ordered = c.ordered.ensures;
  keeps = c.in_ok-begin.ensures.keeps;
  kept = c.new.ensures (program_in c.args.program.now);
  reached = λ pick by. first (analysis_in c.args.program.now c.args.degree pick) (state_of c.in_ok-begin.field-0) c.in_ok-begin.ensures.start;
}

pub returns-clause-start : goal.returns-clause-start
returns-clause-start g c = c.in_ok-begin.ensures.start

use Rattle.std.proofs.Common.{refl}
use Rattle.constraint_gen.proofs.Whole.{if_err}
use Rattle.bound_infer.specs.Keeping.{state_of, analysis_in}
use Rattle.bound_infer.proofs.Leading.{goes, stopped}
use Rattle.bound_infer.proofs.Stepping.{on_ok_three}
use Rattle.bound_infer.proofs.cursor.Inference.step.Goals as goal

pub step-requires-clause-chooses : goal.step-requires-clause-chooses
step-requires-clause-chooses g c = c.requires.course.chooses

pub step-requires-clause-one : goal.step-requires-clause-one
step-requires-clause-one g c = c.requires.course.answers

pub step-requires-clause-ordered : goal.step-requires-clause-ordered
step-requires-clause-ordered g c = c.requires.course.ordered

pub step-requires-clause-low : goal.step-requires-clause-low
step-requires-clause-low g c = c.requires.course.most_degree

pub step-requires-clause-keeps : goal.step-requires-clause-keeps
step-requires-clause-keeps g c = c.requires.course.keeps

pub step-requires-clause-kept : goal.step-requires-clause-kept
step-requires-clause-kept g c = c.requires.course.kept

pub step-requires-clause-reached : goal.step-requires-clause-reached
step-requires-clause-reached g c = c.requires.course.reached

pub returns-clause-same : goal.returns-clause-same
returns-clause-same g c = record { program_is = refl; degree_is = refl; rule_is = refl }

pub returns-clause-course : goal.returns-clause-course
returns-clause-course g c =
    let h = c.requires.course in
    on_ok_three c.step.result _ _ _ _
    (λ keeps kept progress after. record {
      least_degree = h.least_degree;
      most_degree = h.most_degree;
      chooses = h.chooses;
      answers = h.answers;
      ordered = h.ordered;
      keeps = keeps;
      kept = kept;
      reached = λ pick by.
          goes (analysis_in c.args.self.now.program.now c.args.self.now.degree pick) c.args.most (state_of c.args.self.now.run) (state_of c.step.new.run) progress (h.reached pick by) (after pick by);
    })
    c.step.ensures.keeps c.step.ensures.kept c.step.ensures.steps

pub returns-clause-fault : goal.returns-clause-fault
returns-clause-fault g c = if_err c.step.result _ _
    (λ fault h pick by. stopped (analysis_in c.args.self.now.program.now c.args.self.now.degree pick) (state_of c.args.self.now.run) fault (c.requires.course.reached pick by) (h pick by))
    c.step.ensures.stops

use Rattle.std.proofs.Common.{true, false}
use Rattle.std.specs.Prelude.{codes}
use Rattle.explain_made.proofs.Added.{at_last, truth_added}
use Rattle.explain_made.proofs.values.push_truth.Goals as goal

pub returns-then-truth : goal.returns-then-truth
returns-then-truth c = at_last c.push_str.result _ _ (codes "true") c.push_str.ensures.bytes (truth_added true _ _)

pub returns-else-truth : goal.returns-else-truth
returns-else-truth c = at_last c.push_str-else-truth.result _ _ (codes "false") c.push_str-else-truth.ensures.bytes (truth_added false _ _)

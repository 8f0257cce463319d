use Rattle.cost_free.specs.Read.{outcomes_of}
use Rattle.cost_free.proofs.schedule.Schedule.new.Goals as goal

pub returns : goal.returns
returns c = λ i. record {
  results = c.plan.ensures.results i;
  groups = c.plan.ensures.groups i;
  degree = c.plan.ensures.degree i;
  work = c.plan.ensures.work i;
  done = outcomes_of (c.new.ensures.items i);
}

use Rattle.std.proofs.Common.{rules}
use Rattle.explain_faults.proofs.insight.fault_insight.Goals as goal

pub returns : goal.returns
returns c = record {
  diagnostic = c.in_ok-diagnostic.field-0;
  one = search rules;
  is = c.in_ok-diagnostic.ensures;
  repairs = c.in_ok-insight.ensures;
  no_hovers = c.new-insight.ensures.hovers;
  no_lenses = c.new-insight.ensures.lenses;
  no_hints = c.new-insight.ensures.hints;
}

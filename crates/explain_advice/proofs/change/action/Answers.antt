use Rattle.std.proofs.Common.{rules, refl}
use Rattle.explain_advice.proofs.change.action.Goals as goal

pub returns : goal.returns
returns c = record {
  edit = c.in-Some.edit;
  one = search rules;
  gives = search rules;
  title = search rules;
  place = refl;
}

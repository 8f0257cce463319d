use Rattle.std.proofs.Common.{rules, sym, ap, ◌∙◌, ◌-◌, arith}
use Rattle.explain_declared.specs.Places.{behind_lines}
use Rattle.explain_declared.proofs.Marks.{next_line}
use Rattle.explain_declared.proofs.place.from_line.Goals as goal

pub loop-before-preserved : goal.loop-before-preserved
loop-before-preserved c = record {
  is = ap (behind_lines (c.loop-before.before - 1)) c.behind_mark-rest.ensures ∙ sym (next_line c.loop-before.before c.loop-before.rest.now (omega (arith, c.loop-before-test.true))) ∙ c.loop-before.invariant.is;
  text = search rules;
}

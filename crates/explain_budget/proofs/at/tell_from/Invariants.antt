use Rattle.std.proofs.Common.{◌≡◌, ◌≤◌, ◌++◌, string_bytes}
use Rattle.raml_syntax.specs.Tree.{Text}
use Rattle.share_normal.specs.Program.{source_in}
use Rattle.rules_plan.specs.Read.{program_in}
use Rattle.refusals.specs.Refusals.{names_in}
use Rattle.explain_budget.specs.Read.{asking_in}
use Rattle.explain_budget.proofs.Degrees.{AreRefused}
use Rattle.explain_budget.proofs.at.tell_from.Given as goal

abbrev pub invariant-loop-left : goal.invariant-loop-left
invariant-loop-left l = record {
  left : l.left ≤ l.degree;
  most : l.degree ≤ 4;
  text : string_bytes l.text ≡ string_bytes l.fn.text;
  told : (part : Text) × AreRefused (source_in l.program) (program_in l.program) (names_in l.program) (asking_in l.asked) l.first l.tries l.left l.degree part
      × (string_bytes l.report ≡ string_bytes l.fn.report ++ part);
}

abbrev pub decreases-loop-left : goal.decreases-loop-left
decreases-loop-left l = l.left

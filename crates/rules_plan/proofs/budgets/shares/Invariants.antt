use Rattle.std.proofs.Common.{◌≡◌, ◌≤◌, ◌++◌, drop, length}
use Rattle.base_poly.specs.Read.{context_of}
use Rattle.annot_types.specs.Rows.{size as size_of}
use Rattle.rules_spec.specs.Plan as p
use Rattle.rules_plan.specs.Down.{each_down}
use Rattle.rules_plan.specs.Change.{step_at}
use Rattle.rules_plan.specs.Given.{made_of}
use Rattle.rules_plan.proofs.budgets.shares.Given as goal

abbrev pub invariant-loop-rest : goal.invariant-loop-rest
invariant-loop-rest l = record {
  low : l.d ≤ 4;
  made : made_of l.made.items ++ each_down (λ d e. p.Shares l.nodes (size_of (context_of l.types) d) (step_at l.change d) e) l.d (made_of (drop (length l.yielded) l.fn.rests.items)) ≡ each_down (λ d e. p.Shares l.nodes (size_of (context_of l.types) d) (step_at l.change d) e) l.top (made_of l.fn.rests.items);
}

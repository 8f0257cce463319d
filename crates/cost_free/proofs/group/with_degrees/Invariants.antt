use Rattle.std.proofs.Common.{◌≡◌, ◌++◌, drop}
use Rattle.cost_free.specs.Refused.{any_has_more}
use Rattle.cost_free.specs.Numbered.{with_degrees}
use Rattle.cost_free.specs.Read.{ids_of, plan_of, all_numbered}
use Rattle.cost_free.proofs.group.with_degrees.Given as goal

abbrev pub invariant-loop-fun : goal.invariant-loop-fun
invariant-loop-fun l = record {
  found : all_numbered l.found.items ++ with_degrees (plan_of l.plan) (ids_of (drop l.fun-index l.funs)) ≡ with_degrees (plan_of l.plan) (ids_of l.funs);
  few : any_has_more l.most (plan_of l.plan) (ids_of (drop l.fun-index l.funs)) ≡ any_has_more l.most (plan_of l.plan) (ids_of l.funs);
}

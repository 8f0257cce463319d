-- Plans of bound forms are shared.
use Rattle.std.proofs.Common.{◌≡◌, ◌∙◌, sym, ap, ℕ, List, Vec}
use Rattle.std.specs.Global.{Global}
use Rattle.std.specs.declared.rc.Rc.{Rc}
use Rattle.std.specs.declared.boxed.Box.{Box}
use Rattle.rules_spec.specs.Plan as p
use Rattle.rules_walk.specs.Read.{plan_of, plans_of, plan_step}
use Rattle.rules_walk.specs.declared.plan.Plan.{Plan}
use Rattle.rules_walk.specs.declared.plan.Plan.TheVariants.{Lets, rolls-Lets}
use Rattle.rules_walk.specs.declared.plan.Plan.TheOpen as f
use Rattle.rules_walk.specs.declared.plan.Plan.TheFolds.{fold-roll-Plan}

pub of_lets : (n size : ℕ) (parts : List p.Part) (firsts : Vec (Rc Plan Global) Global) (rest : Box Plan Global) →
    plan_of (Lets n parts firsts size rest) ≡ p.Lets n parts (plans_of firsts.items) size (plan_of rest.value)
of_lets n size parts firsts rest = ap plan_of (sym (rolls-Lets n parts firsts size rest)) ∙ fold-roll-Plan p.Plan plan_step (f.Lets n parts firsts size rest)

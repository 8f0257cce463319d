use Rattle.std.proofs.Common.{ℕ, Option, Some, None, IfSome, Err, ap, sym, subst}
use Rattle.share_normal.specs.Program.{Kept}
use Rattle.annot_types.specs.Program.{Program}
use Rattle.rules_plan.specs.Read.{program_in, AreKept, ArePlansIn, GroupWithin}
use Rattle.rules_plan.specs.declared.body.GroupPlans.{GroupPlans}
use Rattle.rules_plan.specs.declared.kept.KeptPlans.{KeptPlans}
use Rattle.bound_contract.specs.Sites.{program_at, certificate_at, before_at, task_at, scale_at}
use Rattle.bound_contract.proofs.Limits.{is_within}
use Rattle.bound_contract.proofs.decider.planned.Goals as goal

plans_in : (o : Option GroupPlans) (kept : KeptPlans) (P : Program) → IfSome o (λ made. (P : Program) → AreKept P kept → ArePlansIn P made) → AreKept P kept → IfSome o (ArePlansIn P)
plans_in None kept P h k = tt
plans_in (Some made) kept P h k = h P k

pub next_plans-requires-clause-last : goal.next_plans-requires-clause-last
next_plans-requires-clause-last c =
    subst (λ K. IfSome c.take-last.result (ArePlansIn (program_in K))) (sym c.program-program.ensures)
    (plans_in c.take-last.result c.args.kept.now (program_at c.args.site.now) c.take-last.ensures.taken c.requires.kept)

pub unreachable-requires : goal.unreachable-requires
unreachable-requires c =
    let site = c.args.site.now in
    c.in-Err-TooMany.ensures.many (ap Err c.in-Err-TooMany.field-0-is)
    (subst (λ (x : Kept × ℕ). GroupWithin (program_in x.0) site.group x.1)
    (λ i. (sym c.program-program.ensures i, (sym c.certificate-certificate.ensures.certificate i).degree))
    (is_within c.limits_are_told.ensures (program_at site) (certificate_at site).degree (before_at site) (task_at site) (scale_at site) c.requires.site.within))

pub returns-in-Ok-clause-kept : goal.returns-in-Ok-clause-kept
returns-in-Ok-clause-kept c = c.take-last.ensures.left (program_at c.args.site.now) c.requires.kept

pub returns-in-Err-NoMemory-clause-kept : goal.returns-in-Err-NoMemory-clause-kept
returns-in-Err-NoMemory-clause-kept c = c.take-last.ensures.left (program_at c.args.site.now) c.requires.kept

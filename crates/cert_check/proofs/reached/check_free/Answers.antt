use Rattle.std.proofs.Common.{refl, subst, map}
use Rattle.cost_free.specs.Read.{kind_of, task_of}
use Rattle.annot_types.specs.Holds.{budget_of}
use Rattle.annot_types.specs.Read as a
use Rattle.rules_plan.specs.Read.{GroupWithin}
use Rattle.cert_check.specs.At.{program_at}
use Rattle.cert_check.specs.Finds.{TargetFinds}
use Rattle.cert_check.specs.Read.{fault_of}
use Rattle.cert_check.proofs.Telling.{at_some, at_fault}
use Rattle.cert_check.proofs.Reaching.{miss_found}
use Rattle.cert_check.proofs.reached.check_free.Goals as goal

pub returns-in-Ok : goal.returns-in-Ok
returns-in-Ok c = λ held blocks is bodies asks.
    let at = c.args.at.now in
    let sigs = map a.sig_of c.args.sigs.now in
    let hints = map a.hints_of c.args.hints.now in
    at_fault (fault_of c.in-Ok.fault) _ (TargetFinds (program_at at) held blocks (task_of at.task) sigs hints) c.in-Ok.ensures
    (miss_found at held is.degree blocks at.task.group (kind_of at.task.kind) sigs hints c.args.budget c.args.fun.0 c.args.target c.in-Ok-Some.index refl c.requires.kind is.count
    (at_some c.in-Ok-Some.field-0 c.in-Ok-Some.index _ c.in-Ok-Some.field-0-is c.in-Ok-Some.ensures.missed))

pub missed-requires : goal.missed-requires
missed-requires c =
    let at = c.args.at.now in
    record { within = subst (λ k. GroupWithin (program_at at) at.task.group (budget_of at.degree k)) c.requires.kind c.requires.within }

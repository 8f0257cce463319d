use Rattle.std.proofs.Common.{ap, sym, ◌∙◌, subst, inr, refl}
use Rattle.std.specs.Prelude.{Err}
use Rattle.cost_free.specs.Read.{kind_of}
use Rattle.annot_types.specs.Holds as h
use Rattle.rules_plan.specs.Read.{GroupWithin}
use Rattle.cert_check.specs.At.{program_at}
use Rattle.cert_check.proofs.Telling.{some_more}
use Rattle.cert_check.proofs.planned.check_solved.Goals as goal

pub next_plans-requires-clause-last : goal.next_plans-requires-clause-last
next_plans-requires-clause-last c = some_more c.take-last.result _ _ (λ made are. are (program_at c.args.at.now) c.requires.kept) c.take-last.ensures.taken

pub returns-in-Err-TooMany-clause-tells : goal.returns-in-Err-TooMany-clause-tells
returns-in-Err-TooMany-clause-tells c = λ held blocks is remembers.
    let at = c.args.at.now in
    let budget = c.budget_of-budget.ensures ∙ ap (λ d. h.budget_of d (kind_of at.task.kind)) is.degree in
    inr (
      (λ w. c.in-Err-TooMany.ensures.many (ap Err c.in-Err-TooMany.field-0-is) (subst (GroupWithin (program_at at) at.task.group) (sym budget) w)),
      refl,
    )

pub returns-in-Ok-keep-clause-kept : goal.returns-in-Ok-keep-clause-kept
returns-in-Ok-keep-clause-kept c =
    let P = program_at c.args.at.now in
    c.in-Ok-keep.ensures P (c.take-last.ensures.left P c.requires.kept) c.in-Ok.ensures.plans.are

use Rattle.std.proofs.Common.{◌≡◌, ◌∙◌, length, Some, None, Err, option_map, ap, sym, refl, inl, inr}
use Rattle.cost_free.specs.Read.{task_of, outcomes_of}
use Rattle.share_normal.specs.Program.{source_in}
use Rattle.explain_verify.proofs.Scheduling.{next_is, refused_is}
use Rattle.explain_verify.proofs.scheduled.task_at.Goals as goal

pub returns-in-Ok-Some : goal.returns-in-Ok-Some
returns-in-Ok-Some c =
    let s = c.args.subject.now in
    let is = next_is s c.args.block (length (source_in s.program.now)) c.results.result.now c.functions-functions.result.now c.groups.result.now (outcomes_of c.before-2.result.now)
    c.results.ensures.results c.results.ensures.count c.functions-functions.ensures.functions c.functions-functions.ensures.count c.groups.ensures.groups c.before-2.ensures in
    let h = c.in-Ok-Some.field-0-is in
    let e : c.in-Ok-Some.field-0 ≡ Some c.in-Ok-Some.task = cc in
    inl (task_of c.in-Ok-Some.task, sym (ap (option_map task_of) (sym e) ∙ c.in-Ok-Some.ensures.next ∙ is), refl)

pub returns-in-Ok-None : goal.returns-in-Ok-None
returns-in-Ok-None c =
    let s = c.args.subject.now in
    let is = next_is s c.args.block (length (source_in s.program.now)) c.results.result.now c.functions-functions.result.now c.groups.result.now (outcomes_of c.before-2.result.now)
    c.results.ensures.results c.results.ensures.count c.functions-functions.ensures.functions c.functions-functions.ensures.count c.groups.ensures.groups c.before-2.ensures in
    let h = c.in-Ok-None.field-0-is in
    let e : c.in-Ok-None.field-0 ≡ None = cc in
    inr (inl (sym (ap (option_map task_of) (sym e) ∙ c.in-Ok-None.ensures.next ∙ is)), c.task.ensures)

pub returns-in-Err-TooMany : goal.returns-in-Err-TooMany
returns-in-Err-TooMany c =
    let s = c.args.subject.now in
    let is = refused_is s c.args.block (length (source_in s.program.now)) c.results.result.now c.functions-functions.result.now c.groups.result.now (outcomes_of c.before-2.result.now)
    c.results.ensures.results c.results.ensures.count c.functions-functions.ensures.functions c.functions-functions.ensures.count c.groups.ensures.groups c.before-2.ensures in
    inr (inr (is (c.in-Err-TooMany.ensures.many (ap Err c.in-Err-TooMany.field-0-is))), c.task-in-Err-TooMany.ensures)

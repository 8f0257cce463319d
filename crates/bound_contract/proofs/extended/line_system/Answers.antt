use Rattle.std.proofs.Common.{◌≡◌, ◌≤◌, ◌<◌, ◌+◌, ◌^◌, length, ap, ◌∙◌, sym, subst, arith, Result, Ok, Err, IfOk}
use Rattle.linear_rows.specs.Systems.{LinearSystem}
use Rattle.simplex_spec.specs.Tableaux.{right}
use Rattle.call_groups.specs.Read.{ids_of}
use Rattle.annot_types.specs.Program.{members}
use Rattle.rules_plan.specs.Read.{program_in}
use Rattle.bound_contract.specs.Sites.{system_at}
use Rattle.bound_contract.proofs.Spans.{IsSpan, group_at, few_sides, span_is}
use Rattle.bound_contract.proofs.Lined.{too_large, few_rows, few_columns}
use Rattle.bound_contract.proofs.extended.line_system.Goals as goal

few_made : {E : Type 0} (r : Result LinearSystem E) (s : LinearSystem) → right s < 2 ^ 32 → IfOk r (λ made. made ≡ s) → IfOk r (λ made. right made < 2 ^ 32)
few_made (Ok made) s low e = subst (λ (s : LinearSystem). right s < 2 ^ 32) (sym e) low
few_made (Err fault) s low e = tt

pub span_of-span-requires-clause-few : goal.span_of-span-requires-clause-few
span_of-span-requires-clause-few c =
    let site = c.args.site.now in
    let tasks = c.tried_have_tasks.ensures in
    let group : ids_of c.members-group.result.now ≡ group_at site c.requires.site tasks = c.members-group.ensures ∙ ap (λ K. members (program_in K) site.group) c.program.ensures in
    few_sides site c.requires.site tasks _ _ c.requires.bodies group c.in-Ok.system c.in-Ok.ensures.made c.in-Ok.ensures.few

pub overflow_add-rows : goal.overflow_add-rows
overflow_add-rows c =
    let site = c.args.site.now in
    let tasks = c.tried_have_tasks.ensures in
    let group : ids_of c.members-group.result.now ≡ group_at site c.requires.site tasks = c.members-group.ensures ∙ ap (λ K. members (program_in K) site.group) c.program.ensures in
    let span : IsSpan site c.in-Ok.system c.span_of-span.result.first c.span_of-span.result.count =
    span_is site c.requires.site tasks _ _ c.requires.bodies group c.in-Ok.system c.in-Ok.ensures.made c.in-Ok.ensures.few _ _ c.span_of-span.ensures.first c.span_of-span.ensures.count in
    omega (arith, span.few)

pub returns-then-rows-span-gt-MOST_ROWS-clause-first : goal.returns-then-rows-span-gt-MOST_ROWS-clause-first
returns-then-rows-span-gt-MOST_ROWS-clause-first c =
    let site = c.args.site.now in
    let tasks = c.tried_have_tasks.ensures in
    let group : ids_of c.members-group.result.now ≡ group_at site c.requires.site tasks = c.members-group.ensures ∙ ap (λ K. members (program_in K) site.group) c.program.ensures in
    let span : IsSpan site c.in-Ok.system c.span_of-span.result.first c.span_of-span.result.count =
    span_is site c.requires.site tasks _ _ c.requires.bodies group c.in-Ok.system c.in-Ok.ensures.made c.in-Ok.ensures.few _ _ c.span_of-span.ensures.first c.span_of-span.ensures.count in
    too_large site c.in-Ok.system _ _ span c.requires.site tasks c.seen_is_first.ensures c.in-Ok.ensures.fit
    (subst (λ rows. 2000 < length rows + c.span_of-span.result.count) c.rows.ensures.all c.if-rows-span-gt-MOST_ROWS.true)

pub overflow_cast-span : goal.overflow_cast-span
overflow_cast-span c =
    let site = c.args.site.now in
    let tasks = c.tried_have_tasks.ensures in
    let group : ids_of c.members-group.result.now ≡ group_at site c.requires.site tasks = c.members-group.ensures ∙ ap (λ K. members (program_in K) site.group) c.program.ensures in
    let span : IsSpan site c.in-Ok.system c.span_of-span.result.first c.span_of-span.result.count =
    span_is site c.requires.site tasks _ _ c.requires.bodies group c.in-Ok.system c.in-Ok.ensures.made c.in-Ok.ensures.few _ _ c.span_of-span.ensures.first c.span_of-span.ensures.count in
    omega (arith, span.few)

pub with_line-requires-clause-first : goal.with_line-requires-clause-first
with_line-requires-clause-first c =
    let site = c.args.site.now in
    let tasks = c.tried_have_tasks.ensures in
    let group : ids_of c.members-group.result.now ≡ group_at site c.requires.site tasks = c.members-group.ensures ∙ ap (λ K. members (program_in K) site.group) c.program.ensures in
    let span : IsSpan site c.in-Ok.system c.span_of-span.result.first c.span_of-span.result.count =
    span_is site c.requires.site tasks _ _ c.requires.bodies group c.in-Ok.system c.in-Ok.ensures.made c.in-Ok.ensures.few _ _ c.span_of-span.ensures.first c.span_of-span.ensures.count in
    span.begins

pub with_line-requires-clause-count : goal.with_line-requires-clause-count
with_line-requires-clause-count c =
    let site = c.args.site.now in
    let tasks = c.tried_have_tasks.ensures in
    let group : ids_of c.members-group.result.now ≡ group_at site c.requires.site tasks = c.members-group.ensures ∙ ap (λ K. members (program_in K) site.group) c.program.ensures in
    let span : IsSpan site c.in-Ok.system c.span_of-span.result.first c.span_of-span.result.count =
    span_is site c.requires.site tasks _ _ c.requires.bodies group c.in-Ok.system c.in-Ok.ensures.made c.in-Ok.ensures.few _ _ c.span_of-span.ensures.first c.span_of-span.ensures.count in
    span.counted

pub with_line-requires-clause-few : goal.with_line-requires-clause-few
with_line-requires-clause-few c =
    let site = c.args.site.now in
    let tasks = c.tried_have_tasks.ensures in
    let group : ids_of c.members-group.result.now ≡ group_at site c.requires.site tasks = c.members-group.ensures ∙ ap (λ K. members (program_in K) site.group) c.program.ensures in
    let span : IsSpan site c.in-Ok.system c.span_of-span.result.first c.span_of-span.result.count =
    span_is site c.requires.site tasks _ _ c.requires.bodies group c.in-Ok.system c.in-Ok.ensures.made c.in-Ok.ensures.few _ _ c.span_of-span.ensures.first c.span_of-span.ensures.count in
    few_rows site c.in-Ok.system _ _ span
    (subst (λ rows. length rows + c.span_of-span.result.count ≤ 2000) c.rows.ensures.all c.if-rows-span-gt-MOST_ROWS.false)

pub with_line-requires-clause-unknowns : goal.with_line-requires-clause-unknowns
with_line-requires-clause-unknowns c =
    let site = c.args.site.now in
    let tasks = c.tried_have_tasks.ensures in
    let group : ids_of c.members-group.result.now ≡ group_at site c.requires.site tasks = c.members-group.ensures ∙ ap (λ K. members (program_in K) site.group) c.program.ensures in
    let span : IsSpan site c.in-Ok.system c.span_of-span.result.first c.span_of-span.result.count =
    span_is site c.requires.site tasks _ _ c.requires.bodies group c.in-Ok.system c.in-Ok.ensures.made c.in-Ok.ensures.few _ _ c.span_of-span.ensures.first c.span_of-span.ensures.count in
    span.inside

pub returns-clause-few : goal.returns-clause-few
returns-clause-few c =
    let site = c.args.site.now in
    let tasks = c.tried_have_tasks.ensures in
    let group : ids_of c.members-group.result.now ≡ group_at site c.requires.site tasks = c.members-group.ensures ∙ ap (λ K. members (program_in K) site.group) c.program.ensures in
    let span : IsSpan site c.in-Ok.system c.span_of-span.result.first c.span_of-span.result.count =
    span_is site c.requires.site tasks _ _ c.requires.bodies group c.in-Ok.system c.in-Ok.ensures.made c.in-Ok.ensures.few _ _ c.span_of-span.ensures.first c.span_of-span.ensures.count in
    few_made _ (system_at site)
    (few_columns site c.in-Ok.system _ _ span (subst (λ rows. length rows + c.span_of-span.result.count ≤ 2000) c.rows.ensures.all c.if-rows-span-gt-MOST_ROWS.false)) c.with_line.ensures.made

use Rattle.std.proofs.Common.{◌≡◌, ◌-◌, ◌++◌, ◌∙◌, [], ap, sym, subst, arith, string_bytes}
use Rattle.std.proofs.lemmas.List.{append-nil, append_assoc}
use Rattle.std.proofs.lemmas.Result.{IfOk-weaker}
use Rattle.raml_syntax.specs.Tree.{Text}
use Rattle.share_normal.specs.Program.{source_in}
use Rattle.rules_plan.specs.Read.{program_in}
use Rattle.normal_program.proofs.Normal.{normal_is}
use Rattle.rules_soundness_laws.specs.Laws.{normal_of}
use Rattle.explain_calls.specs.Told.{note}
use Rattle.explain_calls.specs.Calls.{names_for}
use Rattle.explain_calls.specs.Draft.{IsDraft, IsDrafted}
use Rattle.explain_calls.proofs.Drafting.{made_here, refused_at, refused_here, refused_more}
use Rattle.explain_calls.proofs.draft.+draft_down.Goals as goal

pub returns-in_ok-bounds_text-in-Ok : goal.returns-in_ok-bounds_text-in-Ok
returns-in_ok-bounds_text-in-Ok t c =
    let kept = c.args.program.now in
    let P = source_in kept in
    let text = c.in_ok-bounds_text-in-Ok.field-0 in
    let made = subst (λ N. IsDraft P N c.args.degree (string_bytes text)) (normal_is kept c.functions-functions.ensures.norm) c.in_ok-bounds_text-in-Ok.ensures in
    ([], made_here P kept.groups c.args.degree c.args.lowest text c.requires.order made, sym (append-nil _))

pub returns-then-degree-lowest : goal.returns-then-degree-lowest
returns-then-degree-lowest t c =
    let kept = c.args.program.now in
    let P = source_in kept in
    let r = c.in_ok-refused-in-Err.field-0 in
    let is = c.in_ok-refused-in-Err.ensures in
    let at = refused_at (program_in kept) (normal_of P kept.groups.list) c.args.degree r c.in-Err.fault
    (normal_is kept c.functions-functions.ensures.norm) is.fault is.refused c.in-Err.ensures.fault in
    let noted = note (names_for P kept.groups) r in
    IfOk-weaker c.draft_down.result
    (λ draft. (rest : Text) × IsDrafted P kept.groups (c.args.degree - 1) c.args.lowest draft rest
    × (string_bytes c.draft_down.new.report ≡ string_bytes c.push_note.new.report ++ rest))
    (λ draft. (part : Text) × IsDrafted P kept.groups c.args.degree c.args.lowest draft part
    × (string_bytes c.draft_down.new.report ≡ string_bytes c.args.report.now ++ part))
    (λ draft (rest, drafted, bytes). (
      noted ++ rest,
      refused_more P kept.groups c.args.degree c.args.lowest r draft rest is.degree at c.requires.least c.if-degree-lowest.true drafted,
      bytes ∙ ap (λ text. text ++ rest) c.in_ok-push_note-in-Err.ensures ∙ append_assoc (string_bytes c.args.report.now) noted rest,
    ))
    c.draft_down.ensures

pub returns-else-degree-lowest : goal.returns-else-degree-lowest
returns-else-degree-lowest t c =
    let kept = c.args.program.now in
    let P = source_in kept in
    let r = c.in_ok-refused-in-Err.field-0 in
    let is = c.in_ok-refused-in-Err.ensures in
    let at = refused_at (program_in kept) (normal_of P kept.groups.list) c.args.degree r c.in-Err.fault
    (normal_is kept c.functions-functions.ensures.norm) is.fault is.refused c.in-Err.ensures.fault in (
      note (names_for P kept.groups) r,
      refused_here P kept.groups c.args.degree c.args.lowest r is.degree at (omega (arith, c.requires.order, c.if-degree-lowest.false)),
      c.in_ok-push_note-in-Err.ensures,
    )

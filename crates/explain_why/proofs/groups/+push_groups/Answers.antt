use Rattle.std.proofs.Common.{◌++◌, subst, Bool, string_bytes}
use Rattle.std.proofs.lemmas.Result.{on_ok_weaker}
use Rattle.raml_syntax.specs.Read.{program_of}
use Rattle.explain_why.specs.Chosen.{asking_in}
use Rattle.explain_why.specs.Why.{IsGroupIf, told_of}
use Rattle.explain_why.proofs.Joining.{groups_next, behind}
use Rattle.explain_why.proofs.groups.+push_groups.Goals as goal

pub returns-in_ok-push_group_if-in-len1-up : goal.returns-in_ok-push_group_if-in-len1-up
returns-in_ok-push_group_if-in-len1-up t c =
    let s = c.args.subject in
    let P = program_of s.program.now in
    let test = told_of (asking_in s.asking) c.args.explanation.now in
    let found = c.args.explanation.now.found.functions.items in
    let e = c.first-item.result in
    let here = c.in_ok-push_group_if-in-len1-up.ensures in
    let shown = subst (λ fs. IsGroupIf c.tells-is_told.result s.name.now s.source.now P fs e here.0) c.deref.ensures.value here.1 in
    let told = subst (λ (is_told : Bool). IsGroupIf is_told s.name.now s.source.now P found e here.0) c.tells-is_told.ensures shown in
    on_ok_weaker c.push_groups.result
    (λ rest. (
      here.0 ++ rest.0,
      groups_next test s.name.now s.source.now P found c.args.reasons.now e here.0 rest.0 c.in-len1-up.len_at_least c.first-item.is told rest.1,
      behind (string_bytes c.args.text.now) _ _ here.0 rest.0 here.2 rest.2,
    )) c.push_groups.ensures

use Rattle.std.proofs.Common.{[], refl, sym}
use Rattle.std.proofs.lemmas.List.{append-nil}
use Rattle.raml_syntax.specs.Read.{program_of}
use Rattle.rules_soundness_laws.specs.Laws.{normal_of}
use Rattle.explain_calls.proofs.Analysing.{first_refused}
use Rattle.explain_why.proofs.call.tell_explained.Goals as goal

pub returns-then-is_unanalysed : goal.returns-then-is_unanalysed
returns-then-is_unanalysed c =
    let P = program_of c.args.subject.program.now in
    let found = c.args.explanation.now.found in
    let finds = c.requires.is.1.finds in
    let refused = rw c.deref.ensures.value at (c.is_unanalysed.ensures c.if-is_unanalysed.true) in
    let all = first_refused P (normal_of P finds.groups.list) 4 found.functions.items finds.least.functions refused in
    ([], (record { groups = finds.groups; grouping = finds.grouping; all = all }, refl, refl), sym (append-nil _))

use Rattle.std.proofs.Common.{◌≡◌, sym, ap, ◌∙◌, length, arith}
use Rattle.annot_types.specs.Program.{members}
use Rattle.std.proofs.lemmas.List.{length-map}
use Rattle.raml_syntax.specs.declared.program.FunId.{FunId}
use Rattle.cert_check.specs.At.{program_at}
use Rattle.cert_check.proofs.Few.{kept_members_few}
use Rattle.cert_check.proofs.reached.miss.Goals as goal

pub overflow_cast-place : goal.overflow_cast-place
overflow_cast-place c =
    let at = c.args.at.now in
    let same : length c.members.result.now ≡ length (members (program_at at) at.task.group) =
    sym (length-map c.members.result.now (λ (f : FunId). f.0)) ∙ ap length c.members.ensures in
    let few = kept_members_few at.program.now c.source-source.ensures.small.functions c.groups-groups.ensures.grouping at.task.group in
    let low = c.place_of-place.ensures.low in
    omega (arith, same, few, low)

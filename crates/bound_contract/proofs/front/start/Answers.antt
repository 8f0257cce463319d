use Rattle.std.proofs.Common.{◌≡◌, ap, sym, ◌∙◌, length}
use Rattle.std.proofs.lemmas.List.{length-map}
use Rattle.normal_spec.specs.Two.{norm_fun}
use Rattle.share_normal.specs.Program.{source_in}
use Rattle.rules_plan.specs.Read.{program_in}
use Rattle.bound_contract.proofs.front.start.Goals as goal

pub returns-clause-front : goal.returns-clause-front
returns-clause-front c =
    let kept = c.args.program.now in
    let count : length (program_in kept).funs ≡ c.len.result =
    ap length c.functions-functions.ensures.norm ∙ length-map (source_in kept) (norm_fun (source_in kept)) ∙ sym c.functions-functions.ensures.count ∙ sym c.len.ensures in
    c.in_ok-earlier.ensures (program_in kept) c.args.certificate.now.degree count

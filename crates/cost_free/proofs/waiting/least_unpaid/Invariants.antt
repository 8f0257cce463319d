use Rattle.std.proofs.Common.{◌≡◌, drop}
use Rattle.std.specs.Option.{option_map}
use Rattle.raml_syntax.specs.declared.program.FunId.{FunId}
use Rattle.cost_free.specs.Called.{is_unpaid, least_in}
use Rattle.cost_free.specs.Read.{ids_of, lists_of, outcomes_of}
use Rattle.cost_free.proofs.waiting.least_unpaid.Given as goal

abbrev pub invariant-loop-callee : goal.invariant-loop-callee
invariant-loop-callee l =
    let test = is_unpaid (lists_of l.groups) l.group l.meter (outcomes_of l.done) in
    least_in test l.count (ids_of (drop l.callee-index l.callees)) (option_map (λ (f : FunId). f.0) l.least)
    ≡ least_in test l.count (ids_of l.callees) (option_map (λ (f : FunId). f.0) l.initial.least)

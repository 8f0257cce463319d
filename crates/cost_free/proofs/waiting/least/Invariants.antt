use Rattle.std.proofs.Common.{◌≡◌, drop, length, None}
use Rattle.std.specs.Option.{option_map}
use Rattle.raml_syntax.specs.declared.program.FunId.{FunId}
use Rattle.cost_free.specs.Blocked.{row}
use Rattle.cost_free.specs.Called.{is_unpaid, least_called}
use Rattle.cost_free.specs.Read.{ids_of, lists_of, outcomes_of}
use Rattle.cost_free.proofs.waiting.least.Given as goal

abbrev pub invariant-loop-member : goal.invariant-loop-member
invariant-loop-member l =
    let called = least_called (is_unpaid (lists_of l.groups) l.group l.meter (outcomes_of l.done)) (length l.calls) (lists_of l.calls) in
    called (ids_of (drop l.member-index l.members)) (option_map (λ (f : FunId). f.0) l.least) ≡ called (row (lists_of l.groups) l.group) None

use Rattle.std.proofs.Common.{◌≡◌, ◌+◌, drop}
use Rattle.std.specs.Option.{option_map}
use Rattle.annot_types.specs.Read.{blocks_of}
use Rattle.rules_plan.specs.Read.{program_in}
use Rattle.bound_file.specs.Read.{line_of}
use Rattle.bound_contract.specs.Decided.{own_place}
use Rattle.bound_contract.proofs.own.own_place.Given as goal

abbrev pub invariant-loop-place : goal.invariant-loop-place
invariant-loop-place l =
    option_map (λ n. n + l.place) (own_place (program_in l.program) (line_of l.line) (blocks_of (drop l.place l.blocks))) ≡ own_place (program_in l.program) (line_of l.line) (blocks_of l.blocks)

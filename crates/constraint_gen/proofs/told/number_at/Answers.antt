use Rattle.std.proofs.Common.{rules, pos, slice_index_or, FitsSigned}
use Rattle.std.specs.Int.{w128}
use Rattle.std.proofs.lemmas.Int.{to_z-of_z}
use Rattle.constraint_gen.proofs.Telling.{natural_at}
use Rattle.constraint_gen.proofs.told.number_at.Goals as goal

pub returns-clause-natural : goal.returns-clause-natural
returns-clause-natural c =
    let fits : FitsSigned w128 (slice_index_or c.args.solution.now c.args.unknown (pos 0)) = search rules in
    let numbers = c.requires.numbers in
    rw (to_z-of_z w128 _ fits) (natural_at c.args.solution.now c.args.unknown numbers.natural c.requires.there)

use Rattle.std.proofs.Common.{rules, arith, FitsSigned, pos}
use Rattle.std.proofs.lemmas.Int.{to_z-of_z}
use Rattle.std.specs.Int.{w64}
use Rattle.simplex_rows.proofs.ManyPlaces.{at_listed}
use Rattle.simplex_rows.proofs.many.ManyRow.number_at.Goals as goal

pub returns-in-Some-clause-value : goal.returns-in-Some-clause-value
returns-in-Some-clause-value c =
    let f : FitsSigned w64 c.in-Some.number.now = search rules in
    let e = c.in-Some.ensures.lookup in
    rw (to_z-of_z w64 _ f, ← c.self.view_is, at_listed c.args.column c.self.inside.numbers.items, ← c.deref.ensures.value) (e.4 (omega arith) (pos 0))

pub returns-in-None-clause-value : goal.returns-in-None-clause-value
returns-in-None-clause-value c =
    let e = c.in-None.ensures.lookup in
    rw (← c.self.view_is, at_listed c.args.column c.self.inside.numbers.items, ← c.deref.ensures.value) (e.4 (omega arith) (pos 0))

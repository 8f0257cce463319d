use Rattle.std.proofs.Common.{FitsSigned, ◌+ℤ◌}
use Rattle.std.proofs.lemmas.Int.{to_z-of_z}
use Rattle.std.specs.Int.{w128}
use Rattle.linear_rows.specs.Terms.{IsAt, IsGapFor, number_at}
use Rattle.linear_rows.proofs.Places.{sparse_added, adds_added, sparse_inserted, adds_inserted, coefficient_at, coefficient_in_gap, of_error, of_answer, zero_plus}
use Rattle.linear_rows.proofs.row.Row.add.Goals as goal

-- the unknown has a term
pub invariant_of-self : goal.invariant_of-self
invariant_of-self c =
    let found : IsAt c.self.inside.terms.items c.args.unknown c.in-Ok.at = rw (← c.self.view_is) at c.in-Ok.ensures.found in
    let added = simp (to_z-of_z w128 _ c.ranges.times) at c.add_at.ensures.added in
    sparse_added c.self.inside.terms.items c.self.invariant c.args.unknown c.in-Ok.at found c.args.times c.add_at.new.terms.items c.add_at.result added c.add_at.ensures.kept

pub returns-in-Ok-clause-added : goal.returns-in-Ok-clause-added
returns-in-Ok-clause-added c =
    let found : IsAt c.self.inside.terms.items c.args.unknown c.in-Ok.at = rw (← c.self.view_is) at c.in-Ok.ensures.found in
    let added = simp (to_z-of_z w128 _ c.ranges.times) at c.add_at.ensures.added in
    rw (← c.self.view_is) (adds_added c.self.inside.terms.items c.self.invariant c.args.unknown c.in-Ok.at found c.args.times c.add_at.new.terms.items c.add_at.result added)

pub returns-in-Ok-clause-fits : goal.returns-in-Ok-clause-fits
returns-in-Ok-clause-fits c =
    let found : IsAt c.self.inside.terms.items c.args.unknown c.in-Ok.at = rw (← c.self.view_is) at c.in-Ok.ensures.found in
    rw (← c.self.view_is, coefficient_at c.self.inside.terms.items c.self.invariant c.args.unknown c.in-Ok.at found) (simp (to_z-of_z w128 _ c.ranges.times) at c.add_at.ensures.fits)

pub returns-in-Ok-clause-leaves : goal.returns-in-Ok-clause-leaves
returns-in-Ok-clause-leaves c =
    let found : IsAt c.self.inside.terms.items c.args.unknown c.in-Ok.at = rw (← c.self.view_is) at c.in-Ok.ensures.found in
    let cause = simp (to_z-of_z w128 _ c.ranges.times) at c.add_at.ensures.cause in
    rw (← c.self.view_is, coefficient_at c.self.inside.terms.items c.self.invariant c.args.unknown c.in-Ok.at found)
    (of_error (FitsSigned w128 (number_at c.self.inside.terms.items c.in-Ok.at +ℤ c.args.times) → ⊥) c.add_at.result _ cause)

-- the unknown has none
pub invariant_of-self-in-Err : goal.invariant_of-self-in-Err
invariant_of-self-in-Err c =
    let absent : IsGapFor c.self.inside.terms.items c.args.unknown c.in-Err.at = rw (← c.self.view_is) at c.in-Err.ensures.absent in
    let added = simp (to_z-of_z w128 _ c.ranges.times) at c.insert_at.ensures.added in
    sparse_inserted c.self.inside.terms.items c.self.invariant c.args.unknown c.in-Err.at absent c.args.times c.insert_at.new.terms.items c.insert_at.result added c.insert_at.ensures.kept

pub returns-in-Err-clause-added : goal.returns-in-Err-clause-added
returns-in-Err-clause-added c =
    let absent : IsGapFor c.self.inside.terms.items c.args.unknown c.in-Err.at = rw (← c.self.view_is) at c.in-Err.ensures.absent in
    let added = simp (to_z-of_z w128 _ c.ranges.times) at c.insert_at.ensures.added in
    rw (← c.self.view_is) (adds_inserted c.self.inside.terms.items c.self.invariant c.args.unknown c.in-Err.at absent c.args.times c.insert_at.new.terms.items c.insert_at.result added)

pub returns-in-Err-clause-fits : goal.returns-in-Err-clause-fits
returns-in-Err-clause-fits c =
    let absent : IsGapFor c.self.inside.terms.items c.args.unknown c.in-Err.at = rw (← c.self.view_is) at c.in-Err.ensures.absent in
    rw (← c.self.view_is, coefficient_in_gap c.self.inside.terms.items c.args.unknown c.in-Err.at absent, zero_plus c.args.times) (of_answer (FitsSigned w128 c.args.times) c.insert_at.result c.ranges.times)

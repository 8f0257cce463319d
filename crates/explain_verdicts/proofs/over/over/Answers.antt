use Rattle.std.proofs.Common.{◌≤◌, ◌<◌, ◌^◌, arith}
use Rattle.std.specs.Int.{w128}
use Rattle.std.proofs.lemmas.Int.{to_z_pos}
use Rattle.explain_verdicts.proofs.Terms.{number_leaves, denominator_leaves, is_over_one}
use Rattle.explain_verdicts.proofs.over.over.Goals as goal

pub returns-then-den-clause-none : goal.returns-then-den-clause-none
returns-then-den-clause-none c = denominator_leaves c.args.fractions.now c.args.den c.requires.least (omega (arith, c.if-den.true))

pub returns-in-Some-clause-some : goal.returns-in-Some-clause-some
returns-in-Some-clause-some c =
    let below : c.args.den < 2 ^ 127 = omega (arith, c.if-den.false) in
    is_over_one c.args.fractions.now c.args.den _ c.in-Some.terms (to_z_pos w128 c.args.den below) below c.requires.least
    (rw c.in-Some.is at c.in_ok-terms.ensures.some) (rw c.in-Some.is at c.in_ok-terms.ensures.natural) (rw c.in-Some.is at c.in_ok-terms.ensures.below) c.requires.low c.requires.distinct

pub returns-in-None-clause-none : goal.returns-in-None-clause-none
returns-in-None-clause-none c = number_leaves c.args.fractions.now c.args.den c.requires.denominators c.requires.least (rw c.in-None.is at c.in_ok-terms.ensures.none)

use Rattle.std.proofs.Common.{◌<ℤ◌, pos, sym, subst}
use Rattle.std.specs.Int.{w128}
use Rattle.std.proofs.lemmas.Int.{to_z-of_z}
use Rattle.base_poly.specs.Read.{context_of}
use Rattle.tests_compare.proofs.Listed.{are_own, are_low, are_terms}
use Rattle.tests_compare.proofs.polys.poly_of.Goals as goal

pub returns-clause-poly : goal.returns-clause-poly
returns-clause-poly c = record {
  positive = subst (λ z. pos 0 <ℤ z) (sym (to_z-of_z w128 c.args.den c.ranges.den)) c.requires.den;
  terms = are_terms (context_of c.args.params.now) c.args.degree c.requires.degree c.in_ok-tuples.tuples.items c.in_ok-tuples.ensures.all
      c.in_ok-terms.terms.items c.in_ok-terms.ensures.tuples c.in_ok-terms.ensures.natural;
}

pub returns-clause-own : goal.returns-clause-own
returns-clause-own c =
    are_own (context_of c.args.params.now) c.args.degree c.requires.degree c.in_ok-tuples.tuples.items c.in_ok-tuples.ensures.all c.in_ok-terms.terms.items c.in_ok-terms.ensures.tuples

pub returns-clause-low : goal.returns-clause-low
returns-clause-low c =
    are_low (context_of c.args.params.now) c.args.degree c.requires.degree c.in_ok-tuples.tuples.items c.in_ok-tuples.ensures.all c.in_ok-terms.terms.items c.in_ok-terms.ensures.tuples

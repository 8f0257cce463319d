use Rattle.std.proofs.Common.{◌≡◌, slice_index_or, FitsSigned, ◌∙◌, subst}
use Rattle.std.specs.Int.{w128}
use Rattle.std.proofs.lemmas.Int.{to_z-of_z}
use Rattle.simplex_integers.specs.Denominators.{over}
use Rattle.simplex_integers.specs.Next.{IsNumber}
use Rattle.simplex_integers.proofs.Common.{number_fits, number_more, fits_more}
use Rattle.simplex_integers.proofs.numbers.wholes.Goals as goal

pub loop-entry-preserved : goal.loop-entry-preserved
loop-entry-preserved c =
    let e : c.index-fractions-entry.result ≡ slice_index_or c.args.fractions.now c.loop-entry.entry c.index-fractions-entry.result = c.index-fractions-entry.is in
    let n = subst (λ f. IsNumber (over c.args.denominator f) c.in-Some.number) e c.in-Some.ensures in
    let fits : FitsSigned w128 c.in-Some.number = number_fits _ _ n in
    let pushed = simp (to_z-of_z w128 _ fits) at c.in_ok-push-in-Some.ensures.items in (
      pushed ∙ number_more c.args.fractions.now c.args.denominator c.loop-entry.entry c.index-fractions-entry.result c.loop-entry.numbers.items c.in-Some.number c.loop-entry-test.true c.loop-entry.invariant.0 n.is,
      fits_more c.args.fractions.now c.args.denominator c.loop-entry.entry c.index-fractions-entry.result c.loop-entry-test.true c.loop-entry.invariant.1 n.fits,
    )

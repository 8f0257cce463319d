use Rattle.std.proofs.Common.{◌≡◌, sym, ap, subst, ◌∙◌, FitsSigned, w64, pos, ℤ, ◌<◌, ◌^◌, unsigned_abs, to_z, arith}
use Rattle.std.specs.Int.{w128}
use Rattle.std.proofs.lemmas.Int.{ints, to_z-of_z, fits_signed_from_abs}
use Rattle.simplex_rows.specs.Entries.{EndsBefore}
use Rattle.simplex_rows.specs.ShortRows.{fractions_over}
use Rattle.simplex_rows.proofs.ShortReads.{ends_before}
use Rattle.simplex_rows.proofs.ShortTells.{den_fits}
use Rattle.simplex_rows.proofs.Pushing.{adds_whole, put_after}
use Rattle.simplex_rows.proofs.short.ShortNumbers.push_whole.Goals as goal
use Rattle.simplex_rows.proofs.short.ShortNumbers.push_whole.Goals.{Else-n-gt-SHORT}

-- the number is short
small : (c : Else-n-gt-SHORT) → unsigned_abs c.args.n < 2 ^ 63
small c =
    let low = rw (to_z-of_z w128 _ c.ranges.n) at c.if-n.false in
    let high = rw (to_z-of_z w128 _ c.ranges.n) at c.if-n-gt-SHORT.false in
    omega (arith, ints)

fits : (c : Else-n-gt-SHORT) → FitsSigned w64 c.args.n
fits c = fits_signed_from_abs w64 c.args.n (small c)

-- and the denominator is 1
one : (c : Else-n-gt-SHORT) → c.in-Few.row.den ≡ pos 1
one c = sym (to_z-of_z w64 _ (den_fits c.in-Few.row c.den.ensures.short)) ∙ ap (to_z w64) ((rw c.den.ensures.den at c.if-den-ne1.false))

before : (c : Else-n-gt-SHORT) → EndsBefore c.args.column (fractions_over (pos 1) c.in-Few.row.numbers)
before c = subst (λ (d : ℤ). EndsBefore c.args.column (fractions_over d c.in-Few.row.numbers)) (one c) (rw c.in-Few.is at c.requires)

pub push-requires-clause-before : goal.push-requires-clause-before
push-requires-clause-before c = ends_before c.args.column (pos 1) c.in-Few.row.numbers (before c)

pub returns-clause-added : goal.returns-clause-added
returns-clause-added c e =
    let d = c.before.before.before in
    let added = simp (to_z-of_z w128 _ c.ranges.n, to_z-of_z w64 _ (fits d)) at c.in_ok-push.ensures.added in
    rw (c.in-Few.is, c.in_ok-push.ensures.den, one d) (adds_whole c.args.column c.args.n c.in-Few.row.numbers c.push.new.self.numbers (small d) (before d) added)

pub returns-clause-before : goal.returns-clause-before
returns-clause-before c k h e =
    let d = c.before.before.before in
    let added = simp (to_z-of_z w128 _ c.ranges.n, to_z-of_z w64 _ (fits d)) at c.in_ok-push.ensures.added in
    let p = put_after c.args.column c.args.n c.in-Few.row.numbers c.push.new.self.numbers (small d) (before d) added in
    rw (c.in_ok-push.ensures.den, one d) (p.before k h)

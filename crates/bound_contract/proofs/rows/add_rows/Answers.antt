use Rattle.std.proofs.Common.{◌≡◌, ◌≤◌, ◌<◌, ◌+◌, ◌*◌, ap, sym, ◌∙◌, subst, arith, ℕ, unsigned_abs, IfSome, IfNone, to_z, of_z, Result, Err}
use Rattle.std.specs.Int.{w128}
use Rattle.std.proofs.lemmas.Int.{to_z-of_z}
use Rattle.std.proofs.lemmas.Bool.Decides.{nat_tests}
use Rattle.linear_rows.specs.Systems.{LinearSystem, IsBelow}
use Rattle.simplex_integers.specs.Wholes.{most}
use Rattle.bound_file.specs.Lines.{numerator_at, denominator_at}
use Rattle.bound_contract.specs.System.{at_most, line_rows, with_rows}
use Rattle.bound_contract.specs.Places.{RightLeaves}
use Rattle.bound_file.specs.Read.{coefficients_of}
use Rattle.bound_contract.specs.declared.rows.LineFault.{LineFault}
use Rattle.bound_contract.specs.declared.rows.LineFault.TheVariants as f
use Rattle.bound_contract.proofs.Behind.{term_below}
use Rattle.bound_contract.proofs.Adding.{none_added, one_added, leaves_here}
use Rattle.bound_contract.proofs.rows.add_rows.Goals as goal

pub loop-position-init : goal.loop-position-init
loop-position-init c = none_added c.args.system.now (coefficients_of c.args.bound.now) c.args.first (unsigned_abs (to_z w128 (of_z w128 c.args.scale)))

position_is : (a b : ℕ) → ◌≡◌ {A = Result (Unit {0}) LineFault} (Err (f.Right a)) (Err (f.Right b)) → a ≡ b
position_is a b e = cc

pub returns-in-Ok-None-clause-leaves : goal.returns-in-Ok-None-clause-leaves
returns-in-Ok-None-clause-leaves c = λ position e.
    let b = coefficients_of c.args.bound.now in
    let s = to_z w128 (of_z w128 c.args.scale) in
    let inside : c.loop-position.position < c.args.count = grind (arith, nat_tests, c.loop-position-test.true) in
    let leaves : most ≤ numerator_at b c.loop-position.position * unsigned_abs s =
    subst (λ o. IfNone o (most ≤ numerator_at b c.loop-position.position * unsigned_abs s)) c.in-Ok-None.field-0-is c.in-Ok-None.ensures.leaves in
    let here = leaves_here c.args.system.now c.loop-position.system b c.args.first (unsigned_abs s) c.loop-position.position c.args.count c.loop-position.invariant inside leaves in
    subst (RightLeaves b c.args.count (unsigned_abs c.args.scale)) (position_is c.loop-position.position position e)
    (subst (λ z. RightLeaves b c.args.count (unsigned_abs z) c.loop-position.position) (to_z-of_z w128 c.args.scale c.ranges.scale) here)

pub add_row-requires : goal.add_row-requires
add_row-requires c =
    let b = coefficients_of c.args.bound.now in
    let s = to_z w128 (of_z w128 c.args.scale) in
    let u = c.args.first + c.loop-position.position in
    let inside : c.loop-position.position < c.args.count = grind (arith, nat_tests, c.loop-position-test.true) in
    let row : c.in-Ok-Some.row ≡ at_most u (numerator_at b c.loop-position.position) (denominator_at b c.loop-position.position) (unsigned_abs s) =
    subst (λ o. IfSome o (λ row. row ≡ at_most u (numerator_at b c.loop-position.position) (denominator_at b c.loop-position.position) (unsigned_abs s)))
    c.in-Ok-Some.field-0-is c.in-Ok-Some.ensures.made in
    let same : c.loop-position.system.unknowns ≡ c.args.system.now.unknowns = ap (λ (z : LinearSystem). z.unknowns) c.loop-position.invariant.is in
    let low : u < c.loop-position.system.unknowns = (let r = c.requires.unknowns in omega (arith, inside, same, r)) in
    subst (IsBelow c.loop-position.system.unknowns) (sym row) (term_below c.loop-position.system.unknowns u (numerator_at b c.loop-position.position) (denominator_at b c.loop-position.position) (unsigned_abs s) low)

pub loop-position-preserved : goal.loop-position-preserved
loop-position-preserved c =
    let b = coefficients_of c.args.bound.now in
    let s = to_z w128 (of_z w128 c.args.scale) in
    let u = c.args.first + c.loop-position.position in
    let row : c.in-Ok-Some.row ≡ at_most u (numerator_at b c.loop-position.position) (denominator_at b c.loop-position.position) (unsigned_abs s) =
    subst (λ o. IfSome o (λ row. row ≡ at_most u (numerator_at b c.loop-position.position) (denominator_at b c.loop-position.position) (unsigned_abs s)))
    c.in-Ok-Some.field-0-is c.in-Ok-Some.ensures.made in
    let fits : numerator_at b c.loop-position.position * unsigned_abs s < most =
    subst (λ o. IfSome o (λ row. numerator_at b c.loop-position.position * unsigned_abs s < most)) c.in-Ok-Some.field-0-is c.in-Ok-Some.ensures.fits in
    one_added c.args.system.now c.loop-position.system c.add_row.new.self b c.args.first (unsigned_abs s) c.loop-position.position c.in-Ok-Some.row c.loop-position.invariant row fits
    c.in_default.ensures.added c.add_row.ensures.unknowns c.add_row.ensures.weights

pub returns-clause-added : goal.returns-clause-added
returns-clause-added c =
    let b = coefficients_of c.args.bound.now in
    let all : c.loop-position.position ≡ c.args.count = grind (arith, nat_tests, c.loop-position-test.false, c.loop-position.auto.position-end) in
    c.loop-position.invariant.is ∙ (λ i. with_rows c.args.system.now (line_rows b c.args.first (all i) (unsigned_abs (to_z-of_z w128 c.args.scale c.ranges.scale i))))

pub returns-clause-fit : goal.returns-clause-fit
returns-clause-fit c = λ k low.
    let b = coefficients_of c.args.bound.now in
    let all : c.loop-position.position ≡ c.args.count = grind (arith, nat_tests, c.loop-position-test.false, c.loop-position.auto.position-end) in
    subst (λ z. numerator_at b k * unsigned_abs z < most) (to_z-of_z w128 c.args.scale c.ranges.scale) (c.loop-position.invariant.fit k (omega (arith, low, all)))

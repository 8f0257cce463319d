use Rattle.std.proofs.Common.{length, arith, sym, subst, get_or, pos, ◌<◌, ◌≡◌, ℤ, ℕ, List, ◌∷◌, neg_ℤ, ◌*ℤ◌}
use Rattle.std.proofs.lemmas.Int.{to_z-of_z}
use Rattle.std.specs.Int.{w128}
use Rattle.farkas_check.specs.Checks.{column}
use Rattle.farkas_check.specs.Totals.{products}
use Rattle.farkas_check.specs.Sides.{AreTotals}
use Rattle.farkas_check.proofs.Walking.{total_read}
use Rattle.farkas_check.proofs.Firsts.{next, found, none_found}
use Rattle.farkas_check.proofs.Checklists.{dual_next, dual_end}
use Rattle.farkas_check.proofs.fault.of_all_dual_columns.Goals as goal

pub returns-then-is_some : goal.returns-then-is_some
returns-then-is_some c =
    let e = to_z-of_z w128 c.args.scale c.ranges.scale in
    let terms : ℤ → ℕ → List ℤ = (λ t u. neg_ℤ (t *ℤ get_or c.args.system.now.weights u (pos 0)) ∷ products c.args.y.now (column u c.args.system.now.rows)) in
    let m : c.loop-unknown.unknown < c.args.system.now.unknowns = omega arith in
    let h : c.loop-unknown.unknown < length c.args.system.now.weights = omega (arith, c.in_ok-totals.ensures.sound.one_each) in
    let all = subst (λ (t : ℤ). AreTotals c.args.system.now.unknowns (terms t) c.in_ok-totals.totals.items) e c.in_ok-totals.ensures.totals in
    let is = total_read c.args.system.now.unknowns c.loop-unknown.unknown (terms c.args.scale) c.in_ok-totals.totals.items c.index.result.now m c.index.ensures all in
    let inv = simp e at c.loop-unknown.invariant in
    found _ _ _ _ c.of_check-fault.result (sym c.if-is_some.ensures) (dual_next c.loop-unknown.unknown c.args.system.now.weights c.args.system.now.rows c.args.y.now c.args.scale h) (c.of_check-fault.ensures _ is) inv

pub loop-unknown-preserved : goal.loop-unknown-preserved
loop-unknown-preserved c =
    let e = to_z-of_z w128 c.args.scale c.ranges.scale in
    let terms : ℤ → ℕ → List ℤ = (λ t u. neg_ℤ (t *ℤ get_or c.args.system.now.weights u (pos 0)) ∷ products c.args.y.now (column u c.args.system.now.rows)) in
    let m : c.loop-unknown.unknown < c.args.system.now.unknowns = omega arith in
    let h : c.loop-unknown.unknown < length c.args.system.now.weights = omega (arith, c.in_ok-totals.ensures.sound.one_each) in
    let all = subst (λ (t : ℤ). AreTotals c.args.system.now.unknowns (terms t) c.in_ok-totals.totals.items) e c.in_ok-totals.ensures.totals in
    let is = total_read c.args.system.now.unknowns c.loop-unknown.unknown (terms c.args.scale) c.in_ok-totals.totals.items c.index.result.now m c.index.ensures all in
    let inv = simp e at c.loop-unknown.invariant in
    simp e (next _ _ _ _ c.of_check-fault.result (sym c.if-is_some.ensures) (dual_next c.loop-unknown.unknown c.args.system.now.weights c.args.system.now.rows c.args.y.now c.args.scale h) (c.of_check-fault.ensures _ is) inv)

pub returns : goal.returns
returns c =
    let h : c.loop-unknown.unknown ≡ length c.args.system.now.weights = omega (arith, c.loop-unknown.auto.unknown-end, c.in_ok-totals.ensures.sound.one_each) in
    let inv = simp (to_z-of_z w128 c.args.scale c.ranges.scale) at c.loop-unknown.invariant in
    none_found _ _ (dual_end c.loop-unknown.unknown c.args.system.now.weights c.args.system.now.rows c.args.y.now c.args.scale h) inv

use Rattle.std.proofs.Common.{length, arith, sym, ◌<◌, ◌≡◌}
use Rattle.std.proofs.lemmas.Int.{to_z-of_z}
use Rattle.std.specs.Int.{w128}
use Rattle.farkas_check.proofs.Firsts.{next, found, none_found}
use Rattle.farkas_check.proofs.Checklists.{dual_next, dual_end}
use Rattle.farkas_check.proofs.fault.of_dual_columns.Goals as goal

pub returns-then-is_some : goal.returns-then-is_some
returns-then-is_some c =
    let e = to_z-of_z w128 c.args.scale c.ranges.scale in
    let h : c.loop-unknown.unknown < length c.args.system.now.weights = omega (arith, c.requires.sound.one_each) in
    let is = simp e at c.dual_total-total.ensures in
    let inv = simp e at c.loop-unknown.invariant in
    found _ _ _ _ c.of_check-fault.result (sym c.if-is_some.ensures) (dual_next c.loop-unknown.unknown c.args.system.now.weights c.args.system.now.rows c.args.y.now c.args.scale h) (c.of_check-fault.ensures _ is) inv

pub loop-unknown-preserved : goal.loop-unknown-preserved
loop-unknown-preserved c =
    let e = to_z-of_z w128 c.args.scale c.ranges.scale in
    let h : c.loop-unknown.unknown < length c.args.system.now.weights = omega (arith, c.requires.sound.one_each) in
    let is = simp e at c.dual_total-total.ensures in
    let inv = simp e at c.loop-unknown.invariant in
    simp e (next _ _ _ _ c.of_check-fault.result (sym c.if-is_some.ensures) (dual_next c.loop-unknown.unknown c.args.system.now.weights c.args.system.now.rows c.args.y.now c.args.scale h) (c.of_check-fault.ensures _ is) inv)

pub returns : goal.returns
returns c =
    let h : c.loop-unknown.unknown ≡ length c.args.system.now.weights = omega (arith, c.loop-unknown.auto.unknown-end, c.requires.sound.one_each) in
    let inv = simp (to_z-of_z w128 c.args.scale c.ranges.scale) at c.loop-unknown.invariant in
    none_found _ _ (dual_end c.loop-unknown.unknown c.args.system.now.weights c.args.system.now.rows c.args.y.now c.args.scale h) inv

use Rattle.std.proofs.Common.{arith, sym, ◌<◌, ◌≡◌}
use Rattle.farkas_check.specs.Checks.{column}
use Rattle.farkas_check.specs.Totals.{products}
use Rattle.farkas_check.proofs.Walking.{total_read}
use Rattle.farkas_check.proofs.Firsts.{whole, next, found, none_found}
use Rattle.farkas_check.proofs.Checklists.{columns_start, columns_next, columns_end}
use Rattle.farkas_check.proofs.fault.of_all_columns.Goals as goal

pub loop-unknown-init : goal.loop-unknown-init
loop-unknown-init c = whole _ _ (columns_start _ _ _)

pub returns-then-is_some : goal.returns-then-is_some
returns-then-is_some c =
    let h : c.loop-unknown.unknown < c.args.system.now.unknowns = omega arith in
    let is = total_read c.args.system.now.unknowns c.loop-unknown.unknown (λ u. products c.args.y.now (column u c.args.system.now.rows)) c.in_ok-totals.totals.items c.index.result.now h c.index.ensures c.in_ok-totals.ensures in
    found _ _ _ _ _ (sym c.if-is_some.ensures) (columns_next c.loop-unknown.unknown c.args.system.now.unknowns c.args.system.now.rows c.args.y.now h) (c.of_check-fault.ensures _ is) c.loop-unknown.invariant

pub loop-unknown-preserved : goal.loop-unknown-preserved
loop-unknown-preserved c =
    let h : c.loop-unknown.unknown < c.args.system.now.unknowns = omega arith in
    let is = total_read c.args.system.now.unknowns c.loop-unknown.unknown (λ u. products c.args.y.now (column u c.args.system.now.rows)) c.in_ok-totals.totals.items c.index.result.now h c.index.ensures c.in_ok-totals.ensures in
    next _ _ _ _ _ (sym c.if-is_some.ensures) (columns_next c.loop-unknown.unknown c.args.system.now.unknowns c.args.system.now.rows c.args.y.now h) (c.of_check-fault.ensures _ is) c.loop-unknown.invariant

pub returns : goal.returns
returns c =
    let e : c.loop-unknown.unknown ≡ c.args.system.now.unknowns = omega (arith, c.loop-unknown.auto.unknown-end) in
    none_found _ _ (columns_end c.loop-unknown.unknown c.args.system.now.unknowns c.args.system.now.rows c.args.y.now e) c.loop-unknown.invariant

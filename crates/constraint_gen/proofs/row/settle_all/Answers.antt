use Rattle.std.proofs.Common.{refl, ap, ◌∙◌, arith, length}
use Rattle.rules_spec.specs.CappedRows.{fits}
use Rattle.constraint_gen.specs.Heard.{owed}
use Rattle.constraint_gen.proofs.Merging.{merged_none, merged_step, merged_all, absent_at, owed_there}
use Rattle.constraint_gen.proofs.row.settle_all.Goals as goal

pub loop-unknown-init : goal.loop-unknown-init
loop-unknown-init c =
    let ls = c.args.left.now.terms in
    let rs = c.args.right.now.terms in
    let g = owed c.args.unknowns ls rs in (
      merged_none g ls rs c.terms-first.result.now c.terms-second.result.now c.args.row.now.terms c.terms-first.ensures.sum c.terms-second.ensures.sum
          c.terms-first.ensures.terms c.terms-second.ensures.terms c.requires.none,
      refl,
    )

pub settle-requires : goal.settle-requires
settle-requires c =
    let s = c.loop-unknown in
    let next = c.in-Some.ensures in
    record { absent = absent_at c.args.unknowns c.args.left.now.terms c.args.right.now.terms s.first.now s.second.now s.row.terms s.invariant.0 c.in-Some.unknown next.first next.second next.some }

pub returns-then-not-branch-clause-leaves : goal.returns-then-not-branch-clause-leaves
returns-then-not-branch-clause-leaves c =
    let s = c.loop-unknown in
    let next = c.in-Some.ensures in
    let is = owed_there c.args.unknowns c.args.left.now.terms c.args.right.now.terms s.first.now s.second.now s.row.terms c.in-Some.unknown c.split-added.result.0 c.split-taken.result.0 s.invariant.0
    next.first next.second next.some c.split-added.ensures.number c.split-taken.ensures.number in
    λ e. (c.in-Some.unknown, ap fits is ∙ c.in_ok-settle.ensures.leaves c.if-not-branch.true)

pub loop-unknown-smaller : goal.loop-unknown-smaller
loop-unknown-smaller c = omega (arith, c.in-Some.ensures.some, ap length c.split-added.ensures.rest, ap length c.split-taken.ensures.rest)

pub loop-unknown-preserved : goal.loop-unknown-preserved
loop-unknown-preserved c =
    let s = c.loop-unknown in
    let next = c.in-Some.ensures in
    let settled = c.in_ok-settle.ensures.settles c.if-not-branch.false in
    let merged = merged_step c.args.unknowns c.args.left.now.terms c.args.right.now.terms s.first.now s.second.now c.split-added.result.1.now c.split-taken.result.1.now s.row.terms c.settle.new.row.terms
    c.in-Some.unknown c.split-added.result.0 c.split-taken.result.0 s.invariant.0 next.first next.second next.some
    c.split-added.ensures.number c.split-added.ensures.rest c.split-taken.ensures.number c.split-taken.ensures.rest settled in
    (merged, c.settle.ensures.right ∙ s.invariant.1)

pub returns-clause-done : goal.returns-clause-done
returns-clause-done c =
    let s = c.loop-unknown in
    λ t. merged_all c.args.unknowns c.args.left.now.terms c.args.right.now.terms s.first.now s.second.now s.row.terms s.invariant.0 c.in_default.ensures.none

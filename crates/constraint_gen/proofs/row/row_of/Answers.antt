use Rattle.std.proofs.Common.{◌≡◌, ◌+◌, ◌-ℤ◌, pos, true, ℕ, rules}
use Rattle.rules_spec.specs.Capped.{cap}
use Rattle.rules_spec.specs.CappedRows.{fits}
use Rattle.linear_rows.specs.Terms.{IsSparse}
use Rattle.constraint_gen.specs.Heard.{wanted, IsDone, Leaves}
use Rattle.constraint_gen.proofs.Kept.{row_is, row_leaves}
use Rattle.constraint_gen.proofs.row.row_of.Goals as goal

pub returns-then-not-branch : goal.returns-then-not-branch
returns-then-not-branch c =
    let leaves : Leaves (wanted c.args.unknowns c.args.left.now c.args.right.now) = search rules in
    row_leaves c.args.unknowns c.args.left.now c.args.right.now leaves

pub returns : goal.returns
returns c =
    let done : (u : ℕ) → IsDone (wanted c.args.unknowns c.args.left.now c.args.right.now) c.settle_all.new.row.terms u = c.in_ok-settle_all.ensures.done (search rules) in
    let sparse : IsSparse c.settle_all.new.row.terms = search rules in
    let fit : fits (pos (cap (c.args.right.now.plus + c.args.left.now.minus)) -ℤ pos (cap (c.args.left.now.plus + c.args.right.now.minus))) ≡ true = search rules in
    let right : c.settle_all.new.row.right ≡ pos (cap (c.args.right.now.plus + c.args.left.now.minus)) -ℤ pos (cap (c.args.left.now.plus + c.args.right.now.minus)) = search rules in
    row_is c.args.unknowns c.args.left.now c.args.right.now c.settle_all.new.row sparse done fit right

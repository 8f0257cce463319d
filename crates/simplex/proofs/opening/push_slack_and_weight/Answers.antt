use Rattle.std.proofs.Common.{refl, ◌∙◌, rules, FitsSigned, ◌+◌, arith, length, get_or, pos}
use Rattle.std.proofs.lemmas.Int.{to_z-of_z}
use Rattle.std.specs.Int.{w128}
use Rattle.simplex_rows.proofs.Appending.{before_up_to}
use Rattle.simplex.proofs.Opens.{opens_row, weight_leaves, on_ok}
use Rattle.simplex.proofs.opening.push_slack_and_weight.Goals as goal

pub push_whole-requires : goal.push_whole-requires
push_whole-requires c = rw c.rows.ensures.all (before_up_to (length c.args.system.now.rows) (length c.args.system.now.rows + c.args.unknown) c.args.row.now c.requires.opened.before (omega arith))

pub returns-clause-row : goal.returns-clause-row
returns-clause-row c =
    let fits : FitsSigned w128 (get_or c.weights.result.now c.args.unknown (pos 0)) = search rules in
    let last = simp (to_z-of_z w128 _ fits) at c.push_whole-2.ensures.added in
    on_ok c.push_whole-2.result (opens_row c.args.system.now c.args.unknown c.requires.inside c.args.row.now c.push_whole.new.self c.push_whole-2.new.self c.requires.opened (rw c.rows.ensures.all at c.in_ok-push_whole.ensures.added))
    (rw (c.rows.ensures.all, c.unknowns.ensures, c.weights.ensures.all) at last)

pub returns-clause-leaves : goal.returns-clause-leaves
returns-clause-leaves c k e =
    let f = c.push_whole-2.ensures.leaves k e in
    let fits : FitsSigned w128 (get_or c.weights.result.now c.args.unknown (pos 0)) = search rules in
    let n = simp (to_z-of_z w128 _ fits) at f.1 in
    weight_leaves c.args.system.now c.args.unknown k (f.0 ∙ rw (c.rows.ensures.all, c.unknowns.ensures) refl) (rw c.weights.ensures.all at n)

use Rattle.std.proofs.Common.{◌≡◌, ◌<◌, ◌+◌, ◌∙◌, sym, subst, ap, arith, rules, length, map, FitsSigned, Err}
use Rattle.std.proofs.lemmas.Int.{to_z-of_z}
use Rattle.std.specs.Int.{w128}
use Rattle.linear_rows.specs.Terms.{SparseRow}
use Rattle.simplex_rows.specs.declared.fault.RowFault.{RowFault}
use Rattle.simplex.specs.Opening.{OpensTo, OpeningLeaves}
use Rattle.simplex.proofs.Opens.{no_right_sides, opens_more, right_at, of_error}
use Rattle.simplex.proofs.opening.push_right_sides.Goals as goal

pub loop-j-init : goal.loop-j-init
loop-j-init c = no_right_sides (map (λ (row : SparseRow). row.right) c.args.rows.now) c.args.gains.now c.requires.empty

pub push_whole-requires : goal.push_whole-requires
push_whole-requires c = c.loop-j.invariant.before

pub loop-j-preserved : goal.loop-j-preserved
loop-j-preserved c =
    let f : FitsSigned w128 c.right.result = search rules in
    let added = rw (to_z-of_z w128 _ f) at c.in_ok-push_whole.ensures.added in
    opens_more c.loop-j.j c.right.result (map (λ (row : SparseRow). row.right) c.args.rows.now) c.loop-j.gains c.push_whole.new.self c.loop-j.invariant added
    (c.right.ensures ∙ right_at c.args.rows.now c.loop-j.j c.index-rows-j.result (omega arith) c.index-rows-j.is) (c.in_ok-push_whole.ensures.before (c.loop-j.j + 1) (omega arith))

pub returns-in_err-push_whole-clause-leaves : goal.returns-in_err-push_whole-clause-leaves
returns-in_err-push_whole-clause-leaves c k e =
    let f : FitsSigned w128 c.right.result = search rules in
    let same : c.in_err-push_whole.field-0.0 ≡ RowFault.Leaves k = of_error _ _ _ c.from_residual.ensures.1 e in
    let leaves = rw (to_z-of_z w128 _ f) at c.in_err-push_whole.ensures.leaves k (ap Err same) in
    subst (λ (j : _). (j < length c.args.rows.now) × OpeningLeaves (map (λ row. row.right) c.args.rows.now) j) (sym leaves.0)
    (omega arith, record { is = sym (c.right.ensures ∙ right_at c.args.rows.now c.loop-j.j c.index-rows-j.result (omega arith) c.index-rows-j.is) ∙ leaves.1 })

pub returns-clause-opened : goal.returns-clause-opened
returns-clause-opened c = subst (λ (n : _). OpensTo n (map (λ row. row.right) c.args.rows.now) c.loop-j.gains) (omega arith) c.loop-j.invariant

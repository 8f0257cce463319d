use Rattle.std.proofs.Common.{rules, FitsSigned, ap, ◌∙◌, ◌++◌, ◌∷◌, []}
use Rattle.std.specs.Int.{w128}
use Rattle.std.proofs.lemmas.Int.{to_z-of_z}
use Rattle.bound_infer.proofs.Clearing.{vector_more}
use Rattle.bound_infer.proofs.refuting.vector.Goals as goal

pub loop-row-preserved : goal.loop-row-preserved
loop-row-preserved c =
    let fits : FitsSigned w128 c.number_at.result = search rules in
    let items = simp (to_z-of_z w128 _ fits) at c.in_ok-push.ensures.items in
    vector_more c.args.farkas.now c.loop-row.row c.loop-row.made.items _ (items ∙ ap (λ z. c.loop-row.made.items ++ z ∷ []) c.number_at.ensures) c.loop-row.invariant

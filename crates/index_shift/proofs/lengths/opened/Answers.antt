use Rattle.std.proofs.Common.{[], ◌∷◌, ◌++◌, ap, ◌∙◌}
use Rattle.index_shift.specs.Lengths.{opened_at}
use Rattle.index_shift.specs.Read.{middle_of, middles_of}
use Rattle.index_shift.proofs.Measured.{mapped_step}
use Rattle.index_shift.proofs.Steps.{map_made}
use Rattle.index_shift.proofs.lengths.opened.Goals as goal

pub loop-n-preserved : goal.loop-n-preserved
loop-n-preserved c =
    mapped_step opened_at _ _ _ c.loop-n.n c.args.end c.loop-n-test.true
    (map_made middle_of _ _ _ c.in_ok-push.ensures.items ∙ ap (λ m. middles_of c.loop-n.found.items ++ m ∷ []) c.in_ok-opened_at.ensures) c.loop-n.invariant

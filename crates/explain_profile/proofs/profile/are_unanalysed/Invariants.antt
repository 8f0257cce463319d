use Rattle.std.proofs.Common.{◌≡◌, take}
use Rattle.std.specs.List.{All}
use Rattle.explain_profile.specs.Rows.{runs_of}
use Rattle.explain_profile.specs.declared.runs.Runs.TheVariants as r
use Rattle.explain_profile.proofs.profile.are_unanalysed.Given as goal

abbrev pub invariant-loop-row : goal.invariant-loop-row
invariant-loop-row l = All (λ row. runs_of row ≡ r.NotAnalysed) (take l.row-index l.rows)

use Rattle.explain_calls.proofs.draft.+draft_down.Given as goal

abbrev pub decreases-draft_down : goal.decreases-draft_down
decreases-draft_down a = a.degree

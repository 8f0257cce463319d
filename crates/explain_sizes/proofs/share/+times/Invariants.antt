use Rattle.explain_sizes.proofs.share.+times.Given as goal

abbrev pub decreases-times : goal.decreases-times
decreases-times l = l.number

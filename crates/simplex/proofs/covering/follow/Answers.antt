use Rattle.simplex.proofs.covering.follow.Goals as goal

pub keep_one-requires-clause-column : goal.keep_one-requires-clause-column
keep_one-requires-clause-column c = rw (c.mark_rows.ensures.places, c.div_ceil-blocks.ensures) c.requires.column

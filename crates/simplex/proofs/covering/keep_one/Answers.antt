use Rattle.simplex.proofs.Marks.{one_kept}
use Rattle.simplex.proofs.covering.keep_one.Goals as goal

pub returns : goal.returns
returns c = one_kept c.args.blocks c.args.column c.args.block c.args.marks.now c.clear.new.marks c.requires.column c.requires.block c.clear.ensures

use Rattle.bound_file.proofs.Stacks.{goes_on}
use Rattle.bound_file.proofs.tuple.go_on.Goals as goal

pub returns : goal.returns
returns c = goes_on c.args.byte c.args.close c.args.goals.now.items c.extend_from_slice.new.self.items c.if-byte-close.false c.if-byte-ne44.false c.in_ok-extend_from_slice.ensures.items

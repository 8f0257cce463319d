use Rattle.bound_file.proofs.Stacks.{entry_met}
use Rattle.bound_file.proofs.tuple.begin_entries.Goals as goal

pub returns : goal.returns
returns c = entry_met c.args.byte _ c.args.goals.now.items c.push.new.self.items _ c.if-byte-eq93.false c.in_ok-push.ensures.items c.in_ok-can.ensures

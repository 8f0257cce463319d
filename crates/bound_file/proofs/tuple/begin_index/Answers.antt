use Rattle.bound_file.proofs.Stacks.{begins_pair, begins_list}
use Rattle.bound_file.proofs.tuple.begin_index.Goals as goal

pub returns-in_ok-extend_from_slice-in-40 : goal.returns-in_ok-extend_from_slice-in-40
returns-in_ok-extend_from_slice-in-40 c = begins_pair c.args.byte c.args.goals.now.items c.extend_from_slice.new.self.items c.in-40.is c.in_ok-extend_from_slice-in-40.ensures.items

pub returns-in_ok-push-in-91 : goal.returns-in_ok-push-in-91
returns-in_ok-push-in-91 c = begins_list c.args.byte c.args.goals.now.items c.push.new.self.items c.in-91.is c.in_ok-push-in-91.ensures.items

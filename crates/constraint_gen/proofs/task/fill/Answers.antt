use Rattle.std.proofs.Common.{◌≡◌, ◌++◌, ◌-◌, pos, take, length, sym, subst, rules}
use Rattle.std.specs.Prelude.{replicate}
use Rattle.raml_num.specs.Sums.{NoneNegative}
use Rattle.constraint_gen.proofs.Whole.{natural_append, natural_zeros, natural_front}
use Rattle.constraint_gen.proofs.task.fill.Goals as goal

pub returns-clause-natural : goal.returns-clause-natural
returns-clause-natural c h =
    let old = c.args.weights.now.items in
    let kept = take c.args.count old in
    let items : c.append_times.new.weights.items ≡ kept ++ replicate (c.args.count - length kept) (pos 0) = search rules in
    subst NoneNegative (sym items) (natural_append kept (replicate (c.args.count - length kept) (pos 0)) (natural_front c.args.count old h) (natural_zeros (c.args.count - length kept)))

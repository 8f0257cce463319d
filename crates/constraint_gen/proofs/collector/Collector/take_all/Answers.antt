use Rattle.std.proofs.Common.{◌≡◌, ◌+◌, ◌∷◌, [], drop, rules, arith}
use Rattle.std.proofs.lemmas.Grind.{common_steps}
use Rattle.rules_spec.specs.Walk.{at}
use Rattle.constraint_gen.specs.Sums.{sums}
use Rattle.constraint_gen.proofs.Collected.{rest_begins, rest_goes_on, rest_ends}
use Rattle.constraint_gen.proofs.collector.Collector.take_all.Goals as goal

pub loop-place-init : goal.loop-place-init
loop-place-init c = rest_begins c.args.self.now c.args.left.now c.args.right.now

pub loop-place-preserved : goal.loop-place-preserved
loop-place-preserved c =
    let here : drop c.loop-place.place c.args.right.now ≡ c.index-right-place.result ∷ drop (c.loop-place.place + 1) c.args.right.now = grind (arith, common_steps, c.index-right-place.is) in
    let entry : c.unwrap_or-entry.result.now ≡ at sums c.args.left.now c.loop-place.place = search rules in
    rest_goes_on c.args.self.now c.loop-place.self c.take.new.self c.args.left.now c.args.right.now c.loop-place.place c.unwrap_or-entry.result.now c.index-right-place.result here entry (search rules) c.loop-place.invariant

pub returns : goal.returns
returns c path index =
    let none : drop c.loop-place.place c.args.right.now ≡ [] = grind (arith, common_steps) in
    rest_ends c.args.self.now c.loop-place.self c.args.left.now c.args.right.now c.loop-place.place none c.loop-place.invariant path index

use Rattle.std.proofs.Common.{◌≡◌, ◌<◌, length, false, arith, rules}
use Rattle.std.specs.Prelude.{is_none}
use Rattle.std.proofs.lemmas.Bool.Decides.{nat_tests}
use Rattle.constraint_gen.proofs.Functions.{there_at}
use Rattle.constraint_gen.proofs.Finishing.{first_more}
use Rattle.constraint_gen.proofs.finish.first_none.Goals as goal

pub loop-place-preserved : goal.loop-place-preserved
loop-place-preserved c =
    let low : c.loop-place.place < length c.args.rows.now = grind (arith, nat_tests, c.loop-place-test.true) in
    let there = there_at c.args.rows.now c.loop-place.place c.index-rows-place.result low c.index-rows-place.is in
    let some : is_none c.index-rows-place.result ≡ false = search rules in
    first_more c.args.rows.now c.loop-place.place c.index-rows-place.result c.loop-place.invariant there some

use Rattle.std.proofs.Common.{◌≡◌, arith, pos, w64}
use Rattle.std.proofs.lemmas.Int.{ints, to_z-of_z}
use Rattle.simplex_rows.proofs.FewMerging.{all_put}
use Rattle.simplex_rows.proofs.few_merging.put_times.Goals as goal

pub returns-then-numbers-gt-FEW : goal.returns-then-numbers-gt-FEW
returns-then-numbers-gt-FEW c =
    let one : c.args.p ≡ pos 1 = grind (arith, ints, to_z-of_z w64 c.args.p c.ranges.p, c.if-p-eq1.true) in
    all_put c.extend_from_slice.result c.args.p c.args.made.now.items c.args.numbers.now c.extend_from_slice.new.self.items one c.extend_from_slice.ensures.items

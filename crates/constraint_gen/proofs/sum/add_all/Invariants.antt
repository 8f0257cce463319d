use Rattle.std.proofs.Common.{◌≡◌, drop}
use Rattle.constraint_gen.specs.Sums.{put_all, scaled, IsSum}
use Rattle.constraint_gen.proofs.sum.add_all.Given as goal

abbrev pub invariant-loop-other : goal.invariant-loop-other
invariant-loop-other l =
    IsSum l.terms.items × (put_all (scaled l.factor (drop l.other-index l.others)) l.terms.items ≡ put_all (scaled l.factor l.others) l.fn.terms.items)

use Rattle.std.proofs.Common.{arith, w64, ◌*ℤ◌}
use Rattle.std.proofs.lemmas.Int.{to_z-of_z}
use Rattle.simplex_rows.proofs.Wholes.{kept_whole}
use Rattle.simplex_rows.proofs.FewMerging.{difference_kept}
use Rattle.simplex_rows.proofs.few_merging.difference.Goals as goal

pub returns : goal.returns
returns c =
    rw (
      to_z-of_z w64 _ c.ranges.p,
      to_z-of_z w64 _ c.ranges.number,
      to_z-of_z w64 _ c.ranges.q,
      to_z-of_z w64 _ c.ranges.other,
      kept_whole (c.args.p *ℤ c.args.number) (omega (arith, c.requires)),
      kept_whole (c.args.q *ℤ c.args.other) (omega (arith, c.requires)),
    )
    (difference_kept (c.args.p *ℤ c.args.number) (c.args.q *ℤ c.args.other) c.requires)

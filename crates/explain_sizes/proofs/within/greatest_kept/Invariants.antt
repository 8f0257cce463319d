use Rattle.std.proofs.Common.{◌≡◌, ◌-◌, ◌<◌, ◌^◌, true, false}
use Rattle.explain_sizes.specs.Open.{is_kept}
use Rattle.explain_sizes.specs.Read.{all_open}
use Rattle.explain_sizes.proofs.within.greatest_kept.Given as goal

abbrev pub invariant-loop-left : goal.invariant-loop-left
invariant-loop-left l = record {
  apart : l.kept < l.left;
  below : l.left < 10 ^ 10;
  kept : is_kept l.poly (all_open l.sizes) l.most l.kept ≡ true;
  left : is_kept l.poly (all_open l.sizes) l.most l.left ≡ false;
}

abbrev pub decreases-loop-left : goal.decreases-loop-left
decreases-loop-left l = l.left - l.kept

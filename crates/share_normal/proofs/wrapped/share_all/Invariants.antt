use Rattle.std.proofs.Common.{◌≡◌, vec_len}
use Rattle.normal_spec.specs.Two as two
use Rattle.normal_spec.specs.Read.{norm_of}
use Rattle.share_normal.proofs.wrapped.share_all.Given as goal

abbrev pub invariant-loop-shared : goal.invariant-loop-shared
invariant-loop-shared l = two.share_all l.shares.items (norm_of l.made) ≡ two.share_all l.fn.shares.items (norm_of l.fn.rest)

abbrev pub decreases-loop-shared : goal.decreases-loop-shared
decreases-loop-shared l = vec_len l.shares

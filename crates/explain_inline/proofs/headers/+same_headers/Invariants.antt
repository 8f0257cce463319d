use Rattle.std.proofs.Common.{length}
use Rattle.explain_inline.proofs.headers.+same_headers.Given as goal

abbrev pub decreases-same_headers : goal.decreases-same_headers
decreases-same_headers l = length l.funs.now

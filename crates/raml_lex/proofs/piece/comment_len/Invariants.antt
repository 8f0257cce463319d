use Rattle.std.proofs.Common.{◌-◌, length}
use Rattle.raml_lex.proofs.Comments.{Inside}
use Rattle.raml_lex.proofs.piece.comment_len.Given as goal

abbrev pub invariant-loop-depth : goal.invariant-loop-depth
invariant-loop-depth l = Inside l.text l.depth l.len

abbrev pub decreases-loop-depth : goal.decreases-loop-depth
decreases-loop-depth l = length l.text - l.len

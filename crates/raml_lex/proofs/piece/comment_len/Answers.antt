use Rattle.std.proofs.Common.{sym}
use Rattle.raml_lex.proofs.Comments.{opened, closed, passed, not_ended, ended, rest_empty, rest_some}
use Rattle.raml_lex.proofs.piece.comment_len.Goals as goal

pub loop-depth-preserved-then-starts_with : goal.loop-depth-preserved-then-starts_with
loop-depth-preserved-then-starts_with c = opened c.args.text.now c.loop-depth.depth c.loop-depth.len c.loop-depth.invariant c.loop-depth-test.true (sym c.if-starts_with.ensures.value)

pub loop-depth-preserved-then-starts_with-2 : goal.loop-depth-preserved-then-starts_with-2
loop-depth-preserved-then-starts_with-2 c = closed c.args.text.now c.loop-depth.depth c.loop-depth.len c.loop-depth.invariant c.loop-depth-test.true (sym c.if-starts_with.ensures.value) (sym c.if-starts_with-2.ensures.value)

pub returns-then-is_empty : goal.returns-then-is_empty
returns-then-is_empty c = not_ended c.args.text.now c.loop-depth.depth c.loop-depth.len c.requires c.loop-depth.invariant c.loop-depth-test.true (rest_empty c.args.text.now c.loop-depth.len c.if-is_empty.ensures)

pub loop-depth-preserved : goal.loop-depth-preserved
loop-depth-preserved c = passed c.args.text.now c.loop-depth.depth c.loop-depth.len c.loop-depth.invariant c.loop-depth-test.true (sym c.if-starts_with.ensures.value) (sym c.if-starts_with-2.ensures.value) (rest_some c.args.text.now c.loop-depth.len c.if-is_empty.ensures)

pub returns : goal.returns
returns c = ended c.args.text.now c.loop-depth.depth c.loop-depth.len c.requires c.loop-depth.invariant c.loop-depth-test.false

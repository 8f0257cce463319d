use Rattle.std.proofs.Common.{arith}
use Rattle.std.proofs.lemmas.Nat.{mod_below}
use Rattle.raml_num.proofs.Quotients.{split, split_at, less_by, step, ends_same, ends_more, ends_less}
use Rattle.raml_num.proofs.cross_cmp.Goals as goal

pub returns-then-first-second : goal.returns-then-first-second
returns-then-first-second c = c.loop-a.invariant.less (less_by _ _ _ _ _ _ _ _ (split c.loop-a.a c.loop-a.b) (split c.loop-a.c c.loop-a.d)
    (mod_below _ _ c.loop-a.invariant.b_positive) (mod_below _ _ c.loop-a.invariant.d_positive) c.if-first-second.true)

pub returns-then-second-first : goal.returns-then-second-first
returns-then-second-first c = c.loop-a.invariant.more (less_by _ _ _ _ _ _ _ _ (split c.loop-a.c c.loop-a.d) (split c.loop-a.a c.loop-a.b)
    (mod_below _ _ c.loop-a.invariant.d_positive) (mod_below _ _ c.loop-a.invariant.b_positive) c.if-second-first.true)

pub returns-then-rest-eq0 : goal.returns-then-rest-eq0
returns-then-rest-eq0 c = ends_same _ _ _ _ _ _ _ _ _ _ _ c.loop-a.invariant (split c.loop-a.a c.loop-a.b) (split_at c.loop-a.c c.loop-a.d _ c.if-first-second.false c.if-second-first.false)
    c.if-rest-eq0.true c.if-other_rest-eq0.true

pub returns-else-rest-eq0 : goal.returns-else-rest-eq0
returns-else-rest-eq0 c = ends_more _ _ _ _ _ _ _ _ _ _ _ c.loop-a.invariant (split c.loop-a.a c.loop-a.b) (split_at c.loop-a.c c.loop-a.d _ c.if-first-second.false c.if-second-first.false)
    (omega arith) c.if-other_rest-eq0.true

pub returns-then-rest-eq0-2 : goal.returns-then-rest-eq0-2
returns-then-rest-eq0-2 c = ends_less _ _ _ _ _ _ _ _ _ _ _ c.loop-a.invariant (split c.loop-a.a c.loop-a.b) (split_at c.loop-a.c c.loop-a.d _ c.if-first-second.false c.if-second-first.false)
    c.if-rest-eq0-2.true (omega arith)

pub loop-a-preserved : goal.loop-a-preserved
loop-a-preserved c = step _ _ _ _ _ _ _ _ _ _ _ c.loop-a.invariant (split c.loop-a.a c.loop-a.b) (split_at c.loop-a.c c.loop-a.d _ c.if-first-second.false c.if-second-first.false)
    (omega arith) (omega arith)

use Rattle.std.proofs.Common.{◌∙◌, ◌*◌, ap, map}
use Rattle.rules_spec.specs.Walk.{at_zero, against, numbered}
use Rattle.rules_walk.specs.Steps.{step_of}
use Rattle.rules_walk.specs.Read.{mode_of, hints_of, known_of}
use Rattle.rules_walk.proofs.Arms.{begun_by, ends_is, ends_left}
use Rattle.rules_walk.proofs.walk.walk_ends.Goals as goal

pub returns-clause-heard : goal.returns-clause-heard
returns-clause-heard g c = let A = g.T.Kind.kind in let J = g.J.Judge in let s = c.args.here.now in let G = known_of s.known.now in let path = c.args.path.now.items in let q = c.args.q.items in let v = J.verdict c.args.judge.now in
    let p1 = c.deref.ensures.value in
    let b = begun_by A G J.after g.met.J.Judge.in_turn c.args.nodes c.charged.result (mode_of s.mode) path c.deref.result.now q c.begin.new.entries.items c.in_ok-index.index v (J.verdict c.begin.new.judge)
    c.charged.ensures p1 c.in_ok-index.ensures.heard c.in_ok-index.ensures.index c.in_ok-index.ensures.left in
    ends_is A G J.after g.met.J.Judge.in_turn c.args.nodes c.args.cells c.charged-2.result (map step_of c.args.steps.now) (mode_of s.mode) path c.deref-2.result.now
    q c.begin.new.entries.items s.result.now c.raise_first.new.entries.items (hints_of c.args.hints.now) c.in_ok-index.index v (J.verdict c.begin.new.judge) _ b c.deref-2.ensures.value
    c.charged-2.ensures (c.raise_first.ensures ∙ ap (at_zero (A.plus (A.number (c.charged-2.result * s.known.now.scale)))) c.in_ok-right.ensures) (c.in_ok-hear.ensures ∙ (λ i. J.after (J.verdict c.begin.new.judge) (numbered c.deref-2.result.now c.in_ok-index.index (against A (c.deref-3.ensures.value i) (c.deref-4.ensures.value i)))))

pub returns-clause-left : goal.returns-clause-left
returns-clause-left g c = let A = g.T.Kind.kind in let J = g.J.Judge in let s = c.args.here.now in let G = known_of s.known.now in let path = c.args.path.now.items in let q = c.args.q.items in let v = J.verdict c.args.judge.now in
    let p1 = c.deref.ensures.value in
    let b = begun_by A G J.after g.met.J.Judge.in_turn c.args.nodes c.charged.result (mode_of s.mode) path c.deref.result.now q c.begin.new.entries.items c.in_ok-index.index v (J.verdict c.begin.new.judge)
    c.charged.ensures p1 c.in_ok-index.ensures.heard c.in_ok-index.ensures.index c.in_ok-index.ensures.left in
    ends_left A G J.after g.met.J.Judge.in_turn c.args.nodes c.args.cells (map step_of c.args.steps.now) (mode_of s.mode) path q c.begin.new.entries.items s.result.now (hints_of c.args.hints.now) c.in_ok-index.index v (J.verdict c.begin.new.judge) b

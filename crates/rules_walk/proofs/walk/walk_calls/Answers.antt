use Rattle.std.proofs.Common.{◌∙◌, ◌+◌, refl, length}
use Rattle.rules_spec.specs.Walk.{against, numbered}
use Rattle.rules_walk.specs.Read.{called_of, mode_of, hints_of, sides_of, known_of}
use Rattle.rules_walk.proofs.Arms.{begun_by, calls_is, calls_left}
use Rattle.rules_walk.proofs.walk.walk_calls.Goals as goal

pub returns-clause-heard : goal.returns-clause-heard
returns-clause-heard g c = let A = g.T.Kind.kind in let J = g.J.Judge in let s = c.args.here.now in let G = known_of s.known.now in let path = c.args.path.now.items in let q = c.args.q.items in let v = J.verdict c.args.judge.now in
    let p1 = c.deref.ensures.value in
    let b = begun_by A G J.after g.met.J.Judge.in_turn c.args.nodes c.charged.result (mode_of s.mode) path c.deref.result.now q c.begin.new.entries.items c.in_ok-start.start v (J.verdict c.begin.new.judge)
    c.charged.ensures p1 c.in_ok-start.ensures.heard c.in_ok-start.ensures.index c.in_ok-start.ensures.left in
    calls_is A G J.after g.met.J.Judge.in_turn c.args.nodes (called_of c.args.called.now) (mode_of s.mode) path c.deref-2.result.now c.deref-3.result.now c.deref-6.result.now
    q c.begin.new.entries.items s.result.now s.result.now c.multiples_of.result.now (hints_of c.args.hints.now) (sides_of c.in_ok-sides.sides)
    c.in_ok-start.start c.in_ok-index.index (c.in_ok-index.index + length c.in_ok-sides.sides.args.items) v (J.verdict c.begin.new.judge) (J.verdict c.hear_missing.new.judge) (J.verdict c.hear.new.self) _ b
    c.deref-2.ensures.value c.deref-3.ensures.value c.deref-6.ensures.value c.multiples_of.ensures c.in_ok-sides.ensures refl
    c.in_ok-index.ensures.heard c.in_ok-index.ensures.index refl
    (c.in_ok-hear.ensures ∙ (λ i. J.after (J.verdict c.hear_missing.new.judge) (numbered c.deref-3.result.now c.in_ok-index.index (against A (c.deref-4.ensures.value i) (c.deref-5.ensures.value i)))))
    (c.in_ok-hear-2.ensures ∙ (λ i. J.after (J.verdict c.hear.new.self) (numbered c.deref-6.result.now (c.in_ok-index.index + (c.len.ensures ∙ c.in_ok-sides.sides.args.ok.0) i) (against A (c.deref-7.ensures.value i) s.result.now))))

pub returns-clause-left : goal.returns-clause-left
returns-clause-left g c = let A = g.T.Kind.kind in let J = g.J.Judge in let s = c.args.here.now in let G = known_of s.known.now in let path = c.args.path.now.items in let q = c.args.q.items in let v = J.verdict c.args.judge.now in
    let p1 = c.deref.ensures.value in
    let b = begun_by A G J.after g.met.J.Judge.in_turn c.args.nodes c.charged.result (mode_of s.mode) path c.deref.result.now q c.begin.new.entries.items c.in_ok-start.start v (J.verdict c.begin.new.judge)
    c.charged.ensures p1 c.in_ok-start.ensures.heard c.in_ok-start.ensures.index c.in_ok-start.ensures.left in
    calls_left A G J.after g.met.J.Judge.in_turn c.args.nodes (called_of c.args.called.now) (mode_of s.mode) path q c.begin.new.entries.items s.result.now (hints_of c.args.hints.now) _ c.in_ok-start.start v (J.verdict c.begin.new.judge) b c.later.ensures

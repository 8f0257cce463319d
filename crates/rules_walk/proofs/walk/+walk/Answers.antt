use Rattle.std.proofs.Common.{◌≡◌, ◌∙◌, ◌++◌, ◌∷◌, [], ◌*◌, ◌+◌, ◌<◌, ◌≤◌, ap, sym, map, drop, length, arith, rules}
use Rattle.rules_spec.specs.Walk.{moved, walk, walks, against, numbered}
use Rattle.rules_walk.specs.Steps.{step_of, part_of}
use Rattle.rules_walk.specs.Read.{plan_of, plans_of, mode_of, hints_of, known_of, size}
use Rattle.rules_walk.proofs.Arms.{begun_by, pays_is, pays_left, moves_is, moves_left, shares_is, shares_left, forks_is, forks_left, lets_is, lets_left, each_heard, each_left, one_heard, one_left, none_heard, none_left, sizes_at, drop_at, past_is, parts_length}
use Rattle.rules_walk.proofs.Shared.{of_lets}
use Rattle.rules_walk.proofs.walk.+walk.Goals as goal

pub walk_pays-returns-clause-heard : goal.walk_pays-returns-clause-heard
walk_pays-returns-clause-heard g t c = let A = g.T.Kind.kind in let J = g.J.Judge in let s = c.args.here.now in let G = known_of s.known.now in let path = c.args.path.now.items in let q = c.args.q.items in let v = J.verdict c.args.judge.now in
    let p1 = c.deref.ensures.value in
    let b = begun_by A G J.after g.met.J.Judge.in_turn c.args.nodes c.charged.result (mode_of s.mode) path c.deref.result.now q c.begin.new.entries.items c.in_ok-index.index v (J.verdict c.begin.new.judge)
    c.charged.ensures p1 c.in_ok-index.ensures.heard c.in_ok-index.ensures.index c.in_ok-index.ensures.left in
    pays_is A G J.after g.met.J.Judge.in_turn c.args.nodes c.args.ticks c.charged-2.result (plan_of c.args.rest.now) (mode_of s.mode) path c.deref-2.result.now
    q c.begin.new.entries.items c.pay.new.entries.items s.result.now (hints_of c.args.hints.now) c.in_ok-index.index v (J.verdict c.begin.new.judge) (J.verdict c.pay.new.judge) _ b c.deref-2.ensures.value
    c.charged-2.ensures c.in_ok-pay.ensures.heard c.in_ok-pay.ensures.left c.in_ok-out.ensures.heard

pub walk_pays-returns-clause-left : goal.walk_pays-returns-clause-left
walk_pays-returns-clause-left g t c = let A = g.T.Kind.kind in let J = g.J.Judge in let s = c.args.here.now in let G = known_of s.known.now in let path = c.args.path.now.items in let q = c.args.q.items in let v = J.verdict c.args.judge.now in
    let p1 = c.deref.ensures.value in
    let b = begun_by A G J.after g.met.J.Judge.in_turn c.args.nodes c.charged.result (mode_of s.mode) path c.deref.result.now q c.begin.new.entries.items c.in_ok-index.index v (J.verdict c.begin.new.judge)
    c.charged.ensures p1 c.in_ok-index.ensures.heard c.in_ok-index.ensures.index c.in_ok-index.ensures.left in
    pays_left A G J.after g.met.J.Judge.in_turn c.args.nodes c.args.ticks c.charged-2.result (plan_of c.args.rest.now) (mode_of s.mode) path
    q c.begin.new.entries.items c.pay.new.entries.items s.result.now (hints_of c.args.hints.now) c.in_ok-index.index v (J.verdict c.begin.new.judge) _ b
    c.charged-2.ensures c.in_ok-pay.ensures.left c.in_ok-out.ensures.left

pub walk_moves-returns-clause-heard : goal.walk_moves-returns-clause-heard
walk_moves-returns-clause-heard g t c = let A = g.T.Kind.kind in let J = g.J.Judge in let s = c.args.here.now in let G = known_of s.known.now in let path = c.args.path.now.items in let q = c.args.q.items in let v = J.verdict c.args.judge.now in
    let p1 = c.deref.ensures.value in
    let b = begun_by A G J.after g.met.J.Judge.in_turn c.args.nodes c.charged.result (mode_of s.mode) path c.deref.result.now q c.begin.new.entries.items c.in_ok-start.start v (J.verdict c.begin.new.judge)
    c.charged.ensures p1 c.in_ok-start.ensures.heard c.in_ok-start.ensures.index c.in_ok-start.ensures.left in
    moves_is A G J.after g.met.J.Judge.in_turn c.args.nodes (step_of c.args.step.now) (plan_of c.args.rest.now) (mode_of s.mode) path
    q c.begin.new.entries.items c.in_ok-next.next.items s.result.now (hints_of c.args.hints.now) c.in_ok-start.start v (J.verdict c.begin.new.judge) _ b
    (c.in_ok-next.ensures ∙ ap (moved A (step_of c.args.step.now)) c.deref-2.ensures.value) c.in_ok-out.ensures.heard

pub walk_moves-returns-clause-left : goal.walk_moves-returns-clause-left
walk_moves-returns-clause-left g t c = let A = g.T.Kind.kind in let J = g.J.Judge in let s = c.args.here.now in let G = known_of s.known.now in let path = c.args.path.now.items in let q = c.args.q.items in let v = J.verdict c.args.judge.now in
    let p1 = c.deref.ensures.value in
    let b = begun_by A G J.after g.met.J.Judge.in_turn c.args.nodes c.charged.result (mode_of s.mode) path c.deref.result.now q c.begin.new.entries.items c.in_ok-start.start v (J.verdict c.begin.new.judge)
    c.charged.ensures p1 c.in_ok-start.ensures.heard c.in_ok-start.ensures.index c.in_ok-start.ensures.left in
    moves_left A G J.after g.met.J.Judge.in_turn c.args.nodes (step_of c.args.step.now) (plan_of c.args.rest.now) (mode_of s.mode) path
    q c.begin.new.entries.items c.in_ok-next.next.items s.result.now (hints_of c.args.hints.now) c.in_ok-start.start v (J.verdict c.begin.new.judge) _ b
    (c.in_ok-next.ensures ∙ ap (moved A (step_of c.args.step.now)) c.deref-2.ensures.value) c.in_ok-out.ensures.left

pub walk_shares-returns-clause-heard : goal.walk_shares-returns-clause-heard
walk_shares-returns-clause-heard g t c = let A = g.T.Kind.kind in let J = g.J.Judge in let s = c.args.here.now in let G = known_of s.known.now in let path = c.args.path.now.items in let q = c.args.q.items in let v = J.verdict c.args.judge.now in
    let p1 = c.deref.ensures.value in
    let b = begun_by A G J.after g.met.J.Judge.in_turn c.args.nodes c.charged.result (mode_of s.mode) path c.deref.result.now q c.begin.new.entries.items c.in_ok-index.index v (J.verdict c.begin.new.judge)
    c.charged.ensures p1 c.in_ok-index.ensures.heard c.in_ok-index.ensures.index c.in_ok-index.ensures.left in
    shares_is A G J.after g.met.J.Judge.in_turn c.args.nodes c.args.size (step_of c.args.step.now) (plan_of c.args.rest.now) (mode_of s.mode) path c.deref-2.result.now
    q c.begin.new.entries.items c.in_ok-next.next.items s.result.now c.in_ok-right.right.items c.copies_of-told.result.now (hints_of c.args.hints.now) (hints_of c.later.result.now) c.in_ok-index.index v (J.verdict c.begin.new.judge) (J.verdict c.hear.new.self) _ b c.deref-2.ensures.value
    c.copies_of-told.ensures c.later.ensures c.in_ok-right.ensures
    (c.in_ok-hear.ensures ∙ (λ i. J.after (J.verdict c.begin.new.judge) (numbered c.deref-2.result.now c.in_ok-index.index (against A (c.deref-3.ensures.value i) (c.deref-4.ensures.value i)))))
    c.in_ok-next.ensures c.in_ok-out.ensures.heard

pub walk_shares-returns-clause-left : goal.walk_shares-returns-clause-left
walk_shares-returns-clause-left g t c = let A = g.T.Kind.kind in let J = g.J.Judge in let s = c.args.here.now in let G = known_of s.known.now in let path = c.args.path.now.items in let q = c.args.q.items in let v = J.verdict c.args.judge.now in
    let p1 = c.deref.ensures.value in
    let b = begun_by A G J.after g.met.J.Judge.in_turn c.args.nodes c.charged.result (mode_of s.mode) path c.deref.result.now q c.begin.new.entries.items c.in_ok-index.index v (J.verdict c.begin.new.judge)
    c.charged.ensures p1 c.in_ok-index.ensures.heard c.in_ok-index.ensures.index c.in_ok-index.ensures.left in
    shares_left A G J.after g.met.J.Judge.in_turn c.args.nodes c.args.size (step_of c.args.step.now) (plan_of c.args.rest.now) (mode_of s.mode) path
    q c.begin.new.entries.items c.in_ok-next.next.items s.result.now c.copies_of-told.result.now (hints_of c.args.hints.now) (hints_of c.later.result.now) c.in_ok-index.index v (J.verdict c.begin.new.judge) _ b
    c.copies_of-told.ensures c.later.ensures c.in_ok-next.ensures c.in_ok-out.ensures.left

pub walk_forks-returns-clause-heard : goal.walk_forks-returns-clause-heard
walk_forks-returns-clause-heard g t c = let A = g.T.Kind.kind in let J = g.J.Judge in let s = c.args.here.now in let G = known_of s.known.now in let path = c.args.path.now.items in let q = c.args.q.items in let v = J.verdict c.args.judge.now in
    let p1 = c.deref.ensures.value in
    let b = begun_by A G J.after g.met.J.Judge.in_turn c.args.nodes c.charged.result (mode_of s.mode) path c.deref.result.now q c.begin.new.entries.items c.in_ok-start.start v (J.verdict c.begin.new.judge)
    c.charged.ensures p1 c.in_ok-start.ensures.heard c.in_ok-start.ensures.index c.in_ok-start.ensures.left in
    forks_is A G J.after g.met.J.Judge.in_turn c.args.nodes (step_of c.args.step.now) (step_of c.args.other.now) (plan_of c.args.first.now) (plan_of c.args.second.now) (mode_of s.mode) path c.walk_child.new.path.items
    q c.begin.new.entries.items c.in_ok-before.before.items c.in_ok-behind.behind.items s.result.now (hints_of c.args.hints.now) (hints_of c.in_ok-left.left.now) c.in_ok-start.start v (J.verdict c.begin.new.judge) (J.verdict c.walk_child.new.judge) _ b
    c.in_ok-left.ensures.path (c.in_ok-before.ensures ∙ ap (moved A (step_of c.args.step.now)) c.deref-2.ensures.value) (c.in_ok-behind.ensures ∙ ap (moved A (step_of c.args.other.now)) c.deref-3.ensures.value)
    c.in_ok-left.ensures.heard c.in_ok-left.ensures.left c.in_ok-out.ensures.heard

pub walk_forks-returns-clause-left : goal.walk_forks-returns-clause-left
walk_forks-returns-clause-left g t c = let A = g.T.Kind.kind in let J = g.J.Judge in let s = c.args.here.now in let G = known_of s.known.now in let path = c.args.path.now.items in let q = c.args.q.items in let v = J.verdict c.args.judge.now in
    let p1 = c.deref.ensures.value in
    let b = begun_by A G J.after g.met.J.Judge.in_turn c.args.nodes c.charged.result (mode_of s.mode) path c.deref.result.now q c.begin.new.entries.items c.in_ok-start.start v (J.verdict c.begin.new.judge)
    c.charged.ensures p1 c.in_ok-start.ensures.heard c.in_ok-start.ensures.index c.in_ok-start.ensures.left in
    forks_left A G J.after g.met.J.Judge.in_turn c.args.nodes (step_of c.args.step.now) (step_of c.args.other.now) (plan_of c.args.first.now) (plan_of c.args.second.now) (mode_of s.mode) path c.walk_child.new.path.items
    q c.begin.new.entries.items c.in_ok-before.before.items c.in_ok-behind.behind.items s.result.now (hints_of c.args.hints.now) (hints_of c.in_ok-left.left.now) c.in_ok-start.start v (J.verdict c.begin.new.judge) _ b
    c.in_ok-left.ensures.path (c.in_ok-before.ensures ∙ ap (moved A (step_of c.args.step.now)) c.deref-2.ensures.value) (c.in_ok-behind.ensures ∙ ap (moved A (step_of c.args.other.now)) c.deref-3.ensures.value)
    c.in_ok-left.ensures.left c.in_ok-out.ensures.left

pub walk_lets-returns-clause-heard : goal.walk_lets-returns-clause-heard
walk_lets-returns-clause-heard g t c = let A = g.T.Kind.kind in let J = g.J.Judge in let s = c.args.here.now in let G = known_of s.known.now in let path = c.args.path.now.items in let q = c.args.q.items in let v = J.verdict c.args.judge.now in
    let p1 = c.deref.ensures.value in
    let b = begun_by A G J.after g.met.J.Judge.in_turn c.args.nodes c.charged.result (mode_of s.mode) path c.deref.result.now q c.begin.new.entries.items c.in_ok-start.start v (J.verdict c.begin.new.judge)
    c.charged.ensures p1 c.in_ok-start.ensures.heard c.in_ok-start.ensures.index c.in_ok-start.ensures.left in
    lets_is A G J.after g.met.J.Judge.in_turn c.args.nodes c.args.size (length c.list-tuples.result.now) c.args.parts.now (map part_of c.list-tuples.result.now) (plans_of c.args.firsts.now) (plan_of c.args.rest.now) (mode_of s.mode) path c.walk_each.new.path.items
    q c.begin.new.entries.items c.deref-2.result.now c.in_ok-next.next.items s.result.now (map (λ v. v.items) c.results_of-told.result.now) (hints_of c.args.hints.now) (hints_of c.later.result.now) (hints_of c.in_ok-left.left.now) c.in_ok-start.start
    v (J.verdict c.begin.new.judge) (J.verdict c.walk_each.new.judge) _ b
    c.list-tuples.ensures.all (parts_length part_of c.list-tuples.result.now ∙ ap length c.list-tuples.ensures.all) c.deref-2.ensures.value c.results_of-told.ensures c.later.ensures c.in_ok-left.ensures.path c.in_ok-next.ensures
    c.in_ok-left.ensures.heard c.in_ok-left.ensures.left c.in_ok-out.ensures.heard

pub walk_lets-returns-clause-left : goal.walk_lets-returns-clause-left
walk_lets-returns-clause-left g t c = let A = g.T.Kind.kind in let J = g.J.Judge in let s = c.args.here.now in let G = known_of s.known.now in let path = c.args.path.now.items in let q = c.args.q.items in let v = J.verdict c.args.judge.now in
    let p1 = c.deref.ensures.value in
    let b = begun_by A G J.after g.met.J.Judge.in_turn c.args.nodes c.charged.result (mode_of s.mode) path c.deref.result.now q c.begin.new.entries.items c.in_ok-start.start v (J.verdict c.begin.new.judge)
    c.charged.ensures p1 c.in_ok-start.ensures.heard c.in_ok-start.ensures.index c.in_ok-start.ensures.left in
    lets_left A G J.after g.met.J.Judge.in_turn c.args.nodes c.args.size (length c.list-tuples.result.now) c.args.parts.now (map part_of c.list-tuples.result.now) (plans_of c.args.firsts.now) (plan_of c.args.rest.now) (mode_of s.mode) path c.walk_each.new.path.items
    q c.begin.new.entries.items c.deref-2.result.now c.in_ok-next.next.items s.result.now (map (λ v. v.items) c.results_of-told.result.now) (hints_of c.args.hints.now) (hints_of c.later.result.now) (hints_of c.in_ok-left.left.now) c.in_ok-start.start
    v (J.verdict c.begin.new.judge) _ b
    c.list-tuples.ensures.all (parts_length part_of c.list-tuples.result.now ∙ ap length c.list-tuples.ensures.all) c.deref-2.ensures.value c.results_of-told.ensures c.later.ensures c.in_ok-left.ensures.path c.in_ok-next.ensures
    c.in_ok-left.ensures.left c.in_ok-out.ensures.left

pub walk_part-walk_child-requires : goal.walk_part-walk_child-requires
walk_part-walk_child-requires g t c =
    let low : c.args.part.now.degree < length c.args.firsts.now = omega (arith, c.if-part-firsts.false) in
    let small = sizes_at c.args.firsts.now c.args.part.now.degree c.index-firsts-part.result low in
    let same = ap (λ x. size (plan_of x)) c.deref.ensures ∙ ap (λ x. size (plan_of x.value)) c.index-firsts-part.is in
    let less : 4 * size (plan_of c.deref.result.now) + 1 < t = omega (arith, small, same, c.decreases) in
    search (rules, less)

pub walk_part-returns-clause-heard : goal.walk_part-returns-clause-heard
walk_part-returns-clause-heard g t c = let A = g.T.Kind.kind in let J = g.J.Judge in let s = c.args.here.now in
    let low : c.args.part.now.degree < length c.args.firsts.now = omega (arith, c.if-part-firsts.false) in
    let heard = c.in_ok-out.ensures.heard
    ∙ ap (λ e. J.after (J.verdict c.args.judge.now) (walk A (known_of s.known.now) (plan_of e) (mode_of s.mode) (c.args.path.now.items ++ c.args.number ∷ []) c.in_ok-next.next.items s.result.now (hints_of c.args.hints.now)).found) c.deref.ensures in
    one_heard A (known_of s.known.now) J.after g.met.J.Judge.in_turn c.args.firsts.now (part_of c.args.part.now) c.index-firsts-part.result c.index-firsts-part.result c.args.number (mode_of s.mode) c.args.path.now.items
    c.args.q.now c.in_ok-next.next.items s.result.now (hints_of c.args.hints.now) (J.verdict c.args.judge.now) _ low c.index-firsts-part.is c.in_ok-next.ensures heard

pub walk_part-returns-clause-left : goal.walk_part-returns-clause-left
walk_part-returns-clause-left g t c = let A = g.T.Kind.kind in let J = g.J.Judge in let s = c.args.here.now in
    let low : c.args.part.now.degree < length c.args.firsts.now = omega (arith, c.if-part-firsts.false) in
    let left = c.in_ok-out.ensures.left
    ∙ ap (λ e. (walk A (known_of s.known.now) (plan_of e) (mode_of s.mode) (c.args.path.now.items ++ c.args.number ∷ []) c.in_ok-next.next.items s.result.now (hints_of c.args.hints.now)).left) c.deref.ensures in
    one_left A (known_of s.known.now) J.after g.met.J.Judge.in_turn c.args.firsts.now (part_of c.args.part.now) c.index-firsts-part.result c.index-firsts-part.result c.args.number (mode_of s.mode) c.args.path.now.items
    c.args.q.now c.in_ok-next.next.items s.result.now (hints_of c.args.hints.now) _ low c.index-firsts-part.is c.in_ok-next.ensures left

pub walk_part-returns-then-part-firsts-clause-heard : goal.walk_part-returns-then-part-firsts-clause-heard
walk_part-returns-then-part-firsts-clause-heard g t c = let A = g.T.Kind.kind in let J = g.J.Judge in let s = c.args.here.now in
    let high : length c.args.firsts.now ≤ c.args.part.now.degree = omega (arith, c.if-part-firsts.true) in
    none_heard A (known_of s.known.now) J.after g.met.J.Judge.in_turn c.args.firsts.now (part_of c.args.part.now) c.args.number (mode_of s.mode) c.args.path.now.items c.args.q.now s.result.now (hints_of c.args.hints.now) (J.verdict c.args.judge.now)
    (g.met.J.Judge.silent (J.verdict c.args.judge.now)) high

pub walk_part-returns-then-part-firsts-clause-left : goal.walk_part-returns-then-part-firsts-clause-left
walk_part-returns-then-part-firsts-clause-left g t c = let A = g.T.Kind.kind in let J = g.J.Judge in let s = c.args.here.now in
    let high : length c.args.firsts.now ≤ c.args.part.now.degree = omega (arith, c.if-part-firsts.true) in
    none_left A (known_of s.known.now) J.after g.met.J.Judge.in_turn c.args.firsts.now (part_of c.args.part.now) c.args.number (mode_of s.mode) c.args.path.now.items c.args.q.now s.result.now (hints_of c.args.hints.now) high

pub walk_each-loop-number-preserved : goal.walk_each-loop-number-preserved
walk_each-loop-number-preserved g t c = let A = g.T.Kind.kind in let J = g.J.Judge in let s = c.args.here.now in let G = known_of s.known.now in
    let k = c.loop-number.number in let part = c.index-parts-number.result in
    let below : k < length c.args.parts.now = search rules in
    let ps' = map part_of (drop (k + 1) c.args.parts.now) in
    let items = map (λ v. v.items) c.args.told.now in
    let ws = walks A G (plans_of c.args.firsts.now) in
    let a : map part_of (drop k c.args.parts.now) ≡ part_of part ∷ ps' = drop_at part_of c.args.parts.now k part below ∙ ap (λ x. part_of x ∷ ps') (sym c.index-parts-number.is) in
    record {
      mode = past_is k (mode_of s.mode);
      path = c.in_ok-rest.ensures.path ∙ c.loop-number.invariant.path;
      heard = each_heard A G J.after g.met.J.Judge.in_turn ws k (map part_of (drop k c.args.parts.now)) ps' (part_of part) items c.args.q.now c.entries_at.result.now (mode_of s.mode) (mode_of c.loop-number.mode)
          c.args.path.now.items c.loop-number.path.items (hints_of c.loop-number.rest.now) (hints_of c.in_ok-rest.rest.now) (J.verdict c.loop-number.judge) (J.verdict c.walk_part.new.judge)
          a c.loop-number.invariant.mode c.entries_at.ensures c.loop-number.invariant.path c.in_ok-rest.ensures.heard c.in_ok-rest.ensures.left ∙ c.loop-number.invariant.heard;
      left = each_left A G J.after g.met.J.Judge.in_turn ws k (map part_of (drop k c.args.parts.now)) ps' (part_of part) items c.args.q.now c.entries_at.result.now (mode_of s.mode) (mode_of c.loop-number.mode)
          c.args.path.now.items c.loop-number.path.items (hints_of c.loop-number.rest.now) (hints_of c.in_ok-rest.rest.now)
          a c.loop-number.invariant.mode c.entries_at.ensures c.loop-number.invariant.path c.in_ok-rest.ensures.left ∙ c.loop-number.invariant.left;
    }

pub walk-returns-in-Lets-clause-heard : goal.walk-returns-in-Lets-clause-heard
walk-returns-in-Lets-clause-heard g t c =
    let same = ap plan_of c.in-Lets.is ∙ of_lets _ _ c.in-Lets.parts c.in-Lets.firsts c.in-Lets.rest in
    search (rules, same)

pub walk-returns-in-Lets-clause-left : goal.walk-returns-in-Lets-clause-left
walk-returns-in-Lets-clause-left g t c =
    let same = ap plan_of c.in-Lets.is ∙ of_lets _ _ c.in-Lets.parts c.in-Lets.firsts c.in-Lets.rest in
    search (rules, same)

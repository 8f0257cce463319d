use Rattle.std.proofs.Common.{◌≡◌, ◌∷◌, [], sym, subst}
use Rattle.std.specs.Prelude.{IfOk, OnOk}
use Rattle.rules_spec.specs.Walk.{Walk, group_sides}
use Rattle.rules_walk.specs.Read.{plan_of, hints_of, known_of, mode_of}
use Rattle.rules_walk.specs.Filled.{table_of, uses_of}
use Rattle.rules_walk.proofs.Filling.{alike}
use Rattle.rules_plan.proofs.body.Body.walk.Goals as goal

pub returns-clause-heard : goal.returns-clause-heard
returns-clause-heard g c =
    let A = g.T.Kind.kind in
    let J = g.J.Judge in
    let a = c.args in
    let b = a.self.now in
    let G = known_of a.known.now in
    let s = group_sides A G a.place in
    subst (λ (W : Walk g.row.T.Denot). OnOk c.walk_body.result (J.verdict c.walk_body.new.judge
    ≡ J.after (J.verdict a.judge.now) (W (mode_of a.mode) (a.place ∷ []) s.args s.result (hints_of a.hints.now)).found))
    (sym (alike A G (uses_of (table_of b.uses.now)) b.budget (plan_of b.plan.now))) c.walk_body.ensures.heard

pub returns-clause-left : goal.returns-clause-left
returns-clause-left g c =
    let A = g.T.Kind.kind in
    let a = c.args in
    let b = a.self.now in
    let G = known_of a.known.now in
    let s = group_sides A G a.place in
    subst (λ (W : Walk g.row.T.Denot). IfOk c.walk_body.result (λ out. hints_of out.now ≡ (W (mode_of a.mode) (a.place ∷ []) s.args s.result (hints_of a.hints.now)).left))
    (sym (alike A G (uses_of (table_of b.uses.now)) b.budget (plan_of b.plan.now))) c.walk_body.ensures.left

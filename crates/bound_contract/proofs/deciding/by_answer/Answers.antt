use Rattle.std.proofs.Common.{rules, ◌∙◌, ap, sym, to_z, FitsSigned, subst}
use Rattle.std.specs.Int.{w128}
use Rattle.std.proofs.lemmas.Bool.{eqb-true}
use Rattle.std.proofs.lemmas.Int.{to_z-of_z}
use Rattle.simplex_spec.specs.Courses.{rule_by}
use Rattle.simplex_checked.specs.Alone.{IsAlone}
use Rattle.bound_contract.specs.Sites.{system_at, AreBefore}
use Rattle.bound_contract.proofs.Refuting.{not_kept_here, vector_clear}
use Rattle.bound_contract.proofs.deciding.by_answer.Goals as goal

pub returns-in-Vector-clause-decided : goal.returns-in-Vector-clause-decided
returns-in-Vector-clause-decided g c =
    let site = c.args.site.now in
    let one = c.requires.one in
    let v = subst (IsAlone (rule_by one.pick) (system_at site)) c.in-Vector.is (c.requires.answer one.pick one.answers) in
    not_kept_here site c.requires.site c.tried_have_tasks.ensures one.pick v.0 v.2 c.readings_decide.ensures c.in-Vector.numbers.items v.1

pub returns-in-Vector-clause-clear : goal.returns-in-Vector-clause-clear
returns-in-Vector-clause-clear g c = λ pick by.
    let site = c.args.site.now in
    let v = subst (IsAlone (rule_by pick) (system_at site)) c.in-Vector.is (c.requires.answer pick by) in
    vector_clear site c.requires.site c.tried_have_tasks.ensures pick v.0 v.2 c.fine_is_clear.ensures (c.requires.fine pick)

pub returns-in-Ok-clause-serve : goal.returns-in-Ok-clause-serve
returns-in-Ok-clause-serve g c = λ e.
    subst (AreBefore c.args.site.now) (sym (c.kept.ensures.once (ap (to_z w128) (eqb-true _ _ e)))) c.requires.before

pub returns-in-Ok-clause-clear : goal.returns-in-Ok-clause-clear
returns-in-Ok-clause-clear g c = λ pick by.
    let site = c.args.site.now in
    let a = subst (IsAlone (rule_by pick) (system_at site)) c.in-Solution.is (c.requires.answer pick by) in
    let fits : FitsSigned w128 c.in-Solution.denominator = search rules in
    c.in-Ok.ensures.clear pick a.0 a.1 (to_z-of_z w128 _ fits ∙ a.2) (c.deref.ensures.value ∙ a.3) a.4

pub returns-clause-first : goal.returns-clause-first
returns-clause-first g c = λ pick by.
    let site = c.args.site.now in
    let a = subst (IsAlone (rule_by pick) (system_at site)) c.in-Solution.is (c.requires.answer pick by) in
    let fits : FitsSigned w128 c.in-Solution.denominator = search rules in
    c.in-Err.ensures.first pick a.0 a.1 (to_z-of_z w128 _ fits ∙ a.2) (c.deref.ensures.value ∙ a.3) a.4

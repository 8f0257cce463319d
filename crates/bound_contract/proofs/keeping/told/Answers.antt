use Rattle.std.proofs.Common.{◌≡◌, sym, ap, ◌∙◌, map}
use Rattle.cost_free.specs.Read.{task_of}
use Rattle.annot_types.specs.Read.{sig_of, hints_of}
use Rattle.rules_spec.specs.Told.{bodies_of}
use Rattle.rules_plan.specs.Read.{body_of}
use Rattle.constraint_gen.specs.Given.{unknowns_of}
use Rattle.bound_contract.specs.Sites.{program_at, certificate_at, before_at, task_at}
use Rattle.bound_contract.proofs.Telling.{told_here}
use Rattle.bound_contract.proofs.keeping.told.Goals as goal

pub told_by-requires-clause-one_each : goal.told_by-requires-clause-one_each
told_by-requires-clause-one_each c =
    let site = c.args.site.now in
    let P = program_at site in
    let d = (certificate_at site).degree in
    let are : map body_of c.deref.result.now ≡ bodies_of P d (before_at site) (task_at site) =
    ap (map body_of) c.deref.ensures.value ∙ c.in_ok-bodies.ensures P site.group d (before_at site) c.requires.plans c.requires.before.usable in
    c.requires.one_each ∙ ap unknowns_of (sym are)

pub returns : goal.returns
returns c = λ x e.
    let site = c.args.site.now in
    let P = program_at site in
    let d = (certificate_at site).degree in
    let are : map body_of c.deref.result.now ≡ bodies_of P d (before_at site) (task_at site) =
    ap (map body_of) c.deref.ensures.value ∙ c.in_ok-bodies.ensures P site.group d (before_at site) c.requires.plans c.requires.before.usable in
    told_here site x c.args.numbers.now e (map body_of c.deref.result.now) are (task_of c.task.result) c.task.ensures
    (map sig_of c.in_ok-sigs.sigs.items) (map hints_of c.in_ok-sigs.hints.items) c.in_ok-sigs.ensures.sigs c.in_ok-sigs.ensures.hints

use Rattle.std.proofs.Common.{sym, ◌∙◌}
use Rattle.raml_syntax.specs.Read.{ty_of}
use Rattle.annot_types.specs.Certificate.{annotation}
use Rattle.cert_check.proofs.Telling.{at_none, at_some}
use Rattle.cert_check.proofs.Covered.{reached, missed, not_there}
use Rattle.cert_check.proofs.reached.listed_missing.Goals as goal

pub returns-in-None-clause-missed : goal.returns-in-None-clause-missed
returns-in-None-clause-missed c = not_there (ty_of c.args.ty.now) c.args.at.now.degree c.args.budget c.args.number (annotation c.args.annot.now)
    (at_none c.in_ok-aim_at.field-0 _ c.in-None.is c.in_ok-aim_at.ensures.none)

pub returns-then-covers-clause-reached : goal.returns-then-covers-clause-reached
returns-then-covers-clause-reached c =
    let aim = c.in-Some.aim in
    reached (ty_of c.args.ty.now) c.args.at.now.degree c.args.budget c.args.number (annotation c.args.annot.now) aim.target aim.tuples.items
    (at_some c.in_ok-aim_at.field-0 aim _ c.in-Some.is c.in_ok-aim_at.ensures.there)
    (at_some c.in_ok-aim_at.field-0 aim _ c.in-Some.is c.in_ok-aim_at.ensures.tuples) (sym c.covers.ensures ∙ c.if-covers.true)

pub returns-clause-missed : goal.returns-clause-missed
returns-clause-missed c =
    let aim = c.in-Some.aim in
    missed (ty_of c.args.ty.now) c.args.at.now.degree c.args.budget c.args.number (annotation c.args.annot.now) aim.target aim.tuples.items
    c.first_missing.result
    (at_some c.in_ok-aim_at.field-0 aim _ c.in-Some.is c.in_ok-aim_at.ensures.there)
    (at_some c.in_ok-aim_at.field-0 aim _ c.in-Some.is c.in_ok-aim_at.ensures.tuples) (sym c.covers.ensures ∙ c.if-covers.false) c.first_missing.ensures

use Rattle.raml_syntax.specs.Read.{ty_of}
use Rattle.annot_types.specs.Certificate.{annotation}
use Rattle.cert_check.proofs.Units.{unit_told}
use Rattle.cert_check.proofs.reached.missing.Goals as goal

pub returns-clause-reached : goal.returns-clause-reached
returns-clause-reached c =
    (unit_told (ty_of c.args.ty.now) c.args.at.now.degree c.args.budget c.args.number (annotation c.args.annot.now) c.in_ok-is_unit.is_unit c.in_ok-is_position.is_position
    c.unit_missing.result c.in_ok-is_unit.ensures c.if-not-is_unit.false c.in_ok-is_position.ensures c.unit_missing.ensures).0

pub returns-clause-missed : goal.returns-clause-missed
returns-clause-missed c =
    (unit_told (ty_of c.args.ty.now) c.args.at.now.degree c.args.budget c.args.number (annotation c.args.annot.now) c.in_ok-is_unit.is_unit c.in_ok-is_position.is_position
    c.unit_missing.result c.in_ok-is_unit.ensures c.if-not-is_unit.false c.in_ok-is_position.ensures c.unit_missing.ensures).1

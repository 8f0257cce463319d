use Rattle.std.proofs.Common.{◌≡◌, Err}
use Rattle.bound_file.proofs.Terms.{number_refused}
use Rattle.bound_file.proofs.number.number.Goals as goal

pub returns-in-Err-clause-number : goal.returns-in-Err-clause-number
returns-in-Err-clause-number c =
    let is : c.parse.result ≡ Err c.in-Err.field-0 = cc (c.in-Err.is) in
    number_refused c.args.digits.now c.parse.result c.in-Err.field-0 is c.requires c.parse.ensures.value.0

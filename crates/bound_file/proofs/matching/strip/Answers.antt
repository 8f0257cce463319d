use Rattle.std.proofs.Common.{◌≡◌, Some}
use Rattle.bound_file.proofs.Stripped.{strip_from}
use Rattle.bound_file.proofs.matching.strip.Goals as goal

pub returns-in-Some : goal.returns-in-Some
returns-in-Some c =
    let is : c.args.text ≡ Some c.in-Some.text = cc (c.in-Some.is) in
    strip_from c.args.text c.in-Some.text c.args.word.now c.strip_prefix.result is c.strip_prefix.ensures.cases

use Rattle.std.proofs.Common.{arith}
use Rattle.std.proofs.lemmas.Grind.{common_steps}
use Rattle.base_poly.specs.Read.{plains_of}
use Rattle.poly_text.proofs.Ordered.{bracketed}
use Rattle.poly_text.proofs.text.+index.Goals as goal

pub write_list-returns : goal.write_list-returns
write_list-returns t c = let whole = bracketed (plains_of c.args.entries.now) in grind (arith, common_steps, whole)

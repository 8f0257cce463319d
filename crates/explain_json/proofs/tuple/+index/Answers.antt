use Rattle.std.proofs.Common.{arith}
use Rattle.std.proofs.lemmas.Grind.{common_steps}
use Rattle.base_poly.specs.Read.{plains_of}
use Rattle.poly_text.proofs.Ordered.{bracketed}
use Rattle.explain_json.proofs.tuple.+index.Goals as goal

pub push_list-returns : goal.push_list-returns
push_list-returns t c = let whole = bracketed (plains_of c.args.entries.now) in grind (arith, common_steps, whole)

use Rattle.std.proofs.lemmas.Grind.{common_steps}
use Rattle.std.proofs.Common.{arith}
use Rattle.base_poly.specs.Read.{context_of}
use Rattle.base_poly.proofs.Graded.{as_many}
use Rattle.base_poly.proofs.how_many.positions.Goals as goal

pub returns-in-Some-clause-exact : goal.returns-in-Some-clause-exact
returns-in-Some-clause-exact c = let same = as_many (context_of c.args.types.now) c.args.d in grind (arith, common_steps, same)

pub returns-in-Some-clause-few : goal.returns-in-Some-clause-few
returns-in-Some-clause-few c = let same = as_many (context_of c.args.types.now) c.args.d in grind (arith, common_steps, same)

pub returns-in-Some-clause-many : goal.returns-in-Some-clause-many
returns-in-Some-clause-many c = let same = as_many (context_of c.args.types.now) c.args.d in grind (arith, common_steps, same)

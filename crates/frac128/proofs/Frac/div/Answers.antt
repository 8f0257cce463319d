use Rattle.frac128.proofs.Quotients.{told}
use Rattle.frac128.proofs.Frac.div.Goals as goal

pub returns-else-is_one : goal.returns-else-is_one
returns-else-is_one c = told c.args.self.now c.args.other.now c.reciprocal.result c.mul.result c.requires c.reciprocal.ensures c.mul.ensures

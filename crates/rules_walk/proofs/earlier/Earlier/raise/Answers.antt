use Rattle.rules_walk.proofs.Rising.{risen, risen_known}
use Rattle.rules_walk.proofs.earlier.Earlier.raise.Goals as goal

pub returns-clause-remembers : goal.returns-clause-remembers
returns-clause-remembers c = λ P d earlier low h. risen P d c.args.meter c.args.factor earlier c.args.self.now c.rise.new.self low c.rise.ensures h

pub returns-clause-knows : goal.returns-clause-knows
returns-clause-knows c = λ P d earlier h. risen_known P d c.args.meter c.args.factor earlier c.args.self.now c.rise.new.self c.rise.ensures h

use Rattle.simplex.specs.Solving.{rule_of}
use Rattle.simplex.proofs.Agreement.{answers_agree}
use Rattle.simplex.proofs.solver.agree.Goals as goal

pub returns-clause-agree : goal.returns-clause-agree
returns-clause-agree g c = answers_agree (rule_of g.F.Fn c.args.first.now) (rule_of g.G.Fn c.args.second.now) c.args.system.now c.in_ok-one.one c.in_ok-other.other c.in_ok-one.ensures.answer c.in_ok-other.ensures.answer

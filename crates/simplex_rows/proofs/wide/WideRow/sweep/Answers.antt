use Rattle.std.proofs.Common.{◌≡◌, sym, ◌∙◌, arith, pos}
use Rattle.simplex_rows.proofs.Sweeping.{stays, swept_where_made, left_by}
use Rattle.simplex_rows.proofs.wide.WideRow.sweep.Goals as goal

pub returns-then-num-eq0-clause-swept : goal.returns-then-num-eq0-clause-swept
returns-then-num-eq0-clause-swept c =
    let z : c.at-times.result.num ≡ pos 0 = grind (arith, c.num.ensures, c.if-num-eq0.true) in
    stays c.args.column c.args.lead.now c.args.self.now (sym c.at-times.ensures.num ∙ z)

pub returns-clause-swept : goal.returns-clause-swept
returns-clause-swept c = swept_where_made c.args.column c.args.lead.now c.args.self.now c.subtract.new.self c.at-times.result c.subtract.result c.at-times.ensures.num c.at-times.ensures.den c.subtract.ensures.each

pub returns-clause-leaves : goal.returns-clause-leaves
returns-clause-leaves c k e = left_by c.args.column k c.args.lead.now c.args.self.now c.at-times.result c.at-times.ensures.num c.at-times.ensures.den (c.subtract.ensures.leaves k e)

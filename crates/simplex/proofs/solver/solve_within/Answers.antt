use Rattle.std.proofs.Common.{◌≡◌, ap, ◌∙◌, Err}
use Rattle.simplex.specs.declared.fault.Fault.{Fault}
use Rattle.simplex.specs.declared.answer.Answer.TheVariants.{Leaves}
use Rattle.simplex.specs.Solving.{rule_of}
use Rattle.simplex.proofs.Limits.{none_within, never_cut, opening_not_cut, not_none_at_opening, says_not}
use Rattle.simplex.proofs.solver.solve_within.Goals as goal

pub returns-in-Ok-clause-none : goal.returns-in-Ok-clause-none
returns-in-Ok-clause-none g c a e once = none_within (rule_of g.F.Fn c.args.chooser.now) c.args.system.now c.args.most c.run.result a c.in-Ok.ensures.sound c.run.ensures.within e once

pub returns-in-Ok-clause-never : goal.returns-in-Ok-clause-never
returns-in-Ok-clause-never g c e = never_cut (rule_of g.F.Fn c.args.chooser.now) c.args.system.now c.args.most c.run.result e c.run.ensures.within

pub returns-in-Err-Leaves-clause-none : goal.returns-in-Err-Leaves-clause-none
returns-in-Err-Leaves-clause-none g c a e once =
    let least = c.opening.ensures.leaves c.in-Err-Leaves.row c.in-Err-Leaves.column (c.in-Err-Leaves.is ∙ ap (λ (fault : Fault). Err fault) c.in-Err-Leaves.field-0-is) in
    let same : Leaves c.new.result c.in-Err-Leaves.row c.in-Err-Leaves.column ≡ a = cc in
    not_none_at_opening (rule_of g.F.Fn c.args.chooser.now) c.args.system.now c.in-Err-Leaves.row c.in-Err-Leaves.column (Leaves c.new.result c.in-Err-Leaves.row c.in-Err-Leaves.column) a (λ none. none) same least

pub returns-in-Err-Leaves-clause-cut : goal.returns-in-Err-Leaves-clause-cut
returns-in-Err-Leaves-clause-cut g c once =
    let least = c.opening.ensures.leaves c.in-Err-Leaves.row c.in-Err-Leaves.column (c.in-Err-Leaves.is ∙ ap (λ (fault : Fault). Err fault) c.in-Err-Leaves.field-0-is) in
    says_not (rule_of g.F.Fn c.args.chooser.now) c.args.system.now c.args.most (opening_not_cut (rule_of g.F.Fn c.args.chooser.now) c.args.system.now c.in-Err-Leaves.row c.in-Err-Leaves.column c.args.most least)

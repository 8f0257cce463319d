use Rattle.std.proofs.Common.{◌∙◌, Some, map, ap}
use Rattle.constraint_gen.proofs.Finishing.{present_all, below_all}
use Rattle.constraint_gen.proofs.finish.whole.Goals as goal

pub new-requires-clause-below : goal.new-requires-clause-below
new-requires-clause-below c =
    below_all c.args.unknowns c.in_ok-all.all.items c.args.rows.items (ap (map Some) c.in_ok-all.ensures ∙ present_all c.args.rows.items c.requires.there) c.requires.below

pub returns-clause-made : goal.returns-clause-made
returns-clause-made c = ap (map Some) (c.new.ensures.rows ∙ c.in_ok-all.ensures) ∙ present_all c.args.rows.items c.requires.there

use Rattle.std.proofs.Common.{◌≡◌, ◌++◌, ◌∷◌, ◌∙◌, [], ap, rules}
use Rattle.constraint_gen.specs.Finished.{present}
use Rattle.constraint_gen.proofs.Finishing.{present_more}
use Rattle.constraint_gen.proofs.finish.present.Goals as goal

pub loop-row-preserved : goal.loop-row-preserved
loop-row-preserved c =
    let one : c.append.new.all.items ≡ c.loop-row.all.items ++ present (c.in-Some.row ∷ []) = search rules in
    one ∙ ap (λ l. l ++ present (c.in-Some.row ∷ [])) c.loop-row.invariant ∙ present_more c.loop-row.yielded c.in-Some.row

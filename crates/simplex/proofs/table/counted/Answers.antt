use Rattle.std.proofs.Common.{◌≡◌, ◌∙◌, ap, sym, subst, ◌++◌, ◌∷◌, [], List, ℕ, ◌+◌, arith}
use Rattle.simplex_spec.specs.Places.{counted}
use Rattle.simplex.proofs.Tables.{counted_more}
use Rattle.simplex.proofs.table.counted.Goals as goal

pub loop-i-preserved : goal.loop-i-preserved
loop-i-preserved c = c.in_ok-push.ensures.items ∙ ap (λ (xs : List ℕ). xs ++ (c.args.first + c.loop-i.i) ∷ []) c.loop-i.invariant ∙ sym (counted_more c.args.first c.loop-i.i)

pub returns : goal.returns
returns c = let e : c.loop-i.i ≡ c.args.count = omega arith in subst (λ (n : ℕ). c.loop-i.all.items ≡ counted c.args.first n) e c.loop-i.invariant

use Rattle.std.proofs.Common.{◌≡◌, ◌++◌, ◌∷◌, [], ap, sym, ◌∙◌, true, false, rules}
use Rattle.call_groups.specs.Read.{ids_of}
use Rattle.call_groups.specs.Sets.{has}
use Rattle.call_groups.proofs.Lists.{ids_push, below_in, below_out}
use Rattle.call_groups.proofs.function_set.FunctionSet.functions.Goals as goal
use Rattle.call_groups.proofs.function_set.FunctionSet.functions.Goals.{then-contains+in_ok-push, else-contains}

pub loop-fun-preserved : goal.loop-fun-preserved
loop-fun-preserved c =
    elim c.if-contains.branch [
      | then-contains+in_ok-push w ↦
          let yes : has c.args.self.now c.loop-fun.fun ≡ true = search rules in
          ap (λ v. ids_of v.items) w.funs-is ∙ ap ids_of w.in_ok-push.ensures.items ∙ ids_push c.loop-fun.funs.items _
          ∙ ap (λ xs. xs ++ c.loop-fun.fun ∷ []) c.loop-fun.invariant ∙ sym (below_in (has c.args.self.now) c.loop-fun.fun yes)
      | else-contains w ↦
          let no_ : has c.args.self.now c.loop-fun.fun ≡ false = search rules in
          ap (λ v. ids_of v.items) w.funs-is ∙ c.loop-fun.invariant ∙ sym (below_out (has c.args.self.now) c.loop-fun.fun no_)
    ]

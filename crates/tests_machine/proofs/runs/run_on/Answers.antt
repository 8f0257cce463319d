use Rattle.std.proofs.Common.{[], ◌∷◌, ◌∙◌, sym, ap, subst, arith}
use Rattle.std.specs.Int.{w64}
use Rattle.std.proofs.lemmas.Int.{to_z-of_z}
use Rattle.value_text.specs.declared.word.Word.TheVariants.{Int}
use Rattle.raml_syntax.specs.Tree.{Type'}
use Rattle.raml_syntax.specs.Value.{Number, HaveTypes}
use Rattle.raml_syntax.specs.Read.{function_of}
use Rattle.value_text.specs.Stands.{StandForAll}
use Rattle.tests_machine.proofs.Alone.{first_there}
use Rattle.tests_machine.proofs.runs.run_on.Goals as goal

pub run-requires-clause-arguments : goal.run-requires-clause-arguments
run-requires-clause-arguments c = record {
  function = function_of c.main-item.result;
  there = first_there _ _ c.as_slice.result.now _ (omega (arith, c.in-len1.len_at_least)) c.main-item.is c.as_slice.ensures.value c.program.ensures.program;
  values = Number c.args.x ∷ [];
  stand = subst (λ ws. StandForAll c.new.result.cells ws (Number c.args.x ∷ [])) (sym c.in_ok-args-in-len1.ensures.items) (ap Int (to_z-of_z w64 c.args.x c.ranges.x), tt);
  types = subst (HaveTypes (Number c.args.x ∷ [])) (sym (c.takes_one.ensures c.if-takes_one.true ∙ ap (λ (T : Type'). T ∷ []) c.int-int.ensures)) (c.ranges.x, tt);
}

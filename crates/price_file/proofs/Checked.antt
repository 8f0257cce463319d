-- A program in which prices are written out is typed, and as small as the program.
use Rattle.std.proofs.Common.{◌≡◌, ◌≤◌, ◌*◌, List, map, Result, Ok, Err, sym, ap, subst, ◌∙◌}
use Rattle.std.specs.Prelude.{IfOk}
use Rattle.raml_syntax.specs.Tree.{Prog}
use Rattle.raml_syntax.specs.Read.{function_of, program_of}
use Rattle.raml_syntax.specs.declared.program.Fun.{Fun}
use Rattle.raml_syntax.specs.declared.program.Program.{Program}
use Rattle.raml_syntax.specs.Types.{Typed}
use Rattle.raml_syntax.specs.Node.{WithinLimits, program_nodes}
use Rattle.simple_types.specs.Small.{IsSmall}
use Rattle.price_file.specs.Construct.{Prices}
use Rattle.price_file.specs.Listed.{AreSmall}
use Rattle.price_file.specs.Applied.{applied_function, applied_program}
use Rattle.price_file.proofs.Kept.{typed_kept, length_kept, params_kept, arguments_kept, keeps_programs}

pub typed_made : (prices : Prices) (P made : Prog) → made ≡ applied_program prices P → Typed P → Typed made
typed_made prices P made e h = subst Typed (sym e) (typed_kept prices P h)

pub small_made : (prices : Prices) (P made : Prog) → made ≡ applied_program prices P → IsSmall P → IsSmall made
small_made prices P made e h = subst IsSmall (sym e) (record {
  functions = subst (λ n. n ≤ 256) (sym (length_kept prices P)) h.functions;
  parameters = params_kept prices P h.parameters;
  arguments = arguments_kept prices P h.arguments;
})

pub limits_made : (prices : Prices) (P made : Prog) → made ≡ applied_program prices P → AreSmall prices → WithinLimits P → WithinLimits made
limits_made prices P made e small h = subst WithinLimits (sym e) ((keeps_programs prices P).limits small h)

pub nodes_made : (prices : Prices) (P made : Prog) → made ≡ applied_program prices P → program_nodes made ≤ 2 * program_nodes P
nodes_made prices P made e = subst (λ p. program_nodes p ≤ 2 * program_nodes P) (sym e) ((keeps_programs prices P).nodes)

-- of the functions that were made
pub made_is : (prices : Prices) (P Q : Program) (funs made : List Fun) → Q ≡ P → funs ≡ Q.funs.items → map function_of made ≡ map (applied_function prices) (map function_of funs) → map function_of made ≡ applied_program prices (program_of P)
made_is prices P Q funs made same lent e = e ∙ ap (λ fs. map (applied_function prices) (map function_of fs)) (lent ∙ ap (λ (R : Program). R.funs.items) same)

-- of an answer
pub limits_answered : {E : Type 0} (prices : Prices) (P made : Prog) (r : Result Program E) → AreSmall prices → made ≡ applied_program prices P → IfOk r (λ p. program_of p ≡ made) → IfOk r (λ p. WithinLimits P → WithinLimits (program_of p))
limits_answered prices P made (Ok p) small e k = limits_made prices P (program_of p) (k ∙ e) small
limits_answered prices P made (Err x) small e k = tt

pub nodes_answered : {E : Type 0} (prices : Prices) (P made : Prog) (r : Result Program E) → made ≡ applied_program prices P → IfOk r (λ p. program_of p ≡ made) → IfOk r (λ p. program_nodes (program_of p) ≤ 2 * program_nodes P)
nodes_answered prices P made (Ok p) e k = nodes_made prices P (program_of p) (k ∙ e)
nodes_answered prices P made (Err x) e k = tt

-- Normal forms keep runs, and use their contexts.
use Rattle.std.proofs.Common.{◌≡◌, ℕ, zero, suc, [], ◌∷◌, Some, refl, ap, subst, ◌∙◌, arith}
use Rattle.std.proofs.lemmas.List.Elements.{All-head, All-tail}
use Rattle.std.proofs.lemmas.Option.{slice_get-map}
use Rattle.std.specs.List.{All}
use Rattle.std.specs.Option.{option_map}
use Rattle.std.specs.Prelude.{slice_get}
use Rattle.raml_syntax.specs.Tree.{Function, Prog}
use Rattle.raml_syntax.specs.Node.{AllNodes, NumberFits}
use Rattle.raml_syntax.specs.Value.{Value}
use Rattle.raml_syntax.specs.Eval.{Run, names_of}
use Rattle.raml_syntax.specs.Types.{bind_types, Checks, Differ}
use Rattle.normal_spec.specs.Two.{norm_fun}
use Rattle.normal_spec.specs.Laws.{Ahead, RunsAlike, NormalFormsKeep}
use Rattle.normal_spec.proofs.Runs.{runs_ahead}
use Rattle.normal_spec.proofs.FunctionUses.{function_normal, numbered_types}

all_at : (Q : Function → Type 0) (P : Prog) (k : ℕ) (g : Function) → All Q P → slice_get P k ≡ Some g → Q g
all_at Q [] k g all e = absurd (cc)
all_at Q (d ∷ P) zero g all e = let same : d ≡ g = cc in subst Q same (All-head Q d P all)
all_at Q (d ∷ P) (suc k) g all e = all_at Q P k g (All-tail Q d P all) e

alike : (r s : Run Value) → Ahead 0 r s → RunsAlike r s
alike r s h = record { out = h.out; ticks = h.ticks; cells = h.cells; work_at_least = omega (arith, h.at_least); same_work = λ v e. omega (arith, h.same v e) }

pub normal_forms_keep : NormalFormsKeep
normal_forms_keep P typed fit k g e = record {
  there = slice_get-map (norm_fun P) P k ∙ ap (option_map (norm_fun P)) e;
  runs = λ args m. alike _ _ (runs_ahead P (λ i f q. all_at (λ f. Differ (names_of f)) P i f typed.parameters q) k m g args e);
  normal =
      function_normal P g (all_at (λ (f : Function). AllNodes NumberFits f.body) P k g fit e)
      (all_at (λ (f : Function). Checks P (bind_types [] f.params) f.body f.result) P k g typed.bodies e);
  params = numbered_types g.params 1;
  result = refl;
}

-- The analysis of a program, by the systems of its tasks.
use Rattle.std.specs.Prelude.{ℕ, ℤ, nat_le, Bool, true, ◌&&◌, ◌-◌, List, [], ◌∷◌, ◌++◌, slice_get, Option, None, Some}
use Rattle.std.specs.List.{list_all}
use Rattle.raml_syntax.specs.Tree.{Type'}
use Rattle.base_poly.specs.Plain.{degrees}
use Rattle.normal_spec.specs.Norm as n
use Rattle.normal_spec.specs.Norm.{Norm, NormFun}
use Rattle.normal_spec.specs.Context.{Context, types, without, opened, parts_of, copies_of, inners, others}
use Rattle.annot_types.specs.Carried.{tuples}
use Rattle.annot_types.specs.Rows.{size as size_of}
use Rattle.annot_types.specs.Program.{Program, members}
use Rattle.annot_types.specs.Holds.{budget_of}
use Rattle.rules_spec.specs.Told.{bodies_of, sigs_told, hints_told}
use Rattle.infer_spec.specs.Generator.{Generator, Analysis, most_allowed}

-- whether the context and the type have few enough indices at the budget
abbrev pub are_small : Context → Type' → ℕ → Bool
are_small C T d = nat_le (size_of (types C) d) most_allowed && nat_le (size_of (T ∷ []) d) most_allowed

-- whether all contexts and types that a walk through a form comes to have
abbrev pub is_within : Norm → Context → Type' → ℕ → Bool
is_within (n.Let k x A a b) C T d = are_small C T d
    && list_all (λ j. is_within a (inners a C) A (d - degrees j)) (tuples (others a C) d)
    && is_within b (others a C ++ (x, A) ∷ []) T d
is_within (n.Split k x y z a) C T d = are_small C T d && is_within a (opened x (y ∷ z ∷ []) parts_of C) T d
is_within (n.If k x a b) C T d = are_small C T d && is_within a (without x C) T d && is_within b (without x C) T d
is_within (n.CaseList k x a h t b) C T d =
    are_small C T d && is_within a (without x C) T d && is_within b (opened x (h ∷ t ∷ []) parts_of C) T d
is_within (n.CaseTree k x a e y z b) C T d =
    are_small C T d && is_within a (without x C) T d && is_within b (opened x (e ∷ y ∷ z ∷ []) parts_of C) T d
is_within (n.CaseOption k x a y b) C T d =
    are_small C T d && is_within a (without x C) T d && is_within b (opened x (y ∷ []) parts_of C) T d
is_within (n.Tick k i a) C T d = are_small C T d && is_within a C T d
is_within (n.Share k x y z a) C T d = are_small C T d && is_within a (opened x (y ∷ z ∷ []) copies_of C) T d
is_within (n.Drop k x a) C T d = are_small C T d && is_within a (without x C) T d
is_within e C T d = are_small C T d

abbrev pub function_is_within : Option NormFun → ℕ → Bool
function_is_within None budget = true
function_is_within (Some g) budget = is_within g.body g.params g.result budget

-- What numbers for the unknowns of a task stand for, and whether the walks through its group's bodies are small enough.
abbrev pub generator_of : Program → ℕ → Generator
generator_of P d = record {
  sigs = λ earlier task x. sigs_told (bodies_of P d earlier task) x;
  hints = λ earlier task x. hints_told (bodies_of P d earlier task) x;
  within = λ task. list_all (λ f. function_is_within (slice_get P.funs f) (budget_of d task.kind)) (members P task.group);
}

-- A program is analysed at degree d for ticks, cells and work, and columns enter by a rule.
abbrev pub analysis_of : Program → ℕ → (List ℤ → ℤ → Option ℕ) → Analysis
analysis_of P d pick = record { program = P; degree = d; work = true; generator = generator_of P d; pick = pick }

-- The systems of a program's tasks are what courses ask for.
use Rattle.std.specs.Prelude.{ℕ, ℤ, List, slice_get, Option, IsTrue, ◌↔◌}
use Rattle.std.specs.List.{All}
use Rattle.raml_syntax.specs.Tree.{Function, Prog}
use Rattle.raml_syntax.specs.Types.{Typed}
use Rattle.raml_syntax.specs.Node.{AllNodes, NumberFits}
use Rattle.call_groups.specs.Groups.{Grouping, IsGrouping}
use Rattle.cost_free.specs.Task.{Task}
use Rattle.annot_types.specs.Program.{Program, members}
use Rattle.annot_types.specs.Holds.{budget_of}
use Rattle.rules_plan.specs.Within.{FunctionWithin}
use Rattle.rules_soundness_laws.specs.Laws.{normal_of}
use Rattle.cert_check.specs.Laws.{IsProper}
use Rattle.infer_spec.specs.Generator.{Generates}
use Rattle.infer_systems_laws.specs.Tried.{IsOrdered}
use Rattle.infer_systems_laws.specs.Analysed.{generator_of, analysis_of}

-- The system of a task that is tried is solved by what holds, and by nothing else.
abbrev pub SystemsGenerate : Type 0
SystemsGenerate = (P : Program) → IsOrdered P → (d : ℕ) (pick : List ℤ → ℤ → Option ℕ) → Generates (analysis_of P d pick)

-- Whether its walks are small enough is told as the limits say.
abbrev pub LimitsAreTold : Type 0
LimitsAreTold =
    (P : Program) (d : ℕ) (task : Task) →
    IsTrue ((generator_of P d).within task) ↔ All
    (λ f. FunctionWithin 2000 (slice_get P.funs f) (budget_of d task.kind)) (members P task.group)

-- The normal form of a typed program, with its groups, is ordered.
abbrev pub NormalsAreOrdered : Type 0
NormalsAreOrdered =
    (P : Prog) → Typed P → All (λ (g : Function). AllNodes NumberFits g.body) P →
    (groups : Grouping) → IsGrouping P groups →
    IsOrdered (normal_of P groups.list)

-- What is ordered is proper.
abbrev pub OrderedAreProper : Type 0
OrderedAreProper = (P : Program) → IsOrdered P → IsProper P

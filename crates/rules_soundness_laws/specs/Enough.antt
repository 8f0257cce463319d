-- What potential has to be enough for.
use Rattle.std.specs.Prelude.{◌≤◌, ℕ, ◌+◌, ◌*◌, List, [], ◌∷◌, map, Option, Some, None}
use Rattle.raml_syntax.specs.Tree.{Type'}
use Rattle.raml_syntax.specs.Value.{Value, HaveTypes}
use Rattle.raml_syntax.specs.Eval.{Run}
use Rattle.index_shift.specs.Potential.{Annotation, potential}
use Rattle.normal_spec.specs.Context.{Context, types, Distinct}
use Rattle.normal_spec.specs.Run.{NormEnv, value_at}
use Rattle.cost_free.specs.declared.task.Meter.{Meter}
use Rattle.cost_free.specs.declared.task.Meter.TheVariants.{Ticks, Cells, Work}
use Rattle.annot_types.specs.Rules.{Mode, With, Own, Past}

-- what a run costs on a meter
abbrev pub cost : Meter → Run Value → ℕ
cost Ticks r = r.ticks
cost Cells r = r.cells
cost Work r = r.work

-- what a run owes: its cost times the scale in a mode with a meter, and nothing in the other two modes
abbrev pub owed : ℕ → Mode → Run Value → ℕ
owed scale (With meter) r = scale * cost meter r
owed scale Own r = 0
owed scale Past r = 0

-- the potential of an outcome: that of its value, and none where the run was cut
abbrev pub remaining : Type' → ℕ → Annotation → Option Value → ℕ
remaining T d r None = 0
remaining T d r (Some v) = potential (T ∷ []) d r (v ∷ [])

-- the values of a context's variables, in its order
abbrev pub values : NormEnv → Context → List Value
values env C = map (λ (b : ℕ × Type'). value_at b.0 env) C

-- The context's variables differ, and the environment gives them values of their types.
pub record IsTyped (C : Context) (env : NormEnv) : Type 0 where
  pub distinct : Distinct C
  pub typed : HaveTypes (values env C) (types C)

-- The potential of the context is at least what the run owes and the potential of its outcome.
abbrev pub Enough : ℕ → Mode → ℕ → Context → NormEnv → Annotation → Type' → Annotation → Run Value → Type 0
Enough scale mode d C env q T r run = owed scale mode run + remaining T d r run.out ≤ potential (types C) d q (values env C)

-- What normal forms keep.
use Rattle.std.specs.Prelude.{◌≡◌, ◌≤◌, ◌+◌, ℕ, List, Some, slice_get}
use Rattle.raml_syntax.specs.Tree.{Function, Prog}
use Rattle.raml_syntax.specs.Value.{Value, Has, HaveTypes}
use Rattle.raml_syntax.specs.Eval.{Run, run_of}
use Rattle.raml_syntax.specs.Types as ty
use Rattle.raml_syntax.specs.Types.{Typed}
use Rattle.raml_syntax.specs.Node.{AllNodes, NumberFits}
use Rattle.std.specs.List.{All}
use Rattle.normal_spec.specs.Norm.{NormFun, NormProg}
use Rattle.normal_spec.specs.Run.{run_norm}
use Rattle.normal_spec.specs.Two.{norm_fun, norm}
use Rattle.normal_spec.specs.Uses.{types_of, IsNormal}

-- Of an evaluation and that of a normal form which has so much work paid before: they give the same, at the same ticks and cells. The
-- normal form's work is no less, and it is the same where there is a value.
pub record Ahead {A : Type 0} (paid : ℕ) (r s : Run A) : Type 0 where
  pub out : s.out ≡ r.out
  pub ticks : s.ticks ≡ r.ticks
  pub cells : s.cells ≡ r.cells
  pub at_least : r.work ≤ paid + s.work
  pub same : (v : A) → r.out ≡ Some v → r.work ≡ paid + s.work

-- a run of the source, and that of the normal form
pub record RunsAlike (r s : Run Value) : Type 0 where
  pub out : s.out ≡ r.out
  pub ticks : s.ticks ≡ r.ticks
  pub cells : s.cells ≡ r.cells
  pub work_at_least : r.work ≤ s.work
  pub same_work : (v : Value) → r.out ≡ Some v → s.work ≡ r.work

-- the normal form of the function at a place
pub record IsNormalForm (P : Prog) (k : ℕ) (g : Function) (h : NormFun) : Type 0 where
  pub there : slice_get (norm P) k ≡ Some h
  pub runs : (args : List Value) (m : ℕ) → RunsAlike (run_of P g args m) (run_norm (norm P) h args m)
  pub normal : IsNormal (norm P) h
  pub params : types_of h ≡ ty.types_of g
  pub result : h.result ≡ g.result

abbrev pub NormalFormsKeep : Type 0
NormalFormsKeep =
    (P : Prog) → Typed P → All (λ (g : Function). AllNodes NumberFits g.body) P → (k : ℕ) (g : Function) →
    slice_get P k ≡ Some g → IsNormalForm P k g (norm_fun P g)

-- Where a function runs in normal form on arguments of its types, a value has its result type.
abbrev pub NormalRunsKeepTypes : Type 0
NormalRunsKeepTypes =
    (N : NormProg) → All (IsNormal N) N → (g : NormFun) → IsNormal N g → (args : List Value) (m : ℕ) (v : Value) →
    HaveTypes args (types_of g) → (run_norm N g args m).out ≡ Some v → Has v g.result

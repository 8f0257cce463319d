-- What a program in normal form is seen as.
use Rattle.std.specs.Prelude.{◌≡◌, ℕ, List, length, Some, slice_get}
use Rattle.std.specs.List.{All}
use Rattle.raml_syntax.specs.Tree.{Function, Prog}
use Rattle.raml_syntax.specs.Types as types
use Rattle.raml_syntax.specs.Node.{AllNodes, NumberFits}
use Rattle.raml_syntax.specs.Read.{program_of}
use Rattle.raml_syntax.specs.declared.program.Program.{Program}
use Rattle.raml_syntax.specs.declared.ty.Ty.{Ty}
use Rattle.normal_spec.specs.Norm.{NormProg}
use Rattle.normal_spec.specs.Two.{norm_fun, norm}
use Rattle.normal_spec.specs.Laws.{IsNormalForm}
use Rattle.normal_spec.specs.Read.{funs_of}
use Rattle.normal_spec.specs.declared.form.NormFun.{NormFun}
use Rattle.simple_types.specs.Small.{IsSmall}
use Rattle.call_groups.specs.Groups.{Grouping, IsGrouping}

-- the program that was typed, the groups of its functions, the types of their results and their normal forms
pub record Kept : Type 0 where
  pub source : Program
  pub groups : Grouping
  pub results : List Ty
  pub functions : List NormFun

abbrev pub source_in : Kept → Prog
source_in kept = program_of kept.source

abbrev pub norm_in : Kept → NormProg
norm_in kept = funs_of kept.results kept.functions

-- the program is typed and small, these are its groups, and this is its normal form
pub record IsKept (source : Program) (groups : Grouping) (results : List Ty) (functions : List NormFun) : Type 0 where
  pub typed : types.Typed (program_of source)
  pub small : IsSmall (program_of source)
  pub numbers : All (λ (g : Function). AllNodes NumberFits g.body) (program_of source)
  pub grouping : IsGrouping (program_of source) groups
  pub result_count : length results ≡ length (program_of source)
  pub function_count : length functions ≡ length (program_of source)
  pub norm : funs_of results functions ≡ norm (program_of source)

-- each function of the program has a normal form
abbrev pub NormalForms : Prog → Type 0
NormalForms P = (k : ℕ) (g : Function) → slice_get P k ≡ Some g → IsNormalForm P k g (norm_fun P g)

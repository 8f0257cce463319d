-- Functions that give the same values in two programs, on made arguments.
use Rattle.std.specs.Prelude.{◌≡◌, ℕ, List, Some, length, slice_get}
use Rattle.std.specs.List.{All}
use Rattle.raml_syntax.specs.Tree.{Text, Function, Prog}
use Rattle.raml_syntax.specs.Types.{types_of}
use Rattle.explain_made.specs.Made.{AreArguments}
use Rattle.explain_runs.specs.Agree.{AgreeOnAll}
use Rattle.explain_runs.specs.declared.outcome.Limits.{Limits}

-- how far each run may go
abbrev pub run_limits : Limits
run_limits = record { steps = 100000; cells = 100000 }

-- Fifty-one texts of arguments were made for the function at the place, and on each it ends with the same value in both programs, as far
-- as it ends in both.
pub record KeepsValue (P Q : Prog) (f : ℕ) : Type 0 where
  pub function : Function
  pub there : slice_get P f ≡ Some function
  pub texts : List Text
  pub count : length texts ≡ 51
  pub made : All (AreArguments (types_of function)) texts
  pub agree : AgreeOnAll P Q f run_limits texts

-- each of the functions does
abbrev pub KeepValues : Prog → Prog → List ℕ → Type 0
KeepValues P Q funs = All (KeepsValue P Q) funs

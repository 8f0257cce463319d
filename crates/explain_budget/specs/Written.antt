-- Lines that can be told.
use Rattle.std.specs.Prelude.{◌≡◌, ◌≤◌, ℕ, List, [], ◌∷◌, IfSome, slice_get, Some, Bool, true, false}
use Rattle.raml_syntax.specs.Tree.{Function, Prog}
use Rattle.raml_syntax.specs.Types.{types_of}
use Rattle.bound_file.specs.Lines.{Line, Declaration}
use Rattle.explain_verdicts.specs.Fractions.{ArePlaced}
use Rattle.explain_verdicts.specs.Written.{IsFound}
use Rattle.explain_verdicts.specs.declared.judged.Judged.{Judged}
use Rattle.explain_budget.specs.declared.end.BudgetEnd.{BudgetEnd}
use Rattle.explain_budget.specs.declared.end.BudgetEnd.TheVariants.{AllKept, Broken}

-- The line is of a function of the program, at positions of its parameters, and the bound that was found is over these.
pub record LineCanBeTold (P : Prog) (line : Line) (d : ℕ) (judged : Judged) : Type 0 where
  pub fun : Function
  pub there : slice_get P line.fun ≡ Some fun
  pub placed : ArePlaced (types_of fun) d line.bound
  pub found : IfSome judged.found (IsFound (types_of fun))

abbrev pub LinesCanBeTold : Prog → ℕ → List Line → List Judged → Type 0
LinesCanBeTold P d [] [] = Unit {0}
LinesCanBeTold P d (line ∷ lines) (judged ∷ all) = LineCanBeTold P line d judged × LinesCanBeTold P d lines all
LinesCanBeTold P d lines all = ⊥

pub record CanBeTold (P : Prog) (declared : Declaration) (all : List Judged) : Type 0 where
  pub degree : declared.degree ≤ 4
  pub lines : LinesCanBeTold P declared.degree declared.lines all

-- how a call ends, where each line is kept, and where one is not
abbrev pub end_of : Bool → BudgetEnd
end_of true = AllKept
end_of false = Broken

-- How many positions a function has.
use Rattle.std.specs.Prelude.{ℕ, [], ◌∷◌, Option, None, Some}
use Rattle.normal_spec.specs.Norm.{NormFun}
use Rattle.normal_spec.specs.Context.{types}
use Rattle.annot_types.specs.Rows.{size as size_of}

-- its arguments and its result, at a budget; none where there is no such function
abbrev pub fun_sizes : ℕ → Option NormFun → ℕ × ℕ
fun_sizes budget None = (0, 0)
fun_sizes budget (Some g) = (size_of (types g.params) budget, size_of (g.result ∷ []) budget)

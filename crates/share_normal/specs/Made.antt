-- What step two makes of a form.
use Rattle.std.specs.Prelude.{◌≡◌, ℕ, Result, IfOk, OnOk}
use Rattle.std.specs.declared.alloc.AllocError.{AllocError}
use Rattle.normal_spec.specs.declared.form.NormExpr.{NormExpr}
use Rattle.normal_spec.specs.Norm as n
use Rattle.normal_spec.specs.Read.{norm_of}
use Rattle.share_normal.specs.declared.marked.Marked.{Marked}

-- the form that has its free variables beside it
abbrev pub form_in : Marked → n.Norm
form_in marked = norm_of marked.expr.now

-- the form that is made, and then the least number that is free
abbrev pub IsMade : Result NormExpr AllocError → ℕ → n.Norm × ℕ → Type 0
IsMade result next made = IfOk result (λ e. norm_of e ≡ made.0) × OnOk result (next ≡ made.1)

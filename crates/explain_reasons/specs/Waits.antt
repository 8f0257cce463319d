-- Groups that wait for functions without bounds.
use Rattle.std.specs.Prelude.{◌≡◌, ℕ, List, true}
use Rattle.std.specs.List.{Contains}
use Rattle.raml_syntax.specs.Tree.{Prog}
use Rattle.call_groups.specs.Calls.{calls}
use Rattle.explain_degrees.specs.declared.finding.Findings.{Findings}
use Rattle.explain_lines.specs.Lines.{lacks_at}

-- a function of the group calls this one, which has no bound and is not of the group
pub record WaitsFor (P : Prog) (found : List Findings) (group : List ℕ) (callee : ℕ) : Type 0 where
  pub caller : ℕ
  pub of_group : Contains group caller
  pub called : calls P caller callee ≡ true
  pub lacks : lacks_at found callee ≡ true
  pub outside : Contains group callee → ⊥

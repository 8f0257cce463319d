-- Functions that a group calls.
use Rattle.std.proofs.Common.{◌≡◌, ℕ, List, Option, IfSome}
use Rattle.std.specs.List.{Contains}
use Rattle.std.proofs.lemmas.Option.{IfSome_then}
use Rattle.raml_syntax.specs.Tree.{Prog}
use Rattle.raml_syntax.specs.declared.program.FunId.{FunId}
use Rattle.call_groups.specs.Groups.{Grouping, IsGrouping}
use Rattle.call_groups.specs.Read.{ids_of}
use Rattle.explain_degrees.specs.declared.finding.Findings.{Findings}
use Rattle.explain_mending.specs.Reached.{callees_at}
use Rattle.explain_mending.proofs.Calls.{called_one, contains_id, contains_of_id}
use Rattle.explain_reasons.specs.Waits.{WaitsFor}
use Rattle.explain_reasons.specs.Degrees.{CallsOfDegree}
use Rattle.explain_reasons.specs.Read.{IsLackingOutside, IsOfDegree}

module _ (P : Prog) (groups : Grouping) (found : List Findings) (group : List FunId) (fun : FunId) (funs : List FunId) (is : IsGrouping P groups)
    (one : Contains group fun) (same : ids_of funs ≡ callees_at groups.calls fun.0) where
  pub waits : (o : Option FunId) → IfSome o (IsLackingOutside found group funs) → IfSome o (λ callee. WaitsFor P found (ids_of group) callee.0)
  waits o lacking = IfSome_then o lacking (λ callee h. record {
    caller = fun.0;
    of_group = contains_id group fun one;
    called = called_one P groups fun.0 funs callee is same h.one;
    lacks = h.lacks;
    outside = λ c. h.outside (contains_of_id group callee c);
  })

  pub of_degree : (degree : ℕ) (o : Option FunId) → IfSome o (IsOfDegree found fun funs degree) → IfSome o (λ callee. CallsOfDegree P found (ids_of group) callee.0 degree)
  of_degree degree o meeting = IfSome_then o meeting (λ callee h. record {
    caller = fun.0;
    of_group = contains_id group fun one;
    called = called_one P groups fun.0 funs callee is same h.one;
    meets = h.meets;
  })

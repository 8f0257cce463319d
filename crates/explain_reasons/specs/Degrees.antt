-- Functions whose bounds have the highest degree.
use Rattle.std.specs.Prelude.{◌≡◌, ℕ, nat_eq, List, Bool, true, false, ◌&&◌, ◌||◌, Option, Some, slice_get}
use Rattle.std.specs.List.{Contains}
use Rattle.raml_syntax.specs.Tree.{Prog}
use Rattle.call_groups.specs.Calls.{calls}
use Rattle.explain_degrees.specs.declared.finding.Finding.{Finding}
use Rattle.explain_degrees.specs.declared.finding.Finding.TheVariants as finding
use Rattle.explain_degrees.specs.declared.finding.Findings.{Findings}
use Rattle.explain_lines.specs.Lines.{is_unbounded}

abbrev pub has_degree : ℕ → Finding → Bool
has_degree degree (finding.Bound d poly) = nat_eq d degree
has_degree degree _ = false

-- the second has a bound of this degree of a meter of which the first has none
abbrev pub meets : ℕ → Findings → Findings → Bool
meets degree caller callee =
    (is_unbounded caller.ticks && has_degree degree callee.ticks)
    || ((is_unbounded caller.cells && has_degree degree callee.cells) || (is_unbounded caller.work && has_degree degree callee.work))

abbrev pub both : (Findings → Findings → Bool) → Option Findings → Option Findings → Bool
both test (Some x) (Some y) = test x y
both test _ _ = false

abbrev pub meets_at : List Findings → ℕ → ℕ → ℕ → Bool
meets_at found degree caller callee = both (meets degree) (slice_get found caller) (slice_get found callee)

-- a function of the group calls this one, which has a bound of the degree of a meter of which the caller has none
pub record CallsOfDegree (P : Prog) (found : List Findings) (group : List ℕ) (callee degree : ℕ) : Type 0 where
  pub caller : ℕ
  pub of_group : Contains group caller
  pub called : calls P caller callee ≡ true
  pub meets : meets_at found degree caller callee ≡ true

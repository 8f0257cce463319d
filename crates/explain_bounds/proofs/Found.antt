-- What analyses find can be told.
use Rattle.std.proofs.Common.{◌≡◌, ◌≤◌, ℕ, List, Some, All, slice_get}
use Rattle.raml_syntax.specs.Tree.{Function, Prog}
use Rattle.raml_syntax.specs.Types.{types_of}
use Rattle.base_poly.specs.Indices.{AreIndices}
use Rattle.base_poly.specs.Plain.{degrees}
use Rattle.cost_free.specs.declared.task.Meter.{Meter}
use Rattle.annot_types.specs.Program.{Program}
use Rattle.analysis_report.proofs.Tuples.{of_terms}
use Rattle.explain_degrees.specs.Degrees.{IsFinding, finding_of}
use Rattle.explain_degrees.specs.declared.finding.Finding.{Finding}
use Rattle.explain_degrees.specs.declared.finding.Finding.TheVariants as finding
use Rattle.explain_bounds.specs.Written.{CanBeTold, FindingsCanBeTold}

of_finding : (P : Prog) (N : Program) (most f : ℕ) (g : Function) (meter : Meter) (found : Finding) → slice_get P f ≡ Some g → IsFinding P N most f meter found →
    CanBeTold (types_of g) found
of_finding P N most f g meter (finding.Bound d poly) there h =
    let both = h.3 g there in (
      h.2,
      of_terms (λ t. AreIndices t (types_of g)) poly.terms.items (λ k d l. (both k d l).0),
      of_terms (λ t. degrees t ≤ 4) poly.terms.items (λ k d l. (both k d l).1),
    )
of_finding P N most f g meter (finding.NoBound d) there h = tt
of_finding P N most f g meter (finding.Calls d callee) there h = tt
of_finding P N most f g meter finding.Refused there h = tt

pub findings_can_be_told : FindingsCanBeTold
findings_can_be_told P N most all f g findings found there here meter =
    of_finding P N most f g meter (finding_of findings meter) there (found f findings meter here)

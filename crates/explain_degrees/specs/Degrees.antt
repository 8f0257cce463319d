-- What analyses of a program find of a function and a meter, degree by degree.
use Rattle.std.specs.Prelude.{◌≡◌, ◌≢◌, ◌≤◌, ◌<◌, ◌⊎◌, ℕ, List, [], ◌∷◌, length, All, slice_get, Some}
use Rattle.raml_syntax.specs.Tree.{Function, Prog}
use Rattle.raml_syntax.specs.Types.{types_of}
use Rattle.base_poly.specs.Indices.{AreIndices}
use Rattle.base_poly.specs.Plain.{degrees}
use Rattle.base_poly.specs.Poly.{Term, den_of, terms_of, IsPoly}
use Rattle.cost_free.specs.declared.task.Meter.{Meter}
use Rattle.cost_free.specs.declared.task.Meter.TheVariants.{Ticks, Cells, Work}
use Rattle.annot_types.specs.Program.{Program}
use Rattle.annot_types.specs.Certificate.{Certificate}
use Rattle.annot_types.specs.Held.{Claim, Bound, NoBound, CallsUnbounded, lines_for}
use Rattle.annot_types.specs.Held as held
use Rattle.infer_spec.specs.Generator.{Analysis}
use Rattle.infer_systems_laws.specs.Analysed.{analysis_of}
use Rattle.simplex_checked.specs.Rules.{least_pick}
use Rattle.bound_infer.specs.Inferred.{IsInferred, InferCause}
use Rattle.bound_infer.specs.declared.line.Line.{Line}
use Rattle.bound_infer.specs.declared.line.Line.TheVariants as line
use Rattle.bound_infer.specs.declared.refusal.InferFault.{InferFault}
use Rattle.bound_infer.specs.declared.refusal.InferFault.TheVariants.{NoMemory}
use Rattle.explain_degrees.specs.declared.finding.Finding.{Finding}
use Rattle.explain_degrees.specs.declared.finding.Finding.TheVariants as finding
use Rattle.explain_degrees.specs.declared.finding.Findings.{Findings}
use Rattle.explain_degrees.specs.declared.least.LeastBounds.{LeastBounds}
use Rattle.explain_degrees.specs.declared.least.RefusedDegree.{RefusedDegree}

-- the analysis of a program at a degree, as `raml analyse` makes it where no rule is told
abbrev pub analysis_at : Program → ℕ → Analysis
analysis_at N d = analysis_of N d least_pick

-- The analysis at this degree has a certificate, and this is its line of the function and the meter.
pub record TellsAt (N : Program) (d f : ℕ) (meter : Meter) (claim : Claim) : Type 0 where
  pub certificate : Certificate
  pub inferred : IsInferred (analysis_at N d) certificate
  pub tells : lines_for N certificate f meter ≡ held.line f meter claim ∷ []

-- The analysis at this degree has no certificate, since a limit or a number of 128 bits refuses it.
pub record RefusedAt (N : Program) (d : ℕ) (fault : InferFault) : Type 0 where
  pub refused : fault ≢ NoMemory
  pub cause : InferCause (analysis_at N d) fault

-- it refuses the analysis at the degree
abbrev pub IsRefused : Program → ℕ → Type 0
IsRefused N d = (fault : InferFault) × RefusedAt N d fault

-- at this degree no bound is found
abbrev pub HasNoBoundAt : Program → ℕ → Meter → ℕ → Type 0
HasNoBoundAt N f meter d = TellsAt N d f meter NoBound ⊎ (((g : ℕ) × TellsAt N d f meter (CallsUnbounded g)) ⊎ IsRefused N d)

-- it is said of each degree that is greater than the first and at most the second
abbrev pub Between : ℕ → ℕ → (ℕ → Type 0) → Type 0
Between low high Said = (d : ℕ) → low < d → d ≤ high → Said d

-- The terms are over tuples of indices of the function's parameters, of a degree of at most 4.
abbrev pub IsOverParameters : Prog → ℕ → List Term → Type 0
IsOverParameters P f terms = (g : Function) → slice_get P f ≡ Some g → All (λ t. AreIndices t.0 (types_of g) × (degrees t.0 ≤ 4)) terms

-- Of the analyses up to a degree: the bound of the least degree at which there is one; where there is none, what the
-- highest certificate says; or that there is no certificate.
abbrev pub IsFinding : Prog → Program → ℕ → ℕ → Meter → Finding → Type 0
IsFinding P N most f meter (finding.Bound d poly) =
    (d ≤ most) × TellsAt N d f meter (Bound (den_of poly) (terms_of poly)) × IsPoly poly × IsOverParameters P f (terms_of poly)
    × ((e : ℕ) → 1 ≤ e → e < d → HasNoBoundAt N f meter e)
IsFinding P N most f meter (finding.NoBound d) =
    (d ≤ most) × TellsAt N d f meter NoBound × Between 0 most (HasNoBoundAt N f meter) × Between d most (IsRefused N)
IsFinding P N most f meter (finding.Calls d g) =
    (d ≤ most) × TellsAt N d f meter (CallsUnbounded g.0) × Between 0 most (HasNoBoundAt N f meter) × Between d most (IsRefused N)
IsFinding P N most f meter finding.Refused = Between 0 most (IsRefused N)

-- what is found where the certificate of a degree has this line, and no bound was found before
abbrev pub found_at : ℕ → Line → Finding
found_at d (line.Bound poly) = finding.Bound d poly
found_at d line.NoBound = finding.NoBound d
found_at d (line.Calls g) = finding.Calls d g

abbrev pub finding_of : Findings → Meter → Finding
finding_of findings Ticks = findings.ticks
finding_of findings Cells = findings.cells
finding_of findings Work = findings.work

-- Of functions, in the order of the source: what the analyses up to a degree find of each meter.
abbrev pub AreFindings : Prog → Program → ℕ → List Findings → Type 0
AreFindings P N most all =
    (f : ℕ) (findings : Findings) (meter : Meter) → slice_get all f ≡ Some findings → IsFinding P N most f meter (finding_of findings meter)

-- each fault is why the analysis at its degree has no certificate
abbrev pub AreRefused : Program → List RefusedDegree → Type 0
AreRefused N refused = All (λ r. RefusedAt N r.degree r.fault) refused

-- Of all functions what the analyses up to a degree find, and which of them are refused.
pub record AreLeast (P : Prog) (N : Program) (most : ℕ) (found : LeastBounds) : Type 0 where
  pub count : length found.functions.items ≡ length P
  pub functions : AreFindings P N most found.functions.items
  pub refused : AreRefused N found.refused.items

-- a bound is found
abbrev pub IsBounded : Finding → Type 0
IsBounded (finding.Bound d poly) = Unit {0}
IsBounded _ = ⊥

abbrev pub AllBounded : List Findings → Type 0
AllBounded all = (f : ℕ) (findings : Findings) (meter : Meter) → slice_get all f ≡ Some findings → IsBounded (finding_of findings meter)

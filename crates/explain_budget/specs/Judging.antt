-- What is decided of declared bounds, with what the analysis found.
use Rattle.std.specs.Prelude.{◌≡◌, ℕ, List, [], ◌∷◌, Option, Some, None, IfSome, slice_get}
use Rattle.raml_syntax.specs.Tree.{Function, Prog}
use Rattle.raml_syntax.specs.Types.{types_of}
use Rattle.base_poly.specs.declared.tuple.Poly.{Poly}
use Rattle.annot_types.specs.Program.{Program}
use Rattle.annot_types.specs.Certificate.{Certificate}
use Rattle.annot_types.specs.Held as h
use Rattle.annot_types.specs.Held.{Claim, lines_for}
use Rattle.bound_file.specs.Lines.{Line}
use Rattle.contract_report.specs.Verdicts as contract
use Rattle.contract_report.specs.Verdicts.{Decides, VerdictHolds}
use Rattle.explain_verdicts.specs.Reads.{Bound}
use Rattle.explain_verdicts.specs.Read.{found_of}
use Rattle.explain_verdicts.specs.Written.{IsFound}
use Rattle.explain_verdicts.specs.declared.judged.Judged.{Judged}
use Rattle.explain_verdicts.specs.declared.judged.Verdict.{Verdict}
use Rattle.explain_verdicts.specs.declared.judged.Verdict.TheVariants as v

-- the verdict as `raml contract` has it
abbrev pub verdict_of : Verdict → contract.Verdict
verdict_of v.Kept = contract.Kept
verdict_of v.NotKept = contract.NotKept
verdict_of (v.Calls callee) = contract.Waits callee.0

-- the bound that a certificate claims
abbrev pub bound_in : Claim → Option Bound
bound_in (h.Bound den terms) = Some (record { den = den; terms = terms })
bound_in h.NoBound = None
bound_in (h.CallsUnbounded callee) = None

-- The bound is over tuples of the parameters of the function at this place.
abbrev pub IsFoundOf : Prog → ℕ → Poly → Type 0
IsFoundOf P f poly = (g : Function) → slice_get P f ≡ Some g → IsFound (types_of g) poly

module _ (P : Prog) (N : Program) (c : Certificate) where
  -- The verdict is that of the line over the certificate, and what it is good for holds; and the bound is the one that the certificate
  -- claims of the line's function and meter.
  pub record IsJudged (line : Line) (judged : Judged) : Type 0 where
    pub decides : Decides N c line (verdict_of judged.verdict)
    pub holds : VerdictHolds P c.degree line (verdict_of judged.verdict)
    pub claim : Claim
    pub claims : lines_for N c line.fun line.meter ≡ h.line line.fun line.meter claim ∷ []
    pub found : found_of judged ≡ bound_in claim
    pub over : IfSome judged.found (IsFoundOf P line.fun)

  -- so of each of the lines, in order
  abbrev pub AreJudged : List Line → List Judged → Type 0
  AreJudged [] [] = Unit {0}
  AreJudged (line ∷ lines) (judged ∷ all) = IsJudged line judged × AreJudged lines all
  AreJudged lines all = ⊥

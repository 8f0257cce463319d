-- Whether runs of two programs end with the same value.
use Rattle.std.specs.Prelude.{◌≡◌, ◌⊎◌, ℕ, List, [], ◌∷◌, Option, Some, string_bytes}
use Rattle.raml_syntax.specs.Tree.{Text, Prog}
use Rattle.explain_runs.specs.declared.outcome.Limits.{Limits}
use Rattle.explain_runs.specs.declared.outcome.Measured.{Measured}
use Rattle.explain_runs.specs.declared.outcome.Outcome.{Outcome}
use Rattle.explain_runs.specs.declared.outcome.Outcome.TheVariants as o
use Rattle.explain_runs.specs.Measure.{IsMeasure}

-- Both end with the same value, or one does not end with any. Values that are too long are not compared.
abbrev pub AreSame : Outcome → Outcome → Type 0
AreSame (o.Halted value) (o.Halted other) = string_bytes value ≡ string_bytes other
AreSame (o.Halted value) o.TooLong = ⊥
AreSame o.TooLong (o.Halted other) = ⊥
AreSame one other = Unit {0}

-- both were run, and they are the same
abbrev pub AreSameRuns : Option Measured → Option Measured → Type 0
AreSameRuns (Some one) (Some other) = AreSame one.outcome other.outcome
AreSameRuns one other = ⊥

-- the function at the place ends so in both programs, on the arguments that the data spells
pub record AgreeOn (P Q : Prog) (f : ℕ) (limits : Limits) (data' : Text) : Type 0 where
  pub one : Option Measured
  pub other : Option Measured
  pub first : IsMeasure P f data' limits one
  pub second : IsMeasure Q f data' limits other
  pub same : AreSameRuns one other

-- the data spells no arguments in one of them, or it ends with different values
pub record DifferOn (P Q : Prog) (f : ℕ) (limits : Limits) (data' : Text) : Type 0 where
  pub one : Option Measured
  pub other : Option Measured
  pub first : IsMeasure P f data' limits one
  pub second : IsMeasure Q f data' limits other
  pub differ : AreSameRuns one other → ⊥

-- on each of the texts, and on one of them at least
abbrev pub AgreeOnAll : Prog → Prog → ℕ → Limits → List Text → Type 0
AgreeOnAll P Q f limits [] = Unit {0}
AgreeOnAll P Q f limits (text ∷ texts) = AgreeOn P Q f limits text × AgreeOnAll P Q f limits texts

abbrev pub DifferOnSome : Prog → Prog → ℕ → Limits → List Text → Type 0
DifferOnSome P Q f limits [] = ⊥
DifferOnSome P Q f limits (text ∷ texts) = DifferOn P Q f limits text ⊎ DifferOnSome P Q f limits texts

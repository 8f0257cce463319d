-- What is told of declared bounds at a degree, and from a degree down.
use Rattle.std.specs.Prelude.{◌≡◌, ◌≢◌, ◌⊎◌, ◌==◌, ◌-◌, ℕ, zero, suc, Bool, true, false, cond, Option, Some, None}
use Rattle.std.specs.Prelude.{List, [], ◌++◌, codes, decimal}
use Rattle.raml_syntax.specs.Tree.{Text, Prog}
use Rattle.annot_types.specs.Program.{Program}
use Rattle.annot_types.specs.Certificate.{Certificate}
use Rattle.simplex_checked.specs.Rules.{least_pick}
use Rattle.bound_file.specs.Lines.{Declaration}
use Rattle.bound_file.specs.Answers.{Spells}
use Rattle.bound_infer.specs.Inferred.{IsInferred}
use Rattle.bound_infer.specs.declared.refusal.InferFault.{InferFault}
use Rattle.refusal_text.specs.DeclaredLines.{declared_too_large_line, declared_leaves_line}
use Rattle.refusals.specs.Line.{Names}
use Rattle.contract_report.specs.Told.{VerdictsRefused}
use Rattle.contract_report.specs.declared.fault.VerdictsFault.{VerdictsFault}
use Rattle.contract_report.specs.declared.fault.VerdictsFault.TheVariants.{TooLarge, Leaves, NoMemory}
use Rattle.explain_degrees.specs.Degrees.{analysis_at, RefusedAt}
use Rattle.explain_calls.specs.Told.{note}
use Rattle.explain_declared.specs.Told.{IsFaulty}
use Rattle.explain_verdicts.specs.declared.judged.Judged.{Judged}
use Rattle.explain_budget.specs.Judging.{AreJudged}
use Rattle.explain_budget.specs.Telling.{all_kept, TellsJudged}
use Rattle.explain_budget.specs.declared.end.BudgetEnd.{BudgetEnd}
use Rattle.explain_budget.specs.declared.end.BudgetEnd.TheVariants as e

-- the file of bounds by its name, what it holds, and how the lines are told
pub record Asking : Type 0 where
  pub name : Text
  pub bytes : Text
  pub width : Option ℕ
  pub json : Bool

-- the line of `raml` for a bound that is not decided
abbrev pub undecided_line : VerdictsFault → Text
undecided_line (TooLarge number) = declared_too_large_line number
undecided_line (Leaves number) = declared_leaves_line number
undecided_line NoMemory = []

-- explain: degree D: and the line of `raml`
abbrev pub undecided_note : ℕ → VerdictsFault → Text
undecided_note d fault = codes "explain: degree " ++ (decimal d ++ (codes ": " ++ undecided_line fault))

-- explain: degree D is the highest that no limit refuses
abbrev pub lower_note : ℕ → Text
lower_note d = codes "explain: degree " ++ (decimal d ++ codes " is the highest that no limit refuses\n")

-- where lines are told at a lower degree than the first one, this is said
abbrev pub lower : ℕ → ℕ → BudgetEnd → Text
lower first d e.AllKept = cond (d == first) [] (lower_note d)
lower first d e.Broken = cond (d == first) [] (lower_note d)
lower first d end = []

-- Of a program and its normal form, whose functions `raml` names so:
module _ (P : Prog) (N : Program) (names : Names) (asking : Asking) where
  -- The file declares bounds at the degree, and the analysis has a certificate.
  pub record IsAnalysedAt (d : ℕ) (declared : Declaration) (c : Certificate) : Type 0 where
    pub spelled : Spells P d asking.bytes declared
    pub inferred : IsInferred (analysis_at N d) c

  -- Each line is decided, and told; each is kept, or one is not.
  pub record IsDecidedAt (d : ℕ) (kept : Bool) (text : Text) : Type 0 where
    pub declared : Declaration
    pub certificate : Certificate
    pub analysed : IsAnalysedAt d declared certificate
    pub judged : List Judged
    pub are : AreJudged P N certificate declared.lines judged
    pub kept_is : kept ≡ all_kept judged
    pub tells : TellsJudged P d asking.json asking.width declared.lines judged text

  -- the analysis is refused, and that is told
  pub record AnalysisIsRefused (d : ℕ) (part : Text) : Type 0 where
    pub declared : Declaration
    pub spelled : Spells P d asking.bytes declared
    pub fault : InferFault
    pub refused : RefusedAt N d fault
    pub is : part ≡ note names (record { degree = d; fault = fault })

  -- a line is not decided, and that is told of the first
  pub record DecisionIsRefused (d : ℕ) (part : Text) : Type 0 where
    pub declared : Declaration
    pub certificate : Certificate
    pub analysed : IsAnalysedAt d declared certificate
    pub fault : VerdictsFault
    pub no_memory : fault ≢ NoMemory
    pub refused : VerdictsRefused N certificate least_pick declared.lines fault
    pub is : part ≡ undecided_note d fault

  -- what is told at a degree that no limit refuses
  abbrev pub EndsAt : ℕ → BudgetEnd → Text → Text → Type 0
  EndsAt d e.AllKept text part = IsDecidedAt d true text × (part ≡ [])
  EndsAt d e.Broken text part = IsDecidedAt d false text × (part ≡ [])
  EndsAt d e.Refused text part = (text ≡ []) × IsFaulty P d asking.name asking.bytes part
  EndsAt d e.NotAnalysed text part = ⊥

  -- what is told at a degree; with no end where a limit refuses it
  abbrev pub TellsAt : ℕ → Option BudgetEnd → Text → Text → Type 0
  TellsAt d (Some end) text part = EndsAt d end text part
  TellsAt d None text part = (text ≡ []) × (AnalysisIsRefused d part ⊎ DecisionIsRefused d part)

  -- what is told in so many tries from a degree down, where this was the first
  abbrev pub TellsFrom : ℕ → ℕ → ℕ → BudgetEnd → Text → Text → Type 0
  TellsFrom first zero d end text part = (end ≡ e.NotAnalysed) × (text ≡ []) × (part ≡ [])
  TellsFrom first (suc tries) d end text part =
      ((own : Text) × EndsAt d end text own × (part ≡ own ++ lower first d end))
      ⊎ ((own : Text) × (rest : Text) × TellsAt d None [] own × TellsFrom first tries (d - 1) end text rest × (part ≡ own ++ rest))

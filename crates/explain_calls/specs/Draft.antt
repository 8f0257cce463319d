-- The bounds of a program, as a file that declares them.
use Rattle.std.specs.Prelude.{◌≡◌, ◌≤◌, ◌⊎◌, ◌-◌, Option, Some, None, ℕ, zero, suc, Bool, true, false, cond, List, [], ◌∷◌, map, length}
use Rattle.std.specs.Prelude.{flat_map, string_bytes}
use Rattle.std.specs.List.{range_with_len}
use Rattle.raml_syntax.specs.Tree.{Text, Prog}
use Rattle.call_groups.specs.Groups.{Grouping, IsGrouping}
use Rattle.annot_types.specs.Program.{Program}
use Rattle.annot_types.specs.Certificate.{Certificate}
use Rattle.annot_types.specs.Held.{Claim, Bound, NoBound, CallsUnbounded, Line}
use Rattle.rules_soundness_laws.specs.Laws.{normal_of}
use Rattle.report_text.specs.Claims.{lines_text}
use Rattle.analysis_report.specs.Lines.{lines_of}
use Rattle.bound_infer.specs.Inferred.{IsInferred}
use Rattle.explain_check.specs.Stores.{Store}
use Rattle.explain_check.specs.Checks.{HoldsProgram, LacksProgram}
use Rattle.explain_degrees.specs.Degrees.{analysis_at, AreRefused}
use Rattle.explain_degrees.specs.declared.least.RefusedDegree.{RefusedDegree}
use Rattle.explain_calls.specs.Told.{notes}
use Rattle.explain_calls.specs.Calls.{names_for}
use Rattle.explain_calls.specs.declared.draft.Draft.{Draft}
use Rattle.explain_calls.specs.declared.draft.Draft.TheVariants as draft

-- ---- the text

abbrev pub is_bound : Claim → Bool
is_bound (Bound den terms) = true
is_bound NoBound = false
is_bound (CallsUnbounded f) = false

-- those of the lines that are bounds
abbrev pub bounds_among : List Line → List Line
bounds_among [] = []
bounds_among (l ∷ ls) = cond (is_bound l.claim) (l ∷ bounds_among ls) (bounds_among ls)

-- the lines of a function that are bounds
abbrev pub bounds_text : Prog → Program → Certificate → ℕ → Text
bounds_text P N c f = lines_text P (bounds_among (lines_of N c f))

-- those of the first functions, in the order of the source
abbrev pub first_bounds_text : Prog → Program → Certificate → ℕ → Text
first_bounds_text P N c count = flat_map (bounds_text P N c) (range_with_len 0 count)

-- The text is all bounds of the certificate of the analysis at a degree.
pub record IsDraft (P : Prog) (N : Program) (d : ℕ) (text : Text) : Type 0 where
  pub certificate : Certificate
  pub inferred : IsInferred (analysis_at N d) certificate
  pub is : text ≡ first_bounds_text P N certificate (length P)

-- ---- the degree

-- so many degrees from this one down
abbrev pub down : ℕ → ℕ → List ℕ
down zero high = []
down (suc count) high = high ∷ down count (high - 1)

-- The analyses at these degrees are refused, each for its fault.
pub record AreRefusedAt (N : Program) (degrees : List ℕ) (refused : List RefusedDegree) : Type 0 where
  pub at : map (λ (r : RefusedDegree). r.degree) refused ≡ degrees
  pub why : AreRefused N refused

-- ---- the call

-- The highest degree, from one down to a lower one, whose analysis nothing refuses: the bounds there are the text. Those above it are
-- refused, and that is told; or all are.
abbrev pub IsDrafted : Prog → Grouping → ℕ → ℕ → Draft → Text → Type 0
IsDrafted P groups high low (draft.Made d text) report =
    (refused : List RefusedDegree) × (low ≤ d) × (d ≤ high)
    × AreRefusedAt (normal_of P groups.list) (down (high - d) high) refused × IsDraft P (normal_of P groups.list) d (string_bytes text)
    × (report ≡ notes (names_for P groups) refused)
IsDrafted P groups high low draft.NotAnalysed report =
    (refused : List RefusedDegree) × AreRefusedAt (normal_of P groups.list) (down (suc high - low) high) refused
    × (report ≡ notes (names_for P groups) refused)
IsDrafted P groups high low draft.Refused report = ⊥

-- the degrees that are tried: the one that is told, or those from 4 down
abbrev pub highest_of : Option ℕ → ℕ
highest_of (Some degree) = degree
highest_of None = 4

abbrev pub lowest_of : Option ℕ → ℕ
lowest_of (Some degree) = degree
lowest_of None = 1

-- what is made of the bounds of the program in a file, and told
abbrev pub DraftIs : Store → Text → Option ℕ → Draft → Text → Type 0
DraftIs store file degree made report =
    ((made ≡ draft.Refused) × LacksProgram store file report)
    ⊎ ((P : Prog) × (groups : Grouping) × HoldsProgram store file P × IsGrouping P groups
    × IsDrafted P groups (highest_of degree) (lowest_of degree) made report)

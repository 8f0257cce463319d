-- Which groups are told of, where one function or one meter is asked about.
use Rattle.std.specs.Prelude.{ℕ, nat_eq, List, [], ◌∷◌, Bool, true, false, cond, ◌&&◌, ◌||◌, Option, Some, None, slice_get}
use Rattle.raml_syntax.specs.Read.{place_in}
use Rattle.cost_free.specs.declared.task.Meter.{Meter}
use Rattle.cost_free.specs.declared.task.Meter.TheVariants.{Ticks, Cells, Work}
use Rattle.explain_rounds.specs.Calls.{is_in}
use Rattle.explain_degrees.specs.Degrees.{finding_of}
use Rattle.explain_degrees.specs.declared.finding.Findings.{Findings}
use Rattle.explain_lines.specs.Lines.{passes, lacks, is_unbounded}
use Rattle.explain_lines.specs.Mended.{Line}
use Rattle.explain_reasons.specs.Notes.{Note, FromDegree, AtLowerDegreeAlone}
use Rattle.explain_reasons.specs.Reasons.{group_in}
use Rattle.explain_reasons.specs.declared.reason.Explained.{Explained}
use Rattle.explain_reasons.specs.declared.reason.Reason.{Reason}
use Rattle.explain_reasons.specs.declared.reason.Reason.TheVariants as r
use Rattle.explain_why.specs.declared.chosen.Asking.{Asking as Asking'}

-- the one function that is asked about, or each; and the one meter, or each
pub record Asking : Type 0 where
  pub fun : Option ℕ
  pub meter : Option Meter

abbrev pub asking_in : Asking' → Asking
asking_in asking = record { fun = place_in asking.fun; meter = asking.meter }

-- ---- meters

-- there is no bound of the meter that is asked about, or of some where none is
abbrev pub lacks_of : Option Meter → Findings → Bool
lacks_of None findings = lacks findings
lacks_of (Some meter) findings = is_unbounded (finding_of findings meter)

abbrev pub some_lacks : Option Meter → List Findings → List ℕ → Bool
some_lacks meter found [] = false
some_lacks meter found (f ∷ group) = passes (lacks_of meter) (slice_get found f) || some_lacks meter found group

abbrev pub is_meter : Option Meter → Meter → Bool
is_meter None meter = true
is_meter (Some Ticks) Ticks = true
is_meter (Some Cells) Cells = true
is_meter (Some Work) Work = true
is_meter (Some asked) other = false

-- ---- functions

-- the function for which a group waits
abbrev pub callee_of : Reason → Option ℕ
callee_of (r.Waits callee stuck) = Some callee.0
callee_of _ = None

abbrev pub waited_by : List Explained → ℕ → Option ℕ
waited_by [] f = None
waited_by (e ∷ es) f = cond (is_in f (group_in e)) (callee_of e.reason) (waited_by es f)

-- The function is of the group, or its group waits for a function of which that is so; this in no more steps than there are groups left.
abbrev pub leads_to : List Explained → List Explained → Option ℕ → List ℕ → Bool
leads_to all left None group = false
leads_to all [] (Some f) group = is_in f group
leads_to all (e ∷ left) (Some f) group = is_in f group || leads_to all left (waited_by all f) group

abbrev pub is_about : Option ℕ → List Explained → List ℕ → Bool
is_about None all group = true
is_about (Some f) all group = leads_to all all (Some f) group

abbrev pub is_function : Option ℕ → ℕ → Bool
is_function None g = true
is_function (Some f) g = nat_eq f g

-- ---- what is told

-- Of a group in which a bound of the meter is missing: the group of the function that is asked about, and those for which that waits.
abbrev pub is_told : Asking → List Findings → List Explained → Explained → Bool
is_told asking found all e = is_about asking.fun all (group_in e) && some_lacks asking.meter found (group_in e)

abbrev pub some_told : Asking → List Findings → List Explained → List Explained → Bool
some_told asking found all [] = false
some_told asking found all (e ∷ es) = is_told asking found all e || some_told asking found all es

abbrev pub is_line : Asking → Line → Bool
is_line asking line = is_function asking.fun line.fun && is_meter asking.meter line.meter

abbrev pub is_noted : Asking → Note → Bool
is_noted asking (FromDegree line degree) = is_line asking line
is_noted asking (AtLowerDegreeAlone line degree) = is_line asking line

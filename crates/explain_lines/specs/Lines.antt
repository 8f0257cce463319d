-- What analyses find of lines: a line is a function and a meter.
use Rattle.std.specs.Prelude.{ℕ, List, [], ◌∷◌, Bool, true, false, cond, ◌||◌, Option, Some, None, slice_get}
use Rattle.cost_free.specs.declared.task.Meter.{Meter}
use Rattle.explain_degrees.specs.Degrees.{finding_of}
use Rattle.explain_degrees.specs.declared.finding.Finding.{Finding}
use Rattle.explain_degrees.specs.declared.finding.Finding.TheVariants as finding
use Rattle.explain_degrees.specs.declared.finding.Findings.{Findings}

abbrev pub is_bounded : Finding → Bool
is_bounded (finding.Bound d poly) = true
is_bounded _ = false

-- some analysis was made, and none found a bound
abbrev pub is_unbounded : Finding → Bool
is_unbounded (finding.NoBound d) = true
is_unbounded (finding.Calls d g) = true
is_unbounded _ = false

-- none of some meter
abbrev pub lacks : Findings → Bool
lacks findings = is_unbounded findings.ticks || (is_unbounded findings.cells || is_unbounded findings.work)

-- the function at a place is there, and the test says yes
abbrev pub passes : (Findings → Bool) → Option Findings → Bool
passes test None = false
passes test (Some findings) = test findings

abbrev pub lacks_at : List Findings → ℕ → Bool
lacks_at all f = passes lacks (slice_get all f)

-- the first of these functions that has no bound of some meter
abbrev pub first_lacking : List Findings → List ℕ → Option ℕ
first_lacking all [] = None
first_lacking all (f ∷ group) = cond (lacks_at all f) (Some f) (first_lacking all group)

-- a bound of the meter is found of the function at a place
abbrev pub is_bounded_at : List Findings → ℕ → Meter → Bool
is_bounded_at all f meter = passes (λ findings. is_bounded (finding_of findings meter)) (slice_get all f)

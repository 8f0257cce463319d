-- The lines of an analysis.
use Rattle.std.specs.Prelude.{ℕ, List, [], ◌∷◌, ◌++◌, codes}
use Rattle.raml_syntax.specs.Tree.{Text, Prog}
use Rattle.base_poly.specs.Poly.{Term}
use Rattle.cost_free.specs.declared.task.Meter.{Meter}
use Rattle.annot_types.specs.Held.{Claim, Bound, NoBound, CallsUnbounded, Line}
use Rattle.report_text.specs.Names.{name_at, meter_text}
use Rattle.report_text.specs.Polynomial.{polynomial_text}

-- NAME METER <= POLY
abbrev pub bound_line : Text → Meter → ℕ → List Term → Text
bound_line name meter den terms = name ++ codes " " ++ meter_text meter ++ codes " <= " ++ polynomial_text den terms ++ codes "\n"

-- NAME METER no bound
abbrev pub no_bound_line : Text → Meter → Text
no_bound_line name meter = name ++ codes " " ++ meter_text meter ++ codes " no bound\n"

-- NAME METER no bound: calls NAME
abbrev pub calls_line : Text → Meter → Text → Text
calls_line name meter callee = name ++ codes " " ++ meter_text meter ++ codes " no bound: calls " ++ callee ++ codes "\n"

-- what is told of a function, by its name, and a meter
abbrev pub claim_line : Prog → Text → Meter → Claim → Text
claim_line P name meter (Bound den terms) = bound_line name meter den terms
claim_line P name meter NoBound = no_bound_line name meter
claim_line P name meter (CallsUnbounded f) = calls_line name meter (name_at P f)

abbrev pub line_text : Prog → Line → Text
line_text P l = claim_line P (name_at P l.fun) l.meter l.claim

-- the lines one after the other
abbrev pub lines_text : Prog → List Line → Text
lines_text P [] = []
lines_text P (l ∷ ls) = line_text P l ++ lines_text P ls

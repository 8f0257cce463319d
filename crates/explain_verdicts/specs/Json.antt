-- The JSON of verdicts.
use Rattle.std.specs.Prelude.{ℕ, Option, Some, None, List, map, codes, decimal}
use Rattle.raml_syntax.specs.Tree.{Text, Function, Prog}
use Rattle.raml_syntax.specs.Types.{types_of}
use Rattle.cost_free.specs.declared.task.Meter.{Meter}
use Rattle.bound_file.specs.Lines.{Line}
use Rattle.report_text.specs.Names.{meter_text, name_at}
use Rattle.json.specs.Json.{Json, null, number, string, array, object, Members, member, no_members}
use Rattle.json.specs.Value.{items_of}
use Rattle.explain_json.specs.Terms.{term_json, terms_json}
use Rattle.explain_verdicts.specs.Fractions.{fractions_of}
use Rattle.explain_verdicts.specs.Reads.{Bound}
use Rattle.explain_verdicts.specs.Line.{is_kept, verdict_text}
use Rattle.explain_verdicts.specs.declared.fraction.Fraction.{Fraction}
use Rattle.explain_verdicts.specs.declared.judged.Verdict.{Verdict}
use Rattle.explain_verdicts.specs.declared.judged.Verdict.TheVariants as v

-- what is declared, in the order of tuples
abbrev pub fraction_json : Fraction → Json
fraction_json f = term_json f.denominator (f.tuple, f.numerator)

abbrev pub fractions_json : List Fraction → Json
fractions_json fs = array (items_of (map fraction_json fs))

-- the bound that was found, or null
abbrev pub found_json : Option Bound → Json
found_json None = null
found_json (Some b) = terms_json b.den b.terms

-- the function that is called and has no bound, where the verdict is that
abbrev pub calls_member : Prog → Verdict → Members
calls_member P (v.Calls callee) = member (codes "calls") (string (name_at P callee.0)) no_members
calls_member P verdict = no_members

-- the two bounds, and these members
abbrev pub bounds_members : List Fraction → Option Bound → Members → Members
bounds_members fs found more = member (codes "declared") (fractions_json fs) (member (codes "found") (found_json found) more)

-- a name, a meter, a degree and a verdict, and these members
abbrev pub head_members : Text → Meter → ℕ → Verdict → Members → Members
head_members name meter d verdict more =
    member (codes "function") (string name) (member (codes "meter") (string (meter_text meter))
    (member (codes "degree") (number (decimal d)) (member (codes "verdict") (string (verdict_text (is_kept verdict))) more)))

-- the line of a declared bound, with what was found
abbrev pub verdict_json : Prog → Function → ℕ → Line → Verdict → Option Bound → Json
verdict_json P g d line verdict found =
    object (head_members g.name line.meter d verdict
    (bounds_members (fractions_of (types_of g) d line.bound) found (calls_member P verdict)))

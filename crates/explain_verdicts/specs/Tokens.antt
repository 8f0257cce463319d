-- The tokens of the parts of an object.
use Rattle.std.specs.Prelude.{ℕ, Option, List, [], ◌∷◌, ◌++◌, codes, decimal}
use Rattle.raml_syntax.specs.Tree.{Text, Prog}
use Rattle.cost_free.specs.declared.task.Meter.{Meter}
use Rattle.report_text.specs.Names.{meter_text, name_at}
use Rattle.json.specs.Token.{Token, key, string, number}
use Rattle.json.specs.Tree.{json_tokens}
use Rattle.explain_verdicts.specs.Reads.{Bound}
use Rattle.explain_verdicts.specs.Line.{is_kept, verdict_text}
use Rattle.explain_verdicts.specs.Json.{fractions_json, found_json}
use Rattle.explain_verdicts.specs.declared.fraction.Fraction.{Fraction}
use Rattle.explain_verdicts.specs.declared.judged.Verdict.{Verdict}
use Rattle.explain_verdicts.specs.declared.judged.Verdict.TheVariants as v

-- those of a name, a meter, a degree and a verdict
abbrev pub head_tokens : Text → Meter → ℕ → Verdict → List Token
head_tokens name meter d verdict =
    key (codes "function") ∷ string name ∷ key (codes "meter") ∷ string (meter_text meter) ∷ key (codes "degree") ∷ number (decimal d)
    ∷ key (codes "verdict") ∷ string (verdict_text (is_kept verdict)) ∷ []

-- of what is declared and what was found
abbrev pub bounds_tokens : List Fraction → Option Bound → List Token
bounds_tokens fs found =
    key (codes "declared") ∷ (json_tokens (fractions_json fs) ++ key (codes "found") ∷ json_tokens (found_json found))

-- of the function that is called
abbrev pub calls_tokens : Prog → Verdict → List Token
calls_tokens P (v.Calls callee) = key (codes "calls") ∷ string (name_at P callee.0) ∷ []
calls_tokens P verdict = []

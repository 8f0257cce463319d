-- The lines of verdicts.
use Rattle.std.specs.Prelude.{◌≡◌, ◌||◌, ◌==◌, ℕ, cond, length, Bool, true, false, Option, Some, None, List, [], ◌∷◌, ◌++◌, codes, decimal}
use Rattle.std.specs.Str.{bytes_eq}
use Rattle.raml_syntax.specs.Tree.{Text, Type', Function, Prog}
use Rattle.raml_syntax.specs.Types.{types_of}
use Rattle.cost_free.specs.declared.task.Meter.{Meter}
use Rattle.bound_file.specs.Lines.{Line}
use Rattle.report_text.specs.Names.{meter_text, name_at}
use Rattle.explain_algebra.specs.Algebra.{size_names, legend_text}
use Rattle.explain_bounds.specs.Lines.{names_of, at_most, legend_behind}
use Rattle.explain_verdicts.specs.Fractions.{fractions_of}
use Rattle.explain_verdicts.specs.Reads.{Bound, Reads, ReadsDeclared}
use Rattle.explain_verdicts.specs.Exceeding.{TellsExceeding}
use Rattle.explain_verdicts.specs.declared.fraction.Fraction.{Fraction}
use Rattle.explain_verdicts.specs.declared.judged.Verdict.{Verdict}
use Rattle.explain_verdicts.specs.declared.judged.Verdict.TheVariants as v

abbrev pub is_kept : Verdict → Bool
is_kept v.Kept = true
is_kept v.NotKept = false
is_kept (v.Calls callee) = false

abbrev pub verdict_text : Bool → Text
verdict_text true = codes "kept"
verdict_text false = codes "not kept"

-- what the names of all sizes mean
abbrev pub all_sizes : List Type' → List Text → Text
all_sizes As params = legend_text (size_names params As) params

-- What the names of two bounds mean: those of the other where one has none, those of one where the other has none or the same, and else
-- all names.
abbrev pub shared : Text → Text → Text → Text
shared all one other = cond (length one == 0) other (cond ((length other == 0) || bytes_eq one other) one all)

-- no bound of degree D
abbrev pub no_bound : ℕ → Text
no_bound d = codes " no bound of degree " ++ decimal d

-- no bound of degree D: calls NAME, which has none
abbrev pub calls_unbounded : ℕ → Text → Text
calls_unbounded d callee = no_bound d ++ (codes ": calls " ++ (callee ++ codes ", which has none"))

-- what stands behind a bound that was found: nothing where the line is kept, and else what exceeds
abbrev pub TellsExcess : Bool → List Type' → List Text → List Fraction → Bound → Text → Type 0
TellsExcess true As params fs b text = text ≡ []
TellsExcess false As params fs b text = TellsExceeding As params fs b text

-- What is told of the bound that was found, and what the names in the line mean, of which those of what is declared mean this.
pub record TellsBound (As : List Type') (params : List Text) (fs : List Fraction) (meaning : Text) (kept : Bool) (b : Bound)
    (text : Text) : Type 0 where
  pub sum : Text
  pub means : Text
  pub excess : Text
  pub reads : Reads As params b sum means
  pub exceeds : TellsExcess kept As params fs b excess
  pub is : text ≡ at_most ++ (sum ++ (codes " found" ++ (excess ++ legend_behind (shared (all_sizes As params) means meaning))))

-- what is told of a verdict, with what the analysis found, behind what is declared
abbrev pub TellsFound : Prog → List Type' → List Text → ℕ → List Fraction → Text → Verdict → Option Bound → Text → Type 0
TellsFound P As params d fs meaning (v.Calls callee) found text = text ≡ calls_unbounded d (name_at P callee.0) ++ legend_behind meaning
TellsFound P As params d fs meaning verdict None text = text ≡ no_bound d ++ legend_behind meaning
TellsFound P As params d fs meaning verdict (Some b) text = TellsBound As params fs meaning (is_kept verdict) b text

-- VERDICT: ≤ DECLARED declared, and what was found
pub record TellsVerdict (P : Prog) (As : List Type') (params : List Text) (d : ℕ) (fs : List Fraction) (verdict : Verdict)
    (found : Option Bound) (text : Text) : Type 0 where
  pub declared : Text
  pub meaning : Text
  pub behind : Text
  pub reads : ReadsDeclared As params fs declared meaning
  pub tells : TellsFound P As params d fs meaning verdict found behind
  pub is : text ≡ codes " " ++ (verdict_text (is_kept verdict) ++ (codes ":" ++ (at_most ++ (declared ++ (codes " declared," ++ behind)))))

-- NAME METER, and the verdict
pub record IsVerdictLine (P : Prog) (g : Function) (d : ℕ) (line : Line) (verdict : Verdict) (found : Option Bound)
    (text : Text) : Type 0 where
  pub behind : Text
  pub tells : TellsVerdict P (types_of g) (names_of g) d (fractions_of (types_of g) d line.bound) verdict found behind
  pub is : text ≡ g.name ++ (codes " " ++ (meter_text line.meter ++ behind))

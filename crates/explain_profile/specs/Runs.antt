-- How often a region of a program is run at most by a call of a function.
use Rattle.std.specs.Prelude.{◌≡◌, ◌≤◌, ◌<◌, ◌⊎◌, ℕ, length, ◌^◌, List, Option, Some, None, SomeIff, slice_get, string_bytes}
use Rattle.raml_syntax.specs.Tree.{Text, Function, Prog}
use Rattle.raml_syntax.specs.Types.{types_of}
use Rattle.raml_syntax.specs.Place.{place_of}
use Rattle.call_groups.specs.Groups.{Grouping, IsGrouping}
use Rattle.base_poly.specs.declared.tuple.Poly.{Poly}
use Rattle.cost_free.specs.declared.task.Meter.TheVariants.{Ticks}
use Rattle.rules_soundness_laws.specs.Laws.{normal_of}
use Rattle.explain_sizes.specs.Sizes.{Sizes}
use Rattle.explain_sizes.specs.Counts.{whole_at}
use Rattle.explain_check.specs.Checks.{IsProgramOf, RefusedAt, most_bytes}
use Rattle.explain_edits.specs.Edits.{Edit, with_edits}
use Rattle.explain_regions.specs.Counter.{AreCounterEdits}
use Rattle.explain_degrees.specs.Degrees.{IsFinding}
use Rattle.explain_degrees.specs.declared.finding.Finding.{Finding}
use Rattle.explain_degrees.specs.declared.finding.Finding.TheVariants as finding
use Rattle.explain_reading.specs.Reading.{IsReading}
use Rattle.explain_bounds.specs.Lines.{names_of}
pub use Rattle.explain_profile.specs.declared.runs.Runs.{Runs}
use Rattle.explain_profile.specs.declared.runs.Runs.TheVariants as r

-- the source, the name of the function, the greatest degree, and the sizes of the function's parameters where they are given
pub record Case : Type 0 where
  pub source : Text
  pub name : Text
  pub most : ℕ
  pub sizes : Option (List Sizes)

-- the whole part of the bound at sizes that are given, where it is at most 2^127
abbrev pub IsAt : Option (List Sizes) → Poly → Option ℕ → Type 0
IsAt None poly at = at ≡ None
IsAt (Some ss) poly at = SomeIff at (whole_at poly ss ≤ 2 ^ 127) (whole_at poly ss)

-- a bound in algebra over the sizes of the function's parameters, what their names mean, and its value at sizes that are given
abbrev pub IsAtMost : Option (List Sizes) → Function → Poly → Text → Text → Option ℕ → Type 0
IsAtMost ss g poly sum legend at = IsReading (types_of g) (names_of g) poly sum legend × IsAt ss poly at

abbrev pub IsBound : Option (List Sizes) → Function → Poly → Runs → Type 0
IsBound ss g poly (r.AtMost sum legend at) = IsAtMost ss g poly (string_bytes sum) (string_bytes legend) at
IsBound ss g poly other = ⊥

-- what is found of the ticks of the function
abbrev pub AreRuns : Option (List Sizes) → Function → Finding → Runs → Type 0
AreRuns ss g (finding.Bound d poly) runs = IsBound ss g poly runs
AreRuns ss g (finding.NoBound d) runs = runs ≡ r.NoBound
AreRuns ss g (finding.Calls d callee) runs = runs ≡ r.NoBound
AreRuns ss g finding.Refused runs = runs ≡ r.NotAnalysed

-- What analyses up to a degree find of the ticks of a function, as they are made for the normal form of its program: the bound of the least
-- degree at which there is one.
pub record FindsTicks (P : Prog) (f most : ℕ) (found : Finding) : Type 0 where
  pub groups : Grouping
  pub grouping : IsGrouping P groups
  pub is : IsFinding P (normal_of P groups.list) most f Ticks found

-- what is found of the ticks of the function at a place
abbrev pub AreFound : Prog → ℕ → Option (List Sizes) → Option ℕ → Runs → Type 0
AreFound P most ss None runs = runs ≡ r.NotAnalysed
AreFound P most ss (Some f) runs =
    (g : Function) × (found : Finding) × (slice_get P f ≡ Some g) × FindsTicks P f most found × AreRuns ss g found runs

-- `raml` refuses the text, at some byte, or it is longer than a source may be
abbrev pub IsNoSource : Text → Type 0
IsNoSource text = (most_bytes < length text) ⊎ ((at : ℕ) × RefusedAt text at)

-- what is found of the program that a text spells; or it is not analysed, since it spells none
abbrev pub AreRunsIn : Case → Text → Runs → Type 0
AreRunsIn case text runs =
    ((P : Prog) × IsProgramOf text P × AreFound P case.most case.sizes (place_of case.name P) runs)
    ⊎ (IsNoSource text × (runs ≡ r.NotAnalysed))

-- How often the region that begins at this byte is run at most: what is found of the source with a counter in it.
pub record AreRunsAt (case : Case) (region : ℕ) (runs : Runs) : Type 0 where
  pub edits : List Edit
  pub counter : AreCounterEdits case.source region edits
  pub are : AreRunsIn case (with_edits case.source edits) runs

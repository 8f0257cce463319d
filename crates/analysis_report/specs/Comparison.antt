-- How the bounds of a program stand to those of another one, and the lines that tell it.
use Rattle.std.specs.Prelude.{◌≡◌, ◌≤◌, ◌<◌, ℕ, ◌*◌, List, ◌++◌, length, flat_map, slice_get, Some}
use Rattle.std.specs.List.{range_with_len}
use Rattle.raml_syntax.specs.Tree.{Text, Function, Prog}
use Rattle.raml_syntax.specs.Types.{types_of}
use Rattle.raml_syntax.specs.Value.{Value}
use Rattle.raml_syntax.specs.Place.{place_of}
use Rattle.poly_point.specs.Point.{worth}
use Rattle.bound_compare.specs.Compare.{Sum, Stands}
use Rattle.bound_compare.specs.Text.{compared_line}
use Rattle.bound_compare.specs.declared.compared.Compared.{Compared}
use Rattle.bound_compare.specs.declared.compared.Compared.TheVariants.{Absent, NoBound, Bounds}
use Rattle.bound_compare.specs.declared.relation.Relation.{Relation}
use Rattle.bound_compare.specs.declared.relation.Relation.TheVariants.{Equal, Below, Above, Mixed}
use Rattle.cost_free.specs.declared.task.Meter.{Meter}
use Rattle.cost_free.specs.declared.task.Meter.TheVariants.{Ticks, Cells, Work}
use Rattle.annot_types.specs.Program.{Program}
use Rattle.annot_types.specs.Certificate.{Certificate}
use Rattle.annot_types.specs.Held.{Claim, Bound}
use Rattle.report_text.specs.Names.{name_at, meter_text}
use Rattle.analysis_report.specs.Lines.{Claims}

-- In Q this is the function with which a function of another program is compared: it has its name, and the same parameter types.
pub record IsCounterpart (Q : Prog) (g : Function) (other : ℕ) : Type 0 where
  pub named : place_of g.name Q ≡ Some other
  pub fun : Function
  pub there : slice_get Q other ≡ Some fun
  pub types : types_of fun ≡ types_of g

-- at all arguments the first is worth no more than the second
abbrev pub WorthAtMost : Sum → Sum → Type 0
WorthAtMost p q = (values : List Value) → worth p.terms values * q.den ≤ worth q.terms values * p.den

-- what a relation promises of their values
abbrev pub Promises : Relation → Sum → Sum → Type 0
Promises Equal p q = WorthAtMost p q × WorthAtMost q p
Promises Below p q = WorthAtMost p q
Promises Above p q = WorthAtMost q p
Promises Mixed p q = Unit {0}

-- Over positive denominators the coefficients stand in this relation, and the values are as it promises.
pub record AreRelated (r : Relation) (p q : Sum) : Type 0 where
  pub first_positive : 0 < p.den
  pub second_positive : 0 < q.den
  pub stands : Stands r p q
  pub promises : Promises r p q

-- two bounds stand in a relation; where one of the claims is none, there is no bound
abbrev pub AreCompared : Claim → Claim → Compared → Type 0
AreCompared (Bound den terms) (Bound other_den others) (Bounds r) =
    AreRelated r (record { den = den; terms = terms }) (record { den = other_den; terms = others })
AreCompared (Bound den terms) (Bound other_den others) comparison = ⊥
AreCompared claim other comparison = comparison ≡ NoBound

-- what both certificates claim of these functions and the meter is so compared
pub record ClaimsCompare (N : Program) (c : Certificate) (f : ℕ) (M : Program) (e : Certificate)
    (other : ℕ) (meter : Meter) (comparison : Compared) : Type 0 where
  pub claim : Claim
  pub claims : Claims N c f meter claim
  pub other_claim : Claim
  pub other_claims : Claims M e other meter other_claim
  pub compared : AreCompared claim other_claim comparison

-- How a bound of a function of a program, whose normal form is N, stands to that of its counterpart in Q, whose normal form is M.
abbrev pub IsComparison : Program → Certificate → Prog → Program → Certificate → ℕ → Function → Meter → Compared → Type 0
IsComparison N c Q M e f g meter Absent = (other : ℕ) → IsCounterpart Q g other → ⊥
IsComparison N c Q M e f g meter comparison = (other : ℕ) × IsCounterpart Q g other × ClaimsCompare N c f M e other meter comparison

-- the line of a function and a meter
abbrev pub comparison_line : Text → Meter → Compared → Text
comparison_line name meter comparison = compared_line name (meter_text meter) comparison

-- the lines of a function: of ticks, cells and work
abbrev pub comparisons_text : Text → (Meter → Compared) → Text
comparisons_text name comparisons =
    comparison_line name Ticks (comparisons Ticks) ++ comparison_line name Cells (comparisons Cells)
    ++ comparison_line name Work (comparisons Work)

-- The text is the comparisons of P with Q: three lines for each function, in the order of the source.
pub record AreComparisons (P : Prog) (N : Program) (c : Certificate) (Q : Prog) (M : Program) (e : Certificate) (text : Text) : Type 0 where
  pub comparisons : ℕ → Meter → Compared
  pub each : (f : ℕ) (g : Function) (meter : Meter) → slice_get P f ≡ Some g → IsComparison N c Q M e f g meter (comparisons f meter)
  pub is : text ≡ flat_map (λ f. comparisons_text (name_at P f) (comparisons f)) (range_with_len 0 (length P))

-- What a line declares are fractions at tuples, each once.
use Rattle.std.proofs.Common.{◌≡◌, ◌≤◌, ◌<◌, ◌^◌, ◌⊎◌, inl, inr, ℕ, suc, false, List, [], ◌∷◌, map, length, All, sym, subst, arith}
use Rattle.std.specs.Prelude.{slice_index_or}
use Rattle.std.specs.List.{AllByRecursion, IsDistinct}
use Rattle.std.proofs.lemmas.List.Elements.{All-nil, All-cons}
use Rattle.raml_syntax.specs.Tree.{Type'}
use Rattle.base_poly.specs.Plain.{Plain, degrees, alike}
use Rattle.base_poly.specs.Indices.{Ascends, AreIndices, tuple_order, index_list}
use Rattle.base_poly.proofs.Exact.{exact, each_listed}
use Rattle.base_poly.proofs.Ordered.{ordered, differ}
use Rattle.bound_file.specs.Lines.{Coefficient, Line, IsProper, AscendFrom, AreInRange, AreBelow}
use Rattle.explain_verdicts.specs.Fractions.{fraction_at, fractions_of, ArePlaced}
use Rattle.explain_verdicts.specs.Laws.{LinesHaveFractions}
use Rattle.explain_verdicts.specs.Written.{IsFraction, AreFractions}
use Rattle.explain_verdicts.specs.declared.fraction.Fraction.{Fraction}

abbrev tuples_of : List (List Plain) → List Coefficient → List (List Plain)
tuples_of ts cs = map (λ (f : Fraction). f.tuple) (map (fraction_at ts) cs)

module _ (ts : List (List Plain)) (ascends : Ascends tuple_order ts) where
  apart : (k least : ℕ) (cs : List Coefficient) → k < least → AscendFrom least cs → AreBelow (length ts) cs →
      AllByRecursion (λ u. alike (slice_index_or ts k []) u ≡ false) (tuples_of ts cs)
  apart k least [] l h g = tt
  apart k least (c ∷ cs) l h g =
      let rises = h.0 in (
        differ (slice_index_or ts k []) (slice_index_or ts c.position []) (ordered ts ascends k c.position (omega (arith, l, rises)) g.0),
        apart k (suc c.position) cs (omega (arith, l, rises)) h.1 g.1,
      )

  distinct : (least : ℕ) (cs : List Coefficient) → AscendFrom least cs → AreBelow (length ts) cs → IsDistinct alike (tuples_of ts cs)
  unfolding IsDistinct
  distinct least [] h g = tt
  distinct least (c ∷ cs) h g = (apart c.position (suc c.position) cs (omega arith) h.1 g.1, distinct (suc c.position) cs h.1 g.1)

none_distinct : (ts : List (List Plain)) → IsDistinct alike (tuples_of ts [])
unfolding IsDistinct
none_distinct ts = tt

each : (As : List Type') (ts : List (List Plain)) → All (λ t. AreIndices t As) ts → All (λ t. degrees t ≤ 4) ts → (cs : List Coefficient) → AreInRange cs → AreBelow (length ts) cs →
    All (IsFraction As) (map (fraction_at ts) cs)
each As ts indices low [] h g = All-nil (IsFraction As)
each As ts indices low (c ∷ cs) h g =
    All-cons (IsFraction As) (fraction_at ts c) (map (fraction_at ts) cs)
    (record {
      numerator = h.0;
      denominator = h.2;
      above = h.1;
      below = h.3;
      indices = indices c.position [] g.0;
      low = low c.position [] g.0;
    })
    (each As ts indices low cs h.4 g.1)

pub lines_have_fractions : LinesHaveFractions
lines_have_fractions As d line few proper (inl none) =
    subst (λ cs. AreFractions As (fractions_of As d cs)) (sym none) (record { each = All-nil (IsFraction As); distinct = none_distinct (index_list As d) })
lines_have_fractions As d line few proper (inr placed) = record {
  each = each As (index_list As d) (each_listed (λ t. AreIndices t As) As d (λ t is less. is)) (each_listed (λ t. degrees t ≤ 4) As d (λ t is less. omega (arith, few, less)))
      line.bound proper.numbers placed.1;
  distinct = distinct (index_list As d) (exact As d).ascends 0 line.bound proper.ascend placed.1;
}

-- What is declared, in algebra.
use Rattle.std.proofs.Common.{◌≡◌, ◌≤◌, ◌<◌, List, [], ap, All, inl}
use Rattle.std.proofs.lemmas.List.Elements.{All-weaker}
use Rattle.raml_syntax.specs.Tree.{Text, Type'}
use Rattle.base_poly.specs.Plain.{degrees}
use Rattle.base_poly.specs.Indices.{AreIndices}
use Rattle.base_poly.specs.Poly.{den_of, magnitudes}
use Rattle.base_poly.specs.declared.tuple.Poly.{Poly}
use Rattle.explain_reading.specs.Reading.{IsReading}
use Rattle.explain_verdicts.specs.Fractions.{terms_over}
use Rattle.explain_verdicts.specs.Over.{IsOverOne}
use Rattle.explain_verdicts.specs.Reads.{Bound, ReadsDeclared}
use Rattle.explain_verdicts.specs.Written.{IsFraction, AreFractions, IsFound}
use Rattle.explain_verdicts.specs.declared.fraction.Fraction.{Fraction}
use Rattle.explain_verdicts.proofs.Terms.{all_terms}

module _ (As : List Type') (fs : List Fraction) (h : AreFractions As fs) where
  pub denominators : All (λ f. 0 < f.denominator) fs
  denominators = All-weaker (IsFraction As) (λ f. 0 < f.denominator) (λ f h. h.denominator) fs h.each

  pub low : All (λ f. degrees f.tuple ≤ 4) fs
  low = All-weaker (IsFraction As) (λ f. degrees f.tuple ≤ 4) (λ f h. h.low) fs h.each

  indices : All (λ f. AreIndices f.tuple As) fs
  indices = All-weaker (IsFraction As) (λ f. AreIndices f.tuple As) (λ f h. h.indices) fs h.each

  -- the polynomial can be read
  pub over_is_found : (poly : Poly) → IsOverOne fs poly → IsFound As poly
  over_is_found poly over =
      let made : magnitudes poly.terms.items ≡ terms_over (den_of poly) fs = ap (λ (b : Bound). b.terms) over.is in
      record {
        polynomial = over.polynomial;
        indices = all_terms (λ t. AreIndices t As) (den_of poly) fs poly.terms.items made indices;
        low = all_terms (λ t. degrees t ≤ 4) (den_of poly) fs poly.terms.items made low;
      }

pub reads_declared : (As : List Type') (params : List Text) (fs : List Fraction) (poly : Poly) (text meaning : Text) → IsOverOne fs poly → IsReading As params poly text meaning →
    ReadsDeclared As params fs text meaning
reads_declared As params fs poly text meaning over reading = inl (den_of poly, over.common, over.fit, record { poly = poly; is = over.is; reading = reading })

-- Bounds in algebra, as plain data.
use Rattle.std.specs.Prelude.{◌≡◌, ◌⊎◌, ℕ, List, [], ◌∷◌, ◌++◌, map, codes}
use Rattle.raml_syntax.specs.Tree.{Text, Type'}
use Rattle.base_poly.specs.Poly.{Term, den_of, terms_of}
use Rattle.base_poly.specs.declared.tuple.Poly.{Poly}
use Rattle.poly_text.specs.Text.{term_text}
use Rattle.explain_algebra.specs.Algebra.{joined}
use Rattle.explain_reading.specs.Reading.{IsReading}
use Rattle.explain_verdicts.specs.Fractions.{IsCommon, terms_over, Fit, NoneFit}
use Rattle.explain_verdicts.specs.declared.fraction.Fraction.{Fraction}

-- terms over a denominator
pub record Bound : Type 0 where
  pub den : ℕ
  pub terms : List Term

abbrev pub bound_of : Poly → Bound
bound_of poly = record { den = den_of poly; terms = terms_of poly }

-- The text is a bound in algebra of a function whose parameters have these types and names, with what the names in it mean.
pub record Reads (As : List Type') (params : List Text) (bound : Bound) (text meaning : Text) : Type 0 where
  pub poly : Poly
  pub is : bound_of poly ≡ bound
  pub reading : IsReading As params poly text meaning

-- a fraction as a bounds file has it
abbrev pub fraction_text : Fraction → Text
fraction_text f = term_text f.denominator (f.tuple, f.numerator)

abbrev pub in_file : List Fraction → Text
in_file fs = joined (codes " + ") (map fraction_text fs)

-- fractions over one denominator
abbrev pub over : ℕ → List Fraction → Bound
over den fs = record { den = den; terms = terms_over den fs }

-- What is declared, in algebra: as one bound, or as it stands in the file where a polynomial of 128 bits has no denominator for it.
abbrev pub ReadsDeclared : List Type' → List Text → List Fraction → Text → Text → Type 0
ReadsDeclared As params fs text meaning =
    ((den : ℕ) × IsCommon fs den × Fit den (terms_over den fs) × Reads As params (over den fs) text meaning)
    ⊎ (NoneFit fs × (text ≡ in_file fs) × (meaning ≡ []))

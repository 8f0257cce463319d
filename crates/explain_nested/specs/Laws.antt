-- Laws of readings.
use Rattle.std.specs.Prelude.{◌≡◌, ◌≤◌, ◌+◌, ◌*◌, List, length, All}
use Rattle.raml_syntax.specs.Tree.{Text, Type'}
use Rattle.raml_syntax.specs.Value.{Value, HaveTypes}
use Rattle.base_poly.specs.Plain.{Plain, degrees}
use Rattle.base_poly.specs.Indices.{AreIndices}
use Rattle.base_poly.specs.Base.{total, bases}
use Rattle.base_poly.specs.Poly.{Term}
use Rattle.poly_point.specs.Point.{worth}
use Rattle.explain_nested.specs.Reading.{meaning, names_in, tuple_reading}
use Rattle.explain_nested.specs.Text.{value_names}

-- A reading means what the base polynomial of the tuple counts, at all values of the types. So the sum of the readings, each times its
-- coefficient, is what the polynomial is worth. A reading names no more elements than the degree.
pub record MeansWhatCounts : Type 0 where
  pub tuple : (is : List Plain) (As : List Type') (vs : List Value) → AreIndices is As → HaveTypes vs As →
      meaning (tuple_reading is) vs ≡ bases is vs
  pub sum : (ts : List Term) (As : List Type') (vs : List Value) → All (λ t. AreIndices t.0 As) ts → HaveTypes vs As →
      total (λ t. t.1 * meaning (tuple_reading t.0) vs) ts ≡ worth ts vs
  pub few : (is : List Plain) → names_in (tuple_reading is) ≤ degrees is

-- Of at most eight parameters and at degree 4, each value that a reading names has a name.
abbrev pub NamesSuffice : Type 0
NamesSuffice = (is : List Plain) (params : List Text) → length is ≡ length params → length params ≤ 8 → degrees is ≤ 4 →
    length is + names_in (tuple_reading is) ≤ length (value_names params)

use Rattle.std.proofs.Common.{◌≡◌, inr, List, [], Result, Ok, Err, IfOk, ap, string_bytes}
use Rattle.std.specs.declared.alloc.AllocError.{AllocError}
use Rattle.raml_syntax.specs.Tree.{Text, Type'}
use Rattle.base_poly.specs.Poly.{den_of, terms_of}
use Rattle.base_poly.specs.Read.{context_of}
use Rattle.base_poly.specs.declared.tuple.Poly.{Poly}
use Rattle.bound_compare.specs.Powers.{Leaves}
use Rattle.explain_algebra.specs.Algebra.{texts}
use Rattle.explain_nested.specs.Text.{value_names, IsNestedText}
use Rattle.explain_reading.specs.Reading.{IsReading}
use Rattle.explain_reading.specs.declared.reading.Reading.{Reading}
use Rattle.explain_reading.proofs.reading.read_bound.Goals as goal

over_elements : (As : List Type') (params : List Text) (poly : Poly) → Leaves (den_of poly) (terms_of poly) → (r : Result Reading AllocError) →
    IfOk r (λ x. IsNestedText (den_of poly) (value_names params) (terms_of poly) (string_bytes x.sum)) → IfOk r (λ x. string_bytes x.legend ≡ []) →
    IfOk r (λ x. IsReading As params poly (string_bytes x.sum) (string_bytes x.legend))
over_elements As params poly leaves (Ok x) sum legend = inr (record { beyond = inr leaves; sum = sum; legend = legend })
over_elements As params poly leaves (Err fault) sum legend = tt

pub returns-in-Err-Leaves : goal.returns-in-Err-Leaves
returns-in-Err-Leaves c =
    over_elements (context_of c.args.types.now) (texts c.args.params.now) c.args.poly.now (c.in-Err-Leaves.ensures.leaves (ap Err c.in-Err-Leaves.field-0-is))
    c.over_elements.result c.over_elements.ensures.sum c.over_elements.ensures.legend

use Rattle.std.proofs.Common.{◌≡◌, ◌≤◌, [], ◌∷◌, All, sym, ◌∙◌, subst}
use Rattle.raml_syntax.specs.Read.{ty_of}
use Rattle.base_poly.specs.Plain.{degrees}
use Rattle.base_poly.specs.Indices.{AreIndices}
use Rattle.base_poly.proofs.Exact.{each_listed}
use Rattle.tests_potential.proofs.products.products_of.Goals as goal

pub multiplied-requires : goal.multiplied-requires
multiplied-requires c =
    let A = ty_of c.args.ty in
    (A, subst (All (λ t. AreIndices t (A ∷ []) × (degrees t ≤ 3))) (sym (c.deref.ensures.value ∙ c.in_ok-found.ensures.all)) (each_listed (λ t. AreIndices t (A ∷ []) × (degrees t ≤ 3)) (A ∷ []) 3 (λ t h low. (h, low))))

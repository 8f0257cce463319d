use Rattle.std.proofs.Common.{◌∙◌, ⊎_elim, map, sym, ap}
use Rattle.raml_syntax.specs.Read.{ty_of}
use Rattle.base_poly.specs.Plain.{deg}
use Rattle.base_poly.specs.Indices.{indices_up_to}
use Rattle.base_poly.proofs.Height.{list_of_part, tree_of_part}
use Rattle.base_poly.proofs.Lengths.{lengths_sized}
use Rattle.base_poly.proofs.how_many.has_lengths.Goals as goal

pub returns-in-List : goal.returns-in-List
returns-in-List c = λ e g.
    let sized = lengths_sized (ty_of c.deref.result.now) g (c.has_one_index.ensures e) in
    ⊎_elim
    (λ h. ap (λ T. map deg (indices_up_to T g)) (sym (list_of_part _ _ _ h c.deref.ensures)) ∙ sized)
    (λ h. ap (λ T. map deg (indices_up_to T g)) (sym (tree_of_part _ _ _ h c.deref.ensures)) ∙ sized) c.in-List.is

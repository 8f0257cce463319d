use Rattle.std.proofs.Common.{◌≡◌, ◌<◌, ◌∷◌, [], length, IfOk, IsErrOf, subst, sym, ap, ◌∙◌}
use Rattle.std.proofs.lemmas.List.{length-map}
use Rattle.raml_syntax.specs.Read.{ty_of}
use Rattle.base_poly.specs.Indices.{indices_up_to}
use Rattle.base_poly.specs.declared.fault.IndexFault.TheVariants.{TooMany}
use Rattle.base_poly.proofs.Behind.{only_type}
use Rattle.base_poly.proofs.list.tuples_up_to.Goals as goal

pub returns-in-len1-clause-all : goal.returns-in-len1-clause-all
returns-in-len1-clause-all c =
    subst (λ ts. IfOk c.singles.result (λ found. found.items ≡ ts)) (only_type c.args.types.now c.ty-item.result c.args.d c.in-len1.len_at_least c.in-len1.len_below c.ty-item.is) c.singles.ensures.all

pub returns-in-len1-clause-many : goal.returns-in-len1-clause-many
returns-in-len1-clause-many c =
    subst (λ n. IsErrOf c.singles.result TooMany → c.args.most < n)
    (sym (length-map (indices_up_to (ty_of c.ty-item.result) c.args.d) (λ i. i ∷ []))
    ∙ ap length (only_type c.args.types.now c.ty-item.result c.args.d c.in-len1.len_at_least c.in-len1.len_below c.ty-item.is)) c.singles.ensures.many

-- Functions in normal form from their parts and the types of their results, and what they keep.
use Rattle.std.proofs.Common.{◌≡◌, ℕ, zero, suc, List, [], ◌∷◌, map, length, Some, refl, sym, ap, ◌∙◌}
use Rattle.std.specs.List.{All}
use Rattle.std.specs.Prelude.{slice_get}
use Rattle.std.proofs.lemmas.List.{length-map}
use Rattle.std.proofs.lemmas.List.Elements.{All-nil, All-cons}
use Rattle.raml_syntax.specs.Tree.{Function, Prog}
use Rattle.raml_syntax.specs.Types.{Typed}
use Rattle.raml_syntax.specs.Node.{AllNodes, NumberFits}
use Rattle.raml_syntax.specs.Read.{ty_of}
use Rattle.raml_syntax.specs.declared.ty.Ty.{Ty}
use Rattle.normal_spec.specs.Norm as n
use Rattle.normal_spec.specs.Norm.{NormProg}
use Rattle.normal_spec.specs.Two.{norm_fun, norm}
use Rattle.normal_spec.specs.Uses.{IsNormal}
use Rattle.normal_spec.specs.Read.{fun_of, funs_of}
use Rattle.normal_spec.specs.declared.form.NormFun.{NormFun}
use Rattle.normal_spec.proofs.Keep.{normal_forms_keep}
use Rattle.share_normal.specs.Parts.{parts_in, normal_parts, result_of}

-- the normal forms of functions of P are these, if their results and their parts are
pub funs_from : (P Q : Prog) (As : List Ty) (gs : List NormFun) → map ty_of As ≡ map result_of Q → map parts_in gs ≡ map (normal_parts P) Q → funs_of As gs ≡ map (norm_fun P) Q
funs_from P [] [] [] h i = refl
funs_from P [] [] (g ∷ gs) h i = absurd (cc)
funs_from P [] (A ∷ As) gs h i = absurd (cc)
funs_from P (f ∷ Q) [] gs h i = absurd (cc)
funs_from P (f ∷ Q) (A ∷ As) [] h i = absurd (cc)
funs_from P (f ∷ Q) (A ∷ As) (g ∷ gs) h i =
    let result : ty_of A ≡ f.result = cc in
    let results : map ty_of As ≡ map result_of Q = cc in
    let parts : parts_in g ≡ normal_parts P f = cc in
    let rest : map parts_in gs ≡ map (normal_parts P) Q = cc in
    let same : fun_of A g ≡ norm_fun P f = λ z. record { params = (parts z).0; result = result z; body = (parts z).1 } in
    λ z. same z ∷ funs_from P Q As gs results rest z

pub same_count : {A B C : Type 0} (f : A → C) (g : B → C) (xs : List A) (ys : List B) → map f xs ≡ map g ys → length xs ≡ length ys
same_count f g xs ys h = sym (length-map xs f) ∙ ap length h ∙ length-map ys g

-- what holds of the normal form of each function holds of all
all_forms : (Q : n.NormFun → Type 0) (P R : Prog) → ((k : ℕ) (g : Function) → slice_get R k ≡ Some g → Q (norm_fun P g)) → All Q (map (norm_fun P) R)
all_forms Q P [] each = All-nil Q
all_forms Q P (f ∷ R) each = All-cons Q (norm_fun P f) (map (norm_fun P) R) (each zero f refl) (all_forms Q P R (λ k g h. each (suc k) g h))

pub all_normal : (P : Prog) → Typed P → All (λ (g : Function). AllNodes NumberFits g.body) P → All (IsNormal (norm P)) (norm P)
all_normal P typed numbers = all_forms (IsNormal (norm P)) P P (λ k g h. (normal_forms_keep P typed numbers k g h).normal)

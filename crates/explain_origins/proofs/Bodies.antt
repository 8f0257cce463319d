-- Functions of a program, and their normal forms.
use Rattle.std.proofs.Common.{◌≡◌, ◌∙◌, ◌<◌, ℕ, zero, suc, List, [], ◌∷◌, map, length, slice_get, slice_index_or, Some, sym, ap, arith}
use Rattle.std.proofs.lemmas.Option.{slice_get-map}
use Rattle.std.specs.Option.{option_map}
use Rattle.raml_syntax.specs.Tree.{Function, Prog}
use Rattle.raml_syntax.specs.declared.ty.Ty.{Ty}
use Rattle.normal_spec.specs.Norm as n
use Rattle.normal_spec.specs.Read.{norm_of, fun_of, funs_of}
use Rattle.normal_spec.specs.Two.{norm_fun, norm}
use Rattle.normal_spec.specs.declared.form.NormFun.{NormFun}
use Rattle.rules_spec.specs.Plan.{Plan}
use Rattle.explain_origins.specs.Paths.{◌>>=◌, origin_of, origin_in}

pub read_at : {A B : Type 0} (f : A → B) (xs : List A) (i : ℕ) (x : A) → x ≡ slice_index_or xs i x → i < length xs → slice_get (map f xs) i ≡ Some (f x)
read_at f [] i x is below = absurd (omega (arith, below))
read_at f (y ∷ ys) zero x is below = ap (λ z. Some (f z)) (sym is)
read_at f (y ∷ ys) (suc i) x is below = read_at f ys i x is (omega (arith, below))

body_at : (As : List Ty) (gs : List NormFun) (f : ℕ) (h : NormFun) (k : n.NormFun) → slice_get gs f ≡ Some h → slice_get (funs_of As gs) f ≡ Some k → norm_of h.body ≡ k.body
body_at [] gs f h k there is = absurd (cc)
body_at (A ∷ As) [] f h k there is = absurd (cc)
body_at (A ∷ As) (g ∷ gs) zero h k there is =
    let same : g ≡ h = cc in
    let made : fun_of A g ≡ k = cc in
    ap (λ (g : NormFun). norm_of g.body) (sym same) ∙ ap (λ (k : n.NormFun). k.body) made
body_at (A ∷ As) (g ∷ gs) (suc f) h k there is = body_at As gs f h k there is

-- the body of a function's normal form, as the code has it
pub normal_body : (P : Prog) (As : List Ty) (gs : List NormFun) (f : ℕ) (h : NormFun) (g : Function) → funs_of As gs ≡ norm P → slice_get gs f ≡ Some h → slice_get P f ≡ Some g → norm_of h.body ≡ (norm_fun P g).body
normal_body P As gs f h g all there is =
    body_at As gs f h (norm_fun P g) there (ap (λ fs. slice_get fs f) all ∙ slice_get-map (norm_fun P) P f ∙ ap (option_map (norm_fun P)) is)

pub in_function : (P : Prog) (f : ℕ) (g : Function) (plan : Plan) (path : List ℕ) → slice_get P f ≡ Some g → origin_of P plan path g ≡ origin_in P f plan path
in_function P f g plan path is = ap (λ found. found >>= origin_of P plan path) (sym is)

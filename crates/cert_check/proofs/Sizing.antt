-- Positions of functions, one after the other.
use Rattle.std.proofs.Common.{◌≡◌, refl, ap, sym, ◌∙◌}
use Rattle.std.specs.Prelude.{ℕ, List, [], ◌∷◌, map, slice_get, Option, None, Some}
use Rattle.std.specs.Option.{option_map}
use Rattle.std.proofs.lemmas.Option.{none-some, same_Some}
use Rattle.raml_syntax.specs.Tree.{Type'}
use Rattle.normal_spec.specs.Norm.{NormFun, NormProg}
use Rattle.normal_spec.specs.Context.{Context, types}
use Rattle.annot_types.specs.Program.{Program}
use Rattle.annot_types.specs.Certificate.{Body, Solved, Refuted, Calls, Block}
use Rattle.annot_types.specs.Held.{IfSolved}
use Rattle.annot_types.specs.Rows.{size as size_of}
use Rattle.rules_spec.specs.Jobs.{body_of}
use Rattle.cert_check.specs.At.{sizes_of}
use Rattle.cert_check.specs.Results.{HasResult}
use Rattle.cert_check.specs.Sizes.{fun_sizes}

-- a function that is not there
pub no_params : (o : Option NormFun) (d : ℕ) → None ≡ option_map (λ (g : NormFun). g.params) o → (0, 0) ≡ fun_sizes d o
no_params None d e = refl
no_params (Some g) d e = absurd (none-some g.params e)

-- one that is
pub are_sizes : (N : NormProg) (f d : ℕ) (params : Context) (A : Type') → Some params ≡ option_map (λ (g : NormFun). g.params) (slice_get N f) → HasResult N f A →
    (size_of (types params) d, size_of (A ∷ []) d) ≡ fun_sizes d (slice_get N f)
are_sizes N f d params A e h =
    let p : h.fun.params ≡ params = same_Some h.fun.params params (sym (e ∙ ap (option_map (λ (g : NormFun). g.params)) h.there)) in
    (λ i. (size_of (types (sym p i)) d, size_of (sym h.is i ∷ []) d)) ∙ sym (ap (fun_sizes d) h.there)

-- those of a group are those of its bodies
pub bodies_have : (P : Program) (group : List ℕ) (earlier : List Block) (d : ℕ) (fs : List ℕ) →
    map (λ f. fun_sizes d (slice_get P.funs f)) fs ≡ sizes_of (map (λ f. body_of P group earlier d (slice_get P.funs f)) fs)
bodies_have P group earlier d [] = refl
bodies_have P group earlier d (f ∷ fs) = λ i. by (slice_get P.funs f) i ∷ bodies_have P group earlier d fs i where
  by : (o : Option NormFun) → fun_sizes d o ≡ ((body_of P group earlier d o).args, (body_of P group earlier d o).result)
  by None = refl
  by (Some g) = refl

pub where_solved : (body : Body) (A : Type 0) → A → IfSolved body A
where_solved (Solved sigs hints) A h = h
where_solved (Refuted farkas) A h = tt
where_solved (Calls f) A h = tt

-- Parameters, one after another.
use Rattle.std.proofs.Common.{◌≡◌, ◌-◌, ◌<◌, ◌≤◌, List, [], ◌∷◌, length, take, drop, ap, ◌∙◌, arith, subst}
use Rattle.std.proofs.Math.Seq.{take-length}
use Rattle.std.specs.Prelude.{slice_index_or, codes, ◌++◌}
use Rattle.raml_syntax.specs.Tree.{Text}
use Rattle.raml_syntax.specs.Read.{ty_of}
use Rattle.raml_syntax.specs.declared.program.Param.{Param}
use Rattle.explain_made.specs.Made.{types_in, AddsValue, AddsMore, AddsArguments}
use Rattle.explain_made.proofs.Added.{no_more, more_added, one_argument, arguments_added}

-- the first before the rest of a slice
cut_first : (xs : List Param) (x : Param) → 1 ≤ length xs → x ≡ slice_index_or xs 0 x → x ∷ take (length xs - 1) (drop 1 xs) ≡ xs
cut_first [] x h e = absurd (omega (arith, h))
cut_first (y ∷ ys) x h e = (λ n. e n ∷ (ap (λ k. take k ys) less ∙ take-length ys) n)
  where
    less : length (y ∷ ys) - 1 ≡ length ys
    less = omega arith

pub more_ended : (ps : List Param) (o new : Text) → length ps < 1 → new ≡ o ++ codes ")" → AddsMore (types_in ps) o new
more_ended [] o new h e = no_more o new e
more_ended (p ∷ ps) o new h e = absurd (omega (arith, h))

pub more_led : (ps : List Param) (p : Param) (o s t new : Text) → 1 ≤ length ps → p ≡ slice_index_or ps 0 p → s ≡ o ++ codes ", " → AddsValue (ty_of p.ty) s t → AddsMore (types_in (take (length ps - 1) (drop 1 ps))) t new → AddsMore (types_in ps) o new
more_led ps p o s t new h first e x more =
    let rest = take (length ps - 1) (drop 1 ps) in
    subst (λ qs. AddsMore (types_in qs) o new) (cut_first ps p h first) (more_added (ty_of p.ty) (types_in rest) o s t new e x more)

pub one_led : (ps : List Param) (p : Param) (o new : Text) → 1 ≤ length ps → length ps < 2 → p ≡ slice_index_or ps 0 p → AddsValue (ty_of p.ty) o new → AddsArguments (types_in ps) o new
one_led [] p o new h below first x = absurd (omega (arith, h))
one_led (q ∷ []) p o new h below first x =
    subst (λ (r : Param). AddsArguments (types_in (r ∷ [])) o new) first (one_argument (ty_of p.ty) o new x)
one_led (q ∷ r ∷ qs) p o new h below first x = absurd (omega (arith, below))

pub several_led : (ps : List Param) (p : Param) (o s t new : Text) → 2 ≤ length ps → p ≡ slice_index_or ps 0 p → s ≡ o ++ codes "(" → AddsValue (ty_of p.ty) s t → AddsMore (types_in (take (length ps - 1) (drop 1 ps))) t new → AddsArguments (types_in ps) o new
several_led [] p o s t new h first e x more = absurd (omega (arith, h))
several_led (q ∷ []) p o s t new h first e x more = absurd (omega (arith, h))
several_led (q ∷ r ∷ qs) p o s t new h first e x more =
    let less : length (q ∷ r ∷ qs) - 1 ≡ length (r ∷ qs) = omega arith in
    let rest : take (length (q ∷ r ∷ qs) - 1) (r ∷ qs) ≡ r ∷ qs = ap (λ k. take k (r ∷ qs)) less ∙ take-length (r ∷ qs) in
    let all = subst (λ xs. AddsMore (types_in xs) t new) rest more in
    subst (λ (z : Param). AddsArguments (types_in (z ∷ r ∷ qs)) o new) first (arguments_added (ty_of p.ty) (ty_of r.ty) (types_in qs) o s t new e x all)

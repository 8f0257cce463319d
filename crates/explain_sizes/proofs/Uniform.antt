-- Values that have exactly given sizes.
use Rattle.std.proofs.Common.{◌≡◌, ℕ, zero, suc, ◌∷◌, length, replicate, All, pos, refl, ap, subst, sym}
use Rattle.std.proofs.lemmas.List.Elements.{All-replicate}
use Rattle.raml_syntax.specs.Value.{Value, Number, Both, Empty, Cons, Just}
use Rattle.base_poly.specs.Base.{elements}
use Rattle.explain_sizes.specs.Sizes.{NoSize, Parts, Content, Elements, HasElements, HasExactly}
use Rattle.explain_sizes.specs.Laws.{SizesAreMet}

abbrev list_of : ℕ → Value → Value
list_of zero v = Empty
list_of (suc n) v = Cons v (list_of n v)

elements_are : (n : ℕ) (v : Value) → elements (list_of n v) ≡ replicate n v
elements_are zero v = refl
elements_are (suc n) v = ap (λ l. v ∷ l) (elements_are n v)

as_many : (n : ℕ) (v : Value) → length (elements (list_of n v)) ≡ n
as_many zero v = refl
as_many (suc n) v = ap suc (as_many n v)

is_list : (n : ℕ) (v : Value) → HasElements (list_of n v)
is_list zero v = tt
is_list (suc n) v = tt

pub sizes_met : SizesAreMet
sizes_met NoSize = (Number (pos 0), tt)
sizes_met (Parts s t) = let v = sizes_met s in let w = sizes_met t in (Both v.0 w.0, (v.1, w.1))
sizes_met (Content s) = let v = sizes_met s in (Just v.0, v.1)
sizes_met (Elements n s) =
    let v = sizes_met s in
    (list_of n v.0, (is_list n v.0, as_many n v.0, subst (All (HasExactly s)) (sym (elements_are n v.0)) (All-replicate (HasExactly s) n v.0 v.1)))

-- Copies of some expressions without their ticks.
use Rattle.std.proofs.Common.{◌≡◌, ◌≤◌, ℕ, List, [], ◌∷◌, ◌++◌, map, length, drop, refl, sym, ap, subst, ◌∙◌, append-nil, drop_of_length-le}
use Rattle.raml_syntax.specs.Tree as t
use Rattle.raml_syntax.specs.Read.{term_of, terms, terms_of}
use Rattle.raml_syntax.specs.declared.tree.Expr.{Expr}
use Rattle.explain_count.specs.Count.{without_ticks, all_without_ticks}

each_made : (es : List t.Term) → terms (map without_ticks es) ≡ all_without_ticks (terms es)
each_made [] = refl
each_made (e ∷ es) = ap (t.More (without_ticks e)) (each_made es)

-- where none are left
pub all_made : (made args : List Expr) (i : ℕ) → length args ≤ i → map term_of made ++ map without_ticks (map term_of (drop i args)) ≡ map without_ticks (map term_of args) → terms_of made ≡ all_without_ticks (terms_of args)
all_made made args i h e =
    let none : drop i args ≡ [] = drop_of_length-le args h in
    let whole : map term_of made ++ [] ≡ map without_ticks (map term_of args) = subst (λ (es : List Expr). map term_of made ++ map without_ticks (map term_of es) ≡ map without_ticks (map term_of args)) none e in
    ap terms (sym (append-nil (map term_of made)) ∙ whole) ∙ each_made (map term_of args)

-- Prices written out in some expressions.
use Rattle.std.proofs.Common.{◌≡◌, ◌≤◌, ℕ, List, [], ◌∷◌, ◌++◌, map, length, drop, refl, sym, ap, subst, ◌∙◌, append-nil, drop_of_length-le}
use Rattle.raml_syntax.specs.Tree as t
use Rattle.raml_syntax.specs.Read.{term_of, terms, terms_of}
use Rattle.raml_syntax.specs.declared.tree.Expr.{Expr}
use Rattle.price_file.specs.Construct.{Prices}
use Rattle.price_file.specs.Applied.{applied, applied_all}

pub each_applied : (prices : Prices) (es : List t.Term) → applied_all prices (terms es) ≡ terms (map (applied prices) es)
each_applied prices [] = refl
each_applied prices (e ∷ es) = ap (t.More (applied prices e)) (each_applied prices es)

-- where none are left
pub all_made : (prices : Prices) (made args : List Expr) (i : ℕ) → length args ≤ i → map term_of made ++ map (applied prices) (map term_of (drop i args)) ≡ map (applied prices) (map term_of args) → terms_of made ≡ applied_all prices (terms_of args)
all_made prices made args i h e =
    let none : drop i args ≡ [] = drop_of_length-le args h in
    let whole : map term_of made ++ [] ≡ map (applied prices) (map term_of args) = subst (λ (es : List Expr). map term_of made ++ map (applied prices) (map term_of es) ≡ map (applied prices) (map term_of args)) none e in
    ap terms (sym (append-nil (map term_of made)) ∙ whole) ∙ sym (each_applied prices (map term_of args))

-- Where one of two lists ends.
use Rattle.std.proofs.Common.{◌≡◌, ◌≤◌, ◌∙◌, ◌++◌, ◌⊎◌, inl, inr, ℕ, zero, suc, List, [], ◌∷◌, length, map, drop, refl, sym, ap, arith}
use Rattle.std.proofs.lemmas.List.{append-nil}
use Rattle.raml_syntax.specs.Tree as t
use Rattle.raml_syntax.specs.Read.{function_of}
use Rattle.raml_syntax.specs.declared.program.Fun.{Fun}
use Rattle.raml_syntax.specs.declared.tree.Pos.{Pos}
use Rattle.explain_scopes.specs.Scopes.{Occurrence, named_at, names_of_all}
use Rattle.explain_scopes.specs.Read.{bounds_of, places_of}
use Rattle.explain_scopes.specs.declared.occurrence.Bound.{Bound}

pub no_more : {A : Type 0} (xs : List A) (k : ℕ) → length xs ≤ k → drop k xs ≡ []
no_more [] zero h = refl
no_more [] (suc k) h = refl
no_more (x ∷ xs) zero h = absurd (omega (arith, h))
no_more (x ∷ xs) (suc k) h = no_more xs k (omega (arith, h))

named_none : (ps : List ℕ) → named_at ps [] ≡ []
named_none [] = refl
named_none (p ∷ ps) = refl

names_none : (fs bs : List t.Bound) → names_of_all fs bs [] ≡ []
names_none fs [] = refl
names_none fs (b ∷ bs) = refl

pub functions_done : (found whole : List t.Bound) (ps : List Pos) (gs : List Fun) → (ps ≡ []) ⊎ (gs ≡ []) →
    found ++ named_at (places_of ps) (map function_of gs) ≡ whole → found ≡ whole
functions_done found whole ps gs (inl e) all =
    sym (append-nil found) ∙ ap (λ (qs : List Pos). found ++ named_at (places_of qs) (map function_of gs)) (sym e) ∙ all
functions_done found whole ps gs (inr e) all =
    sym (append-nil found) ∙ ap (λ (bs : List t.Bound). found ++ bs) (sym (named_none (places_of ps)))
    ∙ ap (λ (hs : List Fun). found ++ named_at (places_of ps) (map function_of hs)) (sym e) ∙ all

pub names_done : (found whole : List Occurrence) (fs : List t.Bound) (bs : List Bound) (gs : List Fun) → gs ≡ [] →
    found ++ names_of_all fs (bounds_of bs) (map function_of gs) ≡ whole → found ≡ whole
names_done found whole fs bs gs e all =
    sym (append-nil found) ∙ ap (λ (os : List Occurrence). found ++ os) (sym (names_none fs (bounds_of bs)))
    ∙ ap (λ (hs : List Fun). found ++ names_of_all fs (bounds_of bs) (map function_of hs)) (sym e) ∙ all

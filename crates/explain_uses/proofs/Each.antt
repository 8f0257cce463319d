-- The later uses of one function after another.
use Rattle.std.proofs.Common.{◌≡◌, ◌∙◌, ℕ, suc, ◌+◌, ◌<◌, List, ◌∷◌, ◌++◌, length, map, drop, slice_index_or, sym, ap, append_assoc, arith}
use Rattle.std.proofs.Math.Seq.{drop-cons}
use Rattle.raml_syntax.specs.Tree.{Prog}
use Rattle.raml_syntax.specs.Read.{function_of}
use Rattle.raml_syntax.specs.declared.program.Fun.{Fun}
use Rattle.explain_uses.specs.Uses.{LaterUse, function_uses, uses_of_each}

pub each_next : (P : Prog) (funs : List Fun) (i : ℕ) (item : Fun) (old new whole : List LaterUse) → i < length funs → item ≡ slice_index_or funs i item → new ≡ old ++ function_uses P (function_of item) → old ++ uses_of_each P (map function_of (drop i funs)) ≡ whole → new ++ uses_of_each P (map function_of (drop (i + 1) funs)) ≡ whole
each_next P funs i item old new whole within read added so_far =
    let step : suc i ≡ i + 1 = omega arith in
    let front : drop i funs ≡ item ∷ drop (i + 1) funs = drop-cons funs i item within ∙ (λ k. sym read k ∷ drop (step k) funs) in
    ap (λ xs. xs ++ uses_of_each P (map function_of (drop (i + 1) funs))) added
    ∙ append_assoc old (function_uses P (function_of item)) (uses_of_each P (map function_of (drop (i + 1) funs)))
    ∙ ap (λ fs. old ++ uses_of_each P (map function_of fs)) (sym front)
    ∙ so_far

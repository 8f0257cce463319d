-- What was appended one after the other.
use Rattle.std.proofs.Common.{◌≡◌, ap, ◌∙◌, List, ◌++◌}
use Rattle.std.proofs.lemmas.List.{append_assoc}

pub more : {A : Type 0} (start next last xs ys : List A) → next ≡ start ++ xs → last ≡ next ++ ys → last ≡ start ++ (xs ++ ys)
more start next last xs ys first then = then ∙ ap (λ all. all ++ ys) first ∙ append_assoc start xs ys

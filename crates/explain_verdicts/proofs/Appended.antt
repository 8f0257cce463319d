-- What was appended, piece by piece.
use Rattle.std.proofs.Common.{◌≡◌, ap, ◌∙◌, List, ◌++◌, codes}
use Rattle.std.proofs.lemmas.List.{append_assoc}
use Rattle.raml_syntax.specs.Tree.{Text}
use Rattle.explain_bounds.specs.Lines.{at_most}

-- what was appended to what was appended
pub more : {A : Type 0} (start next last xs ys : List A) → next ≡ start ++ xs → last ≡ next ++ ys → last ≡ start ++ (xs ++ ys)
more start next last xs ys first then = then ∙ ap (λ all. all ++ ys) first ∙ append_assoc start xs ys

pub four : {A : Type 0} (start s1 s2 s3 s4 a b c d : List A) → s1 ≡ start ++ a → s2 ≡ s1 ++ b → s3 ≡ s2 ++ c → s4 ≡ s3 ++ d → s4 ≡ start ++ (a ++ (b ++ (c ++ d)))
four start s1 s2 s3 s4 a b c d h1 h2 h3 h4 = more start s1 s4 a (b ++ (c ++ d)) h1 (more s1 s2 s4 b (c ++ d) h2 (more s2 s3 s4 c d h3 h4))

pub five : {A : Type 0} (start s1 s2 s3 s4 s5 a b c d e : List A) → s1 ≡ start ++ a → s2 ≡ s1 ++ b → s3 ≡ s2 ++ c → s4 ≡ s3 ++ d → s5 ≡ s4 ++ e →
    s5 ≡ start ++ (a ++ (b ++ (c ++ (d ++ e))))
five start s1 s2 s3 s4 s5 a b c d e h1 h2 h3 h4 h5 = more start s1 s5 a (b ++ (c ++ (d ++ e))) h1 (four s1 s2 s3 s4 s5 b c d e h2 h3 h4 h5)

-- what stands behind what was declared
pub verdict_then : (start next last word sum behind : Text) → next ≡ start ++ (codes " " ++ (word ++ (codes ":" ++ (at_most ++ (sum ++ codes " declared,"))))) → last ≡ next ++ behind →
    last ≡ start ++ (codes " " ++ (word ++ (codes ":" ++ (at_most ++ (sum ++ (codes " declared," ++ behind))))))
verdict_then start next last word sum behind first then =
    more start next last _ behind first then
    ∙ ap (λ text. start ++ (codes " " ++ text))
    (append_assoc word (codes ":" ++ (at_most ++ (sum ++ codes " declared,"))) behind
    ∙ ap (λ text. word ++ (codes ":" ++ (at_most ++ text))) (append_assoc sum (codes " declared,") behind))

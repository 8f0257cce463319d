-- What was written in parts.
use Rattle.std.proofs.Common.{◌≡◌, ℕ, ◌+◌, ◌-◌, List, ◌++◌, Option, Some, None, take, drop, length, refl, sym, ap, ◌∙◌, arith, append_assoc, take-add}
use Rattle.std.proofs.lemmas.Grind.{common_steps}
use Rattle.raml_io.specs.Written.{grown}

pub grown-grown : (w : Option (List ℕ)) (a b : List ℕ) → grown (grown w a) b ≡ grown w (a ++ b)
grown-grown None a b = refl
grown-grown (Some w) a b = ap Some (append_assoc w a b)

pub grown-take : (w : Option (List ℕ)) (bytes : List ℕ) (i n : ℕ) → grown (grown w (take i bytes)) (take n (drop i bytes)) ≡ grown w (take (i + n) bytes)
grown-take w bytes i n = grown-grown w _ _ ∙ ap (grown w) (sym (take-add i n bytes))

-- the part `&bytes[i..]` is written as a front of what is left
pub grown_more : (w v u : Option (List ℕ)) (bytes : List ℕ) (i n : ℕ) → v ≡ grown w (take i bytes) → u ≡ grown v (take n (take (length bytes - i) (drop i bytes))) → u ≡ grown w (take (i + n) bytes)
grown_more w v u bytes i n e f =
    let all : take (length bytes - i) (drop i bytes) ≡ drop i bytes = grind (arith, common_steps) in
    f ∙ ap (λ xs. grown v (take n xs)) all ∙ ap (λ x. grown x (take n (drop i bytes))) e ∙ grown-take w bytes i n

-- What is given to bodies, step by step.
use Rattle.std.proofs.Common.{◌≡◌, refl, ap, sym, ◌∙◌, arith}
use Rattle.std.specs.Prelude.{ℕ, zero, suc, ◌+◌, List, [], ◌∷◌, ◌++◌, map}
use Rattle.rules_spec.specs.Asked.{asked, counts, given, answers}
use Rattle.rules_spec.specs.Tasks.{Body, hints_count, hints_given}
use Rattle.constraint_gen.specs.Given.{all_counts, all_answers}

pub given_more : {E : Type 0} (give : ℕ → E) (from n : ℕ) → given give from n ++ give (from + n) ∷ [] ≡ given give from (n + 1)
given_more give from zero = let e : from + 0 ≡ from = omega arith in ap (λ k. give k ∷ []) e
given_more give from (suc n) =
    let here : from + suc n ≡ suc from + n = omega arith in
    let all : suc n + 1 ≡ suc (n + 1) = omega arith in
    ap (λ l. give from ∷ l) (ap (λ k. given give (suc from) n ++ give k ∷ []) here ∙ given_more give (suc from) n) ∙ ap (given give from) (sym all)

pub counts_are : (bs : List Body) → all_counts (map (λ (b : Body). asked b.plan) bs) ≡ hints_count bs
counts_are [] = refl
counts_are (b ∷ bs) = ap (λ n. counts (asked b.plan) + n) (counts_are bs)

pub answers_are : {E : Type 0} (give : ℕ → E) (from : ℕ) (bs : List Body) → all_answers give from (map (λ (b : Body). asked b.plan) bs) ≡ hints_given give from bs
answers_are give from [] = refl
answers_are give from (b ∷ bs) = ap (λ l. answers give from (asked b.plan) ∷ l) (answers_are give (from + counts (asked b.plan)) bs)

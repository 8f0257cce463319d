-- Spaces, and one behind them.
use Rattle.std.proofs.Common.{◌≡◌, ◌∙◌, ℕ, zero, suc, ◌+◌, [], ◌∷◌, ◌++◌, ap, refl, arith}
use Rattle.raml_syntax.specs.Tree.{Text}
use Rattle.explain_profile.specs.Rows.{spaces}

behind : (n : ℕ) → spaces n ++ 32 ∷ [] ≡ spaces (suc n)
behind zero = refl
behind (suc n) = ap (λ (text : Text). 32 ∷ text) (behind n)

pub one_more : (n : ℕ) → spaces n ++ 32 ∷ [] ≡ spaces (n + 1)
one_more n = let next : suc n ≡ n + 1 = omega arith in behind n ∙ ap spaces next

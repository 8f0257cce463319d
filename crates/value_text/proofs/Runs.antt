-- Runs of bytes that pass a test.
use Rattle.std.proofs.Common.{◌≡◌, ◌≤◌, ℕ, List, ◌∷◌, length, take, Bool, true, sym, subst, arith}
use Rattle.std.specs.List.{AllPass, prefix_len}
use Rattle.std.proofs.lemmas.List.Sums.{prefix_len-le-length}
use Rattle.raml_lex.proofs.Runs.{passes-cons, run_passes}

pub run_within : (p : ℕ → Bool) (s : List ℕ) (n : ℕ) → n ≡ prefix_len p s → (n ≡ prefix_len p s) × (n ≤ length s)
run_within p s n e = let l = prefix_len-le-length p s in (e, omega (arith, e, l))

-- a byte that passes, and the run behind it
pub passes_more : (p : ℕ → Bool) (c : ℕ) (s w : List ℕ) → p c ≡ true → w ≡ c ∷ take (prefix_len p s) s → AllPass p w
passes_more p c s w e is = subst (AllPass p) (sym is) (passes-cons p c (take (prefix_len p s) s) e (run_passes p s))

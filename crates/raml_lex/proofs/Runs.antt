-- The longest front of a text whose bytes pass a test.
use Rattle.std.proofs.Common.{◌≡◌, ◌≤◌, ◌<◌, ◌+◌, ℕ, zero, suc, List, [], ◌∷◌, ◌++◌, length, take, Option, Some, None, Bool, true, false, cond, refl, ap, ◌∙◌, arith}
use Rattle.std.specs.Prelude.{not, nat_lt, unwrap_or}
use Rattle.std.specs.List.{AllPass, prefix_len, position_or_len}
use Rattle.std.proofs.lemmas.List.{get_or-take}
use Rattle.std.proofs.lemmas.List.Sums.{prefix_len_passes, prefix_len-le-length}
use Rattle.std.proofs.lemmas.List.Folds.{length-prefix_len}

not_not : (b : Bool) → not (not b) ≡ b
not_not true = refl
not_not false = refl

prefix_len-not_not : (p : ℕ → Bool) (s : List ℕ) → prefix_len (λ c. not (not (p c))) s ≡ prefix_len p s
prefix_len-not_not p [] = refl
prefix_len-not_not p (c ∷ s) = λ i. cond (not_not (p c) i) (1 + prefix_len-not_not p s i) 0

-- the first place at which p fails, or else the length
pub fails_at : (p : ℕ → Bool) (s : List ℕ) (o : Option ℕ) → o ≡ cond (nat_lt (position_or_len (λ c. not (p c)) s) (length s)) (Some (position_or_len (λ c. not (p c)) s)) None → unwrap_or o (length s) ≡ prefix_len p s
fails_at p s o e = ap (λ o. unwrap_or o (length s)) e ∙ either (nat_lt (position_or_len (λ c. not (p c)) s) (length s)) refl ∙ prefix_len-not_not p s
  where
    either : (b : Bool) → nat_lt (position_or_len (λ c. not (p c)) s) (length s) ≡ b → unwrap_or (cond b (Some (position_or_len (λ c. not (p c)) s)) None) (length s) ≡ position_or_len (λ c. not (p c)) s
    either true q = refl
    either false q = let le = prefix_len-le-length (λ c. not (not (p c))) s in grind (arith, q, le)

pub passes-cons : (p : ℕ → Bool) (c : ℕ) (s : List ℕ) → p c ≡ true → AllPass p s → AllPass p (c ∷ s)
passes-cons p c s e h zero d lt = e
passes-cons p c s e h (suc k) d lt = h k d (omega (arith, lt))

pub passes-head : (p : ℕ → Bool) (c : ℕ) (s : List ℕ) → AllPass p (c ∷ s) → p c ≡ true
passes-head p c s h = h 0 c (omega arith)

pub passes-tail : (p : ℕ → Bool) (c : ℕ) (s : List ℕ) → AllPass p (c ∷ s) → AllPass p s
passes-tail p c s h k d lt = h (suc k) d (omega (arith, lt))

-- each byte of the run passes
pub run_passes : (p : ℕ → Bool) (s : List ℕ) → AllPass p (take (prefix_len p s) s)
run_passes p s k d lt =
    let within : k < prefix_len p s = (let e = length-prefix_len p s in omega (arith, e, lt)) in
    ap p (get_or-take (prefix_len p s) s k d within) ∙ prefix_len_passes p s k d within

-- no longer front passes
pub run_longest : (p : ℕ → Bool) (v rest : List ℕ) → AllPass p v → length v ≤ prefix_len p (v ++ rest)
run_longest p [] rest h = omega arith
run_longest p (c ∷ v) rest h =
    let more = run_longest p v rest (passes-tail p c v h) in
    let e : prefix_len p (c ∷ (v ++ rest)) ≡ 1 + prefix_len p (v ++ rest) = ap (λ b. cond b (1 + prefix_len p (v ++ rest)) 0) (passes-head p c v h) in
    omega (arith, e, more)

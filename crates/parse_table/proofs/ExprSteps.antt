-- An expression is read in the steps in which the code reads it.
use Rattle.std.proofs.Common.{◌≡◌, ◌-◌, ◌∙◌, ℕ, zero, suc, List, [], ◌∷◌, refl, ap}
use Rattle.std.specs.Prelude.{Some, None, Ok, Err, nat_le, if◌then◌else◌}
use Rattle.parse_spec.specs.Rules.{opening}
use Rattle.parse_spec.specs.declared.Kind.TheVariants.{Syntax, TooDeep}
use Rattle.parse_spec.specs.Reading.{Answer, ◌>>=◌, rest_of, formed, parts, starts_at, chain_of, rule_of, level_of, read}
use Rattle.parse_spec.proofs.Steps.{level_form, level_none, level_lower}
use Rattle.parse_table.specs.Tokens.{Token}
use Rattle.parse_table.specs.Table.{Part, At, Exprs, Rules, grammar}
use Rattle.parse_table.specs.Steps.{goes_on, more_on, operators_of}
use Rattle.parse_table.proofs.Chains.{step}

module _ (d : ℕ) where
  abbrev level : ℕ → List Token → Answer Token Part
  level n s = level_of grammar (read grammar 0 d) 0 d Exprs n s

  pub level_empty : (n : ℕ) (s : List Token) → s ≡ [] → level n s ≡ Err (Syntax, s)
  level_empty n s q = rw q (empty n)
    where
      empty : (n : ℕ) → level n [] ≡ Err (Syntax, [])
      empty zero = refl
      empty (suc n) = ap (λ o. o >>= (λ y. chain_of grammar (read grammar 0 d) 0 d Exprs n [] (suc d) y.0 y.1 y.2)) (empty n)

  pub level_begins : (n : ℕ) (s u : List Token) (w : List Part) (r : Rules) → starts_at grammar Exprs n s ≡ Some r → opening grammar s ≡ w → rest_of s ≡ u → level n s ≡ (if nat_le (parts r) d then formed (rule_of grammar (read grammar 0 d) 0 d r w u) else Err (TooDeep, s))
  level_begins n s u w r q o e = level_form grammar (read grammar 0 d) 0 d Exprs n s r q ∙ (λ i. if nat_le (parts r) d then formed (rule_of grammar (read grammar 0 d) 0 d r (o i) (e i)) else Err (TooDeep, s))

  pub level_stops : (s : List Token) → starts_at grammar Exprs 0 s ≡ None → level 0 s ≡ Err (Syntax, s)
  level_stops s q = level_none grammar (read grammar 0 d) 0 d Exprs s q

  bound : (f k : Part × ℕ × List Token → Answer Token Part) → ((y : Part × ℕ × List Token) → f y ≡ k y) → (o : Answer Token Part) → (o >>= f) ≡ (o >>= k)
  bound f k q (Ok y) = q y
  bound f k q (Err z) = refl

  pub level_goes_on : (n : ℕ) (s : List Token) (p : ℕ) → (n ≡ 0 → ⊥) → starts_at grammar Exprs n s ≡ None → opening grammar s ≡ At p ∷ [] → level n s ≡ operators_of d (n - 1) p s
  unfolding goes_on
  level_goes_on n s p high q o =
      level_lower grammar (read grammar 0 d) 0 d Exprs n s high q
      ∙ ap (λ w. level (n - 1) s >>= (λ y. goes_on Exprs d (n - 1) w y.0 y.1 y.2)) o
      ∙ bound (λ y. goes_on Exprs d (n - 1) (At p ∷ []) y.0 y.1 y.2) (λ y. more_on Exprs d (n - 1) (At p ∷ []) y.0 y.1 y.2) (λ y. step Exprs d (n - 1) (At p ∷ []) y.0 y.1 y.2) (level (n - 1) s)

-- The steps of what goes on from a phrase.
use Rattle.std.proofs.Common.{◌≡◌, ◌≤◌, ◌+◌, ◌∙◌, ℕ, suc, List, [], ◌∷◌, refl, sym, ap, subst, arith}
use Rattle.std.specs.Prelude.{max, Some, None, Bool, true, false, Result, Ok, Err}
use Rattle.std.specs.Result.{IsErr, IsErrAnd}
use Rattle.parse_table.specs.Read.{Fails, Gives}
use Rattle.parse_table.specs.declared.stop.Stop.{Stop}
use Rattle.parse_table.specs.declared.stop.Stop.TheVariants as f
use Rattle.parse_spec.specs.Reading.{Fault, Answer, ◌>>=◌, rest_of, goes_at, again_of, chain_of, rule_of, read}
use Rattle.parse_spec.specs.declared.Kind.TheVariants.{TooDeep}
use Rattle.parse_spec.proofs.Steps.{chain_step, chain_end, chain_full, chain_goes}
use Rattle.parse_table.specs.Tokens.{Token}
use Rattle.parse_table.specs.Table.{Part, Class, Types, Rules, grammar}
use Rattle.parse_table.specs.Forms.{suffix_act, suffix_rule}
use Rattle.parse_table.specs.declared.form.Suffix.{Suffix}
use Rattle.parse_table.specs.Steps.{goes_on, more_on}

module _ (c : Class) (d n : ℕ) (w : List Part) (e : Part) (h : ℕ) (s : List Token) where
  pub step : goes_on c d n w e h s ≡ more_on c d n w e h s
  unfolding goes_on
  step = chain_step grammar (read grammar 0 d) 0 d c n w e h s

  pub ended : goes_at grammar c n s ≡ None → goes_on c d n w e h s ≡ Ok (e, h, s)
  unfolding goes_on
  ended q = chain_end grammar (read grammar 0 d) 0 d c n w e h s q

  pub full : (r : Rules) → goes_at grammar c n s ≡ Some r → (h ≤ d → ⊥) → goes_on c d n w e h s ≡ Err (TooDeep, s)
  unfolding goes_on
  full r q high = chain_full grammar (read grammar 0 d) 0 d c n w e h s r q high

  pub again : (r : Rules) → goes_at grammar c n s ≡ Some r → h ≤ d → grammar.chains c n ≡ true → goes_on c d n w e h s ≡ (rule_of grammar (read grammar 0 d) 0 d r (e ∷ w) (rest_of s) >>= (λ y. goes_on c d n w y.0 (suc (max h y.1)) y.2))
  unfolding goes_on
  again r q le b =
      chain_goes grammar (read grammar 0 d) 0 d c n w e h s r q le
      ∙ ap (λ b. rule_of grammar (read grammar 0 d) 0 d r (e ∷ w) (rest_of s) >>= (λ y. again_of b (chain_of grammar (read grammar 0 d) 0 d c n w (suc d)) y.0 (suc (max h y.1)) y.2)) b

post_chains : grammar.chains Types 0 ≡ true
unfolding grammar
post_chains = refl

pub pair_once : grammar.chains Types 1 ≡ false
unfolding grammar
pair_once = refl

module _ (d h : ℕ) (s : List Token) where
  -- `list`, `tree` or `option` behind a type
  pub suffix_more : (e v : Part) (x : Suffix) (u : List Token) → goes_at grammar Types 0 s ≡ Some (suffix_rule x) → h ≤ d → suffix_act x (e ∷ []) ≡ v → rest_of s ≡ u → goes_on Types d 0 [] e h s ≡ goes_on Types d 0 [] v (1 + h) u
  suffix_more e v x u q le act eq =
      again Types d 0 [] e h s (suffix_rule x) q le post_chains
      ∙ (let p : suc (max h 0) ≡ 1 + h = omega arith in λ i. goes_on Types d 0 [] (act i) (p i) (eq i))

-- an operand that was read, and what goes on from there
pub reads_on : (c : Class) (d n m : ℕ) (w : List Part) (h k : ℕ) (b : Bool) (o : Answer Token Part) (x : Part) (i : ℕ) (u : List Token) → b ≡ true → n ≡ m → suc (max h i) ≡ k → o ≡ Ok (x, i, u) → (o >>= (λ y. again_of b (goes_on c d n w) y.0 (suc (max h y.1)) y.2)) ≡ more_on c d m w x k u
reads_on c d n m w h k b o x i u chains level high q =
    (λ j. q j >>= (λ y. again_of (chains j) (goes_on c d n w) y.0 (suc (max h y.1)) y.2))
    ∙ step c d n w x (suc (max h i)) u
    ∙ (λ j. more_on c d (level j) w x (high j) u)

-- what fails as another reading fails
pub fails_as : {X Y : Type 0} (stop : Stop) (o : Result X (Fault Token)) (p : Result Y (Fault Token)) → ((x : Fault Token) → o ≡ Err x → p ≡ Err x) → Fails stop o → Fails stop p
fails_as (f.Fault k u) o p q w = q _ w
fails_as f.NoMemory o p q w = tt

pub refused : {X Y : Type 0} (view : X → Y) (r : Result X Stop) (o : Result Y (Fault Token)) (stop : Stop) → IsErr r → IsErrAnd r (λ x. x ≡ stop) → Fails stop o → Gives view r o
refused view (Ok x) o stop e w k = absurd (let p : false ≡ true = e in cc)
refused view (Err x) o stop e w k = subst (λ x. Fails x o) (sym w) k

-- A type is read in the steps in which the code reads it.
use Rattle.std.proofs.Common.{◌≡◌, ◌∙◌, ◌-◌, ℕ, zero, suc, List, [], ◌∷◌, refl, ap, sym, arith}
use Rattle.std.specs.Prelude.{Option, Some, None, Bool, true, false, max, Ok, Err, nat_le, nat_eq, if◌then◌else◌}
use Rattle.std.proofs.lemmas.Bool.{eqb-true}
use Rattle.parse_spec.specs.Rules.{opening}
use Rattle.parse_spec.specs.declared.Kind.TheVariants.{TooDeep}
use Rattle.parse_spec.specs.Reading.{Answer, ◌>>=◌, rest_of, goes_here, goes_at, starts_at, again_of, more_of, chain_of, rule_of, level_of, read}
use Rattle.parse_spec.proofs.Basics.{goes_is}
use Rattle.parse_spec.proofs.Steps.{level_form, level_none, level_lower, read_step}
use Rattle.parse_table.specs.Tokens.{Token, Key}
use Rattle.parse_table.specs.declared.token.Sign.TheVariants as s
use Rattle.parse_table.specs.Table.{Part, Class, Types, Exprs, Rules, Typing, list_act, tree_act, option_act, pair_type_act, table, grammar}
use Rattle.parse_table.specs.Steps.{base_of, goes_on, postfix_of, second_of, product_of}
use Rattle.parse_table.proofs.Chains.{step, pair_once}
use Rattle.parse_table.proofs.TheTable.{Goings, goings}

-- no type of a higher level has a form of its own
not_zero : (n : ℕ) → nat_eq 0 (suc n) ≡ false
not_zero n = go (nat_eq 0 (suc n)) refl
  where
    go : (b : Bool) → nat_eq 0 (suc n) ≡ b → b ≡ false
    go true q = absurd (let p = eqb-true 0 (suc n) q in omega (arith, p))
    go false q = refl

low : (n : ℕ) (r : Rules) → goes_here (suc n) (Some (0, r)) ≡ None
low n r = ap (λ b. if b then Some r else None) (not_zero n)

no_form : (n : ℕ) (t : Token) → starts_at table Types (suc n) (t ∷ []) ≡ None
no_form n (Key p s.Int) = low n _
no_form n (Key p s.Bool) = low n _
no_form n (Key p s.Open) = low n _
no_form n _ = refl

no_start : (n : ℕ) (s : List Token) → starts_at grammar Types (suc n) s ≡ None
unfolding grammar
no_start n [] = refl
no_start n (t ∷ s) = no_form n t

module _ (d : ℕ) where
  abbrev sub : Class → ℕ → List Token → Answer Token Part
  sub = read grammar 0 d

  bound : (f k : Part × ℕ × List Token → Answer Token Part) → ((y : Part × ℕ × List Token) → f y ≡ k y) → (o : Answer Token Part) → (o >>= f) ≡ (o >>= k)
  bound f k q (Ok y) = q y
  bound f k q (Err z) = refl

  -- what goes on from a type takes the type alone
  module _ (w : List Part) where
    abbrev Alone : Class → Token → ℕ × Rules → Type 0
    Alone Types t y = (e : Part) (s : List Token) → rule_of table sub 0 d y.1 (e ∷ w) s ≡ rule_of table sub 0 d y.1 (e ∷ []) s
    Alone Exprs t y = Unit {0}

    list_alone : (e : Part) → list_act (e ∷ w) ≡ list_act (e ∷ [])
    list_alone (Typing A) = refl
    list_alone _ = refl

    tree_alone : (e : Part) → tree_act (e ∷ w) ≡ tree_act (e ∷ [])
    tree_alone (Typing A) = refl
    tree_alone _ = refl

    option_alone : (e : Part) → option_act (e ∷ w) ≡ option_act (e ∷ [])
    option_alone (Typing A) = refl
    option_alone _ = refl

    pair_alone : (b a : Part) → pair_type_act (b ∷ a ∷ w) ≡ pair_type_act (b ∷ a ∷ [])
    pair_alone (Typing B) (Typing A) = refl
    pair_alone (Typing B) _ = refl
    pair_alone _ _ = refl

    alone : Goings Alone
    alone = record {
      list = λ p e s. ap (λ v. Ok (v, 0, s)) (list_alone e);
      tree = λ p e s. ap (λ v. Ok (v, 0, s)) (tree_alone e);
      option = λ p e s. ap (λ v. Ok (v, 0, s)) (option_alone e);
      pair = λ p e s. bound _ _ (λ y. ap (λ v. Ok (v, max y.1 0, y.2)) (pair_alone y.0 e)) (sub Types 2 s);
      times = λ p. tt;
      quotient = λ p. tt;
      remainder = λ p. tt;
      plus = λ p. tt;
      minus = λ p. tt;
      cons = λ p. tt;
      equal = λ p. tt;
      less = λ p. tt;
      at_most = λ p. tt;
    }

    rule_alone : (n : ℕ) (s u : List Token) (r : Rules) (e : Part) → goes_at grammar Types n s ≡ Some r → rule_of grammar sub 0 d r (e ∷ w) u ≡ rule_of grammar sub 0 d r (e ∷ []) u
    unfolding grammar
    rule_alone n s u r e q = let x = goes_is table Types n s r q in goings Alone alone Types x.0 (n, r) x.2 e u

    chain_alone : (n k : ℕ) (e : Part) (h : ℕ) (s : List Token) → chain_of grammar sub 0 d Types n w k e h s ≡ chain_of grammar sub 0 d Types n [] k e h s
    chain_alone n zero e h s = refl
    chain_alone n (suc k) e h s = go (goes_at grammar Types n s) refl (λ y. chain_alone n k y.0 (suc (max h y.1)) y.2)
      where
        same_again : (b : Bool) (f g : Part → ℕ → List Token → Answer Token Part) (y : Part × ℕ × List Token) → f y.0 (suc (max h y.1)) y.2 ≡ g y.0 (suc (max h y.1)) y.2 → again_of b f y.0 (suc (max h y.1)) y.2 ≡ again_of b g y.0 (suc (max h y.1)) y.2
        same_again true f g y q = q
        same_again false f g y q = refl

        go : (o : Option Rules) → goes_at grammar Types n s ≡ o → ((y : Part × ℕ × List Token) → chain_of grammar sub 0 d Types n w k y.0 (suc (max h y.1)) y.2 ≡ chain_of grammar sub 0 d Types n [] k y.0 (suc (max h y.1)) y.2) → more_of grammar sub 0 d w (again_of (grammar.chains Types n) (chain_of grammar sub 0 d Types n w k)) o e h s ≡ more_of grammar sub 0 d [] (again_of (grammar.chains Types n) (chain_of grammar sub 0 d Types n [] k)) o e h s
        go None q ih = refl
        go (Some r) q ih =
            ap (λ o. if nat_le h d then o else Err (TooDeep, s))
            (ap (λ o. o >>= (λ y. again_of (grammar.chains Types n) (chain_of grammar sub 0 d Types n w k) y.0 (suc (max h y.1)) y.2)) (rule_alone n s (rest_of s) r e q)
            ∙ bound _ _ (λ y. same_again (grammar.chains Types n) (chain_of grammar sub 0 d Types n w k) (chain_of grammar sub 0 d Types n [] k) y (ih y)) (rule_of grammar sub 0 d r (e ∷ []) (rest_of s)))

  base_is : (s : List Token) → level_of grammar sub 0 d Types 0 s ≡ base_of d s
  base_is s = go (starts_at grammar Types 0 s) refl
    where
      go : (o : Option Rules) → starts_at grammar Types 0 s ≡ o → level_of grammar sub 0 d Types 0 s ≡ base_of d s
      go None q = level_none grammar sub 0 d Types s q ∙ sym (rw q refl)
      go (Some r) q = level_form grammar sub 0 d Types 0 s r q ∙ sym (rw q refl)

  goes_is_alone : (w : List Part) (n : ℕ) (y : Part × ℕ × List Token) → chain_of grammar sub 0 d Types n w (suc d) y.0 y.1 y.2 ≡ goes_on Types d n [] y.0 y.1 y.2
  unfolding goes_on
  goes_is_alone w n y = chain_alone w n (suc d) y.0 y.1 y.2

  second_is : (w : List Part) (y : Part × ℕ × List Token) → chain_of grammar sub 0 d Types 1 w (suc d) y.0 y.1 y.2 ≡ second_of d y.0 y.1 y.2
  second_is w y = goes_is_alone w 1 y ∙ step Types d 1 [] y.0 y.1 y.2 ∙ ap (λ b. more_of grammar sub 0 d [] (again_of b (goes_on Types d 1 [])) (goes_at grammar Types 1 y.2) y.0 y.1 y.2) pair_once

  postfix_is : (s : List Token) → level_of grammar sub 0 d Types 1 s ≡ postfix_of d s
  postfix_is s =
      level_lower grammar sub 0 d Types 1 s (λ q. omega (arith, q)) (no_start 0 s)
      ∙ bound _ _ (goes_is_alone (opening grammar s) 0) (level_of grammar sub 0 d Types 0 s)
      ∙ ap (λ o. o >>= (λ y. goes_on Types d 0 [] y.0 y.1 y.2)) (base_is s)

  product_is : (s : List Token) → level_of grammar sub 0 d Types 2 s ≡ product_of d s
  product_is s =
      level_lower grammar sub 0 d Types 2 s (λ q. omega (arith, q)) (no_start 1 s)
      ∙ bound _ _ (second_is (opening grammar s)) (level_of grammar sub 0 d Types 1 s)
      ∙ ap (λ o. o >>= (λ y. second_of d y.0 y.1 y.2)) (postfix_is s)

pub type_is : (d : ℕ) (s : List Token) → (d ≡ 0 → ⊥) → read grammar 0 d Types 2 s ≡ product_of (d - 1) s
type_is d s h = read_step grammar 0 d Types 2 s h ∙ product_is (d - 1) s

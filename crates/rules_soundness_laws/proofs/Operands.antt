-- Operands that are a whole context.
use Rattle.std.proofs.Common.{◌≡◌, ◌≤◌, ℕ, zero, suc, Bool, true, false, nat_eq, cond, List, [], ◌∷◌, map, length, Some, refl, sym, ap, ◌∙◌, subst}
use Rattle.std.specs.Prelude.{zip}
use Rattle.raml_syntax.specs.Tree.{Type'}
use Rattle.raml_syntax.specs.Value.{HaveTypes}
use Rattle.index_shift.specs.Potential.{Annotation, potential}
use Rattle.index_shift.specs.Maps.{none}
use Rattle.index_shift.specs.Contexts.{insertion, permutation, permutes}
use Rattle.normal_spec.specs.Free.{find}
use Rattle.normal_spec.specs.Run.{NormEnv, value_at, values_at}
use Rattle.normal_spec.specs.Uses.{Context, types, IsIn, without, Takes}
use Rattle.normal_spec.specs.Context.{place}
use Rattle.annot_types.specs.Carried.{Covers, carried, operand_places, at_operands}
use Rattle.rules_soundness_laws.specs.Enough.{values}
use Rattle.rules_soundness_laws.proofs.Carried.{permuting_keeps, covers_less}
use Rattle.rules_soundness_laws.proofs.Contexts.{the_variable, has_there, has_put}

module _ {X : Type 0} (f : ℕ × Type' → X) where
  inserted : (x : ℕ) (A : Type') (C : Context) → IsIn x A C → insertion (place x C) (f (x, A)) (map f (without x C)) ≡ map f C
  inserted x A [] there = absurd (cc)
  inserted x A (b ∷ C) there = by (inserted x A C) (nat_eq x b.0) refl there
    where
      by : (IsIn x A C → insertion (place x C) (f (x, A)) (map f (without x C)) ≡ map f C) → (c : Bool) → nat_eq x b.0 ≡ c → cond c (Some b.1) (find x C) ≡ Some A →
          insertion (cond c 0 (suc (place x C))) (f (x, A)) (map f (cond c C (b ∷ without x C))) ≡ f b ∷ map f C
      by rest true q e = ap (λ y. y ∷ map f C) (the_variable f x A b q e)
      by rest false q e = ap (λ l. f b ∷ l) (rest e)

  -- the operands, put at their places, are the context
  arranged : (C : Context) (xs : List ℕ) (As : List Type') → Takes C xs As → permutation (operand_places C xs) (map f (zip xs As)) ≡ map f C
  arranged C [] [] h = ap (map f) (sym h)
  arranged C (x ∷ xs) (A ∷ As) h = ap (insertion (place x C) (f (x, A))) (arranged (without x C) xs As h.1) ∙ inserted x A C h.0
  arranged C _ _ h = absurd h

  pub alone : (C : Context) (x : ℕ) (T : Type') → Takes C (x ∷ []) (T ∷ []) → map f C ≡ f (x, T) ∷ []
  alone C x T h = sym (arranged C (x ∷ []) (T ∷ []) h) ∙ at_any (place x C)
    where
      at_any : (k : ℕ) → insertion k (f (x, T)) [] ≡ f (x, T) ∷ []
      at_any zero = refl
      at_any (suc k) = refl

zip_types : (C : Context) (xs : List ℕ) (As : List Type') → Takes C xs As → types (zip xs As) ≡ As
zip_types C [] [] h = refl
zip_types C (x ∷ xs) (A ∷ As) h = ap (λ l. A ∷ l) (zip_types (without x C) xs As h.1)
zip_types C _ _ h = absurd h

zip_values : (env : NormEnv) (C : Context) (xs : List ℕ) (As : List Type') → Takes C xs As → values env (zip xs As) ≡ values_at xs env
zip_values env C [] [] h = refl
zip_values env C (x ∷ xs) (A ∷ As) h = ap (λ l. value_at x env ∷ l) (zip_values env (without x C) xs As h.1)
zip_values env C _ _ h = absurd h

as_many_places : (C : Context) (xs : List ℕ) (As : List Type') → Takes C xs As → length (operand_places C xs) ≡ length As
as_many_places C [] [] h = refl
as_many_places C (x ∷ xs) (A ∷ As) h = ap suc (as_many_places (without x C) xs As h.1)
as_many_places C _ _ h = absurd h

as_many_values : (env : NormEnv) (C : Context) (xs : List ℕ) (As : List Type') → Takes C xs As → length (values_at xs env) ≡ length As
as_many_values env C [] [] h = refl
as_many_values env C (x ∷ xs) (A ∷ As) h = ap suc (as_many_values env (without x C) xs As h.1)
as_many_values env C _ _ h = absurd h

pub values_taken : (env : NormEnv) (C : Context) (xs : List ℕ) (As : List Type') → Takes C xs As → HaveTypes (values env C) (types C) → HaveTypes (values_at xs env) As
values_taken env C [] [] h g = tt
values_taken env C (x ∷ xs) (A ∷ As) h g =
    (has_there x A C h.0 env g, values_taken env (without x C) xs As h.1 (has_put x A C h.0 env [] tt none none tt g tt))
values_taken env C _ _ h g = absurd h

module _ (env : NormEnv) (C : Context) where
  -- an annotation of the operands is worth the same at the context
  pub operands_keep : (xs : List ℕ) (As : List Type') → Takes C xs As → (b d : ℕ) → b ≤ d → (q : Annotation) →
      potential (types C) d (at_operands C xs As b d q) (values env C) ≡ potential As b q (values_at xs env)
  operands_keep xs As h b d low q =
      let ks = operand_places C xs in
      let ts : types C ≡ permutation ks As = sym (ap (permutation ks) (sym (zip_types C xs As h)) ∙ arranged (λ c. c.1) C xs As h) in
      let vs : values env C ≡ permutation ks (values_at xs env) =
      sym (ap (permutation ks) (sym (zip_values env C xs As h)) ∙ arranged (λ c. value_at c.0 env) C xs As h) in
      (λ i. potential (ts i) d (carried (permutes ks) As b (ts i) d q) (vs i))
      ∙ permuting_keeps ks As (values_at xs env) (as_many_places C xs As h) (as_many_values env C xs As h) b d low q

  pub alone_less : (x : ℕ) (T : Type') → Takes C (x ∷ []) (T ∷ []) → (d : ℕ) (q r : Annotation) → Covers (types C) d q r →
      potential (T ∷ []) d r (value_at x env ∷ []) ≤ potential (types C) d q (values env C)
  alone_less x T h d q r covers =
      let ts = alone (λ c. c.1) C x T h in
      let vs = alone (λ c. value_at c.0 env) C x T h in
      subst (λ n. n ≤ potential (types C) d q (values env C)) (λ i. potential (ts i) d r (vs i)) (covers_less (types C) d (values env C) q r covers)

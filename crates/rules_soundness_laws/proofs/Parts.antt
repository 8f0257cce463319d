-- A context cut into the variables that a bound form uses and the others, and the context of what follows.
use Rattle.std.proofs.Common.{◌≡◌, ℕ, ◌+◌, ◌-◌, ◌*◌, Bool, true, false, nat_eq, cond, not, ◌||◌, ◌&&◌, List, [], ◌∷◌, ◌++◌, map}
use Rattle.std.proofs.Common.{refl, sym, ap, ◌∙◌, subst, arith}
use Rattle.std.proofs.lemmas.Bool.{eqb-true}
use Rattle.std.proofs.lemmas.List.{map-append, length-map}
use Rattle.raml_syntax.specs.Tree.{Type'}
use Rattle.raml_syntax.specs.Value.{Value, Has, HaveTypes}
use Rattle.base_poly.specs.Plain.{Plain, degrees}
use Rattle.base_poly.specs.Indices.{AreIndices, index_list}
use Rattle.base_poly.specs.Base.{bases, total}
use Rattle.index_shift.specs.Potential.{Annotation, potential}
use Rattle.index_shift.specs.Contexts.{marked_items, other_items}
use Rattle.index_shift.proofs.Brought.{Each, each_among, weighed_same, weighed_none, weighed_sum}
use Rattle.index_shift.proofs.Carried.{Fits, are_joined, degrees_joined}
use Rattle.index_shift.proofs.Split.{potential_splits}
use Rattle.normal_spec.specs.Norm.{Norm}
use Rattle.normal_spec.specs.Free.{free_in, has}
use Rattle.normal_spec.specs.Run.{NormEnv, value_at}
use Rattle.normal_spec.specs.Context.{Context, types, inners, others}
use Rattle.normal_spec.proofs.StepOne.{value_newest}
use Rattle.normal_spec.proofs.Weights.{distinct_used, distinct_unused, distinct_append, has_unused}
use Rattle.annot_types.specs.Certificate.{Entries, annotation}
use Rattle.annot_types.specs.Carried.{carried, to, marks, part, joined}
use Rattle.rules_soundness_laws.specs.Enough.{values, IsTyped}
use Rattle.rules_soundness_laws.proofs.Weighed.{worth_times}
use Rattle.rules_soundness_laws.proofs.Carried.{to_is}
use Rattle.rules_soundness_laws.proofs.Contexts.{older, types_joined}

module _ {X : Type 0} (f : ℕ × Type' → X) (a : Norm) where
  inner_items : (C : Context) → marked_items (marks a C) (map f C) ≡ map f (inners a C)
  inner_items [] = refl
  inner_items (b ∷ C) = by (free_in b.0 a) (inner_items C)
    where
      by : (c : Bool) → marked_items (marks a C) (map f C) ≡ map f (inners a C) →
          marked_items (c ∷ marks a C) (f b ∷ map f C) ≡ map f (cond c (b ∷ inners a C) (inners a C))
      by true e = ap (λ l. f b ∷ l) e
      by false e = e

  outer_items : (C : Context) → other_items (marks a C) (map f C) ≡ map f (others a C)
  outer_items [] = refl
  outer_items (b ∷ C) = by (free_in b.0 a) (outer_items C)
    where
      by : (c : Bool) → other_items (marks a C) (map f C) ≡ map f (others a C) →
          other_items (c ∷ marks a C) (f b ∷ map f C) ≡ map f (cond c (others a C) (b ∷ others a C))
      by true e = e
      by false e = ap (λ l. f b ∷ l) e

module _ (a : Norm) (env : NormEnv) where
  -- potential is the sum, over the tuples j of the others, of what j is worth times the potential of the part at j
  pub parts_are : (C : Context) (d : ℕ) (q : Annotation) → potential (types C) d q (values env C)
      ≡ total (λ j. bases j (values env (others a C)) * potential (types (inners a C)) (d - degrees j) (part a C d j q) (values env (inners a C)))
      (index_list (types (others a C)) d)
  parts_are C d q =
      let value : ℕ × Type' → Value = λ b. value_at b.0 env in
      let type : ℕ × Type' → Type' = λ b. b.1 in
      let all = length-map C type in
      let marked = length-map C (λ (b : ℕ × Type'). free_in b.0 a) in
      potential_splits (marks a C) (types C) d q (values env C) (omega (arith, all, marked))
      ∙ (λ i. total (λ j. bases j (outer_items value a C i) * potential (inner_items type a C i) (d - degrees j) (part a C d j q) (inner_items value a C i))
      (index_list (outer_items type a C i) d))

  inner_types : (C : Context) → HaveTypes (values env C) (types C) → HaveTypes (values env (inners a C)) (types (inners a C))
  inner_types [] h = tt
  inner_types (b ∷ C) h = by (free_in b.0 a) (inner_types C h.1)
    where
      by : (c : Bool) → HaveTypes (values env (inners a C)) (types (inners a C)) →
          HaveTypes (values env (cond c (b ∷ inners a C) (inners a C))) (types (cond c (b ∷ inners a C) (inners a C)))
      by true rest = (h.0, rest)
      by false rest = rest

  outer_types : (C : Context) → HaveTypes (values env C) (types C) → HaveTypes (values env (others a C)) (types (others a C))
  outer_types [] h = tt
  outer_types (b ∷ C) h = by (free_in b.0 a) (outer_types C h.1)
    where
      by : (c : Bool) → HaveTypes (values env (others a C)) (types (others a C)) →
          HaveTypes (values env (cond c (others a C) (b ∷ others a C))) (types (cond c (others a C) (b ∷ others a C)))
      by true rest = rest
      by false rest = (h.0, rest)

  pub inner_typed : (C : Context) → IsTyped C env → IsTyped (inners a C) env
  inner_typed C h = record { distinct = distinct_used a C h.distinct; typed = inner_types C h.typed }

  pub outer_typed : (C : Context) → IsTyped C env → IsTyped (others a C) env
  outer_typed C h = record { distinct = distinct_unused a C h.distinct; typed = outer_types C h.typed }

pub new_in_others : (a : Norm) (x : ℕ) (C : Context) → has x C ≡ false → has x (others a C) ≡ false
new_in_others a x C new = has_unused a x C ∙ ap (λ b. not (free_in x a) && b) new ∙ never (not (free_in x a))
  where
    never : (b : Bool) → (b && false) ≡ false
    never true = refl
    never false = refl

-- The context of what follows a Let has the bound variable at its end.
module _ (D : Context) (env : NormEnv) (x : ℕ) (A : Type') (v : Value) (new : has x D ≡ false) where
  pub rest_types : types (D ++ (x, A) ∷ []) ≡ types D ++ A ∷ []
  rest_types = map-append (λ (b : ℕ × Type'). b.1) D ((x, A) ∷ [])

  pub rest_values : values ((x, v) ∷ env) (D ++ (x, A) ∷ []) ≡ values env D ++ v ∷ []
  rest_values =
      map-append (λ (b : ℕ × Type'). value_at b.0 ((x, v) ∷ env)) D ((x, A) ∷ []) ∙ (λ i. older x v env D new i ++ value_newest x v env i ∷ [])

  pub rest_typed : IsTyped D env → Has v A → IsTyped (D ++ (x, A) ∷ []) ((x, v) ∷ env)
  rest_typed h has_type = record {
    distinct = distinct_append D ((x, A) ∷ []) h.distinct (refl, tt) (λ y there. apart y there (nat_eq y x) refl);
    typed = subst (λ As. HaveTypes (values ((x, v) ∷ env) (D ++ (x, A) ∷ [])) As) (sym rest_types)
        (subst (λ vs. HaveTypes vs (types D ++ A ∷ [])) (sym rest_values) (types_joined (values env D) (v ∷ []) (types D) (A ∷ []) h.typed (has_type, tt)));
  }
    where
      apart : (y : ℕ) → has y D ≡ true → (c : Bool) → nat_eq y x ≡ c → (c || false) ≡ false
      apart y there true e = absurd (let other : has x D ≡ true = ap (λ k. has k D) (sym (eqb-true y x e)) ∙ there in cc)
      apart y there false e = refl

bases_joined : (j t : List Plain) (Bs : List Type') (vs ws : List Value) → AreIndices j Bs → HaveTypes vs Bs → bases (j ++ t) (vs ++ ws) ≡ bases j vs * bases t ws
bases_joined [] t [] [] ws h g = grind arith
bases_joined (i ∷ j) t (B ∷ Bs) (v ∷ vs) ws h g = let more = bases_joined j t Bs vs ws h.1 g.1 in grind (arith, more)
bases_joined (i ∷ j) t (B ∷ Bs) [] ws h g = absurd g
bases_joined [] t [] (v ∷ vs) ws h g = absurd g
bases_joined _ t _ vs ws h g = absurd h

-- the sum, over tuples and their annotations, of what the tuple is worth times a number of both; lists of different lengths are cut
abbrev pub summed : (List Plain → ℕ) → (List Plain → Entries → ℕ) → List (List Plain) → List Entries → ℕ
summed worth f (j ∷ js) (r ∷ rs) = worth j * f j r + summed worth f js rs
summed worth f _ _ = 0

module _ (Bs : List Type') (A : Type') (d : ℕ) (vs : List Value) (w : Value) (typed : HaveTypes vs Bs) where
  joined_one : (j : List Plain) → Fits Bs d j → (r : Annotation) →
      potential (Bs ++ A ∷ []) d (carried (to (λ t. j ++ t)) (A ∷ []) (d - degrees j) (Bs ++ A ∷ []) d r) (vs ++ w ∷ [])
      ≡ bases j vs * potential (A ∷ []) (d - degrees j) r (w ∷ [])
  joined_one j h r =
      to_is (λ t. j ++ t) (A ∷ []) (d - degrees j) (Bs ++ A ∷ []) d
      (λ t g. (are_joined j t Bs (A ∷ []) h.0 g.0, (let e = degrees_joined j t in let low = g.1 in let k = h.1 in omega (arith, e, low, k))))
      (λ t. bases t (vs ++ w ∷ [])) r
      ∙ weighed_same _ (λ t. bases j vs * bases t (w ∷ [])) (index_list (A ∷ []) (d - degrees j)) r
      (each_among _ (index_list (A ∷ []) (d - degrees j)) (λ t m. bases_joined j t Bs vs (w ∷ []) h.0 typed))
      ∙ worth_times (λ t. bases t (w ∷ [])) (bases j vs) (index_list (A ∷ []) (d - degrees j)) r

  -- what is put together is worth the sum
  pub joined_is : (js : List (List Plain)) (rs : List Entries) → Each (Fits Bs d) js →
      potential (Bs ++ A ∷ []) d (joined Bs A d js (map annotation rs)) (vs ++ w ∷ [])
      ≡ summed (λ j. bases j vs) (λ j r. potential (A ∷ []) (d - degrees j) (annotation r) (w ∷ [])) js rs
  joined_is [] rs h = weighed_none _ (index_list (Bs ++ A ∷ []) d) _ (λ k. refl)
  joined_is (j ∷ js) [] h = weighed_none _ (index_list (Bs ++ A ∷ []) d) _ (λ k. refl)
  joined_is (j ∷ js) (r ∷ rs) h =
      weighed_sum _ (index_list (Bs ++ A ∷ []) d) (carried (to (λ t. j ++ t)) (A ∷ []) (d - degrees j) (Bs ++ A ∷ []) d (annotation r))
      (joined Bs A d js (map annotation rs))
      ∙ (λ i. joined_one j h.0 (annotation r) i + joined_is js rs h.1 i)

-- Sums over choices of elements that have a type.
use Rattle.std.proofs.Common.{◌≡◌, ℕ, zero, suc, ◌+◌, ◌*◌, List, [], ◌∷◌, ◌++◌, map, length, refl, sym, ap, ◌∙◌, arith}
use Rattle.std.specs.Prelude.{◌==◌, true}
use Rattle.std.proofs.lemmas.Bool.{and_parts}
use Rattle.std.proofs.lemmas.Bool.Decides.{nat_tests}
use Rattle.raml_syntax.specs.Tree.{Type', ListOf, TreeOf}
use Rattle.raml_syntax.specs.Value.{Value, Has, Empty, Cons, Node}
use Rattle.base_poly.specs.Plain.{Plain, End, Then, deg, entry_count}
use Rattle.base_poly.specs.Indices.{IsIndex}
use Rattle.base_poly.specs.Base.{total, elements, choices, base, over}
use Rattle.base_poly.specs.Laws.{choose}
use Rattle.base_poly.proofs.Recursion.{types_have_zero}
use Rattle.base_poly.proofs.Sums.{over_more, total_joined, total_map}
use Rattle.explain_nested.specs.Reading.{are_zero}

module _ (A : Type') where
  abbrev pub Have : List Value → Type 0
  Have [] = Unit {0}
  Have (v ∷ vs) = Has v A × Have vs

  joined_have : (vs ws : List Value) → Have vs → Have ws → Have (vs ++ ws)
  joined_have [] ws s t = t
  joined_have (v ∷ vs) ws s t = (s.0, joined_have vs ws s.1 t)

  pub list_has : (v : Value) → Has v (ListOf A) → Have (elements v)
  list_has Empty t = tt
  list_has (Cons v w) t = (t.0, list_has w t.1)
  list_has v t = absurd t

  pub tree_has : (v : Value) → Has v (TreeOf A) → Have (elements v)
  tree_has Empty t = tt
  tree_has (Node v l r) t = (t.0, joined_have (elements l) (elements r) (tree_has l t.1) (tree_has r t.2))
  tree_has v t = absurd t

  -- what is the same at all lists of so many such values
  pub total_chosen : (k : ℕ) (f g : List Value → ℕ) (vs : List Value) → Have vs → ((xs : List Value) → length xs ≡ k → Have xs → f xs ≡ g xs) →
      total f (choices k vs) ≡ total g (choices k vs)
  total_chosen zero f g vs h same = ap (λ n. n + 0) (same [] refl tt)
  total_chosen (suc k) f g [] h same = refl
  total_chosen (suc k) f g (v ∷ vs) h same =
      let here = total_chosen k (λ xs. f (v ∷ xs)) (λ xs. g (v ∷ xs)) vs h.1 (λ xs l t. same (v ∷ xs) (ap suc l) (h.0, t)) in
      let later = total_chosen (suc k) f g vs h.1 same in
      parts f ∙ (λ i. here i + later i) ∙ sym (parts g)
    where
      parts : (f : List Value → ℕ) → total f (choices (suc k) (v ∷ vs)) ≡ total (λ xs. f (v ∷ xs)) (choices k vs) + total f (choices (suc k) vs)
      parts f =
          total_joined f (map (λ c. v ∷ c) (choices k vs)) (choices (suc k) vs)
          ∙ ap (λ n. n + total f (choices (suc k) vs)) (total_map f (λ c. v ∷ c) (choices k vs))

  -- entries of degree 0

  is_zero : (n : ℕ) → (n == 0) ≡ true → n ≡ 0
  is_zero n h = grind (arith, nat_tests, h)

  is_one : (i : Plain) (v : Value) → IsIndex i A → Has v A → deg i ≡ 0 → base i v ≡ 1
  is_one i v m t d = let zero = types_have_zero A in ap (λ j. base j v) (zero.only i m d) ∙ zero.one v t

  pub over_plain : (r : Plain) (vs : List Value) → IsIndex r (ListOf A) → Have vs → are_zero r ≡ true → over r vs ≡ choose (length vs) (entry_count r)
  over_plain End vs m t d = refl
  over_plain (Then i r) [] m t d = refl
  over_plain (Then i r) (v ∷ vs) m t d =
      let zero = and_parts (deg i == 0) (are_zero r) d in
      let here = is_one i v m.0 t.0 (is_zero (deg i) zero.0) in
      let others = over_plain r vs m.1 t.1 zero.1 in
      let later = over_plain (Then i r) vs m t.1 d in
      let unit : 1 * choose (length vs) (entry_count r) ≡ choose (length vs) (entry_count r) = omega arith in
      over_more i r v vs ∙ (λ n. here n * others n + later n) ∙ ap (λ n. n + choose (length vs) (suc (entry_count r))) unit
  over_plain x vs m t d = absurd m

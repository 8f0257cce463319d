-- Texts of places, one after the other.
use Rattle.std.proofs.Common.{◌≡◌, ◌<◌, ◌+◌, ◌⊎◌, ⊎_elim, ℕ, zero, suc, nat_eq, Bool, true, false, cond, List, [], ◌∷◌, ◌++◌, map, flat_map, refl, sym, ap, ◌∙◌, subst, arith}
use Rattle.std.specs.List.{range_with_len}
use Rattle.std.proofs.lemmas.Bool.{eqb-true}
use Rattle.std.proofs.lemmas.Bool.Decides.{nat_tests}
use Rattle.std.proofs.lemmas.Grind.{flat_map-append}
use Rattle.std.proofs.lemmas.List.{append-nil}
use Rattle.std.proofs.lemmas.List.Folds.{flat_map-map}
use Rattle.std.proofs.lemmas.List.FromFn.{map-range_with_len_more}
use Rattle.raml_syntax.specs.Tree.{Text}

-- with one place more
pub flat_map_next : {X : Type 0} (g : ℕ → List X) (n : ℕ) → flat_map g (range_with_len 0 (n + 1)) ≡ flat_map g (range_with_len 0 n) ++ g n
flat_map_next g n =
    let id : ℕ → ℕ = λ x. x in
    sym (flat_map-map g id (range_with_len 0 (n + 1)))
    ∙ ap (flat_map g) (map-range_with_len_more id 0 n n (omega arith))
    ∙ flat_map-append g (map id (range_with_len 0 n)) (n ∷ [])
    ∙ ap (λ t. t ++ (g n ++ [])) (flat_map-map g id (range_with_len 0 n))
    ∙ ap (λ t. flat_map g (range_with_len 0 n) ++ t) (append-nil (g n))

-- a place that comes before the next one
pub last_or_before : (k n : ℕ) → k < n + 1 → (k < n) ⊎ (k ≡ n)
last_or_before k n below = grind (arith, nat_tests)

flat_map_same : {X : Type 0} (g h : ℕ → List X) (from n : ℕ) → ((k : ℕ) → k < from + n → g k ≡ h k) → flat_map g (range_with_len from n) ≡ flat_map h (range_with_len from n)
flat_map_same g h from zero e = refl
flat_map_same g h from (suc n) e =
    ap (λ t. t ++ flat_map g (range_with_len (from + 1) n)) (e from (omega arith))
    ∙ ap (λ t. h from ++ t) (flat_map_same g h (from + 1) n (λ k below. e k (omega (arith, below))))

module _ {A : Type 0} where
  -- the function with another value at this place
  abbrev pub with_value : (ℕ → A) → ℕ → A → ℕ → A
  with_value f n a k = cond (nat_eq k n) a (f k)

  module _ (f : ℕ → A) (n : ℕ) (a : A) where
    there : with_value f n a n ≡ a
    there = by (nat_eq n n) refl
      where
        same : nat_eq n n ≡ true
        same = grind (arith, nat_tests)

        by : (b : Bool) → nat_eq n n ≡ b → cond b a (f n) ≡ a
        by true e = refl
        by false e = absurd (let no : false ≡ true = sym e ∙ same in cc)

    elsewhere : (k : ℕ) → k < n → with_value f n a k ≡ f k
    elsewhere k below = by (nat_eq k n) refl
      where
        by : (b : Bool) → nat_eq k n ≡ b → cond b a (f k) ≡ f k
        by true e = let same = eqb-true k n e in absurd (omega (arith, same, below))
        by false e = refl

  -- The text is that of what is told of the first n places, each of which it is told of.
  pub record AreTold (Q : ℕ → A → Type 0) (line : ℕ → A → Text) (n : ℕ) (text : Text) : Type 0 where
    pub told : ℕ → A
    pub each : (k : ℕ) → k < n → Q k (told k)
    pub is : text ≡ flat_map (λ k. line k (told k)) (range_with_len 0 n)

  pub none_told : (Q : ℕ → A → Type 0) (line : ℕ → A → Text) (text : Text) → text ≡ [] → A → AreTold Q line 0 text
  none_told Q line text none a = record { told = λ k. a; each = λ k below. absurd (omega (arith, below)); is = none }

  pub next_told : (Q : ℕ → A → Type 0) (line : ℕ → A → Text) (n : ℕ) (old new : Text) → AreTold Q line n old → (a : A) → Q n a → new ≡ old ++ line n a → AreTold Q line (n + 1) new
  next_told Q line n old new before a here longer = record { told = more; each = each; is = is }
    where
      more : ℕ → A
      more = with_value before.told n a

      each : (k : ℕ) → k < n + 1 → Q k (more k)
      each k below = ⊎_elim
          (λ less. subst (Q k) (sym (elsewhere before.told n a k less)) (before.each k less))
          (λ same. subst (λ j. Q j (more j)) (sym same) (subst (Q n) (sym (there before.told n a)) here))
          (last_or_before k n below)

      is : new ≡ flat_map (λ k. line k (more k)) (range_with_len 0 (n + 1))
      is =
          longer
          ∙ ap (λ t. t ++ line n a) (before.is ∙ flat_map_same (λ k. line k (before.told k)) (λ k. line k (more k)) 0 n (λ k below. ap (line k) (sym (elsewhere before.told n a k (omega (arith, below))))))
          ∙ ap (λ x. flat_map (λ k. line k (more k)) (range_with_len 0 n) ++ line n x) (sym (there before.told n a))
          ∙ sym (flat_map_next (λ k. line k (more k)) n)

-- Sums over lists, and list indices over elements.
use Rattle.std.proofs.Common.{◌≡◌, ℕ, suc, ◌+◌, ◌*◌, inl, inr, List, [], ◌∷◌, ◌++◌, map, flat_map, refl, ap, ◌∙◌, arith}
use Rattle.raml_syntax.specs.Value.{Value}
use Rattle.base_poly.specs.Plain.{Plain, Then, entry_count}
use Rattle.base_poly.specs.Base.{total, base, along, over, choices}
use Rattle.base_poly.proofs.Among.{Among}

module _ {X : Type 0} where
  pub total_joined : (f : X → ℕ) (xs ys : List X) → total f (xs ++ ys) ≡ total f xs + total f ys
  total_joined f [] ys = omega arith
  total_joined f (x ∷ xs) ys = let more = total_joined f xs ys in omega arith

  pub total_same : (f g : X → ℕ) (xs : List X) → ((x : X) → Among x xs → f x ≡ g x) → total f xs ≡ total g xs
  total_same f g [] h = refl
  total_same f g (x ∷ xs) h = let one = h x (inl refl) in let more = total_same f g xs (λ y m. h y (inr m)) in omega arith

  pub total_scaled : (n : ℕ) (f : X → ℕ) (xs : List X) → total (λ x. n * f x) xs ≡ n * total f xs
  total_scaled n f [] = grind arith
  total_scaled n f (x ∷ xs) = let more = total_scaled n f xs in grind arith

  pub total_sum : (f g : X → ℕ) (xs : List X) → total (λ x. f x + g x) xs ≡ total f xs + total g xs
  total_sum f g [] = omega arith
  total_sum f g (x ∷ xs) = let more = total_sum f g xs in omega arith

  pub total_none : (f : X → ℕ) (xs : List X) → ((x : X) → f x ≡ 0) → total f xs ≡ 0
  total_none f [] h = refl
  total_none f (x ∷ xs) h = let one = h x in let more = total_none f xs h in omega arith

module _ {X Y : Type 0} where
  pub total_map : (f : Y → ℕ) (g : X → Y) (xs : List X) → total f (map g xs) ≡ total (λ x. f (g x)) xs
  total_map f g [] = refl
  total_map f g (x ∷ xs) = ap (λ n. f (g x) + n) (total_map f g xs)

  pub total_parts : (f : Y → ℕ) (g : X → List Y) (xs : List X) → total f (flat_map g xs) ≡ total (λ x. total f (g x)) xs
  total_parts f g [] = refl
  total_parts f g (x ∷ xs) = total_joined f (g x) (flat_map g xs) ∙ ap (λ n. total f (g x) + n) (total_parts f g xs)

-- the sum over the products of two lists is the product of their sums
pub total_products : {X Y : Type 0} (f : X → ℕ) (g : Y → ℕ) (xs : List X) (ys : List Y) → total (λ x. total (λ y. f x * g y) ys) xs ≡ total f xs * total g ys
total_products f g [] ys = grind arith
total_products f g (x ∷ xs) ys =
    let one = total_scaled (f x) g ys in let more = total_products f g xs ys in grind arith

-- the first position is the first element's, or a later one
pub over_more : (i r : Plain) (v : Value) (vs : List Value) → over (Then i r) (v ∷ vs) ≡ base i v * over r vs + over (Then i r) vs
over_more i r v vs =
    total_joined (along (Then i r)) (map (λ c. v ∷ c) (choices (entry_count r) vs)) (choices (suc (entry_count r)) vs)
    ∙ ap (λ n. n + over (Then i r) vs) (total_map (along (Then i r)) (λ c. v ∷ c) (choices (entry_count r) vs) ∙ total_scaled (base i v) (along r) (choices (entry_count r) vs))

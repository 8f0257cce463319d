-- A part of a context has no more indices than the whole.
use Rattle.std.proofs.Common.{◌≤◌, ℕ, ◌-◌, inl, inr, ⊎_elim, List, [], ◌∷◌, ◌++◌, map, length, arith, length-append}
use Rattle.std.proofs.lemmas.List.{length-map}
use Rattle.raml_syntax.specs.Tree.{Type'}
use Rattle.base_poly.specs.Plain.{Plain, deg}
use Rattle.base_poly.specs.Indices.{indices_up_to, tuples_up_to, index_list}
use Rattle.base_poly.proofs.Graded.{as_many}
use Rattle.base_poly.proofs.Longer.{joined, some_tuple}
use Rattle.base_poly.proofs.Sized.{as_long_as_rests}
use Rattle.index_shift.specs.Maps.{IsTooLarge}

pub more_rests : (f g : ℕ → List (List Plain)) (d : ℕ) (is : List Plain) → ((k : ℕ) → length (f k) ≤ length (g k)) → length (joined f ◌∷◌ d is) ≤ length (joined g ◌∷◌ d is)
more_rests f g d [] h = omega arith
more_rests f g d (i ∷ is) h =
    let a = length-append (map (λ r. i ∷ r) (f (d - deg i))) (joined f ◌∷◌ d is) in
    let b = length-append (map (λ r. i ∷ r) (g (d - deg i))) (joined g ◌∷◌ d is) in
    let c = length-map (f (d - deg i)) (λ r. i ∷ r) in
    let e = length-map (g (d - deg i)) (λ r. i ∷ r) in
    let one = h (d - deg i) in
    let more = more_rests f g d is h in omega (arith, a, b, c, e, one, more)

front : (As Bs : List Type') (d : ℕ) → length (tuples_up_to As d) ≤ length (tuples_up_to (As ++ Bs) d)
front [] Bs d = let some = some_tuple Bs d in omega (arith, some)
front (A ∷ As) Bs d = more_rests (tuples_up_to As) (tuples_up_to (As ++ Bs)) d (indices_up_to A d) (λ k. front As Bs k)

back : (As Bs : List Type') (d : ℕ) → length (tuples_up_to Bs d) ≤ length (tuples_up_to (As ++ Bs) d)
back [] Bs d = omega arith
back (A ∷ As) Bs d = let a = back As Bs d in let b = as_long_as_rests (tuples_up_to (As ++ Bs)) ◌∷◌ d A in omega (arith, a, b)

pub front_few : (As Bs : List Type') (d : ℕ) → length (index_list As d) ≤ length (index_list (As ++ Bs) d)
front_few As Bs d = let a = as_many As d in let b = as_many (As ++ Bs) d in let c = front As Bs d in omega (arith, a, b, c)

pub back_few : (As Bs : List Type') (d : ℕ) → length (index_list Bs d) ≤ length (index_list (As ++ Bs) d)
back_few As Bs d = let a = as_many Bs d in let b = as_many (As ++ Bs) d in let c = back As Bs d in omega (arith, a, b, c)

-- the part in the middle
middle_few : (As Fs Bs : List Type') (d : ℕ) → length (index_list Fs d) ≤ length (index_list (As ++ (Fs ++ Bs)) d)
middle_few As Fs Bs d = let a = front_few Fs Bs d in let b = back_few As (Fs ++ Bs) d in omega (arith, a, b)

pub middle_large : (As Fs Ts Bs : List Type') (d : ℕ) → IsTooLarge Fs Ts d → IsTooLarge (As ++ (Fs ++ Bs)) (As ++ (Ts ++ Bs)) d
middle_large As Fs Ts Bs d h = ⊎_elim
    (λ g. let a = middle_few As Fs Bs d in inl (omega (arith, a, g)))
    (λ g. let a = middle_few As Ts Bs d in inr (omega (arith, a, g))) h

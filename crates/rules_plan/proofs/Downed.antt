-- Lists of what there is at each budget.
use Rattle.std.proofs.Common.{◌≡◌, ◌≤◌, ◌<◌, ℕ, zero, suc, ◌+◌, ◌-◌, List, [], ◌∷◌, map, take, drop, slice_get, Some, refl, sym, ap, ◌∙◌, arith}
use Rattle.rules_spec.specs.Plan as p
use Rattle.rules_spec.specs.Planned.{lower}
use Rattle.rules_walk.specs.Read.{plans}
use Rattle.rules_plan.specs.Down.{down, reached, each_down, both_down}
use Rattle.rules_plan.specs.declared.env.Reach.{Reach}
use Rattle.rules_plan.specs.declared.env.Reach.TheVariants.{Greatest, Down}

one_less : (d : ℕ) → suc d - 1 ≡ d
one_less d = omega arith

pub down_step : {X : Type 0} (f : ℕ → X) (d : ℕ) → 0 < d → down f d ≡ f d ∷ down f (d - 1)
down_step f zero h = absurd (omega (arith, h))
down_step f (suc d) h = ap (λ k. f (suc d) ∷ down f k) (sym (one_less d))

pub both_none : {X Y Z : Type 0} (f : ℕ → X → Y → Z) (d : ℕ) (ys : List Y) → both_down f d ys [] ≡ []
both_none f d [] = refl
both_none f d (y ∷ ys) = refl

map_down : {X Y : Type 0} (g : X → Y) (f : ℕ → X) (d : ℕ) → map g (down f d) ≡ down (λ k. g (f k)) d
map_down g f zero = refl
map_down g f (suc d) = ap (λ l. g (f (suc d)) ∷ l) (map_down g f d)

each_is : {X Y : Type 0} (F : ℕ → X → Y) (f : ℕ → X) (d : ℕ) → each_down F d (down f d) ≡ down (λ k. F k (f k)) d
each_is F f zero = refl
each_is F f (suc d) = ap (λ k. F (suc d) (f (suc d)) ∷ each_down F k (down f d)) (one_less d) ∙ ap (λ l. F (suc d) (f (suc d)) ∷ l) (each_is F f d)

both_is : {X Y Z : Type 0} (F : ℕ → X → Y → Z) (f : ℕ → X) (g : ℕ → Y) (d : ℕ) → both_down F d (down g d) (down f d) ≡ down (λ k. F k (f k) (g k)) d
both_is F f g zero = refl
both_is F f g (suc d) =
    ap (λ k. F (suc d) (f (suc d)) (g (suc d)) ∷ both_down F k (down g d) (down f d)) (one_less d) ∙ ap (λ l. F (suc d) (f (suc d)) (g (suc d)) ∷ l) (both_is F f g d)

down_same : {X : Type 0} (f g : ℕ → X) (d : ℕ) → ((k : ℕ) → k ≤ d → f k ≡ g k) → down f d ≡ down g d
down_same f g zero h = ap (λ x. x ∷ []) (h zero (omega arith))
down_same f g (suc d) h = λ i. h (suc d) (omega arith) i ∷ down_same f g d (λ k l. h k (omega (arith, l))) i

-- at the budgets that are reached

pub map_reached : {X Y : Type 0} (r : Reach) (g : X → Y) (f : ℕ → X) (d : ℕ) → map g (reached r f d) ≡ reached r (λ k. g (f k)) d
map_reached Greatest g f d = refl
map_reached Down g f d = map_down g f d

pub each_reached : {X Y : Type 0} (r : Reach) (F : ℕ → X → Y) (f : ℕ → X) (d : ℕ) → each_down F d (reached r f d) ≡ reached r (λ k. F k (f k)) d
each_reached Greatest F f d = refl
each_reached Down F f d = each_is F f d

pub both_reached : {X Y Z : Type 0} (r : Reach) (F : ℕ → X → Y → Z) (f : ℕ → X) (g : ℕ → Y) (d : ℕ) → both_down F d (reached r g d) (reached r f d) ≡ reached r (λ k. F k (f k) (g k)) d
both_reached Greatest F f g d = refl
both_reached Down F f g d = both_is F f g d

pub reached_same : {X : Type 0} (r : Reach) (f g : ℕ → X) (d : ℕ) → ((k : ℕ) → k ≤ d → f k ≡ g k) → reached r f d ≡ reached r g d
reached_same Greatest f g d h = ap (λ x. x ∷ []) (h d (omega arith))
reached_same Down f g d h = down_same f g d h

pub first_reached : {X : Type 0} (r : Reach) (f : ℕ → X) (d : ℕ) → slice_get (reached r f d) 0 ≡ Some (f d)
first_reached Greatest f d = refl
first_reached Down f zero = refl
first_reached Down f (suc d) = refl

pub drop_down : {X : Type 0} (f : ℕ → X) (n d : ℕ) → drop n (down f (n + d)) ≡ down f d
drop_down f zero d = ap (down f) (omega arith)
drop_down f (suc n) d = let e : suc n + d ≡ suc (n + d) = omega arith in ap (λ k. drop (suc n) (down f k)) e ∙ drop_down f n d

pub lower_is : (f : ℕ → p.Plan) (d : ℕ) → plans (down f d) ≡ lower f d
lower_is f zero = refl
lower_is f (suc d) = ap (p.More (f (suc d))) (lower_is f d)

pub take_map : {X Y : Type 0} (f : X → Y) (n : ℕ) (xs : List X) → map f (take n xs) ≡ take n (map f xs)
take_map f zero xs = refl
take_map f (suc n) [] = refl
take_map f (suc n) (x ∷ xs) = ap (λ l. f x ∷ l) (take_map f n xs)

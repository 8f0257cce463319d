-- Positions of tuples.
use Rattle.std.proofs.Common.{◌≡◌, ℕ, zero, suc, ◌+◌, ◌-◌, ◌≤◌, ◌<◌, inl, inr, Bool, true, false, not, cond, nat_lt, List, [], ◌∷◌, ◌++◌, map, flat_map, length, position, slice_get, None, Some, option_map, refl, sym, ap, ◌∙◌, subst, arith}
use Rattle.std.proofs.lemmas.List.{length-map}
use Rattle.std.proofs.lemmas.Option.{slice_get-map, slice_get_within}
use Rattle.std.proofs.lemmas.Bool.{lt-ltb}
use Rattle.std.proofs.lemmas.Bool.Decides.{nat_tests}
use Rattle.std.specs.List.{position_or_len}
use Rattle.std.specs.declared.cmp.Ordering.TheVariants.{Less}
use Rattle.raml_syntax.specs.Tree.{Type'}
use Rattle.base_poly.specs.Plain.{Plain, degrees, alike}
use Rattle.base_poly.specs.Indices.{Ascends, tuple_order, tuples_up_to, index_list}
use Rattle.base_poly.specs.Total.{alike_is, alike_self}
use Rattle.base_poly.proofs.Among.{Among, before_one}
use Rattle.base_poly.proofs.Exact.{exact}
use Rattle.base_poly.proofs.Only.{never_both}
use Rattle.index_shift.proofs.Exactly.{exactly, each_degree, behind_one, many_behind, ahead, lower, by_degrees, in_two}

-- the k-th tuple of As, then the m-th of Ts, then the y-th of exactly degree r of Bs
abbrev pub spot : List Type' → List Type' → List Type' → ℕ → List Plain → ℕ → List Plain → ℕ → ℕ → ℕ → ℕ
spot As Ts Bs d x k e m r y =
    let h = degrees x + (degrees e + r) in
    (lower (As ++ (Ts ++ Bs)) h + ahead (many_behind (Ts ++ Bs) h) (tuples_up_to As d) k) + (ahead (many_behind Bs (degrees e + r)) (tuples_up_to Ts d) m + y)

none_more : (k : ℕ) → k ≡ 0 + k
none_more k = omega arith

module _ {X : Type 0} where
  get_left : (xs ys : List X) (k : ℕ) (x : X) → slice_get xs k ≡ Some x → slice_get (xs ++ ys) k ≡ Some x
  get_left [] ys k x h = absurd (none h)
    where
      none : None ≡ Some x → ⊥
      none e = cc
  get_left (z ∷ xs) ys zero x h = h
  get_left (z ∷ xs) ys (suc k) x h = get_left xs ys k x h

  get_right : (xs ys : List X) (k : ℕ) (x : X) → slice_get ys k ≡ Some x → slice_get (xs ++ ys) (length xs + k) ≡ Some x
  get_right [] ys k x h = subst (λ n. slice_get ys n ≡ Some x) (none_more k) h
  get_right (z ∷ xs) ys k x h = subst (λ n. slice_get (z ∷ (xs ++ ys)) n ≡ Some x) (one_more (length xs) k) (get_right xs ys k x h)
    where
      one_more : (n k : ℕ) → suc (n + k) ≡ suc n + k
      one_more n k = omega arith

  pub got_among : (xs : List X) (k : ℕ) (x : X) → slice_get xs k ≡ Some x → Among x xs
  got_among [] k x h = absurd (none h)
    where
      none : None ≡ Some x → ⊥
      none e = cc
  got_among (z ∷ xs) zero x h = inl (same h)
    where
      same : Some z ≡ Some x → z ≡ x
      same e = cc
  got_among (z ∷ xs) (suc k) x h = inr (got_among xs k x h)

-- a list in parts, one for each item
module _ {X Y : Type 0} (f : X → List Y) (n : X → ℕ) (counts : (x : X) → length (f x) ≡ n x) where
  pub get_part : (xs : List X) (k l : ℕ) (x : X) (y : Y) → slice_get xs k ≡ Some x → slice_get (f x) l ≡ Some y → slice_get (flat_map f xs) (ahead n xs k + l) ≡ Some y
  get_part [] k l x y h g = absurd (none h)
    where
      none : None ≡ Some x → ⊥
      none e = cc
  get_part (z ∷ xs) zero l x y h g = subst (λ p. slice_get (f z ++ flat_map f xs) p ≡ Some y) (none_more l) (get_left (f z) (flat_map f xs) l y (subst (λ w. slice_get (f w) l ≡ Some y) (sym (same h)) g))
    where
      same : Some z ≡ Some x → z ≡ x
      same e = cc
  get_part (z ∷ xs) (suc k) l x y h g =
      subst (λ p. slice_get (f z ++ flat_map f xs) p ≡ Some y) place
      (get_right (f z) (flat_map f xs) (ahead n xs k + l) y (get_part xs k l x y h g))
    where
      place : length (f z) + (ahead n xs k + l) ≡ n z + ahead n xs k + l
      place = let c = counts z in omega (arith, c)

-- what is before another is not alike to it
other : (t u : List Plain) → tuple_order t u ≡ Less → alike u t ≡ false
other t u h = by (alike u t) refl
  where
    by : (b : Bool) → alike u t ≡ b → alike u t ≡ false
    by true e = let again = ap (tuple_order t) (sym (alike_is u t e)) ∙ h in absurd (never_both t t again again)
    by false e = e

-- in a list in order a tuple has the position at which it stands
stands_there : (us : List (List Plain)) (k : ℕ) (t : List Plain) → Ascends tuple_order us → slice_get us k ≡ Some t → position_or_len (alike t) us ≡ k
stands_there [] k t up h = absurd (none h)
  where
    none : None ≡ Some t → ⊥
    none e = cc
stands_there (u ∷ us) zero t up h = ap (λ b. cond (not b) (1 + position_or_len (alike t) us) 0) (ap (alike t) (same h) ∙ alike_self t)
  where
    same : Some u ≡ Some t → u ≡ t
    same e = cc
stands_there (u ∷ us) (suc k) t up h =
    ap (λ b. cond (not b) (1 + position_or_len (alike t) us) 0) (other u t (before_one tuple_order u t us up.0 (got_among us k t h)))
    ∙ one_more (position_or_len (alike t) us) ∙ ap suc (stands_there us k t up.1 h)
  where
    one_more : (n : ℕ) → 1 + n ≡ suc n
    one_more n = omega arith

pub position_there : (us : List (List Plain)) (k : ℕ) (t : List Plain) → Ascends tuple_order us → slice_get us k ≡ Some t → position (alike t) us ≡ Some k
position_there us k t up h =
    (λ n. cond (nat_lt (stands_there us k t up h n) (length us)) (Some (stands_there us k t up h n)) None)
    ∙ ap (λ b. cond b (Some k) None) (lt-ltb k (length us) (slice_get_within us k t h))

-- two contexts
pub counts_behind : (Bs : List Type') (g : ℕ) (x : List Plain) → length (behind_one Bs g x) ≡ many_behind Bs g x
counts_behind Bs g x = at (nat_lt g (degrees x))
  where
    at : (b : Bool) → length (cond b [] (map (λ u. x ++ u) (exactly Bs (g - degrees x)))) ≡ cond b 0 (length (exactly Bs (g - degrees x)))
    at true = refl
    at false = length-map (exactly Bs (g - degrees x)) (λ u. x ++ u)

pub get_two : (As Bs : List Type') (d : ℕ) (x : List Plain) (k r : ℕ) (u : List Plain) (y : ℕ) → degrees x + r ≤ d → slice_get (tuples_up_to As d) k ≡ Some x → slice_get (exactly Bs r) y ≡ Some u →
    slice_get (exactly (As ++ Bs) (degrees x + r)) (ahead (many_behind Bs (degrees x + r)) (tuples_up_to As d) k + y) ≡ Some (x ++ u)
get_two As Bs d x k r u y low at_k at_y =
    ap (λ l. slice_get l (ahead (many_behind Bs (degrees x + r)) (tuples_up_to As d) k + y)) (in_two As Bs (degrees x + r) d low)
    ∙ get_part (behind_one Bs (degrees x + r)) (many_behind Bs (degrees x + r)) (counts_behind Bs (degrees x + r)) (tuples_up_to As d) k y x (x ++ u) at_k
    (ap (λ b. slice_get (cond b [] (map (λ u. x ++ u) (exactly Bs (degrees x + r - degrees x)))) y) enough
    ∙ ap (λ n. slice_get (map (λ u. x ++ u) (exactly Bs n)) y) left
    ∙ slice_get-map (λ u. x ++ u) (exactly Bs r) y ∙ ap (option_map (λ u. x ++ u)) at_y)
  where
    enough : nat_lt (degrees x + r) (degrees x) ≡ false
    enough = grind (arith, nat_tests)

    left : degrees x + r - degrees x ≡ r
    left = omega arith

-- degrees, one by one: those of h degrees from `from` on
abbrev between : List Type' → ℕ → ℕ → ℕ
between As zero from = 0
between As (suc h) from = length (exactly As from) + between As h (1 + from)

between_more : (As : List Type') (h from : ℕ) → between As (suc h) from ≡ between As h from + length (exactly As (h + from))
between_more As zero from = let same = ap (λ n. length (exactly As n)) (none_more from) in omega (arith, same)
between_more As (suc h) from =
    let more = between_more As h (1 + from) in
    let same = ap (λ n. length (exactly As n)) next in omega (arith, more, same)
  where
    next : h + (1 + from) ≡ suc h + from
    next = omega arith

pub is_lower : (As : List Type') (h : ℕ) → between As h 0 ≡ lower As h
is_lower As zero = refl
is_lower As (suc h) = let a = between_more As h 0 in let b = is_lower As h in let c = ap (λ n. length (exactly As n)) none in omega (arith, a, b, c)
  where
    none : h + 0 ≡ h
    none = omega arith

get_degree : (As : List Type') (n from h k : ℕ) (t : List Plain) → h < n → slice_get (exactly As (h + from)) k ≡ Some t →
    slice_get (each_degree As n from) (between As h from + k) ≡ Some t
get_degree As zero from h k t less at = absurd (omega (arith, less))
get_degree As (suc n) from zero k t less at =
    subst (λ p. slice_get (each_degree As (suc n) from) p ≡ Some t) (none_more k)
    (get_left (exactly As from) (each_degree As n (1 + from)) k t (subst (λ g. slice_get (exactly As g) k ≡ Some t) (sym (none_more from)) at))
get_degree As (suc n) from (suc h) k t less at =
    subst (λ p. slice_get (each_degree As (suc n) from) p ≡ Some t) place
    (get_right (exactly As from) (each_degree As n (1 + from)) (between As h (1 + from) + k) t
    (get_degree As n (1 + from) h k t (omega (arith, less)) (subst (λ g. slice_get (exactly As g) k ≡ Some t) next at)))
  where
    next : suc h + from ≡ h + (1 + from)
    next = omega arith

    place : length (exactly As from) + (between As h (1 + from) + k) ≡ between As (suc h) from + k
    place = omega arith

get_listed : (As : List Type') (d h k : ℕ) (t : List Plain) → h ≤ d → slice_get (exactly As h) k ≡ Some t → slice_get (index_list As d) (lower As h + k) ≡ Some t
get_listed As d h k t low at =
    (λ n. slice_get (by_degrees As d n) (sym (is_lower As h) n + k))
    ∙ get_degree As (1 + d) 0 h k t (omega (arith, low)) (subst (λ g. slice_get (exactly As g) k ≡ Some t) same at)
  where
    same : h ≡ h + 0
    same = omega arith

pub places_are_counted : (As Ts Bs : List Type') (d : ℕ) (x : List Plain) (k : ℕ) (e : List Plain) (m r : ℕ) (u : List Plain) (y : ℕ) →
    degrees x + (degrees e + r) ≤ d → slice_get (tuples_up_to As d) k ≡ Some x → slice_get (tuples_up_to Ts d) m ≡ Some e → slice_get (exactly Bs r) y ≡ Some u →
    position (alike (x ++ (e ++ u))) (index_list (As ++ (Ts ++ Bs)) d) ≡ Some (spot As Ts Bs d x k e m r y)
places_are_counted As Ts Bs d x k e m r u y low at_k at_m at_y =
    position_there (index_list (As ++ (Ts ++ Bs)) d) (spot As Ts Bs d x k e m r y) (x ++ (e ++ u)) (exact (As ++ (Ts ++ Bs)) d).ascends
    (subst (λ n. slice_get (index_list (As ++ (Ts ++ Bs)) d) n ≡ Some (x ++ (e ++ u))) (regroup (lower (As ++ (Ts ++ Bs)) (degrees x + (degrees e + r))) (ahead (many_behind (Ts ++ Bs) (degrees x + (degrees e + r))) (tuples_up_to As d) k) (ahead (many_behind Bs (degrees e + r)) (tuples_up_to Ts d) m + y))
    (get_listed (As ++ (Ts ++ Bs)) d (degrees x + (degrees e + r)) (ahead (many_behind (Ts ++ Bs) (degrees x + (degrees e + r))) (tuples_up_to As d) k + (ahead (many_behind Bs (degrees e + r)) (tuples_up_to Ts d) m + y)) (x ++ (e ++ u)) low
    (get_two As (Ts ++ Bs) d x k (degrees e + r) (e ++ u) (ahead (many_behind Bs (degrees e + r)) (tuples_up_to Ts d) m + y) low at_k
    (get_two Ts Bs d e m r u y (omega (arith, low)) at_m at_y))))
  where
    regroup : (a b c : ℕ) → a + (b + c) ≡ a + b + c
    regroup a b c = omega arith

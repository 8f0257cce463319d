-- A walk whose contexts have a few lists and trees of scalars, and else scalars alone, is small enough.
use Rattle.std.proofs.Common.{◌≡◌, ◌≢◌, ◌≤◌, ◌⊎◌, inl, inr, ℕ, zero, suc, ◌+◌, ◌-◌, nat_eq, nat_le, Bool, true, false, cond, ◌&&◌, List, [], ◌∷◌, ◌++◌, map, zip, length, Some, refl, sym, ap, ◌∙◌, subst, arith}
use Rattle.std.specs.List.{range_with_len}
use Rattle.std.proofs.Math.Nat.{le_trans}
use Rattle.std.proofs.lemmas.Bool.{cases_eq, and_parts}
use Rattle.std.proofs.lemmas.List.{length-append, length-map}
use Rattle.raml_syntax.specs.Tree.{Type', Integer, Boolean, PairOf, ListOf, TreeOf, OptionOf}
use Rattle.base_poly.specs.Base.{total}
use Rattle.base_poly.specs.Plain.{Plain, many, deg, degrees}
use Rattle.base_poly.specs.Indices.{indices_up_to, lists, tuples_up_to, tuples_led}
use Rattle.base_poly.proofs.Graded.{as_many}
use Rattle.base_poly.proofs.Lengths.{HasOne, lengths_sized, rests_sized, same_length}
use Rattle.base_poly.proofs.Low.{is_low}
use Rattle.normal_spec.specs.One.{type_or}
use Rattle.normal_spec.specs.Free.{find, free_in, put, used, unused}
use Rattle.normal_spec.specs.Norm as n
use Rattle.normal_spec.specs.Norm.{Norm}
use Rattle.normal_spec.specs.Context.{Context, types, type_in, without, opened, parts_of, copies_of, inners, others}
use Rattle.annot_types.specs.Rows.{size as size_of}
use Rattle.rules_plan.specs.Down.{up}
use Rattle.rules_plan.specs.Within.{AreSmall, IsWithin}
use Rattle.rules_plan.specs.Flat.{holder_of, holders, all_holders, flat_size, is_flat}
use Rattle.rules_plan.proofs.Lower.{is_bound}

-- Contexts

-- of a context
abbrev pub held : Context → ℕ
held C = all_holders (types C)

joined : (C D : Context) → held (C ++ D) ≡ held C + held D
joined [] D = omega arith
joined (b ∷ C) D = let more = joined C D in omega (arith, more)

put_holders : (x : ℕ) (new C : Context) → held (put x new C) + holders (type_in x C) ≡ held C + held new
put_holders x new [] = omega arith
put_holders x new (s ∷ C) = by (nat_eq x s.0) (put_holders x new C)
  where
    by : (b : Bool) → held (put x new C) + holders (type_in x C) ≡ held C + held new →
        held (cond b (new ++ C) (s ∷ put x new C)) + holders (type_or (cond b (Some s.1) (find x C))) ≡ (holders s.1 + held C) + held new
    by true h = let both = joined new C in omega (arith, both)
    by false h = omega (arith, h)

type_within : (x : ℕ) (C : Context) → holders (type_in x C) ≤ held C
type_within x [] = omega arith
type_within x (s ∷ C) = by (nat_eq x s.0) (type_within x C)
  where
    by : (b : Bool) → holders (type_in x C) ≤ held C → holders (type_or (cond b (Some s.1) (find x C))) ≤ holders s.1 + held C
    by true h = omega arith
    by false h = omega (arith, h)

used_holders : (e : Norm) (C : Context) → held (used e C) ≤ held C
used_holders e [] = omega arith
used_holders e (s ∷ C) = by (free_in s.0 e) (used_holders e C)
  where
    by : (b : Bool) → held (used e C) ≤ held C → held (cond b (s ∷ used e C) (used e C)) ≤ holders s.1 + held C
    by true h = omega (arith, h)
    by false h = omega (arith, h)

unused_holders : (e : Norm) (C : Context) → held (unused e C) ≤ held C
unused_holders e [] = omega arith
unused_holders e (s ∷ C) = by (free_in s.0 e) (unused_holders e C)
  where
    by : (b : Bool) → held (unused e C) ≤ held C → held (cond b (unused e C) (s ∷ unused e C)) ≤ holders s.1 + held C
    by true h = omega (arith, h)
    by false h = omega (arith, h)

-- Parts

scalar : (A : Type') → holder_of A ≤ 10 → (holders A ≡ 0) × (holder_of A ≡ 1)
scalar Integer h = (refl, refl)
scalar Boolean h = (refl, refl)
scalar (PairOf A B) h = absurd (omega (arith, h))
scalar (ListOf A) h = absurd (omega (arith, h))
scalar (TreeOf A) h = absurd (omega (arith, h))
scalar (OptionOf A) h = absurd (omega (arith, h))

at_most_one : (A : Type') → holders A ≤ 10 → holders A ≤ 1
at_most_one Integer h = omega arith
at_most_one Boolean h = omega arith
at_most_one (PairOf A B) h = absurd (omega (arith, h))
at_most_one (ListOf A) h = let s = (scalar A h).1 in omega (arith, s)
at_most_one (TreeOf A) h = let s = (scalar A h).1 in omega (arith, s)
at_most_one (OptionOf A) h = absurd (omega (arith, h))

one_part : (y : ℕ) (A : Type') → holders A ≤ 10 → held (zip (y ∷ []) (parts_of A)) ≤ holders A
one_part y Integer h = omega arith
one_part y Boolean h = omega arith
one_part y (PairOf A B) h = absurd (omega (arith, h))
one_part y (ListOf A) h = let s = scalar A h in let a = s.0 in omega (arith, a)
one_part y (TreeOf A) h = let s = scalar A h in let a = s.0 in omega (arith, a)
one_part y (OptionOf A) h = absurd (omega (arith, h))

two_parts : (y z : ℕ) (A : Type') → holders A ≤ 10 → held (zip (y ∷ z ∷ []) (parts_of A)) ≤ holders A
two_parts y z Integer h = omega arith
two_parts y z Boolean h = omega arith
two_parts y z (PairOf A B) h = absurd (omega (arith, h))
two_parts y z (ListOf A) h = let s = scalar A h in let a = s.0 in omega (arith, a)
two_parts y z (TreeOf A) h = let s = scalar A h in let a = s.0 in omega (arith, a)
two_parts y z (OptionOf A) h = absurd (omega (arith, h))

three_parts : (e y z : ℕ) (A : Type') → holders A ≤ 10 → held (zip (e ∷ y ∷ z ∷ []) (parts_of A)) ≤ holders A + 1
three_parts e y z Integer h = omega arith
three_parts e y z Boolean h = omega arith
three_parts e y z (PairOf A B) h = absurd (omega (arith, h))
three_parts e y z (ListOf A) h = let s = scalar A h in let a = s.0 in omega (arith, a)
three_parts e y z (TreeOf A) h = let s = scalar A h in let a = s.0 in let b = s.1 in omega (arith, a, b)
three_parts e y z (OptionOf A) h = absurd (omega (arith, h))

-- new variables in the place of one
put_within : (x more : ℕ) (new C : Context) → held new ≤ holders (type_in x C) + more → held (put x new C) ≤ held C + more
put_within x more new C h = let both = put_holders x new C in omega (arith, both, h)

without_within : (x : ℕ) (C : Context) → held (without x C) ≤ held C
without_within x C = let both = put_holders x [] C in omega (arith, both)

module _ (x : ℕ) (C : Context) (few : held C ≤ 10) where
  low : holders (type_in x C) ≤ 10
  low = le_trans (type_within x C) few

  one_within : (y : ℕ) → held (opened x (y ∷ []) parts_of C) ≤ held C + 0
  one_within y = put_within x 0 _ C (let h = one_part y (type_in x C) low in omega (arith, h))

  two_within : (y z : ℕ) → held (opened x (y ∷ z ∷ []) parts_of C) ≤ held C + 0
  two_within y z = put_within x 0 _ C (let h = two_parts y z (type_in x C) low in omega (arith, h))

  three_within : (e y z : ℕ) → held (opened x (e ∷ y ∷ z ∷ []) parts_of C) ≤ held C + 1
  three_within e y z = put_within x 1 _ C (three_parts e y z (type_in x C) low)

  copies_within : (y z : ℕ) → held (opened x (y ∷ z ∷ []) copies_of C) ≤ held C + 1
  copies_within y z = put_within x 1 _ C (let h = at_most_one (type_in x C) low in omega (arith, h))

-- Positions

-- the sum of the first d + 1 numbers
abbrev sum_to : (ℕ → ℕ) → ℕ → ℕ
sum_to f zero = f 0
sum_to f (suc d) = sum_to f d + f (suc d)

sum_same : (f g : ℕ → ℕ) → ((k : ℕ) → f k ≡ g k) → (d : ℕ) → sum_to f d ≡ sum_to g d
sum_same f g same zero = same 0
sum_same f g same (suc d) = λ i. sum_same f g same d i + same (suc d) i

led_length : (As : List Type') (d : ℕ) (firsts : List Plain) → length (tuples_led (tuples_up_to As) d firsts) ≡ total (λ g. length (tuples_up_to As (d - g))) (map deg firsts)
led_length As d [] = refl
led_length As d (i ∷ firsts) =
    let part = map (λ r. i ∷ r) (tuples_up_to As (d - deg i)) in
    length-append part (tuples_led (tuples_up_to As) d firsts) ∙ (λ k. length-map (tuples_up_to As (d - deg i)) (λ r. i ∷ r) k + led_length As d firsts k)

range_sum : (f : ℕ → ℕ) (d a k : ℕ) → a + k ≡ d → total (λ g. f (d - g)) (range_with_len a (suc k)) ≡ sum_to f k
range_sum f d a zero e = let last : d - a ≡ 0 = omega (arith, e) in let same = ap f last in omega (arith, same)
range_sum f d a (suc k) e =
    let first = ap f (let h : d - a ≡ suc k = omega (arith, e) in h) in
    let more = range_sum f d (a + 1) k (omega (arith, e)) in
    omega (arith, first, more)

sizes_sum : (n d : ℕ) → sum_to (flat_size n) d ≡ flat_size (suc n) d
sizes_sum n zero = refl
sizes_sum n (suc d) = let less = sizes_sum n d in omega (arith, less)

scalar_has_one : (A : Type') → holder_of A ≤ 10 → HasOne A
scalar_has_one Integer h = λ g. refl
scalar_has_one Boolean h = λ g. refl
scalar_has_one (PairOf A B) h = absurd (omega (arith, h))
scalar_has_one (ListOf A) h = absurd (omega (arith, h))
scalar_has_one (TreeOf A) h = absurd (omega (arith, h))
scalar_has_one (OptionOf A) h = absurd (omega (arith, h))

none_size : (d : ℕ) → flat_size 0 d ≡ 1
none_size zero = refl
none_size (suc d) = refl

-- a list or a tree of scalars before others
behind_holder : (A : Type') (As : List Type') (n d : ℕ) → holder_of A ≤ 10 → ((g : ℕ) → length (tuples_up_to As g) ≡ flat_size n g) →
    length (tuples_led (tuples_up_to As) d (map many (lists (indices_up_to A) d d))) ≡ flat_size (holder_of A + n) d
behind_holder A As n d h rest =
    led_length As d (map many (lists (indices_up_to A) d d))
    ∙ ap (total (λ g. length (tuples_up_to As (d - g)))) (lengths_sized A d (scalar_has_one A h))
    ∙ ap (λ k. total (λ g. length (tuples_up_to As (d - g))) (range_with_len 0 k)) (let next : 1 + d ≡ suc d = omega arith in next)
    ∙ range_sum (λ g. length (tuples_up_to As g)) d 0 d (omega arith)
    ∙ sum_same (λ g. length (tuples_up_to As g)) (flat_size n) rest d
    ∙ sizes_sum n d
    ∙ ap (λ k. flat_size k d) (let one = (scalar A h).1 in omega (arith, one))

behind_scalar : (A : Type') (As : List Type') (n d : ℕ) → HasOne A → length (tuples_up_to As d) ≡ flat_size n d → length (tuples_up_to (A ∷ As) d) ≡ flat_size (0 + n) d
behind_scalar A As n d one rest =
    same_length degrees degrees (tuples_up_to (A ∷ As) d) (tuples_up_to As d) (rests_sized A As d one) ∙ rest ∙ ap (λ k. flat_size k d) (let same : n ≡ 0 + n = omega arith in same)

tuples_flat : (As : List Type') (d : ℕ) → all_holders As ≤ 10 → length (tuples_up_to As d) ≡ flat_size (all_holders As) d
tuples_flat [] d h = sym (none_size d)
tuples_flat (Integer ∷ As) d h = behind_scalar Integer As (all_holders As) d (λ g. refl) (tuples_flat As d (omega (arith, h)))
tuples_flat (Boolean ∷ As) d h = behind_scalar Boolean As (all_holders As) d (λ g. refl) (tuples_flat As d (omega (arith, h)))
tuples_flat (PairOf A B ∷ As) d h = absurd (omega (arith, h))
tuples_flat (ListOf A ∷ As) d h = behind_holder A As (all_holders As) d (omega (arith, h)) (λ g. tuples_flat As g (omega (arith, h)))
tuples_flat (TreeOf A ∷ As) d h = behind_holder A As (all_holders As) d (omega (arith, h)) (λ g. tuples_flat As g (omega (arith, h)))
tuples_flat (OptionOf A ∷ As) d h = absurd (omega (arith, h))

pub size_flat : (As : List Type') (d : ℕ) → all_holders As ≤ 10 → size_of As d ≡ flat_size (all_holders As) d
size_flat As d h = as_many As d ∙ tuples_flat As d h

pub sizes_flat : (As : List Type') (n top : ℕ) → n ≡ all_holders As → n ≤ 10 → up (flat_size n) top ≡ up (size_of As) top
sizes_flat As n top is few = ap (λ k. up (flat_size k) top) is ∙ sym (λ i. up (λ d. size_flat As d (omega (arith, is, few)) i) top)

pub size_step : (n d : ℕ) → flat_size (n + 1) (suc d) ≡ flat_size (n + 1) d + flat_size n (suc d)
size_step n d = subst (λ m. flat_size m (suc d) ≡ flat_size m d + flat_size n (suc d)) (let next : suc n ≡ n + 1 = omega arith in next) refl

pub ten_few : (d : ℕ) → d ≤ 4 → flat_size 10 d ≤ 2000
ten_few zero h = omega arith
ten_few (suc zero) h = omega arith
ten_few (suc (suc zero)) h = omega arith
ten_few (suc (suc (suc zero))) h = omega arith
ten_few (suc (suc (suc (suc zero)))) h = omega arith
ten_few (suc (suc (suc (suc (suc d))))) h = absurd (omega (arith, h))

pub none_few : (d : ℕ) → flat_size 0 d ≤ 2000
none_few d = let one = none_size d in omega (arith, one)

-- one more of them
one_longer : (n d : ℕ) → flat_size n d ≤ flat_size (suc n) d
one_longer n zero = omega arith
one_longer n (suc d) = omega arith

longer : (n m d : ℕ) → n ≤ m → flat_size n d ≤ flat_size m d
longer zero zero d h = omega arith
longer (suc n) zero d h = absurd (omega (arith, h))
longer n (suc m) d h = by (cases_eq n (suc m)) (λ k. longer n m d k)
  where
    by : (n ≡ suc m) ⊎ (n ≢ suc m) → (n ≤ m → flat_size n d ≤ flat_size m d) → flat_size n d ≤ flat_size (suc m) d
    by (inl e) more = let same = ap (λ k. flat_size k d) e in omega (arith, same)
    by (inr ne) more = le_trans (more (omega (arith, h, ne))) (one_longer m d)

module _ (d room : ℕ) (ten : room ≤ 10) (few : flat_size room d ≤ 2000) where
  size_few : (As : List Type') → all_holders As ≤ room → size_of As d ≤ 2000
  size_few As h =
      let is = size_flat As d (le_trans h ten) in
      let less = longer (all_holders As) room d h in
      omega (arith, is, less, few)

  small : (C : Context) (T : Type') → held C ≤ room → holders T ≤ room → AreSmall 2000 C T d
  small C T h t = (size_few (types C) h, size_few (T ∷ []) (omega (arith, t)))

  pub flat_within : (e : Norm) (C : Context) (T : Type') (left : ℕ) → is_flat e left ≡ true → held C + left ≤ room → holders T ≤ room → IsWithin 2000 e C T d
  flat_within (n.Let k x A a b) C T left f h t =
      let p = and_parts (nat_le (holders A) left) (is_flat a left && is_flat b (left - holders A)) f in
      let q = and_parts (is_flat a left) (is_flat b (left - holders A)) p.1 in
      let fits = is_low (holders A) left p.0 in
      let inside = used_holders a C in
      let outside = unused_holders a C in
      let more = joined (others a C) ((x, A) ∷ []) in (
        small C T (omega (arith, h)) t,
        is_bound 2000 a C A d (flat_within a (inners a C) A left q.0 (omega (arith, inside, h)) (omega (arith, fits, h))),
        flat_within b (others a C ++ (x, A) ∷ []) T (left - holders A) q.1 (omega (arith, outside, more, fits, h)) t,
      )
  flat_within (n.Split k x y z a) C T left f h t =
      let less = two_within x C (omega (arith, h, ten)) y z in
      (small C T (omega (arith, h)) t, flat_within a _ T left f (omega (arith, less, h)) t)
  flat_within (n.If k x a b) C T left f h t =
      let p = and_parts (is_flat a left) (is_flat b left) f in
      let less = without_within x C in
      (small C T (omega (arith, h)) t, flat_within a _ T left p.0 (omega (arith, less, h)) t, flat_within b _ T left p.1 (omega (arith, less, h)) t)
  flat_within (n.CaseList k x a y z b) C T left f h t =
      let p = and_parts (is_flat a left) (is_flat b left) f in
      let less = without_within x C in
      let same = two_within x C (omega (arith, h, ten)) y z in
      (small C T (omega (arith, h)) t, flat_within a _ T left p.0 (omega (arith, less, h)) t, flat_within b _ T left p.1 (omega (arith, same, h)) t)
  flat_within (n.CaseTree k x a e y z b) C T left f h t =
      let p = and_parts (nat_le 1 left) (is_flat a left && is_flat b (left - 1)) f in
      let q = and_parts (is_flat a left) (is_flat b (left - 1)) p.1 in
      let some = is_low 1 left p.0 in
      let less = without_within x C in
      let more = three_within x C (omega (arith, h, ten)) e y z in
      (small C T (omega (arith, h)) t, flat_within a _ T left q.0 (omega (arith, less, h)) t, flat_within b _ T (left - 1) q.1 (omega (arith, more, some, h)) t)
  flat_within (n.CaseOption k x a y b) C T left f h t =
      let p = and_parts (is_flat a left) (is_flat b left) f in
      let less = without_within x C in
      let same = one_within x C (omega (arith, h, ten)) y in
      (small C T (omega (arith, h)) t, flat_within a _ T left p.0 (omega (arith, less, h)) t, flat_within b _ T left p.1 (omega (arith, same, h)) t)
  flat_within (n.Tick k i a) C T left f h t = (small C T (omega (arith, h)) t, flat_within a C T left f h t)
  flat_within (n.Share k x y z a) C T left f h t =
      let p = and_parts (nat_le 1 left) (is_flat a (left - 1)) f in
      let some = is_low 1 left p.0 in
      let more = copies_within x C (omega (arith, h, ten)) y z in
      (small C T (omega (arith, h)) t, flat_within a _ T (left - 1) p.1 (omega (arith, more, some, h)) t)
  flat_within (n.Drop k x a) C T left f h t =
      let less = without_within x C in
      (small C T (omega (arith, h)) t, flat_within a _ T left f (omega (arith, less, h)) t)
  flat_within (n.Var k x) C T left f h t = small C T (omega (arith, h)) t
  flat_within (n.Number k i) C T left f h t = small C T (omega (arith, h)) t
  flat_within (n.Truth k b) C T left f h t = small C T (omega (arith, h)) t
  flat_within (n.Nil k) C T left f h t = small C T (omega (arith, h)) t
  flat_within (n.Leaf k) C T left f h t = small C T (omega (arith, h)) t
  flat_within (n.Nothing k) C T left f h t = small C T (omega (arith, h)) t
  flat_within (n.Arith k op x y) C T left f h t = small C T (omega (arith, h)) t
  flat_within (n.Compare k op x y) C T left f h t = small C T (omega (arith, h)) t
  flat_within (n.Not k x) C T left f h t = small C T (omega (arith, h)) t
  flat_within (n.Pair k x y) C T left f h t = small C T (omega (arith, h)) t
  flat_within (n.Cons k x y) C T left f h t = small C T (omega (arith, h)) t
  flat_within (n.Node k x y z) C T left f h t = small C T (omega (arith, h)) t
  flat_within (n.Just k x) C T left f h t = small C T (omega (arith, h)) t
  flat_within (n.Call k g xs) C T left f h t = small C T (omega (arith, h)) t

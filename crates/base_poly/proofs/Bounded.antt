-- How large base polynomials are.
use Rattle.std.proofs.Common.{◌≡◌, ℕ, zero, suc, ◌+◌, ◌-◌, ◌*◌, ◌^◌, ◌≤◌, ◌<◌, List, [], ◌∷◌, sym, ap, ◌∙◌, subst, arith}
use Rattle.std.proofs.Math.Nat.{le_trans, mul-le-mul_left, mul-le-mul_right, pow-le-pow_left, pow-le-pow_right, one-le-pow, pow-suc, pow-zero}
use Rattle.std.proofs.lemmas.Nat.{pow-add}
use Rattle.raml_syntax.specs.Value.{Value, Number, Truth, Both, Empty, Cons, Node, Just, size}
use Rattle.base_poly.specs.Plain.{Plain, Unit', Pair, End, Then, NoEntry, OneEntry, deg, degrees}
use Rattle.base_poly.specs.Base.{total, elements, base, bases, over}
use Rattle.base_poly.specs.Laws.{BaseIsBounded}
use Rattle.base_poly.proofs.Sums.{total_joined, over_more}

-- the cells of elements, each of which stands in one of its own
abbrev pub cells : List Value → ℕ
cells vs = total (λ v. 1 + size v) vs

pub elements_within : (v : Value) → cells (elements v) ≤ size v
elements_within (Number n) = omega arith
elements_within (Truth b) = omega arith
elements_within (Both v w) = omega arith
elements_within Empty = omega arith
elements_within (Cons h t) = let more = elements_within t in omega (arith, more)
elements_within (Node a l r) =
    let both = total_joined (λ v. 1 + size v) (elements l) (elements r) in
    let left = elements_within l in
    let right = elements_within r in omega (arith, both, left, right)
elements_within (Just v) = omega arith

-- powers of two numbers of cells make one of them together
two_powers : (a b m n N i j : ℕ) → a ≤ m ^ i → b ≤ n ^ j → m ≤ N → n ≤ N → a * b ≤ N ^ (i + j)
two_powers a b m n N i j h g k l =
    let first = le_trans h (pow-le-pow_left k i) in
    let second = le_trans g (pow-le-pow_left l j) in
    subst (λ p. a * b ≤ p) (sym (pow-add N i j)) (le_trans (mul-le-mul_right b first) (mul-le-mul_left (N ^ i) second))

-- of elements either the first has a part of the degree, or the others have all of it
one_more : (a c N D : ℕ) → 0 < N → a ≤ N ^ D → c ≤ (N - 1) ^ suc D → a + c ≤ N ^ suc D
one_more a c zero D pos h g = absurd (omega (arith, pos))
one_more a c (suc n) D pos h g =
    let less : suc n - 1 ≡ n = omega arith in
    let below : n ^ D ≤ suc n ^ D = pow-le-pow_left (omega arith) D in
    let others : c ≤ suc n ^ D * n = le_trans (subst (λ p. c ≤ p) (ap (λ m. m ^ suc D) less ∙ pow-suc n D) g) (mul-le-mul_right n below) in
    subst (λ p. a + c ≤ p) (sym (pow-suc (suc n) D)) (together (suc n ^ D) h others)
  where
    together : (P : ℕ) → a ≤ P → c ≤ P * n → a + c ≤ P * suc n
    together P f e = grind (arith, f, e)

module _ (i r : Plain) (first : (v : Value) → base i v ≤ size v ^ deg i) (rest : (vs : List Value) (N : ℕ) → 0 < N → cells vs ≤ N → over r vs ≤ N ^ deg r) where
  led_within : (vs : List Value) (N : ℕ) → cells vs ≤ N → over (Then i r) vs ≤ N ^ deg (Then i r)
  led_within [] N h = omega arith
  led_within (v ∷ vs) N h =
      let some : 0 < N = omega (arith, h) in
      let here = two_powers (base i v) (over r vs) (size v) N N (deg i) (deg r) (first v) (rest vs N some (omega (arith, h))) (omega (arith, h)) (omega arith) in
      let later = led_within vs (N - 1) (omega (arith, h)) in
      let same : deg (Then i r) ≡ suc (deg i + deg r) = omega arith in
      let whole = one_more (base i v * over r vs) (over (Then i r) vs) N (deg i + deg r) some here (subst (λ e. over (Then i r) vs ≤ (N - 1) ^ e) same later) in
      subst (λ n. n ≤ N ^ deg (Then i r)) (sym (over_more i r v vs)) (subst (λ e. base i v * over r vs + over (Then i r) vs ≤ N ^ e) (sym same) whole)

no_power : (n : ℕ) → 1 ≤ n ^ 0
no_power n = let one = pow-zero n in omega (arith, one)

mutual
  within : (i : Plain) (v : Value) → base i v ≤ size v ^ deg i
  within Unit' v = no_power (size v)
  within (Pair i j) (Both v w) = two_powers (base i v) (base j w) (size v) (size w) (size (Both v w)) (deg i) (deg j) (within i v) (within j w) (omega arith) (omega arith)
  within (Pair i j) v = omega arith
  within End v = no_power (size v)
  within (Then i r) v = led_within i r (within i) (rest_within r) (elements v) (size v) (elements_within v)
  within NoEntry v = no_power (size v)
  within (OneEntry i) (Just v) =
      let cell = one-le-pow 1 (size (Just v)) (omega arith) in
      let all = two_powers 1 (base i v) (size (Just v)) (size v) (size (Just v)) 1 (deg i) cell (within i v) (omega arith) (omega arith) in
      omega (arith, all)
  within (OneEntry i) v = omega arith

  pub rest_within : (r : Plain) (vs : List Value) (N : ℕ) → 0 < N → cells vs ≤ N → over r vs ≤ N ^ deg r
  rest_within (Then i r) vs N h g = led_within i r (within i) (rest_within r) vs N g
  rest_within r vs N h g = one-le-pow (deg r) N h

all_within : (is : List Plain) (vs : List Value) → bases is vs ≤ total size vs ^ degrees is
all_within [] vs = no_power (total size vs)
all_within (i ∷ is) [] = omega arith
all_within (i ∷ is) (v ∷ vs) =
    two_powers (base i v) (bases is vs) (size v) (total size vs) (total size (v ∷ vs)) (deg i) (degrees is) (within i v) (all_within is vs) (omega arith) (omega arith)

pub bounded : BaseIsBounded
bounded = record {
  power = within;
  powers = all_within;
  limit = λ is vs h g.
      le_trans (all_within is vs) (le_trans (pow-le-pow_left h (degrees is)) (le_trans (pow-le-pow_right some g) large));
}
  where
    some : 0 < 2 ^ 20
    some = omega arith

    large : (2 ^ 20) ^ 4 ≤ 2 ^ 80
    large = omega arith

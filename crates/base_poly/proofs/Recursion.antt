-- Base polynomials by recursion on the value.
use Rattle.std.proofs.Common.{◌≡◌, ℕ, zero, suc, ◌+◌, ◌*◌, List, [], ◌∷◌, ◌++◌, length, replicate, refl, sym, ◌∙◌, arith}
use Rattle.raml_syntax.specs.Tree.{Type', Integer, Boolean, PairOf, ListOf, TreeOf, OptionOf}
use Rattle.raml_syntax.specs.Value.{Value, Both, Has}
use Rattle.base_poly.specs.Plain.{Plain, Unit', Pair, End, Then, NoEntry, OneEntry, many, deg}
use Rattle.base_poly.specs.Indices.{IsIndex, zero_of}
use Rattle.base_poly.specs.Base.{total, elements, base, over}
use Rattle.base_poly.specs.Laws.{TypesHaveZero, BaseByValue, BinomialsAreBase, choose, cuts}
use Rattle.base_poly.proofs.Longer.{zero_is_index, zero_degree}
use Rattle.base_poly.proofs.Sums.{total_same, total_map, over_more}

pub base_many : (is : List Plain) (v : Value) → base (many is) v ≡ over (many is) (elements v)
base_many [] v = refl
base_many (i ∷ is) v = refl

abbrev cut_over : List Value → List Value → List Plain × List Plain → ℕ
cut_over vs ws c = over (many c.0) vs * over (many c.1) ws

-- over two lists one after the other, the first entries stand in the first of them
pub over_joined : (is : List Plain) (vs ws : List Value) → over (many is) (vs ++ ws) ≡ total (cut_over vs ws) (cuts is)
over_joined [] vs ws = refl
over_joined (i ∷ is) [] ws =
    let more = total_map (cut_over [] ws) (λ c. (i ∷ c.0, c.1)) (cuts is) in
    let none = nothing (cuts is) in omega (arith, more, none)
  where
    nothing : (cs : List (List Plain × List Plain)) → total (λ c. cut_over [] ws (i ∷ c.0, c.1)) cs ≡ 0
    nothing [] = refl
    nothing (c ∷ cs) = let more = nothing cs in grind (arith, more)
over_joined (i ∷ is) (v ∷ vs) ws =
    let now = total_map (cut_over vs ws) (λ c. (i ∷ c.0, c.1)) (cuts is) in
    let then = total_map (cut_over (v ∷ vs) ws) (λ c. (i ∷ c.0, c.1)) (cuts is) in
    let more = step (cuts is) in
    over_more i (many is) v (vs ++ ws)
    ∙ (λ n. base i v * over_joined is vs ws n + over_joined (i ∷ is) vs ws n)
    ∙ omega (arith, now, then, more)
  where
    regroup : (a b c d e m : ℕ) → (a * b + c) * d + (a * e + m) ≡ a * (b * d + e) + (c * d + m)
    regroup a b c d e m = grind arith

    step : (cs : List (List Plain × List Plain)) → total (λ c. cut_over (v ∷ vs) ws (i ∷ c.0, c.1)) cs ≡ base i v * total (cut_over vs ws) cs + total (λ c. cut_over vs ws (i ∷ c.0, c.1)) cs
    step [] = grind arith
    step (c ∷ cs) =
        (λ n. over_more i (many c.0) v vs n * over (many c.1) ws + step cs n)
        ∙ regroup (base i v) (over (many c.0) vs) (over (Then i (many c.0)) vs) (over (many c.1) ws) (total (cut_over vs ws) cs) (total (λ c. cut_over vs ws (i ∷ c.0, c.1)) cs)

pub by_value : BaseByValue
by_value = record {
  at_none = λ v. refl;
  at_empty = λ i is. refl;
  at_cons = λ i is h t. over_more i (many is) h (elements t) ∙ (λ n. base i h * sym (base_many is t) n + over (Then i (many is)) (elements t));
  at_node = λ i is a l r.
      over_more i (many is) a (elements l ++ elements r)
      ∙ (λ n. base i a * (over_joined is (elements l) (elements r) ∙ as_values is l r) n + (over_joined (i ∷ is) (elements l) (elements r) ∙ as_values (i ∷ is) l r) n);
  at_option = λ v. refl;
  at_nothing = λ i. refl;
  at_some = λ i v. refl;
}
  where
    as_values : (is : List Plain) (l r : Value) → total (cut_over (elements l) (elements r)) (cuts is) ≡ total (λ c. base (many c.0) l * base (many c.1) r) (cuts is)
    as_values is l r = total_same (cut_over (elements l) (elements r)) (λ c. base (many c.0) l * base (many c.1) r) (cuts is) (λ c m n. sym (base_many c.0 l) n * sym (base_many c.1 r) n)

-- The zero index

zero_only : (A : Type') (i : Plain) → IsIndex i A → deg i ≡ 0 → i ≡ zero_of A
zero_only Integer Unit' h e = refl
zero_only Integer x h e = absurd h
zero_only Boolean Unit' h e = refl
zero_only Boolean x h e = absurd h
zero_only (PairOf A B) (Pair a b) h e =
    let first = zero_only A a h.0 (omega (arith, e)) in let second = zero_only B b h.1 (omega (arith, e)) in λ n. Pair (first n) (second n)
zero_only (PairOf A B) x h e = absurd h
zero_only (ListOf A) End h e = refl
zero_only (ListOf A) (Then x r) h e = absurd (omega (arith, e))
zero_only (ListOf A) x h e = absurd h
zero_only (TreeOf A) End h e = refl
zero_only (TreeOf A) (Then x r) h e = absurd (omega (arith, e))
zero_only (TreeOf A) x h e = absurd h
zero_only (OptionOf A) NoEntry h e = refl
zero_only (OptionOf A) (OneEntry x) h e = absurd (omega (arith, e))
zero_only (OptionOf A) x h e = absurd h

pub zero_one : (A : Type') (v : Value) → Has v A → base (zero_of A) v ≡ 1
zero_one Integer v h = refl
zero_one Boolean v h = refl
zero_one (PairOf A B) (Both v w) h = λ n. zero_one A v h.0 n * zero_one B w h.1 n
zero_one (PairOf A B) v h = absurd h
zero_one (ListOf A) v h = refl
zero_one (TreeOf A) v h = refl
zero_one (OptionOf A) v h = refl

pub types_have_zero : TypesHaveZero
types_have_zero A = record { index = zero_is_index A; degree = zero_degree A; only = zero_only A; one = zero_one A }

-- Binomials

ways : (k : ℕ) (vs : List Value) → over (many (replicate k Unit')) vs ≡ choose (length vs) k
ways zero vs = refl
ways (suc k) [] = refl
ways (suc k) (v ∷ vs) =
    let here = ways k vs in let later = ways (suc k) vs in
    over_more Unit' (many (replicate k Unit')) v vs ∙ (λ n. 1 * here n + later n) ∙ omega arith

pub binomials : BinomialsAreBase
binomials k v = base_many (replicate k Unit') v ∙ ways k (elements v)

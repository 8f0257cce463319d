-- Entries of list indices, and the numbers that are raised by them.
use Rattle.std.proofs.Common.{◌≡◌, ◌⊎◌, ⊎_elim, ℕ, zero, suc, ◌+◌, ◌-◌, ◌*◌, ◌<◌, ◌≤◌, ◌^◌, List, [], ◌∷◌, take, drop, length, get_or, Option, None, Some, IfSome, IfNone, refl, sym, ap, ◌∙◌, subst, arith}
use Rattle.std.specs.Prelude.{slice_set}
use Rattle.std.proofs.lemmas.List.{get_or-map, length-map, take_all, get_or-set_same, get_or-set_other}
use Rattle.raml_syntax.specs.Value.{Value, Both, size}
use Rattle.base_poly.specs.Plain.{Plain, Unit', Pair, many, deg, degrees}
use Rattle.base_poly.specs.Base.{total, base, bases}
use Rattle.base_poly.specs.Read.{index_of, plains_of}
use Rattle.base_poly.specs.declared.index.Index.{Index}
use Rattle.base_poly.proofs.Bounded.{bounded}
use Rattle.base_poly.proofs.Height.{parts}
use Rattle.poly_point.specs.Walk.{raised, CanBeRaised}
use Rattle.poly_point.proofs.Sums.{small_base}

pub from_some : {X : Type 0} (P : X → Type 0) (o : Option X) (x : X) → IfSome o P → o ≡ Some x → P x
from_some P o x h e = subst (λ p. IfSome p P) e h

pub from_none : {X : Type 0} (Q : Type 0) (o : Option X) → IfNone o Q → ((x : X) → o ≡ Some x → ⊥) → Q
from_none Q None h k = h
from_none Q (Some x) h k = absurd (k x refl)

-- a slice of at least one is its first and its rest
pub whole : {X : Type 0} (xs : List X) (d : X) → 1 ≤ length xs → xs ≡ get_or xs 0 d ∷ take (length xs - 1) (drop 1 xs)
whole [] d h = absurd (omega (arith, h))
whole (x ∷ xs) d h = ap (λ l. x ∷ l) (sym (take_all (length (x ∷ xs) - 1) xs (omega arith)))

-- Products are small

pub parts_fit : (i j : Plain) (w v u : Value) (m n : ℕ) → size w ≤ 2 ^ 20 → deg (Pair i j) ≤ 4 → w ≡ Both v u → m ≡ base i v → n ≡ base j u → m * n < 2 ^ 128
parts_fit i j w v u m n h k e first second =
    let all = small_base (Pair i j) w h k in
    let same : m * n ≡ base (Pair i j) w = (λ x. first x * second x) ∙ ap (base (Pair i j)) (sym e) in
    omega (arith, all, same)

pub tuple_fits : (is js : List Plain) (ws us : List Value) (i : Plain) (w : Value) (m n : ℕ) → total size ws ≤ 2 ^ 20 → degrees is ≤ 4 → is ≡ i ∷ js → ws ≡ w ∷ us → m ≡ base i w → n ≡ bases js us → m * n < 2 ^ 128
tuple_fits is js ws us i w m n h k e f first rest =
    let all = bounded.limit is ws h k in
    let same : m * n ≡ bases is ws = (λ x. first x * rest x) ∙ (λ x. bases (sym e x) (sym f x)) in
    omega (arith, all, same)

-- An entry and the index that has it

pub entry_parts : (es : List Index) (k : ℕ) (x : Index) → k < length es → x ≡ get_or es k x → parts (index_of x) + 2 ≤ parts (many (plains_of es))
entry_parts [] k x h e = absurd (omega (arith, h))
entry_parts (y ∷ es) zero x h e = let same = ap (λ z. parts (index_of z)) e in let some = has_parts (many (plains_of es)) in omega (arith, same, some)
  where
    has_parts : (i : Plain) → 1 ≤ parts i
    has_parts Unit' = omega arith
    has_parts i = omega arith
entry_parts (y ∷ es) (suc k) x h e = let more = entry_parts es k x (omega (arith, h)) e in omega (arith, more)

pub entry_degree : (es : List Index) (k : ℕ) (x : Index) → k < length es → x ≡ get_or es k x → deg (index_of x) ≤ deg (many (plains_of es))
entry_degree [] k x h e = absurd (omega (arith, h))
entry_degree (y ∷ es) zero x h e = let same = ap (λ z. deg (index_of z)) e in omega (arith, same)
entry_degree (y ∷ es) (suc k) x h e = let more = entry_degree es k x (omega (arith, h)) e in omega (arith, more)

-- One entry's step, from the last entry on

module _ (es : List Index) (v : Value) (old sums : List ℕ) (p : ℕ) (x : Index) (n : ℕ) (some : 0 < p) (within : p ≤ length es) (is : x ≡ get_or es (p - 1) x) (count : n ≡ base (index_of x) v)
    (rest : (m : ℕ) → m ≤ p → get_or sums m 0 ≡ get_or old m 0) where
  place : p - 1 < length es
  place = omega (arith, some, within)

  next : p - 1 + 1 ≡ p
  next = omega (arith, some)

  pub raised_here : get_or sums (p - 1 + 1) 0 + get_or sums (p - 1) 0 * n ≡ raised (plains_of es) v old (p - 1)
  raised_here =
      let entry = get_or-map index_of es (p - 1) x Unit' place ∙ ap index_of (sym is) in
      λ k. rest (p - 1 + 1) (omega (arith, next)) k + rest (p - 1) (omega arith) k * (count ∙ ap (λ i. base i v) (sym entry)) k

  pub step_fits : CanBeRaised (plains_of es) v old → get_or sums (p - 1 + 1) 0 + get_or sums (p - 1) 0 * n < 2 ^ 128
  step_fits can =
      let same = raised_here in
      let long = length-map es index_of in
      let fits = can (p - 1) (omega (arith, place, long)) in omega (arith, same, fits)

  module _ (now : List ℕ) (is_now : now ≡ slice_set sums (p - 1 + 1) (get_or sums (p - 1 + 1) 0 + get_or sums (p - 1) 0 * n)) where
    pub step_rest : (m : ℕ) → m ≤ p - 1 → get_or now m 0 ≡ get_or old m 0
    step_rest m h =
        ap (λ l. get_or l m 0) is_now ∙ get_or-set_other sums (p - 1 + 1) m _ 0 (λ e. omega (arith, e, h)) ∙ rest m (omega (arith, h))

    pub step_done : p < length sums → ((m : ℕ) → p ≤ m → m < length es → get_or sums (m + 1) 0 ≡ raised (plains_of es) v old m) →
        (m : ℕ) → p - 1 ≤ m → m < length es → get_or now (m + 1) 0 ≡ raised (plains_of es) v old m
    step_done room done m h below = ⊎_elim here later (either h)
      where
        either : p - 1 ≤ m → (m ≡ p - 1) ⊎ (p ≤ m)
        either h = grind (arith, some)

        here : m ≡ p - 1 → get_or now (m + 1) 0 ≡ raised (plains_of es) v old m
        here e =
            ap (λ j. get_or now (j + 1) 0) e ∙ ap (λ l. get_or l (p - 1 + 1) 0) is_now
            ∙ get_or-set_same sums (p - 1 + 1) _ 0 (omega (arith, next, room)) ∙ raised_here ∙ ap (raised (plains_of es) v old) (sym e)

        later : p ≤ m → get_or now (m + 1) 0 ≡ raised (plains_of es) v old m
        later g = ap (λ l. get_or l (m + 1) 0) is_now ∙ get_or-set_other sums (p - 1 + 1) (m + 1) _ 0 (λ e. omega (arith, e, g, next)) ∙ done m g below

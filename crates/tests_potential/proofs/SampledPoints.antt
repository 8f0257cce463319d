-- Small heaps and polynomials, for tests.
use Rattle.std.proofs.Common.{◌≡◌, ℤ, ◌≤◌, ◌<◌, ◌^◌, ◌≤ℤ◌, pos, List, [], ◌∷◌, ◌++◌, All, refl, sym, ap, ◌∙◌, subst, arith}
use Rattle.std.specs.declared.cmp.Ordering.TheVariants.{Less}
use Rattle.std.specs.Ordering.{ordering_then, is_eq}
use Rattle.std.specs.List.{IsDistinct}
use Rattle.std.proofs.lemmas.List.Elements.{All-nil, All-cons}
use Rattle.raml_syntax.specs.Value as v
use Rattle.base_poly.specs.Plain.{Plain, End, order, deg, degrees, alike}
use Rattle.base_poly.specs.Poly.{AreTerms}
use Rattle.value_text.specs.declared.word.Word.TheVariants.{Int, Empty, Cell}
use Rattle.value_text.specs.declared.word.Cell as c
use Rattle.value_text.specs.declared.word.Cell.TheVariants.{Cons, Node, Just}
use Rattle.poly_point.specs.Point.{AreArguments}

all_two : {X : Type 0} (P : X → Type 0) (x y : X) → P x → P y → All P (x ∷ y ∷ [])
all_two P x y h k = All-cons P x (y ∷ []) h (All-cons P y [] k (All-nil P))

pub two_differ : (i j : Plain) → order i j ≡ Less → IsDistinct alike ((i ∷ []) ∷ (j ∷ []) ∷ [])
unfolding IsDistinct
two_differ i j h = ((ap (λ o. is_eq (ordering_then o (order End End))) h, tt), (tt, tt))

pub two_terms : (ts : List (List Plain × ℤ)) (i j : Plain) (m n : ℤ) → ts ≡ (i ∷ [], m) ∷ (j ∷ [], n) ∷ [] → order i j ≡ Less → deg i ≤ 4 → deg j ≤ 4 → pos 0 ≤ℤ m → pos 0 ≤ℤ n → AreTerms ts
two_terms ts i j m n e h low less first last = subst AreTerms (sym e) (record {
  natural = all_two (λ (t : List Plain × ℤ). pos 0 ≤ℤ t.1) _ _ first last;
  low = all_two (λ (t : List Plain × ℤ). degrees t.0 < 2 ^ 32) _ _ (omega (arith, low)) (omega (arith, less));
  distinct = two_differ i j h;
})

-- the cells of [3, 2, 1]
pub three : (c0 c1 c2 c3 : List c.Cell) → c0 ≡ [] → c1 ≡ c0 ++ Cons (Int (pos 1)) Empty ∷ [] → c2 ≡ c1 ++ Cons (Int (pos 2)) (Cell 0) ∷ [] → c3 ≡ c2 ++ Cons (Int (pos 3)) (Cell 1) ∷ [] →
    AreArguments c3 (Cell 2 ∷ [])
three c0 c1 c2 c3 e f g h = subst (λ l. AreArguments l (Cell 2 ∷ []))
    (sym (h ∙ ap (λ l. l ++ Cons (Int (pos 3)) (Cell 1) ∷ []) (g ∙ ap (λ l. l ++ Cons (Int (pos 2)) (Cell 0) ∷ []) (f ∙ ap (λ l. l ++ Cons (Int (pos 1)) Empty ∷ []) e))))
    (record {
      values = v.Cons (v.Number (pos 3)) (v.Cons (v.Number (pos 2)) (v.Cons (v.Number (pos 1)) v.Empty)) ∷ [];
      stand = ((2, Int (pos 3), Cell 1, refl, refl, refl, (1, Int (pos 2), Cell 0, refl, refl, refl, (0, Int (pos 1), Empty, refl, refl, refl, refl))), tt);
      small = omega arith;
    })

-- the cells of node(some(5), node(none, leaf, leaf), node(some(7), leaf, leaf))
pub options : (c0 c1 c2 c3 c4 c5 : List c.Cell) → c0 ≡ [] → c1 ≡ c0 ++ Just (Int (pos 7)) ∷ [] → c2 ≡ c1 ++ Node Empty Empty Empty ∷ [] →
    c3 ≡ c2 ++ Node (Cell 0) Empty Empty ∷ [] → c4 ≡ c3 ++ Just (Int (pos 5)) ∷ [] → c5 ≡ c4 ++ Node (Cell 3) (Cell 1) (Cell 2) ∷ [] → AreArguments c5 (Cell 4 ∷ [])
options c0 c1 c2 c3 c4 c5 e f g h i j = subst (λ l. AreArguments l (Cell 4 ∷ []))
    (sym (j ∙ ap (λ l. l ++ Node (Cell 3) (Cell 1) (Cell 2) ∷ []) (i ∙ ap (λ l. l ++ Just (Int (pos 5)) ∷ []) (h ∙ ap (λ l. l ++ Node (Cell 0) Empty Empty ∷ [])
    (g ∙ ap (λ l. l ++ Node Empty Empty Empty ∷ []) (f ∙ ap (λ l. l ++ Just (Int (pos 7)) ∷ []) e))))))
    (record {
      values = v.Node (v.Just (v.Number (pos 5))) (v.Node v.Empty v.Empty v.Empty) (v.Node (v.Just (v.Number (pos 7))) v.Empty v.Empty) ∷ [];
      stand = (
        (
          4,
          Cell 3,
          Cell 1,
          Cell 2,
          refl,
          refl,
          (3, Int (pos 5), refl, refl, refl),
          (1, Empty, Empty, Empty, refl, refl, refl, refl, refl),
          (2, Cell 0, Empty, Empty, refl, refl, (0, Int (pos 7), refl, refl, refl), refl, refl),
        ),
        tt,
      );
      small = omega arith;
    })

-- How many elements the lists and trees of words have.
use Rattle.std.proofs.Common.{◌≡◌, ◌⊎◌, ⊎_elim, ◌≤◌, ◌<◌, ◌+◌, ◌∙◌, ℕ, suc, List, length, Some, refl, ap, arith}
use Rattle.std.specs.Prelude.{slice_get}
use Rattle.std.proofs.lemmas.List.{length-append}
use Rattle.std.proofs.lemmas.Option.{slice_get_within}
use Rattle.raml_syntax.specs.Value as v
use Rattle.raml_syntax.specs.Value.{Value, size}
use Rattle.base_poly.specs.Base.{elements}
use Rattle.value_text.specs.declared.word.Word.{Word}
use Rattle.value_text.specs.declared.word.Word.TheVariants.{Int, Bool, Empty, Cell}
use Rattle.value_text.specs.declared.word.Cell as c
use Rattle.value_text.specs.declared.word.Cell.TheVariants.{Cons, Pair, Node, Just}
use Rattle.value_text.specs.Heap.{IsBelow, NameEarlier}
use Rattle.value_text.specs.Held.{value_held, held_of, held}
use Rattle.value_text.proofs.Earlier.{below_more, names_earlier}
use Rattle.value_text.proofs.Holding.{held_is}
use Rattle.poly_point.specs.Walk.{value}

-- a word by the number of its cell
abbrev pub rank : Word → ℕ
rank (Cell i) = suc i
rank word = 0

rank_below : (i : ℕ) (word : Word) → IsBelow i word → rank word ≤ i
rank_below i (Cell k) below = below
rank_below i (Int n) below = omega arith
rank_below i (Bool b) below = omega arith
rank_below i Empty below = omega arith

-- a value has no more elements than cells
pub few_elements : (v : Value) → length (elements v) ≤ size v
few_elements (v.Cons x xs) = let more = few_elements xs in omega (arith, more)
few_elements (v.Node x l r) =
    let left = few_elements l in
    let right = few_elements r in
    let all = length-append (elements l) (elements r) in
    omega (arith, left, right, all)
few_elements (v.Number n) = omega arith
few_elements (v.Truth b) = omega arith
few_elements v.Empty = omega arith
few_elements (v.Both x y) = omega arith
few_elements (v.Just x) = omega arith

-- what is left of a list or a tree: its word names an earlier cell, and it has no more cells
pub record IsPart (cells : List c.Cell) (word part : Word) : Type 0 where
  pub there : IsBelow (length cells) part
  pub earlier : rank part < rank word
  pub small : size (value cells part) ≤ size (value cells word)

module _ (cells : List c.Cell) (earlier : NameEarlier cells) (word : Word) (i : ℕ) (at : word ≡ Cell i) where
  held_there : (cell : c.Cell) → slice_get cells i ≡ Some cell → value cells word ≡ value_held (held_of (held cells) cell)
  held_there cell is = ap (value cells) at ∙ ap value_held (held_is cells i cell earlier is)

  part_of : (cell : c.Cell) (part : Word) → slice_get cells i ≡ Some cell → IsBelow i part → size (value cells part) ≤ size (value_held (held_of (held cells) cell)) → IsPart cells word part
  part_of cell part is below few =
      let within = slice_get_within cells i cell is in
      let rank_is : rank word ≡ suc i = ap rank at in
      let low = rank_below i part below in
      let same = ap size (held_there cell is) in
      record {
        there = below_more i (length cells) part (omega (arith, within)) below;
        earlier = omega (arith, rank_is, low);
        small = omega (arith, same, few);
      }

  pub tail_part : (a b : Word) → slice_get cells i ≡ Some (Cons a b) → IsPart cells word b
  tail_part a b is = part_of (Cons a b) b is (names_earlier cells i (Cons a b) earlier is).1 (omega arith)

  pub left_part : (a b d : Word) → slice_get cells i ≡ Some (Node a b d) → IsPart cells word b
  left_part a b d is = part_of (Node a b d) b is (names_earlier cells i (Node a b d) earlier is).1 (omega arith)

  pub right_part : (a b d : Word) → slice_get cells i ≡ Some (Node a b d) → IsPart cells word d
  right_part a b d is = part_of (Node a b d) d is (names_earlier cells i (Node a b d) earlier is).2 (omega arith)

  pub list_counted : (a b : Word) → slice_get cells i ≡ Some (Cons a b) → length (elements (value cells word)) ≡ suc (length (elements (value cells b)))
  list_counted a b is = ap (λ v. length (elements v)) (held_there (Cons a b) is)

  pub tree_counted : (a b d : Word) → slice_get cells i ≡ Some (Node a b d) →
      length (elements (value cells word)) ≡ suc (length (elements (value cells b)) + length (elements (value cells d)))
  tree_counted a b d is = ap (λ v. length (elements v)) (held_there (Node a b d) is) ∙ ap suc (length-append (elements (value cells b)) (elements (value cells d)))

  pub none_counted : (cell : c.Cell) → slice_get cells i ≡ Some cell → ((a : Word) × (b : Word) × (cell ≡ Pair a b)) ⊎ ((a : Word) × (cell ≡ Just a)) →
      length (elements (value cells word)) ≡ 0
  none_counted cell is other = ap (λ v. length (elements v)) (held_there cell is) ∙ ⊎_elim (λ k. ap count k.2) (λ k. ap count k.1) other
    where
      count : c.Cell → ℕ
      count cell = length (elements (value_held (held_of (held cells) cell)))

-- what names no cell has no elements
pub none_without_cell : (cells : List c.Cell) (word : Word) → ((i : ℕ) → word ≡ Cell i → ⊥) → length (elements (value cells word)) ≡ 0
none_without_cell cells (Cell i) other = absurd (other i refl)
none_without_cell cells (Int n) other = refl
none_without_cell cells (Bool b) other = refl
none_without_cell cells Empty other = refl

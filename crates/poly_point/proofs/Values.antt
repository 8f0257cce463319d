-- Words, what their cells hold, and the elements that wait.
use Rattle.std.proofs.Common.{◌≡◌, ◌⊎◌, ⊎_elim, ℕ, List, [], ◌∷◌, ◌++◌, length, Option, Some, option_to_list, refl, sym, ap, ◌∙◌, arith, append_assoc, append-nil}
use Rattle.std.specs.Prelude.{slice_get}
use Rattle.std.proofs.lemmas.Option.{slice_get_within}
use Rattle.raml_syntax.specs.Value.{Value}
use Rattle.base_poly.specs.Base.{elements, on_parts, on_content}
use Rattle.value_text.specs.declared.word.Word.{Word}
use Rattle.value_text.specs.declared.word.Word.TheVariants.{Cell}
use Rattle.value_text.specs.declared.word.Cell as c
use Rattle.value_text.specs.declared.word.Cell.TheVariants.{Cons, Pair, Node, Just}
use Rattle.value_text.specs.Heap.{NamesBelow, NameEarlier}
use Rattle.value_text.specs.Held.{value_held, held_of, held}
use Rattle.value_text.proofs.Earlier.{names_earlier, names_more}
use Rattle.value_text.proofs.Holding.{held_is}
use Rattle.poly_point.specs.Walk.{value, waiting_elements}

-- the value of a word that names a cell
pub cell_value : (cells : List c.Cell) (word : Word) (i : ℕ) (cell : c.Cell) → NameEarlier cells → word ≡ Cell i → slice_get cells i ≡ Some cell → value cells word ≡ value_held (held_of (held cells) cell)
cell_value cells word i cell e h is = ap (value cells) h ∙ ap value_held (held_is cells i cell e is)

-- the words of a cell name cells that are there
pub words_there : (cells : List c.Cell) (i : ℕ) (cell : c.Cell) → NameEarlier cells → slice_get cells i ≡ Some cell → NamesBelow (length cells) cell
words_there cells i cell e is = names_more i (length cells) cell (let within = slice_get_within cells i cell is in omega (arith, within)) (names_earlier cells i cell e is)

-- one word more waits
pub waits_more : (cells : List c.Cell) (ws : List Word) (w : Word) → waiting_elements cells (ws ++ w ∷ []) ≡ elements (value cells w) ++ waiting_elements cells ws
waits_more cells [] w = sym (append-nil (elements (value cells w)))
waits_more cells (u ∷ ws) w = ap (λ l. l ++ elements (value cells u)) (waits_more cells ws w) ∙ append_assoc (elements (value cells w)) (waiting_elements cells ws) (elements (value cells u))

-- A cell of another kind

pub no_content : (cells : List c.Cell) (word : Word) (i : ℕ) (cell : c.Cell) → NameEarlier cells → word ≡ Cell i → slice_get cells i ≡ Some cell →
    ((a : Word) × (b : Word) × (cell ≡ Cons a b)) ⊎ (((a : Word) × (b : Word) × (cell ≡ Pair a b)) ⊎ ((a : Word) × (b : Word) × (d : Word) × (cell ≡ Node a b d))) →
    (f : Value → ℕ) → on_content f (value cells word) ≡ 0
no_content cells word i cell e h is other f =
    ap (on_content f) (cell_value cells word i cell e h is)
    ∙ ⊎_elim (λ k. ap at k.2) (⊎_elim (λ k. ap at k.2) (λ k. ap at k.3)) other
  where
    at : c.Cell → ℕ
    at cell = on_content f (value_held (held_of (held cells) cell))

pub no_parts : (cells : List c.Cell) (word : Word) (i : ℕ) (cell : c.Cell) → NameEarlier cells → word ≡ Cell i → slice_get cells i ≡ Some cell →
    ((a : Word) × (b : Word) × (cell ≡ Cons a b)) ⊎ (((a : Word) × (b : Word) × (d : Word) × (cell ≡ Node a b d)) ⊎ ((a : Word) × (cell ≡ Just a))) →
    (f g : Value → ℕ) → on_parts f g (value cells word) ≡ 0
no_parts cells word i cell e h is other f g =
    ap (on_parts f g) (cell_value cells word i cell e h is)
    ∙ ⊎_elim (λ k. ap at k.2) (⊎_elim (λ k. ap at k.3) (λ k. ap at k.1)) other
  where
    at : c.Cell → ℕ
    at cell = on_parts f g (value_held (held_of (held cells) cell))

-- A word is taken from those that wait

module _ (cells : List c.Cell) (old new : List Word) (r : Option Word) (word : Word) (items : old ≡ new ++ option_to_list r) (is : r ≡ Some word) where
  pub taken : waiting_elements cells old ≡ elements (value cells word) ++ waiting_elements cells new
  taken = ap (waiting_elements cells) (items ∙ ap (λ o. new ++ option_to_list o) is) ∙ waits_more cells new word

  none_taken : elements (value cells word) ≡ [] → waiting_elements cells new ≡ waiting_elements cells old
  none_taken none = sym (taken ∙ ap (λ l. l ++ waiting_elements cells new) none)

  pub no_cell : ((i : ℕ) → word ≡ Cell i → ⊥) → waiting_elements cells new ≡ waiting_elements cells old
  no_cell h = none_taken (at word (λ i e. h i e))
    where
      at : (w : Word) → ((i : ℕ) → w ≡ Cell i → ⊥) → elements (value cells w) ≡ []
      at (Cell i) k = absurd (k i refl)
      at w k = refl

  module _ (i : ℕ) (cell : c.Cell) (earlier : NameEarlier cells) (at : word ≡ Cell i) (there : slice_get cells i ≡ Some cell) where
    holds : elements (value cells word) ≡ elements (value_held (held_of (held cells) cell))
    holds = ap elements (cell_value cells word i cell earlier at there)

    pub no_list : ((a : Word) × (b : Word) × (cell ≡ Pair a b)) ⊎ ((a : Word) × (cell ≡ Just a)) → waiting_elements cells new ≡ waiting_elements cells old
    no_list other = none_taken (holds ∙ ⊎_elim (λ k. ap elements_of k.2) (λ k. ap elements_of k.1) other)
      where
        elements_of : c.Cell → List Value
        elements_of cell = elements (value_held (held_of (held cells) cell))

  pub list_taken : (i : ℕ) (a b : Word) → NameEarlier cells → word ≡ Cell i → slice_get cells i ≡ Some (Cons a b) → (more : List Word) → more ≡ new ++ b ∷ [] →
      waiting_elements cells old ≡ value cells a ∷ waiting_elements cells more
  list_taken i a b earlier at there more e =
      taken ∙ ap (λ l. l ++ waiting_elements cells new) (holds i (Cons a b) earlier at there)
      ∙ ap (λ l. value cells a ∷ l) (sym (ap (waiting_elements cells) e ∙ waits_more cells new b))

  pub tree_taken : (i : ℕ) (a b d : Word) → NameEarlier cells → word ≡ Cell i → slice_get cells i ≡ Some (Node a b d) → (more most : List Word) → more ≡ new ++ d ∷ [] → most ≡ more ++ b ∷ [] →
      waiting_elements cells old ≡ value cells a ∷ waiting_elements cells most
  tree_taken i a b d earlier at there more most e f =
      taken ∙ ap (λ l. l ++ waiting_elements cells new) (holds i (Node a b d) earlier at there)
      ∙ ap (λ l. value cells a ∷ l)
      (append_assoc (elements (value cells b)) (elements (value cells d)) (waiting_elements cells new)
      ∙ sym (ap (waiting_elements cells) f ∙ waits_more cells more b ∙ ap (λ l. elements (value cells b) ++ l) (ap (waiting_elements cells) e ∙ waits_more cells new d)))

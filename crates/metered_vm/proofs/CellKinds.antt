-- A cell's value is of the cell's kind.
use Rattle.std.proofs.Common.{◌≡◌, ℕ, ◌≤◌, List, length, Some, refl, ap, subst, ◌∙◌, arith}
use Rattle.std.specs.Prelude.{slice_get}
use Rattle.std.proofs.lemmas.Option.{slice_get_within}
use Rattle.raml_syntax.specs.Default.{IsNumber, IsTruth}
use Rattle.raml_syntax.specs.Value.{Value}
use Rattle.stack_compile.specs.Ready.{IsPair, IsList, IsTree, IsOption}
use Rattle.value_text.specs.declared.word.Word.{Word}
use Rattle.value_text.specs.declared.word.Word.TheVariants.{Cell}
use Rattle.value_text.specs.declared.word.Cell as c
use Rattle.value_text.specs.declared.word.Cell.TheVariants as v
use Rattle.value_text.specs.Heap.{NamesBelow, NameEarlier}
use Rattle.value_text.specs.Held.{Held, ConsOf, PairOf, NodeOf, JustOf, value_held, value_of, held_of, held}
use Rattle.value_text.proofs.Earlier.{names_more, names_earlier}
use Rattle.value_text.proofs.Holding.{held_is}

pub not_number : (h : Held) → IsNumber (value_held h) → ⊥
not_number (ConsOf v w) is = is
not_number (PairOf v w) is = is
not_number (NodeOf u v w) is = is
not_number (JustOf v) is = is

pub not_truth : (h : Held) → IsTruth (value_held h) → ⊥
not_truth (ConsOf v w) is = is
not_truth (PairOf v w) is = is
not_truth (NodeOf u v w) is = is
not_truth (JustOf v) is = is

-- the value of a word that names a cell, and that cell's words
pub read_word : (cells : List c.Cell) (w : Word) (i : ℕ) (cell : c.Cell) → w ≡ Cell i → NameEarlier cells → slice_get cells i ≡ Some cell → (value_of (held cells) w ≡ value_held (held_of (held cells) cell)) × NamesBelow (length cells) cell
read_word cells w i cell named e is =
    let within : i ≤ length cells = omega (arith, slice_get_within cells i cell is) in (
      ap (value_of (held cells)) named ∙ ap value_held (held_is cells i cell e is),
      names_more i (length cells) cell within (names_earlier cells i cell e is),
    )

-- what is true of the word's value is true of the cell's
pub cell_is : (Q : Value → Type 0) (cells : List c.Cell) (w : Word) (i : ℕ) (cell : c.Cell) → w ≡ Cell i → NameEarlier cells → slice_get cells i ≡ Some cell → Q (value_of (held cells) w) → Q (value_held (held_of (held cells) cell))
cell_is Q cells w i cell named e is h = subst Q (read_word cells w i cell named e is).0 h

-- the cell of a pair, of a list, of a tree and of an option is of no other kind
pub no_other_pair : (hs : List Held) (cell : c.Cell) → IsPair (value_held (held_of hs cell)) → ((a b : Word) → cell ≡ v.Pair a b → ⊥) → ⊥
no_other_pair hs (v.Pair a b) h is = is a b refl
no_other_pair hs _ h is = absurd h

pub no_other_list : (hs : List Held) (cell : c.Cell) → IsList (value_held (held_of hs cell)) → ((a b : Word) → cell ≡ v.Cons a b → ⊥) → ⊥
no_other_list hs (v.Cons a b) h is = is a b refl
no_other_list hs _ h is = absurd h

pub no_other_tree : (hs : List Held) (cell : c.Cell) → IsTree (value_held (held_of hs cell)) → ((a b d : Word) → cell ≡ v.Node a b d → ⊥) → ⊥
no_other_tree hs (v.Node a b d) h is = is a b d refl
no_other_tree hs _ h is = absurd h

pub no_other_option : (hs : List Held) (cell : c.Cell) → IsOption (value_held (held_of hs cell)) → ((a : Word) → cell ≡ v.Just a → ⊥) → ⊥
no_other_option hs (v.Just a) h is = is a refl
no_other_option hs _ h is = absurd h

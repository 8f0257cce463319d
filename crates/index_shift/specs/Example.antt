-- Small maps, worked out by hand.
use Rattle.std.specs.Prelude.{◌≡◌, ℕ, [], ◌∷◌, slice_index, pos}
use Rattle.raml_syntax.specs.Tree.{Type', Integer, PairOf, ListOf, TreeOf, OptionOf}
use Rattle.raml_syntax.specs.Value.{Value, Number, Empty, Cons}
use Rattle.index_shift.specs.Potential.{potential, moved}
use Rattle.index_shift.specs.Maps.{opening, leaving, sharing}
use Rattle.index_shift.specs.declared.entry.Entry.{Entry}

abbrev entry : ℕ → ℕ → ℕ → Entry
entry f t n = record { from = f; to = t; times = n }

abbrev list : Type'
list = ListOf Integer

abbrev four : Value
four = let more = Cons (Number (pos 0)) in more (more (more (more Empty)))

pub record Examples : Type 0 where
  -- of an empty list comes one of degree 0, and a first entry stands at the head or in the tail
  pub list_opened : opening (list ∷ []) 0 2 ≡ entry 0 0 1 ∷ entry 1 0 1 ∷ entry 1 1 1 ∷ entry 2 1 1 ∷ entry 2 2 1 ∷ []
  pub second_list_opened : opening (Integer ∷ list ∷ []) 1 1 ≡ entry 0 0 1 ∷ entry 1 0 1 ∷ entry 1 1 1 ∷ []
  -- of two entries the first stands at the element or both in the trees
  pub tree_opened : opening (TreeOf Integer ∷ []) 0 2
      ≡ entry 0 0 1 ∷ entry 1 0 1 ∷ entry 1 1 1 ∷ entry 1 2 1 ∷ entry 2 1 1 ∷ entry 2 2 1 ∷ entry 2 3 1 ∷ entry 2 4 1 ∷ entry 2 5 1 ∷ []
  pub pair_opened : opening (PairOf list list ∷ []) 0 1 ≡ entry 0 0 1 ∷ entry 1 1 1 ∷ entry 2 2 1 ∷ []
  -- an option of a list: without an entry, and with one of degree 0, it counts 1 at the list
  pub option_opened : opening (OptionOf list ∷ []) 0 2 ≡ entry 0 0 1 ∷ entry 1 0 1 ∷ entry 2 1 1 ∷ []
  pub list_left : leaving (list ∷ list ∷ []) 0 2 ≡ entry 0 0 1 ∷ entry 1 1 1 ∷ entry 3 2 1 ∷ []
  pub option_left : leaving (OptionOf list ∷ list ∷ []) 0 1 ≡ entry 0 0 1 ∷ entry 1 1 1 ∷ []
  -- a list twice: the product of its length with itself is the length and twice its pairs
  pub list_shared : sharing (list ∷ []) 0 2
      ≡ entry 0 0 1 ∷ entry 1 1 1 ∷ entry 2 1 1 ∷ entry 3 2 1 ∷ entry 4 2 2 ∷ entry 4 1 1 ∷ entry 5 2 1 ∷ []
  -- 5, 7 times the length and 11 times the pairs of a list of four
  pub worth : potential (list ∷ []) 2 (λ k. slice_index (5 ∷ 7 ∷ 11 ∷ []) k) (four ∷ []) ≡ 99
  pub brought : moved (entry 0 3 1 ∷ entry 1 2 9 ∷ entry 1 3 2 ∷ []) (λ k. slice_index (5 ∷ 7 ∷ []) k) 3 ≡ 19

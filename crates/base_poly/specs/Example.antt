-- Small cases, worked out by hand.
use Rattle.std.specs.Prelude.{◌≡◌, ℕ, zero, suc, pos, List, [], ◌∷◌}
use Rattle.raml_syntax.specs.Tree.{Integer, ListOf, OptionOf}
use Rattle.raml_syntax.specs.Value.{Value, Number, Both, Empty, Cons, Node, Just}
use Rattle.base_poly.specs.Plain.{Plain, Unit', Pair, End, Then, NoEntry, OneEntry}
use Rattle.base_poly.specs.Indices.{index_list}
use Rattle.base_poly.specs.Base.{choices, base, bases}
use Rattle.base_poly.specs.Product.{product}

abbrev listed : List Value → Value
listed [] = Empty
listed (v ∷ vs) = Cons v (listed vs)

abbrev numbers : ℕ → Value
numbers zero = Empty
numbers (suc n) = Cons (Number (pos 0)) (numbers n)

abbrev units : ℕ → Plain
units zero = End
units (suc n) = Then Unit' (units n)

pub record Examples : Type 0 where
  pub two_of_three : choices {X = ℕ} 2 (1 ∷ 2 ∷ 3 ∷ []) ≡ (1 ∷ 2 ∷ []) ∷ (1 ∷ 3 ∷ []) ∷ (2 ∷ 3 ∷ []) ∷ []
  pub two_lists : index_list (ListOf Integer ∷ ListOf Integer ∷ []) 1
      ≡ (units 0 ∷ units 0 ∷ []) ∷ (units 0 ∷ units 1 ∷ []) ∷ (units 1 ∷ units 0 ∷ []) ∷ []
  pub two_lists_more : index_list (ListOf Integer ∷ ListOf Integer ∷ []) 2
      ≡ (units 0 ∷ units 0 ∷ []) ∷ (units 0 ∷ units 1 ∷ []) ∷ (units 1 ∷ units 0 ∷ []) ∷
      (units 0 ∷ units 2 ∷ []) ∷ (units 1 ∷ units 1 ∷ []) ∷ (units 2 ∷ units 0 ∷ []) ∷ []
  pub nested : index_list (ListOf (ListOf Integer) ∷ []) 2
      ≡ (End ∷ []) ∷ (Then End End ∷ []) ∷ (Then End (Then End End) ∷ []) ∷ (Then (units 1) End ∷ []) ∷ []
  pub none : index_list [] 3 ≡ [] ∷ []
  pub options : index_list (OptionOf (ListOf Integer) ∷ []) 2 ≡ (NoEntry ∷ []) ∷ (OneEntry (units 0) ∷ []) ∷ (OneEntry (units 1) ∷ []) ∷ []
  pub no_list : index_list (Integer ∷ []) 4 ≡ (Unit' ∷ []) ∷ []
  -- four numbers have six pairs
  pub pairs_of_four : base (units 2) (numbers 4) ≡ 6
  pub too_many : base (units 3) (numbers 2) ≡ 0
  -- of a list of lists with 2, 1 and 3 numbers: a number of one list and a later list
  pub later : base (Then (units 1) (Then End End)) (listed (numbers 2 ∷ numbers 1 ∷ numbers 3 ∷ [])) ≡ 5
  -- of a tree with 2 numbers at the top, 1 in the left and 3 in the right: the order is that of a walk from the top
  pub preorder : base (Then End (Then (units 1) End)) (Node (numbers 2) (Node (numbers 1) Empty Empty) (Node (numbers 3) Empty Empty)) ≡ 7
  pub pair : base (Pair (units 1) (units 2)) (Both (numbers 3) (numbers 4)) ≡ 18
  pub tuple : bases (units 1 ∷ units 1 ∷ []) (numbers 3 ∷ numbers 4 ∷ []) ≡ 12
  pub square : product (units 1) (units 1) ≡ units 2 ∷ units 2 ∷ units 1 ∷ []
  pub option : base (OneEntry (units 2)) (Just (numbers 4)) ≡ 6
  pub no_option : base (OneEntry (units 0)) Empty ≡ 0
  -- of a list of options that hold 2, no, and 3 numbers: a number of one of them and a later option that holds something
  pub later_option : base (Then (OneEntry (units 1)) (Then (OneEntry (units 0)) End))
      (listed (Just (numbers 2) ∷ Empty ∷ Just (numbers 3) ∷ [])) ≡ 2
  pub option_square : product (OneEntry (units 1)) (OneEntry (units 1)) ≡ OneEntry (units 2) ∷ OneEntry (units 2) ∷ OneEntry (units 1) ∷ []

-- The texts of small indices and polynomials, worked out by hand.
use Rattle.std.specs.Prelude.{◌≡◌, [], ◌∷◌, codes}
use Rattle.base_poly.specs.Plain.{Plain, Unit', Pair, End, Then, NoEntry, OneEntry}
use Rattle.poly_text.specs.Text.{index_text, coefficient_text, term_text, sum_text, IsTextOf}

-- the list index with a unit alone, and with two
abbrev pub one : Plain
one = Then Unit' End

abbrev pub two : Plain
two = Then Unit' one

pub record PrintedPolynomials : Type 0 where
  pub pair : index_text (Pair one (OneEntry Unit')) ≡ codes "([_], [_])"
  pub nested : index_text (Then End (Then one (Then two End))) ≡ codes "[[], [_], [_, _]]"
  pub no_entry : index_text NoEntry ≡ codes "[]"
  -- in lowest terms; a denominator of 1 is not written
  pub quotient : coefficient_text 12 18 ≡ codes "2/3"
  pub whole : coefficient_text 18 6 ≡ codes "3"
  -- the tuple of degree 0 is not written, however many components it has
  pub constant : term_text 4 (End ∷ Unit' ∷ NoEntry ∷ [], 6) ≡ codes "3/2"
  pub components : term_text 1 (one ∷ End ∷ [], 1) ≡ codes "1*<[_], []>"
  pub sum : sum_text 4 ((End ∷ [], 6) ∷ (one ∷ [], 8) ∷ (two ∷ [], 1) ∷ []) ≡ codes "3/2 + 2*<[_]> + 1/4*<[_, _]>"
  pub zero : sum_text 7 [] ≡ codes "0"
  -- terms stand in the order of their tuples, and zeros are left out
  pub ordered : IsTextOf 2 ((two ∷ [], 1) ∷ (one ∷ [], 0) ∷ (End ∷ [], 4) ∷ []) (codes "2 + 1/2*<[_, _]>")
  pub all_zero : IsTextOf 7 ((End ∷ [], 0) ∷ (two ∷ [], 0) ∷ []) (codes "0")

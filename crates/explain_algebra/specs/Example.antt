-- Small cases, worked out by hand.
use Rattle.std.specs.Prelude.{◌≡◌, ◌*◌, ℕ, pos, negsuc, Option, Some, None, List, [], ◌∷◌, length, codes, encode_utf8_all}
use Rattle.raml_syntax.specs.Tree.{Text, Type', Integer, Boolean, PairOf, ListOf, TreeOf, OptionOf}
use Rattle.base_poly.specs.Plain.{Unit'}
use Rattle.base_poly.specs.Poly.{Term}
use Rattle.bound_compare.specs.Laws.{picks}
use Rattle.bound_compare.specs.Powers.{powers_of}
use Rattle.explain_algebra.specs.Algebra.{size_names, times, exponent_text, algebra_text, legend_text}

-- the polynomial with these terms over a denominator, of a function with parameters of these types, in algebra
abbrev bound : List Type' → ℕ → List Term → Text
bound As den terms = algebra_text (24 * den) (size_names [] As) (powers_of (length As) terms)

abbrev numbers : Type'
numbers = ListOf Integer

abbrev n : Option ℕ
n = Some 110

-- the work of quicksort: 4 + 24*<[_]> + 23*<[_, _]>
abbrev quicksort : List Term
quicksort = (picks 0 ∷ [], 4) ∷ (picks 1 ∷ [], 24) ∷ (picks 2 ∷ [], 23) ∷ []

-- 7*<[_], [_]> + 1*<[], [_, _]>
abbrev two_lists : List Term
two_lists = (picks 1 ∷ picks 1 ∷ [], 7) ∷ (picks 0 ∷ picks 2 ∷ [], 1) ∷ []

-- 1 + 2*<_, [_, _]>, of a number and a list
abbrev behind_number : List Term
behind_number = (Unit' ∷ picks 0 ∷ [], 1) ∷ (Unit' ∷ picks 2 ∷ [], 2) ∷ []

pub record Examples : Type 0 where
  pub names : size_names [] (Boolean ∷ numbers ∷ Integer ∷ TreeOf Boolean ∷ OptionOf numbers ∷ PairOf numbers numbers
      ∷ numbers ∷ []) ≡ None ∷ n ∷ None ∷ Some 109 ∷ None ∷ None ∷ Some 107 ∷ []
  -- a parameter that is called n takes the letter, whatever its type
  pub taken : size_names (codes "x" ∷ codes "n" ∷ codes "room" ∷ []) (Integer ∷ Integer ∷ ListOf Boolean ∷ []) ≡ None ∷ None ∷ Some 109 ∷ []
  pub dot : times ≡ encode_utf8_all (codes "·")
  pub square : exponent_text 2 ≡ encode_utf8_all (codes "²")
  pub cube : exponent_text 3 ≡ encode_utf8_all (codes "³")
  pub fourth : exponent_text 4 ≡ encode_utf8_all (codes "⁴")
  pub fifth : exponent_text 5 ≡ codes "^5"
  pub work : bound (numbers ∷ []) 1 quicksort ≡ encode_utf8_all (codes "23/2·n² + 25/2·n + 4")
  -- over 23: a coefficient of 1/2, and 4/23
  pub over : bound (numbers ∷ []) 23 quicksort ≡ encode_utf8_all (codes "1/2·n² + 25/46·n + 4/23")
  -- the ticks of insertion sort: 1*<[_, _]>
  pub ticks : bound (numbers ∷ []) 1 ((picks 2 ∷ [], 1) ∷ []) ≡ encode_utf8_all (codes "1/2·n² - 1/2·n")
  pub two : bound (numbers ∷ numbers ∷ []) 1 two_lists ≡ encode_utf8_all (codes "7·n·m + 1/2·m² - 1/2·m")
  -- no coefficient of 1, and the name of the first size, though it is that of the second parameter
  pub behind : bound (Integer ∷ numbers ∷ []) 1 behind_number ≡ encode_utf8_all (codes "n² - n + 1")
  pub choices_of_four : bound (numbers ∷ []) 1 ((picks 4 ∷ [], 24) ∷ []) ≡ encode_utf8_all (codes "n⁴ - 6·n³ + 11·n² - 6·n")
  pub one : bound [] 1 (([], 1) ∷ []) ≡ codes "1"
  pub zero : bound (numbers ∷ []) 1 [] ≡ codes "0"
  pub less : algebra_text 2 (n ∷ []) ((0 ∷ [], pos 3) ∷ (1 ∷ [], negsuc 1) ∷ []) ≡ codes "-n + 3/2"
  pub legend : legend_text (n ∷ Some 109 ∷ []) (codes "l" ∷ codes "r" ∷ []) ≡ codes "n = |l|, m = |r|"
  pub legend_of_one : legend_text (None ∷ n ∷ None ∷ []) (codes "x" ∷ codes "ys" ∷ codes "z" ∷ []) ≡ codes "n = |ys|"
  pub no_legend : legend_text (None ∷ []) (codes "x" ∷ []) ≡ []

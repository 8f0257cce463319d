-- The total of the positive terms of a list, and that of the negative ones.
use Rattle.std.specs.Prelude.{List, [], ◌∷◌, ℤ, pos, ◌+ℤ◌, ◌*ℤ◌, FitsSigned}
use Rattle.std.specs.Int.{w128}
use lib.IntN.{negsuc}

-- the part of a number that counts up, and the part that counts down
abbrev pub gain : ℤ → ℤ
gain (pos n) = pos n
gain (negsuc n) = pos 0

abbrev pub loss : ℤ → ℤ
loss (pos n) = pos 0
loss (negsuc n) = negsuc n

-- the sum of what f gives of each
abbrev pub sum_of : (ℤ → ℤ) → List ℤ → ℤ
sum_of f [] = pos 0
sum_of f (z ∷ zs) = f z +ℤ sum_of f zs

abbrev pub gains : List ℤ → ℤ
gains zs = sum_of gain zs

abbrev pub losses : List ℤ → ℤ
losses zs = sum_of loss zs

-- both totals are numbers of 128 bits
pub record TotalsFit (zs : List ℤ) : Type 0 where
  pub positive : FitsSigned w128 (gains zs)
  pub negative : FitsSigned w128 (losses zs)

-- the products, place by place
abbrev pub products : List ℤ → List ℤ → List ℤ
products [] ys = []
products (x ∷ xs) [] = []
products (x ∷ xs) (y ∷ ys) = (x *ℤ y) ∷ products xs ys

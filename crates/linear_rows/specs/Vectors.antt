-- Lists of whole numbers as vectors, and lists of vectors as matrices.
use Rattle.std.specs.Prelude.{◌≡◌, ℕ, zero, suc, List, [], ◌∷◌, length, ℤ, pos, ◌+ℤ◌, ◌*ℤ◌, ◌≤ℤ◌}

-- the sum of the products, as far as both lists go
abbrev pub dot : List ℤ → List ℤ → ℤ
dot [] ys = pos 0
dot (x ∷ xs) [] = pos 0
dot (x ∷ xs) (y ∷ ys) = x *ℤ y +ℤ dot xs ys

abbrev pub scale : ℤ → List ℤ → List ℤ
scale k [] = []
scale k (x ∷ xs) = (k *ℤ x) ∷ scale k xs

-- the sum, place by place, as far as both lists go
abbrev pub plus : List ℤ → List ℤ → List ℤ
plus [] ys = []
plus (x ∷ xs) [] = []
plus (x ∷ xs) (y ∷ ys) = (x +ℤ y) ∷ plus xs ys

abbrev pub zeros : ℕ → List ℤ
zeros zero = []
zeros (suc n) = pos 0 ∷ zeros n

-- the combination of rows of width n by the factors
abbrev pub mix : ℕ → List ℤ → List (List ℤ) → List ℤ
mix n [] rows = zeros n
mix n (k ∷ ks) [] = zeros n
mix n (k ∷ ks) (row ∷ rows) = plus (scale k row) (mix n ks rows)

-- each row's product with x
abbrev pub times : List (List ℤ) → List ℤ → List ℤ
times [] x = []
times (row ∷ rows) x = dot row x ∷ times rows x

abbrev pub AllWide : ℕ → List (List ℤ) → Type 0
AllWide n [] = Unit {0}
AllWide n (row ∷ rows) = (length row ≡ n) × AllWide n rows

-- place by place: at most
abbrev pub AtMost : List ℤ → List ℤ → Type 0
AtMost [] [] = Unit {0}
AtMost [] (y ∷ ys) = ⊥
AtMost (x ∷ xs) [] = ⊥
AtMost (x ∷ xs) (y ∷ ys) = (x ≤ℤ y) × AtMost xs ys

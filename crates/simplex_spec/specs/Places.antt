-- Numbers at places of rows.
use Rattle.std.specs.Prelude.{ℕ, zero, suc, List, [], ◌∷◌, ℤ, pos, ◌-ℤ◌, ◌*ℤ◌, slice_index_or}
use Rattle.linear_rows.specs.Vectors.{plus, zeros}

-- the number at a column, or 0 past the end
abbrev pub at : List ℤ → ℕ → ℤ
at row c = slice_index_or row c (pos 0)

abbrev pub row_at : List (List ℤ) → ℕ → List ℤ
row_at rows i = slice_index_or rows i []

-- the numbers of a row at some columns
abbrev pub at_each : List ℤ → List ℕ → List ℤ
at_each row [] = []
at_each row (c ∷ cs) = at row c ∷ at_each row cs

-- the numbers of the rows at a column
abbrev pub column : ℕ → List (List ℤ) → List ℤ
column c [] = []
column c (row ∷ rows) = at row c ∷ column c rows

-- n numbers from k on
abbrev pub counted : ℕ → ℕ → List ℕ
counted k zero = []
counted k (suc n) = k ∷ counted (suc k) n

-- n numbers: z at place i, and 0 at the others
abbrev pub only : ℕ → ℕ → ℤ → List ℤ
only zero i z = []
only (suc n) zero z = z ∷ zeros n
only (suc n) (suc i) z = pos 0 ∷ only n i z

-- n numbers: each of zs at its place, and 0 at the others
abbrev pub spread : ℕ → List ℕ → List ℤ → List ℤ
spread n [] zs = zeros n
spread n (c ∷ cs) [] = zeros n
spread n (c ∷ cs) (z ∷ zs) = plus (only n c z) (spread n cs zs)

-- place by place, p times the first less f times the second
abbrev pub swept : ℤ → ℤ → List ℤ → List ℤ → List ℤ
swept p f [] ys = []
swept p f (x ∷ xs) [] = []
swept p f (x ∷ xs) (y ∷ ys) = (x *ℤ p -ℤ f *ℤ y) ∷ swept p f xs ys

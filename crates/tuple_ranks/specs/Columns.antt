-- Positions of tuples, by counting. Tables for a context's variables tell how many tuples are before one.
use Rattle.std.specs.Prelude.{ℕ, zero, suc, ◌+◌, nat_lt, cond, Option, None, Some, List, [], ◌∷◌, map, take, slice_get, slice_index_or}
use Rattle.raml_syntax.specs.Tree.{Type'}
use Rattle.base_poly.specs.Plain.{degrees}
use Rattle.base_poly.specs.Base.{total}
use Rattle.base_poly.specs.Indices.{tuples_up_to}
use Rattle.index_shift.specs.Tables.{fits, listed}

-- the degrees of the indices of each type, component by component
abbrev pub sizes : List Type' → ℕ → List (List ℕ)
sizes As d = map (λ A. map degrees (tuples_up_to (A ∷ []) d)) As

-- how many tuples of indices of these degrees have exactly degree g
abbrev pub count : List (List ℕ) → ℕ → ℕ
count [] zero = 1
count [] (suc g) = 0
count (ps ∷ pss) g = total (fits (count pss) g) ps

-- the sum of what n tells of each number below
abbrev pub below : (ℕ → ℕ) → ℕ → ℕ
below n zero = 0
below n (suc g) = below n g + n g

-- how many have a lower degree
abbrev pub lower_count : List (List ℕ) → ℕ → ℕ
lower_count pss = below (count pss)

-- What is known of a variable: the degrees of its indices, and, for each degree, how many tuples of the variables
-- behind it have this degree.
pub record Column : Type 0 where
  pub sizes : List ℕ
  pub behind : List ℕ

abbrev pub sizes_in : List Column → List (List ℕ)
sizes_in cs = map (λ (c : Column). c.sizes) cs

abbrev pub columns : ℕ → List (List ℕ) → List Column
columns d [] = []
columns d (ps ∷ pss) = record { sizes = ps; behind = listed (count pss) 0 (1 + d) } ∷ columns d pss

-- What is known of a context: its variables, and for each degree, and one more, how many tuples have a lower one.
pub record Table : Type 0 where
  pub degree : ℕ
  pub columns : List Column
  pub starts : List ℕ

-- of types whose indices have these degrees
abbrev pub table_by : List (List ℕ) → ℕ → Table
table_by pss d = record { degree = d; columns = columns d pss; starts = listed (lower_count pss) 0 (2 + d) }

abbrev pub table : List Type' → ℕ → Table
table As d = table_by (sizes As d) d

-- how many tuples there are up to a degree
abbrev pub up_to : Table → ℕ → ℕ
up_to t g = slice_index_or t.starts (1 + g) 0

-- a degree of at most d, and how many of this degree are before, in 16 bits
abbrev pub standing : ℕ → ℕ → ℕ → Option (ℕ × ℕ)
standing d g n = cond (nat_lt d g) None (cond (nat_lt n 65536) (Some (g, n)) None)

-- how many tuples of degree g begin with an index before the n-th
abbrev pub before : Column → ℕ → ℕ → ℕ
before c g n = total (fits (λ r. slice_index_or c.behind r 0) g) (take n c.sizes)

-- the same with the n-th index of a variable before the others
abbrev pub led_by : ℕ → Column → ℕ → Option ℕ → Option (ℕ × ℕ) → Option (ℕ × ℕ)
led_by d c n (Some p) (Some s) = standing d (p + s.0) (before c (p + s.0) n + s.1)
led_by d c n None s = None
led_by d c n (Some p) None = None

-- of the tuple with these numbers, where there is one
abbrev pub stands : ℕ → List Column → List ℕ → Option (ℕ × ℕ)
stands d [] [] = Some (0, 0)
stands d [] (n ∷ ns) = None
stands d (c ∷ cs) [] = None
stands d (c ∷ cs) (n ∷ ns) = led_by d c n (slice_get c.sizes n) (stands d cs ns)

-- its position; the number of all where it has none
abbrev pub place_by : Table → Option (ℕ × ℕ) → ℕ
place_by t (Some s) = slice_index_or t.starts s.0 0 + s.1
place_by t None = up_to t t.degree

abbrev pub place : Table → List ℕ → ℕ
place t ns = place_by t (stands t.degree t.columns ns)

-- its degree
abbrev pub degree_by : Option (ℕ × ℕ) → ℕ
degree_by (Some s) = s.0
degree_by None = 0

abbrev pub degree_at : Table → List ℕ → ℕ
degree_at t ns = degree_by (stands t.degree t.columns ns)

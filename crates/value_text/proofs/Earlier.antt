-- Cells that name only earlier cells.
use Rattle.std.proofs.Common.{◌≡◌, ℕ, zero, suc, ◌+◌, ◌≤◌, List, [], ◌∷◌, ◌++◌, length, take, Some, sym, subst, arith}
use Rattle.std.specs.Prelude.{slice_get}
use Rattle.value_text.specs.declared.word.Word.{Word}
use Rattle.value_text.specs.declared.word.Word.TheVariants.{Int, Bool, Empty, Cell}
use Rattle.value_text.specs.declared.word.Cell as c
use Rattle.value_text.specs.declared.word.Cell.TheVariants.{Cons, Pair, Node, Just}
use Rattle.value_text.specs.Heap.{IsBelow, NamesBelow, NameEarlierFrom, NameEarlier}

pub below_more : (n m : ℕ) (word : Word) → n ≤ m → IsBelow n word → IsBelow m word
below_more n m (Cell i) le h = omega (arith, h, le)
below_more n m (Int k) le h = tt
below_more n m (Bool b) le h = tt
below_more n m Empty le h = tt

pub names_more : (n m : ℕ) (cell : c.Cell) → n ≤ m → NamesBelow n cell → NamesBelow m cell
names_more n m (Cons a b) le h = (below_more n m a le h.0, below_more n m b le h.1)
names_more n m (Pair a b) le h = (below_more n m a le h.0, below_more n m b le h.1)
names_more n m (Node a b d) le h = (below_more n m a le h.0, below_more n m b le h.1, below_more n m d le h.2)
names_more n m (Just a) le h = below_more n m a le h

earlier_snoc : (n : ℕ) (cells : List c.Cell) (cell : c.Cell) → NameEarlierFrom n cells → NamesBelow (n + length cells) cell → NameEarlierFrom n (cells ++ cell ∷ [])
earlier_snoc n [] cell h below = let same : n + 0 ≡ n = omega arith in (subst (λ k. NamesBelow k cell) same below, tt)
earlier_snoc n (x ∷ cells) cell h below =
    let same : n + length (x ∷ cells) ≡ n + 1 + length cells = omega arith in
    (h.0, earlier_snoc (n + 1) cells cell h.1 (subst (λ k. NamesBelow k cell) same below))

-- one more cell that names only cells that are there
pub earlier_added : (cells new : List c.Cell) (cell : c.Cell) → new ≡ cells ++ cell ∷ [] → NameEarlier cells → NamesBelow (length cells) cell → NameEarlier new
earlier_added cells new cell is h below =
    let same : length cells ≡ 0 + length cells = omega arith in
    subst NameEarlier (sym is) (earlier_snoc 0 cells cell h (subst (λ k. NamesBelow k cell) same below))

earlier_at : (n : ℕ) (cells : List c.Cell) (i : ℕ) (cell : c.Cell) → NameEarlierFrom n cells → slice_get cells i ≡ Some cell → NamesBelow (n + i) cell
earlier_at n [] i cell h is = absurd (cc)
earlier_at n (x ∷ cells) zero cell h is =
    let same : n ≡ n + 0 = omega arith in
    let first : x ≡ cell = cc in
    subst (λ k. NamesBelow k cell) same (subst (NamesBelow n) first h.0)
earlier_at n (x ∷ cells) (suc i) cell h is =
    let same : n + 1 + i ≡ n + suc i = omega arith in
    subst (λ k. NamesBelow k cell) same (earlier_at (n + 1) cells i cell h.1 is)

-- a cell of the list names only cells before it
pub names_earlier : (cells : List c.Cell) (i : ℕ) (cell : c.Cell) → NameEarlier cells → slice_get cells i ≡ Some cell → NamesBelow i cell
names_earlier cells i cell h is = let same : 0 + i ≡ i = omega arith in subst (λ k. NamesBelow k cell) same (earlier_at 0 cells i cell h is)

earlier_take : (n k : ℕ) (cells : List c.Cell) → NameEarlierFrom n cells → NameEarlierFrom n (take k cells)
earlier_take n zero cells h = tt
earlier_take n (suc k) [] h = tt
earlier_take n (suc k) (x ∷ cells) h = (h.0, earlier_take (n + 1) k cells h.1)

-- the first cells alone
pub earlier_front : (cells new : List c.Cell) (k : ℕ) → new ≡ take k cells → NameEarlier cells → NameEarlier new
earlier_front cells new k e h = subst NameEarlier (sym e) (earlier_take 0 k cells h)

-- Tables of functions: a set for each, which it calls or leads to.
use Rattle.std.specs.Prelude.{◌≡◌, ◌<◌, ℕ, zero, suc, List, [], ◌∷◌, map, length, cond, Option, Some, None, slice_index_or, false}
use Rattle.raml_syntax.specs.Tree as t
use Rattle.raml_syntax.specs.Tree.{Function, Prog}
use Rattle.raml_syntax.specs.Place.{place_of}
use Rattle.call_groups.specs.Sets.{Members, none, with_one, joined, shared, without, IsSubset, below}

abbrev pub Table : Type 0
Table = List Members

abbrev pub row_at : Table → ℕ → Members
row_at rows k = slice_index_or rows k none

abbrev pub marked_place : Option ℕ → Members → Members
marked_place None row = row
marked_place (Some k) row = with_one k row

-- the row, where the functions that are called in the expression are marked too
module _ (P : Prog) where
  abbrev mutual
    pub marked : t.Term → Members → Members
    marked (t.Arith p op a b) row = marked b (marked a row)
    marked (t.Compare p op a b) row = marked b (marked a row)
    marked (t.Not p a) row = marked a row
    marked (t.Pair p a b) row = marked b (marked a row)
    marked (t.Cons p a b) row = marked b (marked a row)
    marked (t.Node p a b c) row = marked c (marked b (marked a row))
    marked (t.Just p a) row = marked a row
    marked (t.Call p f args) row = marked_in args (marked_place (place_of f P) row)
    marked (t.Let p x a b) row = marked b (marked a row)
    marked (t.LetPair p x y a b) row = marked b (marked a row)
    marked (t.If p c a b) row = marked b (marked a (marked c row))
    marked (t.MatchList p c a x y b) row = marked b (marked a (marked c row))
    marked (t.MatchTree p c a x y z b) row = marked b (marked a (marked c row))
    marked (t.MatchOption p c a x b) row = marked b (marked a (marked c row))
    marked (t.Tick p k a) row = marked a row
    marked (t.Typed p a A) row = marked a row
    marked _ row = row

    pub marked_in : t.Terms → Members → Members
    marked_in t.None row = row
    marked_in (t.More a rest) row = marked_in rest (marked a row)

-- which function calls which
abbrev pub call_table : Prog → Table
call_table P = map (λ (h : Function). marked P h.body none) P

-- where a row leads to a function, it leads to all that this function leads to
abbrev pub through_row : ℕ → Members → Members → Members
through_row k middle row = cond (row k) (joined row middle) row

abbrev pub through : ℕ → Table → Table
through k rows = map (through_row k (row_at rows k)) rows

-- the same for each of the first functions
abbrev pub through_all : ℕ → Table → Table
through_all zero rows = rows
through_all (suc k) rows = through k (through_all k rows)

module _ (rows : Table) where
  -- the functions that lead to this one
  abbrev pub column : ℕ → Members
  column f g = row_at rows g f

  -- those to which this one leads and that do not lead back
  abbrev pub waits : ℕ → Members
  waits f = without (row_at rows f) (column f)

  -- those to which this one leads and that lead back, and itself
  abbrev pub group : ℕ → Members
  group f = with_one f (shared (row_at rows f) (column f))

-- what each of these many functions waits for
pub record Waiting (rows : Table) (count : ℕ) (waiting : Table) : Type 0 where
  pub len : length waiting ≡ count
  pub each : (f : ℕ) → f < count → row_at waiting f ≡ waits rows f

-- the function is not placed, and those for which it waits are
pub record IsReady (waits_for : ℕ → Members) (placed : Members) (f : ℕ) : Type 0 where
  pub new : placed f ≡ false
  pub served : IsSubset (waits_for f) placed

-- of these many functions the first that is ready
pub record IsNext (waits_for : ℕ → Members) (count : ℕ) (placed : Members) (f : ℕ) : Type 0 where
  pub low : f < count
  pub ready : IsReady waits_for placed f
  pub first : (g : ℕ) → g < f → IsReady waits_for placed g → ⊥

abbrev pub NoneIsReady : (ℕ → Members) → ℕ → Members → Type 0
NoneIsReady waits_for count placed = (f : ℕ) → f < count → IsReady waits_for placed f → ⊥

-- Groups that are placed one after the other, from these placed to those: each time that of the next function.
module _ (rows : Table) (count : ℕ) where
  abbrev pub Front : Members → List (List ℕ) → Members → Type 0
  Front placed [] last = placed ≡ last
  Front placed (g ∷ gs) last =
      (f : ℕ) × IsNext (waits rows) count placed f × (g ≡ below count (group rows f)) × Front (joined placed (group rows f)) gs last

  -- all of them: at the end no function is ready
  pub record Placed (gs : List (List ℕ)) : Type 0 where
    pub last : Members
    pub front : Front none gs last
    pub none_left : NoneIsReady (waits rows) count last

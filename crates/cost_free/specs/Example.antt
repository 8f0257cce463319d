-- Small targets and schedules, worked out by hand.
use Rattle.std.specs.Prelude.{◌≡◌, ℕ, zero, suc, Bool, true, false, List, [], ◌∷◌, map, length, Option, Some, None}
use Rattle.raml_syntax.specs.Tree.{Type', Integer, Boolean, PairOf, ListOf, TreeOf, OptionOf}
use Rattle.base_poly.specs.Plain.{Plain, Unit', Pair, End, Then}
use Rattle.cost_free.specs.Target.{Target, targets}
use Rattle.cost_free.specs.declared.task.Done.TheVariants.{Solved, Refuted}
use Rattle.cost_free.specs.Task.{Ticks, Cells, Work, Kind, Free, With, Task, Outcome}
use Rattle.cost_free.specs.Schedule.{next}
use Rattle.cost_free.specs.Blocked.{blocked}

abbrev units : ℕ → Plain
units zero = End
units (suc n) = Then Unit' (units n)

-- one tuple, that of this index
abbrev one : Plain → Target
one i = (i ∷ []) ∷ []

abbrev pair : ℕ → ℕ → Plain
pair m n = Pair (units m) (units n)

abbrev all : List Plain → Target
all is = map (λ i. i ∷ []) is

abbrev ints : Type'
ints = ListOf Integer

-- an index of three components
abbrev three : ℕ → ℕ → ℕ → Plain
three k m n = Pair (units k) (pair m n)

-- lists of lists: the outer list has an empty index for each of its entries
abbrev ends : ℕ → Plain
ends zero = End
ends (suc n) = Then End (ends n)

abbrev deep : Plain
deep = Then (units 1) End

pub record TargetExamples : Type 0 where
  pub number : targets Integer 3 ≡ one Unit' ∷ []
  pub list : targets ints 2 ≡ one (units 0) ∷ one (units 1) ∷ one (units 2) ∷ []
  -- of two lists those of one list index are joined, cut over both in all ways
  pub two_lists : targets (PairOf ints ints) 2
      ≡ one (pair 0 0) ∷ one (pair 0 1) ∷ one (pair 1 0) ∷ one (pair 0 2) ∷ one (pair 1 1) ∷ one (pair 2 0)
      ∷ all (pair 0 1 ∷ pair 1 0 ∷ []) ∷ all (pair 0 2 ∷ pair 1 1 ∷ pair 2 0 ∷ []) ∷ []
  -- lists and trees are joined where their elements have one type
  pub list_tree_list : targets (PairOf ints (PairOf (TreeOf Integer) (ListOf Boolean))) 1
      ≡ one (three 0 0 0) ∷ one (three 0 0 1) ∷ one (three 0 1 0) ∷ one (three 1 0 0) ∷ all (three 0 1 0 ∷ three 1 0 0 ∷ []) ∷ []
  -- joined targets go by degree, then by the list index
  pub nested : targets (PairOf (ListOf ints) (ListOf ints)) 2
      ≡ one (Pair End End) ∷ one (Pair End (ends 1)) ∷ one (Pair (ends 1) End)
      ∷ one (Pair End (ends 2)) ∷ one (Pair End deep) ∷ one (Pair (ends 1) (ends 1)) ∷ one (Pair (ends 2) End) ∷ one (Pair deep End)
      ∷ all (Pair End (ends 1) ∷ Pair (ends 1) End ∷ [])
      ∷ all (Pair End (ends 2) ∷ Pair (ends 1) (ends 1) ∷ Pair (ends 2) End ∷ [])
      ∷ all (Pair End deep ∷ Pair deep End ∷ []) ∷ []
  -- three lists: each two of them, and all three; sets go by their places, a prefix first
  pub three_lists : targets (PairOf ints (PairOf ints ints)) 1
      ≡ one (three 0 0 0) ∷ one (three 0 0 1) ∷ one (three 0 1 0) ∷ one (three 1 0 0)
      ∷ all (three 0 1 0 ∷ three 1 0 0 ∷ []) ∷ all (three 0 0 1 ∷ three 0 1 0 ∷ three 1 0 0 ∷ [])
      ∷ all (three 0 0 1 ∷ three 1 0 0 ∷ []) ∷ all (three 0 0 1 ∷ three 0 1 0 ∷ []) ∷ []
  -- an option is no component that is joined
  pub option : length (targets (PairOf (OptionOf Integer) ints) 1) ≡ 3
  pub two_lists_more : length (targets (PairOf ints ints) 3) ≡ 13
  pub nested_more : length (targets (PairOf (ListOf ints) (ListOf ints)) 3) ≡ 27

abbrev task : ℕ → Kind → Task
task group kind = record { group = group; kind = kind }

abbrev solved : Task → Outcome
solved t = (t, Solved)

abbrev refuted : Task → Outcome
refuted t = (t, Refuted)

-- one function with a list as its result, at degree 1
abbrev next_of_list : Bool → List Outcome → Option Task
next_of_list work done = next (ints ∷ []) ((0 ∷ []) ∷ []) 1 work done

abbrev constant : Outcome
constant = solved (task 0 (Free 0 0 0))

abbrev linear : Outcome
linear = solved (task 0 (Free 1 0 1))

-- two functions, each with a number as its result and a group of its own: the first calls itself, and the second the first
abbrev blocked_second : Task → List Outcome → Option ℕ
blocked_second t done = blocked ((0 ∷ []) ∷ (1 ∷ []) ∷ []) ((0 ∷ []) ∷ (0 ∷ []) ∷ []) t done

pub record ScheduleExamples : Type 0 where
  pub begins : next_of_list false [] ≡ Some (task 0 (Free 0 0 0))
  -- the target 0 is not tried again
  pub left_out : next_of_list false (constant ∷ []) ≡ Some (task 0 (Free 1 0 1))
  -- but it is where it was refuted at the lower budget
  pub again : next_of_list false (refuted (task 0 (Free 0 0 0)) ∷ []) ≡ Some (task 0 (Free 1 0 0))
  pub ticks : next_of_list false (constant ∷ linear ∷ []) ≡ Some (task 0 (With Ticks))
  pub cells : next_of_list false (constant ∷ linear ∷ refuted (task 0 (With Ticks)) ∷ []) ≡ Some (task 0 (With Cells))
  pub end : next_of_list false (constant ∷ linear ∷ solved (task 0 (With Ticks)) ∷ solved (task 0 (With Cells)) ∷ []) ≡ None
  pub work : next_of_list true
      (constant ∷ linear ∷ solved (task 0 (With Ticks)) ∷ solved (task 0 (With Cells)) ∷ []) ≡ Some (task 0 (With Work))
  pub second_group : next (Integer ∷ Integer ∷ []) ((1 ∷ []) ∷ (0 ∷ []) ∷ []) 1 false
      (solved (task 0 (Free 0 1 0)) ∷ solved (task 0 (With Ticks)) ∷ solved (task 0 (With Cells)) ∷ []) ≡ Some (task 1 (Free 0 0 0))
  pub waits : blocked_second (task 1 (With Ticks)) (refuted (task 0 (With Ticks)) ∷ solved (task 0 (With Cells)) ∷ []) ≡ Some 0
  pub tried : blocked_second (task 1 (With Cells)) (refuted (task 0 (With Ticks)) ∷ solved (task 0 (With Cells)) ∷ []) ≡ None
  -- a call in the group itself is in no one's way
  pub alone : blocked_second (task 0 (With Ticks)) [] ≡ None
  pub free : blocked_second (task 1 (Free 0 1 0)) [] ≡ None

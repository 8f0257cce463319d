-- Small certificates, worked out by hand.
use Rattle.std.specs.Prelude.{◌≡◌, ℤ, pos, List, [], ◌∷◌, Option, Some, None}
use Rattle.raml_syntax.specs.Tree.{Type', Integer, ListOf, PairOf, OptionOf}
use Rattle.base_poly.specs.Plain.{Unit', End, Then}
use Rattle.normal_spec.specs.Norm as n
use Rattle.normal_spec.specs.Norm.{NormFun}
use Rattle.cost_free.specs.declared.task.Meter.TheVariants.{Ticks, Cells, Work}
use Rattle.cost_free.specs.Task.{Kind, Free, With}
use Rattle.annot_types.specs.Program.{Program}
use Rattle.annot_types.specs.Certificate.{Entries, Hint, Let, Call, Block, Solved, Certificate}
use Rattle.annot_types.specs.Holds.{Holds}
use Rattle.annot_types.specs.Held.{Held, Bound, line, lines}

-- one function, in a group of its own
abbrev pub program : NormFun → Program
program g = record { funs = g ∷ []; groups = (0 ∷ []) ∷ [] }

-- a solved block of that group
abbrev pub block : Kind → Entries → Entries → List Hint → Block
block kind args result hints = record {
  task = record { group = 0; kind = kind };
  body = Solved (record { args = args; result = result } ∷ []) (hints ∷ []);
}

-- over scales 1
abbrev pub certificate : Option ℤ → List Block → Certificate
certificate work blocks = record { degree = 1; ticks_scale = pos 1; cells_scale = pos 1; work_scale = work; blocks = blocks }

-- fun main (x : int) : int = tick 3 in x
abbrev pub three_ticks : NormFun
three_ticks = record { params = (1, Integer) ∷ []; result = Integer; body = n.Tick 2 3 (n.Var 1 1) }

abbrev pub constant : Block
constant = block (Free 0 0 0) ((0, pos 1) ∷ []) ((0, pos 1) ∷ []) []

abbrev pub ticks_of_three : Certificate
ticks_of_three = certificate None (constant ∷ block (With Ticks) ((0, pos 3) ∷ []) [] [] ∷ block (With Cells) [] [] [] ∷ [])

-- the same with a tick less
abbrev pub two_of_three : Certificate
two_of_three = certificate None (constant ∷ block (With Ticks) ((0, pos 2) ∷ []) [] [] ∷ block (With Cells) [] [] [] ∷ [])

-- of version 2: the tick, the variable and the run are work
abbrev pub work_of_three : Certificate
work_of_three = certificate (Some (pos 1))
    (constant ∷ block (With Ticks) ((0, pos 3) ∷ []) [] [] ∷ block (With Cells) [] [] [] ∷ block (With Work) ((0, pos 3) ∷ []) [] [] ∷ [])

abbrev ints : Type'
ints = ListOf Integer

-- fun append (x : int list, y : int list) : int list = match x with nil -> y | h :: t -> h :: append(t, y)
abbrev pub append : NormFun
append = record {
  params = (1, ints) ∷ (2, ints) ∷ [];
  result = ints;
  body = n.CaseList 3 1 (n.Var 1 2) 3 4 (n.Let 2 5 ints (n.Call 3 0 (4 ∷ 2 ∷ [])) (n.Cons 0 3 5));
}

-- a block of append: the hints are the annotation of the call's result, and the multiples at the call
abbrev pub appending : Kind → Entries → Entries → Entries → Entries → Block
appending kind args result bound multiples = block kind args result (Let (bound ∷ []) ∷ Call multiples ∷ [])

abbrev pub one_left : Block
one_left = appending (Free 0 0 0) ((0, pos 1) ∷ []) ((0, pos 1) ∷ []) ((0, pos 1) ∷ []) []

-- the length of the result is that of both arguments together
abbrev pub length_left : Block
length_left = appending (Free 1 0 1) ((1, pos 1) ∷ (2, pos 1) ∷ []) ((1, pos 1) ∷ []) ((0, pos 1) ∷ (1, pos 1) ∷ []) ((0, pos 1) ∷ [])

abbrev pub no_ticks : Block
no_ticks = appending (With Ticks) [] [] [] []

-- a cell for each element of the first argument, or none
abbrev pub cells : Entries → Block
cells args = appending (With Cells) args [] ((0, pos 1) ∷ []) ((0, pos 1) ∷ [])

abbrev pub append_with : Entries → Certificate
append_with args = certificate None (one_left ∷ length_left ∷ no_ticks ∷ cells args ∷ [])

-- fun beside (x : int list, y : int list) : int list * int list = let z = x in (z, y)
abbrev pub beside : NormFun
beside = record {
  params = (1, ints) ∷ (2, ints) ∷ [];
  result = PairOf ints ints;
  body = n.Let 2 3 ints (n.Var 2 1) (n.Pair 2 3 2);
}

-- The product of both lengths stays. The tuples of y are the empty one, one entry and two: at one entry the variable x has its length.
abbrev pub product_left : Entries → Block
product_left at_one = block (Free 2 0 4) ((4, pos 1) ∷ []) ((4, pos 1) ∷ []) (Let ([] ∷ at_one ∷ [] ∷ []) ∷ [])

-- fun first (x : int list) : int option = match x with nil -> none | h :: t -> some(h)
abbrev pub first : NormFun
first = record { params = (1, ints) ∷ []; result = OptionOf Integer; body = n.CaseList 3 1 (n.Nothing 1) 2 3 (n.Drop 0 3 (n.Just 2 2)) }

abbrev pub one_cell : Block
one_cell = block (With Cells) ((0, pos 1) ∷ []) [] []

pub record Examples : Type 0 where
  pub tick_held : Held (program three_ticks) ticks_of_three
  pub tick_missing : Held (program three_ticks) two_of_three → ⊥
  pub work_held : Held (program three_ticks) work_of_three
  pub append_held : Held (program append) (append_with ((2, pos 1) ∷ []))
  pub cell_missing : Held (program append) (append_with []) → ⊥
  pub append_lines : lines (program append) (append_with ((2, pos 1) ∷ []))
      ≡ line 0 Ticks (Bound 1 []) ∷ line 0 Cells (Bound 1 ((Then Unit' End ∷ End ∷ [], 1) ∷ [])) ∷ []
  pub product_kept : Holds (program beside) 2 [] 1 (product_left ((1, pos 1) ∷ [])) 1
  pub product_lost : Holds (program beside) 2 [] 1 (product_left []) 1 → ⊥
  pub option_cell : Holds (program first) 1 [] 1 one_cell 1

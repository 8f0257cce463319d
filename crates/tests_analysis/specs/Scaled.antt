-- A small certificate over scales other than 1, and the lines of two functions, worked out by hand.
use Rattle.std.specs.Prelude.{◌≡◌, ℕ, pos, neg_ℤ, List, [], ◌∷◌, None}
use Rattle.raml_syntax.specs.Tree.{Integer, OptionOf}
use Rattle.base_poly.specs.Plain.{Unit'}
use Rattle.base_poly.specs.Poly.{Term}
use Rattle.normal_spec.specs.Norm as n
use Rattle.normal_spec.specs.Norm.{NormFun}
use Rattle.cost_free.specs.declared.task.Meter.{Meter}
use Rattle.cost_free.specs.declared.task.Meter.TheVariants.{Ticks, Cells}
use Rattle.cost_free.specs.Task.{Free, With}
use Rattle.annot_types.specs.Program.{Program}
use Rattle.annot_types.specs.Certificate.{Entries, Block, Solved, Certificate}
use Rattle.annot_types.specs.Held.{Held, Bound, line, lines}
use Rattle.annot_types.specs.System.{system}
use Rattle.annot_types.specs.Example.{program, block, certificate, three_ticks, constant}

-- at the position of the zero index
abbrev pub at_zero : ℕ → Entries
at_zero k = (0, pos k) ∷ []

abbrev pub constant_term : ℕ → List Term
constant_term k = (Unit' ∷ [], k) ∷ []

-- fun main (x : int) : int option = tick 3 in some(x)
abbrev pub ticking : NormFun
ticking = record { params = (1, Integer) ∷ []; result = OptionOf Integer; body = n.Tick 2 3 (n.Just 2 1) }

-- what both cost-free blocks leave of the result: its zero index, and its entry
abbrev pub zero_left : Block
zero_left = block (Free 0 0 0) (at_zero 1) (at_zero 1) []

abbrev pub entry_left : Block
entry_left = block (Free 1 0 1) (at_zero 1) ((1, pos 1) ∷ []) []

abbrev pub ticks : ℕ → Block
ticks k = block (With Ticks) (at_zero k) [] []

abbrev pub cells : Block
cells = block (With Cells) (at_zero 3) [] []

-- a tick costs 2, and a cell 3
abbrev pub scaled : ℕ → Certificate
scaled k =
    record {
      degree = 1;
      ticks_scale = pos 2;
      cells_scale = pos 3;
      work_scale = None;
      blocks = zero_left ∷ entry_left ∷ ticks k ∷ cells ∷ [];
    }

-- fun main (x : int) : int = tick 1 in two(x), and fun two (x : int) : int = tick 2 in x: the group of the second comes first
abbrev pub two_functions : Program
two_functions = record {
  funs =
      record { params = (1, Integer) ∷ []; result = Integer; body = n.Tick 2 1 (n.Call 2 1 (1 ∷ [])) }
      ∷ record { params = (1, Integer) ∷ []; result = Integer; body = n.Tick 2 2 (n.Var 1 1) }
      ∷ [];
  groups = (1 ∷ []) ∷ (0 ∷ []) ∷ [];
}

-- what a group's block claims
abbrev pub claims : ℕ → Meter → Entries → Block
claims group meter args =
    record { task = record { group = group; kind = With meter }; body = Solved (record { args = args; result = [] } ∷ []) ([] ∷ []) }

abbrev pub of_two : Certificate
of_two = certificate None (claims 0 Ticks (at_zero 2) ∷ claims 0 Cells [] ∷ claims 1 Ticks (at_zero 3) ∷ claims 1 Cells [] ∷ [])

pub record ScaledExamples : Type 0 where
  pub held : Held (program ticking) (scaled 6)
  pub unpaid : Held (program ticking) (scaled 5) → ⊥
  pub over_scales : lines (program ticking) (scaled 6)
      ≡ line 0 Ticks (Bound 2 (constant_term 6)) ∷ line 0 Cells (Bound 3 (constant_term 3)) ∷ []
  -- the rows of three ticks that cost 2 each
  pub rows : (system (program three_ticks) 1 (constant ∷ []) (record { group = 0; kind = With Ticks }) 2).rows
      ≡ record { terms = (0, pos 1) ∷ []; right = pos 6 } ∷ record { terms = (0, pos 1) ∷ (1, neg_ℤ (pos 1)) ∷ []; right = pos 6 } ∷ []
  -- in the order of the source, whatever that of the groups is
  pub in_order : lines two_functions of_two
      ≡ line 0 Ticks (Bound 1 (constant_term 3)) ∷ line 0 Cells (Bound 1 []) ∷ line 1 Ticks
      (Bound 1 (constant_term 2)) ∷ line 1 Cells (Bound 1 []) ∷ []

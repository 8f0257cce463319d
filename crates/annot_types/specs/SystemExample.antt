-- Small systems, worked out by hand.
use Rattle.std.specs.Prelude.{◌≡◌, ℕ, ℤ, pos, neg_ℤ, List, [], ◌∷◌, None}
use Rattle.raml_syntax.specs.Tree.{Integer}
use Rattle.linear_rows.specs.Terms.{Terms, SparseRow}
use Rattle.linear_rows.specs.Systems.{LinearSystem}
use Rattle.normal_spec.specs.Norm as n
use Rattle.normal_spec.specs.Norm.{NormFun}
use Rattle.cost_free.specs.declared.task.Meter.TheVariants.{Ticks, Cells, Work}
use Rattle.cost_free.specs.Task.{Kind, Free, With}
use Rattle.annot_types.specs.Certificate.{Call, Block, Refuted, Certificate}
use Rattle.annot_types.specs.System.{system, Valid}
use Rattle.annot_types.specs.Example.{program, block, certificate, three_ticks, constant, append, one_left, length_left, no_ticks, cells}

-- the system of a task of the program's only group, at degree 1 and scale 1
abbrev pub system_of : NormFun → List Block → Kind → LinearSystem
system_of g earlier kind = system (program g) 1 earlier (record { group = 0; kind = kind }) 1

abbrev plus : ℕ → ℕ × ℤ
plus u = (u, pos 1)

abbrev minus : ℕ → ℕ × ℤ
minus u = (u, neg_ℤ (pos 1))

abbrev row : Terms → ℕ → SparseRow
row terms right = record { terms = terms; right = pos right }

abbrev weights_of_two : List ℤ
weights_of_two = pos 1 ∷ pos 10 ∷ pos 10 ∷ pos 0 ∷ pos 0 ∷ pos 0 ∷ pos 0 ∷ pos 0 ∷ []

-- fun spin (x : int) : int = tick 1 in spin(x)
abbrev pub spin : NormFun
spin = record { params = (1, Integer) ∷ []; result = Integer; body = n.Tick 2 1 (n.Call 2 0 (1 ∷ [])) }

-- a run never gives a result, so that each may be promised
abbrev pub spin_free : Block
spin_free = block (Free 0 0 0) [] ((0, pos 1) ∷ []) (Call [] ∷ [])

-- the ticks are refuted by the row that asks for one more than there is
abbrev pub spin_ticks : Block
spin_ticks = record { task = record { group = 0; kind = With Ticks }; body = Refuted ((1, pos 1) ∷ []) }

abbrev pub spinning : Certificate
spinning = certificate None (spin_free ∷ spin_ticks ∷ block (With Cells) [] [] (Call [] ∷ []) ∷ [])

pub record SystemExamples : Type 0 where
  pub three_free : system_of three_ticks [] (Free 0 0 0) ≡ record {
    unknowns = 2;
    rows = row (plus 1 ∷ []) 1 ∷ row (plus 0 ∷ minus 1 ∷ []) 0 ∷ [];
    weights = pos 1 ∷ pos 0 ∷ [];
  }
  pub three_ticks : system_of three_ticks (constant ∷ []) (With Ticks) ≡ record {
    unknowns = 2;
    rows = row (plus 0 ∷ []) 3 ∷ row (plus 0 ∷ minus 1 ∷ []) 3 ∷ [];
    weights = pos 1 ∷ pos 0 ∷ [];
  }
  -- the unknowns: five of the signature, two of the bound call, and how often the first block's signature is taken
  pub append_length : system_of append (one_left ∷ []) (Free 1 0 1) ≡ record {
    unknowns = 8;
    rows = row (plus 4 ∷ []) 1
        ∷ row (plus 0 ∷ minus 3 ∷ []) 0
        ∷ row (plus 1 ∷ minus 4 ∷ []) 0
        ∷ row (plus 2 ∷ minus 7 ∷ []) 0
        ∷ row (plus 3 ∷ minus 5 ∷ plus 7 ∷ []) 0
        ∷ row (plus 4 ∷ minus 6 ∷ []) 0
        ∷ row (minus 3 ∷ minus 4 ∷ plus 5 ∷ []) 0
        ∷ row (minus 4 ∷ plus 6 ∷ []) 0
        ∷ [];
    weights = weights_of_two;
  }
  pub append_work : (system_of append (one_left ∷ length_left ∷ no_ticks ∷ cells ((2, pos 1) ∷ []) ∷ []) (With Work)).rows
      ≡ row (plus 0 ∷ []) 3
      ∷ row (plus 0 ∷ []) 4
      ∷ row (plus 0 ∷ minus 3 ∷ []) 4
      ∷ row (plus 1 ∷ minus 4 ∷ []) 0
      ∷ row (plus 0 ∷ plus 2 ∷ []) 5
      ∷ row (plus 0 ∷ plus 2 ∷ []) 8
      ∷ row (plus 2 ∷ minus 7 ∷ []) 7
      ∷ row (minus 8 ∷ []) 0
      ∷ row (minus 8 ∷ []) 0
      ∷ row (plus 3 ∷ minus 5 ∷ plus 7 ∷ []) 0
      ∷ row (plus 4 ∷ minus 6 ∷ plus 8 ∷ []) 0
      ∷ row (minus 3 ∷ minus 4 ∷ plus 5 ∷ []) 0
      ∷ row (minus 4 ∷ plus 6 ∷ []) 0
      ∷ []
  pub spin_rows : (system_of spin (spin_free ∷ []) (With Ticks)).rows ≡ row (plus 0 ∷ []) 1 ∷ row [] 1 ∷ []
  pub spin_valid : Valid (program spin) spinning

-- The lines of places where a number leaves 128 bits.
use Rattle.std.specs.Prelude.{ℕ, List, [], ◌∷◌, ◌++◌, codes, decimal}
use Rattle.raml_syntax.specs.Tree.{Text, Prog}
use Rattle.cost_free.specs.Task.{Task}
use Rattle.cost_free.specs.declared.task.Meter.{Meter}
use Rattle.report_text.specs.Names.{name_at, meter_text}
use Rattle.refusal_text.specs.Tasks.{head, task_text}
use Rattle.refusal_text.specs.declared.task.Analysed.{Analysed}

-- the numbers, with a point before each
abbrev pub steps_text : List ℕ → Text
steps_text [] = []
steps_text (step ∷ steps) = codes "." ++ decimal step ++ steps_text steps

-- the numbers of a path, joined by points
abbrev pub path_text : List ℕ → Text
path_text [] = []
path_text (step ∷ steps) = decimal step ++ steps_text steps

-- the condition of this index at the path
abbrev pub condition_text : List ℕ → ℕ → Text
condition_text path index = path_text path ++ codes " index " ++ decimal index

-- in the check of a certificate: in a condition of a block
abbrev pub check_line : Analysed → ℕ → List ℕ → ℕ → Text
check_line whose block path index =
    head whose ++ codes "overflow: check block " ++ decimal block ++ codes " at " ++ condition_text path index ++ codes "\n"

-- at the data, in the bound of a meter
abbrev pub point_line : Meter → Text
point_line meter = codes "raml: overflow: point " ++ meter_text meter ++ codes "\n"

-- in the power form of a bound of the function at this place
abbrev pub powers_line : Prog → ℕ → Meter → Text
powers_line P f meter = codes "raml: overflow: powers " ++ name_at P f ++ codes " " ++ meter_text meter ++ codes "\n"

-- Of a program with these groups.
module _ (whose : Analysed) (P : Prog) (groups : List (List ℕ)) where
  -- what is done for the task, and the place there: a word and a number
  abbrev pub place_line : Text → Task → Text → ℕ → Text
  place_line deed task place number =
      head whose ++ codes "overflow: " ++ deed ++ codes " " ++ task_text P groups task ++ codes " "
      ++ place ++ codes " " ++ decimal number ++ codes "\n"

  -- in solving the system, after so many pivots, in this row and column of the tableau
  abbrev pub solve_line : Task → ℕ → ℕ → ℕ → Text
  solve_line task pivots row column =
      head whose ++ codes "overflow: solve " ++ task_text P groups task ++ codes " pivots "
      ++ decimal pivots ++ codes " row " ++ decimal row ++ codes " column "
      ++ decimal column ++ codes "\n"

  -- in this row of the system
  abbrev pub row_line : Task → ℕ → Text
  row_line task row = place_line (codes "row") task (codes "row") row

  -- in this entry of the answer, taken to whole numbers
  abbrev pub scale_line : Task → ℕ → Text
  scale_line task entry = place_line (codes "scale") task (codes "entry") entry

  -- in this earlier block, multiplied
  abbrev pub rescale_line : Task → ℕ → Text
  rescale_line task block = place_line (codes "rescale") task (codes "block") block

  -- in the check of the vector that refutes the system, at this column
  abbrev pub refute_line : Task → ℕ → Text
  refute_line task column = place_line (codes "refute") task (codes "column") column

  -- in the check that the solution is least, at this column
  abbrev pub least_line : Task → ℕ → Text
  least_line task column = place_line (codes "least") task (codes "column") column

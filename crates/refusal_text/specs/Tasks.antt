-- The texts of tasks, and the lines of those that exceed a limit.
use Rattle.std.specs.Prelude.{ℕ, List, [], ◌∷◌, ◌++◌, codes, decimal}
use Rattle.raml_syntax.specs.Tree.{Text, Prog}
use Rattle.cost_free.specs.Task.{Kind, Free, With, Task}
use Rattle.cost_free.specs.Blocked.{row}
use Rattle.constraint_gen.specs.declared.fault.What.{What}
use Rattle.constraint_gen.specs.declared.fault.What.TheVariants.{Indices, Unknowns, Rows}
use Rattle.report_text.specs.Names.{name_at, meter_text}
use Rattle.refusal_text.specs.declared.task.Analysed.{Analysed}
use Rattle.refusal_text.specs.declared.task.Analysed.TheVariants.{Program, Other}

-- the name of the first of these functions; no group is empty
abbrev pub first_name : Prog → List ℕ → Text
first_name P [] = []
first_name P (f ∷ fs) = name_at P f

-- NAME free budget D target T
abbrev pub free_text : Text → ℕ → ℕ → Text
free_text name budget target = name ++ codes " free budget " ++ decimal budget ++ codes " target " ++ decimal target

-- without cost with the name of the target's function, and otherwise NAME METER with this name
abbrev pub kind_text : Prog → Text → Kind → Text
kind_text P name (Free budget fun target) = free_text (name_at P fun) budget target
kind_text P name (With meter) = name ++ codes " " ++ meter_text meter

-- With cost, the name is that of the first function of the task's group.
abbrev pub task_text : Prog → List (List ℕ) → Task → Text
task_text P groups task = kind_text P (first_name P (row groups task.group)) task.kind

-- of what there are too many
abbrev pub what_text : What → Text
what_text Indices = codes "indices"
what_text Unknowns = codes "unknowns"
what_text Rows = codes "rows"

-- how a line begins that tells of the analysis of a program, and of that of one to compare with
abbrev pub head : Analysed → Text
head Program = codes "raml: "
head Other = codes "raml: other: "

abbrev pub too_large_line : Analysed → Prog → List (List ℕ) → Task → What → Text
too_large_line whose P groups task what =
    head whose ++ codes "too large: " ++ task_text P groups task ++ codes ": " ++ what_text what ++ codes "\n"

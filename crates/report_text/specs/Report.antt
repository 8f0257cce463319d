-- Reports of types and of runs.
use Rattle.std.specs.Prelude.{ℕ, nat_le, cond, length, List, [], ◌∷◌, ◌++◌, map, codes, decimal}
use Rattle.raml_syntax.specs.Tree.{Text, Type', Parameter, Function, Prog}
use Rattle.raml_syntax.specs.Types.{types_of}
use Rattle.raml_syntax.specs.Read.{parameter_of}
use Rattle.raml_syntax.specs.Value.{Value}
use Rattle.raml_syntax.specs.declared.program.Param.{Param}
use Rattle.simple_types.specs.Text.{type_text}
use Rattle.value_text.specs.Printing.{printed, most_text}
use Rattle.stack_compile.specs.Machine.{State}

-- the types of parameters
abbrev pub types_in : List Param → List Type'
types_in params = map (λ (p : Parameter). p.type) (map parameter_of params)

-- the types, with commas between
abbrev pub types_behind : List Type' → Text
types_behind [] = []
types_behind (A ∷ As) = codes ", " ++ type_text A ++ types_behind As

abbrev pub types_text : List Type' → Text
types_text [] = []
types_text (A ∷ As) = type_text A ++ types_behind As

-- the name, the parameters' types in parentheses, and the type of the result
abbrev pub type_line : Function → Text
type_line g = g.name ++ codes " (" ++ types_text (types_of g) ++ codes ") : " ++ type_text g.result ++ codes "\n"

-- the lines of the functions in order
abbrev pub type_lines : Prog → Text
type_lines [] = []
type_lines (g ∷ P) = type_line g ++ type_lines P

-- METER N
abbrev pub meter_line : Text → ℕ → Text
meter_line meter count = meter ++ codes " " ++ decimal count ++ codes "\n"

-- the three meters of a machine
abbrev pub meter_lines : State → Text
meter_lines s =
    meter_line (codes "ticks") s.ticks ++ meter_line (codes "cells") s.cells ++ meter_line (codes "instructions") s.made

-- the value of this type, where its text is not too long
abbrev pub value_line : Value → Type' → Text
value_line v A =
    cond (nat_le (length (printed v A)) most_text) (codes "value " ++ printed v A ++ codes "\n")
    (codes "value longer than 16777216 bytes\n")

-- the report of a machine that has halted with a value, of one that was stopped, and of one whose cells are all taken
abbrev pub value_lines : Value → Type' → State → Text
value_lines v A s = value_line v A ++ meter_lines s

abbrev pub stopped_lines : State → Text
stopped_lines s = codes "stopped\n" ++ meter_lines s

abbrev pub full_lines : State → Text
full_lines s = codes "heap full\n" ++ meter_lines s

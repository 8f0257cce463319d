-- The text of code.
use Rattle.std.specs.Prelude.{ℕ, List, [], ◌∷◌, ◌++◌, ◌+◌, true, false, Option, Some, None, codes, decimal, slice_get}
use Rattle.std.specs.Fmt.{signed_decimal}
use Rattle.raml_syntax.specs.Tree.{Text, Function, Prog}
use Rattle.raml_syntax.specs.declared.tree.CompareOp.{CompareOp}
use Rattle.raml_syntax.specs.declared.tree.CompareOp.TheVariants.{Equal, Less, AtMost}
use Rattle.stack_compile.specs.Code.{body_of}
use Rattle.stack_compile.specs.declared.instr.Instr.{Instr}
use Rattle.stack_compile.specs.declared.instr.Instr.TheVariants as i

abbrev pub word_of : Instr → Text
word_of (i.Int n) = codes "Int"
word_of (i.Bool b) = codes "Bool"
word_of i.Empty = codes "Empty"
word_of (i.Load k) = codes "Load"
word_of i.Bind = codes "Bind"
word_of (i.Unbind k) = codes "Unbind"
word_of i.Add = codes "Add"
word_of i.Sub = codes "Sub"
word_of i.Mul = codes "Mul"
word_of i.Div = codes "Div"
word_of i.Mod = codes "Mod"
word_of (i.Compare o) = codes "Compare"
word_of i.Not = codes "Not"
word_of i.Pair = codes "Pair"
word_of i.Cons = codes "Cons"
word_of i.Node = codes "Node"
word_of i.Some = codes "Some"
word_of i.Unpair = codes "Unpair"
word_of (i.CaseList k) = codes "CaseList"
word_of (i.CaseTree k) = codes "CaseTree"
word_of (i.CaseOption k) = codes "CaseOption"
word_of (i.Branch k) = codes "Branch"
word_of (i.Jump k) = codes "Jump"
word_of (i.Call f) = codes "Call"
word_of i.Return = codes "Return"
word_of (i.Tick k) = codes "Tick"

abbrev pub sign_of : CompareOp → Text
sign_of Equal = codes "="
sign_of Less = codes "<"
sign_of AtMost = codes "<="

-- The name of the function at a place. Code calls no function that is not there.
abbrev pub name_in : Option Function → Text
name_in None = []
name_in (Some g) = g.name

-- what stands behind the word: a space, and a number, a truth, a comparison or the name of a function
abbrev pub operand_of : Prog → Instr → Text
operand_of P (i.Int n) = codes " " ++ signed_decimal n
operand_of P (i.Bool true) = codes " true"
operand_of P (i.Bool false) = codes " false"
operand_of P (i.Load k) = codes " " ++ decimal k
operand_of P (i.Unbind k) = codes " " ++ decimal k
operand_of P (i.Compare o) = codes " " ++ sign_of o
operand_of P (i.CaseList k) = codes " " ++ decimal k
operand_of P (i.CaseTree k) = codes " " ++ decimal k
operand_of P (i.CaseOption k) = codes " " ++ decimal k
operand_of P (i.Branch k) = codes " " ++ decimal k
operand_of P (i.Jump k) = codes " " ++ decimal k
operand_of P (i.Call f) = codes " " ++ name_in (slice_get P f.0)
operand_of P (i.Tick k) = codes " " ++ decimal k
operand_of P _ = []

-- a line: the place, a space and the instruction
abbrev pub line_text : Prog → ℕ → Instr → Text
line_text P place i = decimal place ++ (codes " " ++ (word_of i ++ (operand_of P i ++ codes "\n")))

-- the lines of instructions that begin at a place
abbrev pub lines_text : Prog → ℕ → List Instr → Text
lines_text P place [] = []
lines_text P place (i ∷ is) = line_text P place i ++ lines_text P (place + 1) is

-- a function's name, and its instructions
abbrev pub function_text : Prog → Text → List Instr → Text
function_text P name code = codes "fun " ++ (name ++ (codes "\n" ++ lines_text P 0 code))

abbrev pub functions_text : Prog → List Function → Text
functions_text P [] = []
functions_text P (g ∷ gs) = function_text P g.name (body_of P g).code ++ functions_text P gs

-- the text of a program's code
abbrev pub code_text : Prog → Text
code_text P = functions_text P P

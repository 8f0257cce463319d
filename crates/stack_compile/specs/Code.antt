-- The code of a program.
use Rattle.std.specs.Prelude.{ℕ, List, [], ◌∷◌, ◌++◌, length, cond, ◌+◌, map, unwrap_or}
use Rattle.std.specs.Str.{bytes_eq}
use Rattle.raml_syntax.specs.Tree as t
use Rattle.raml_syntax.specs.Tree.{Text, Function, Prog}
use Rattle.raml_syntax.specs.declared.tree.ArithOp.{ArithOp}
use Rattle.raml_syntax.specs.Eval.{names_of}
use Rattle.raml_syntax.specs.Place.{place_of}
use Rattle.raml_syntax.specs.declared.tree.ArithOp.TheVariants as op
use Rattle.raml_syntax.specs.declared.program.FunId.{FunId}
use Rattle.stack_compile.specs.declared.instr.Instr.{Instr}
use Rattle.stack_compile.specs.declared.instr.Instr.TheVariants as instr
use Rattle.stack_compile.specs.declared.instr.Instr.TheVariants.{Int, Bool, Empty, Load, Bind, Unbind, Add, Sub, Mul, Div, Mod, Compare}
use Rattle.stack_compile.specs.declared.instr.Instr.TheVariants.{Not, Pair, Cons, Node, Unpair, CaseList, CaseTree, CaseOption, Branch}
use Rattle.stack_compile.specs.declared.instr.Instr.TheVariants.{Jump, Call, Return, Tick}

-- instructions, by the place at which they begin, since jumps name places
abbrev pub Code : Type 0
Code = ℕ → List Instr

abbrev pub one : Instr → Code
one i at = i ∷ []

abbrev pub seq : Code → Code → Code
seq a b at = a at ++ b (at + length (a at))

-- a subject, the instruction that leaves for the other part, one part with a jump over the other, and the other
abbrev pub fork : Code → (ℕ → Instr) → Code → Code → Code
fork subject leave part other at =
    let begin = at + length (subject at) + 1 in
    let over = begin + length (part begin) + 1 in
    subject at ++ leave over ∷ (part begin ++ Jump (over + length (other over)) ∷ other over)

-- the number of the newest of the names that is this one; they stand oldest first, as the locals do
abbrev pub newest : Text → List Text → ℕ → ℕ → ℕ
newest x [] i found = found
newest x (y ∷ ys) i found = newest x ys (i + 1) (cond (bytes_eq x y) i found)

abbrev pub local_of : Text → List Text → ℕ
local_of x locals = newest x locals 0 0

-- the function of this name
abbrev pub fun_of : Text → Prog → FunId
fun_of f P = record { 0 = unwrap_or (place_of f P) 0 }

abbrev pub arith_code : ArithOp → Instr
arith_code op.Add = Add
arith_code op.Sub = Sub
arith_code op.Mul = Mul
arith_code op.Div = Div
arith_code op.Mod = Mod

-- the names of the locals once these are bound behind them
abbrev pub bind_one : List Text → t.Bound → List Text
bind_one locals x = locals ++ x.name ∷ []

abbrev mutual
  -- the code of an expression, where these are the names of the locals
  pub code_of : Prog → List Text → t.Term → Code
  code_of P xs (t.Number p n) = one (Int n)
  code_of P xs (t.Truth p b) = one (Bool b)
  code_of P xs (t.Nil p) = one Empty
  code_of P xs (t.Leaf p) = one Empty
  code_of P xs (t.Nothing p) = one Empty
  code_of P xs (t.Var p x) = one (Load (local_of x xs))
  code_of P xs (t.Arith p o a b) = seq (code_of P xs a) (seq (code_of P xs b) (one (arith_code o)))
  code_of P xs (t.Compare p o a b) = seq (code_of P xs a) (seq (code_of P xs b) (one (Compare o)))
  code_of P xs (t.Not p a) = seq (code_of P xs a) (one Not)
  code_of P xs (t.Pair p a b) = seq (code_of P xs a) (seq (code_of P xs b) (one Pair))
  code_of P xs (t.Cons p a b) = seq (code_of P xs a) (seq (code_of P xs b) (one Cons))
  code_of P xs (t.Node p a b c) = seq (code_of P xs a) (seq (code_of P xs b) (seq (code_of P xs c) (one Node)))
  code_of P xs (t.Just p a) = seq (code_of P xs a) (one instr.Some)
  code_of P xs (t.Call p f args) = seq (codes_of P xs args) (one (Call (fun_of f P)))
  code_of P xs (t.Let p x a b) = seq (code_of P xs a) (seq (one Bind) (seq (code_of P (bind_one xs x) b) (one (Unbind 1))))
  code_of P xs (t.LetPair p x y a b) =
      seq (code_of P xs a) (seq (one Unpair) (seq (code_of P (bind_one (bind_one xs x) y) b) (one (Unbind 2))))
  code_of P xs (t.If p c a b) = fork (code_of P xs c) Branch (code_of P xs a) (code_of P xs b)
  code_of P xs (t.MatchList p c a x y b) =
      fork (code_of P xs c) CaseList (seq (code_of P (bind_one (bind_one xs x) y) b) (one (Unbind 2))) (code_of P xs a)
  code_of P xs (t.MatchTree p c a x y z b) =
      fork (code_of P xs c) CaseTree (seq (code_of P (bind_one (bind_one (bind_one xs x) y) z) b) (one (Unbind 3))) (code_of P xs a)
  code_of P xs (t.MatchOption p c a x b) =
      fork (code_of P xs c) CaseOption (seq (code_of P (bind_one xs x) b) (one (Unbind 1))) (code_of P xs a)
  code_of P xs (t.Tick p k a) = seq (one (Tick k)) (code_of P xs a)
  code_of P xs (t.Typed p a A) = code_of P xs a

  -- the codes of arguments in order
  pub codes_of : Prog → List Text → t.Terms → Code
  codes_of P xs t.None at = []
  codes_of P xs (t.More a rest) at = seq (code_of P xs a) (codes_of P xs rest) at

-- how many parameters a function has, and its instructions
pub record Body : Type 0 where
  pub arity : ℕ
  pub code : List Instr

-- a function is the code of its body and `Return`
abbrev pub body_of : Prog → Function → Body
body_of P g = record { arity = length g.params; code = seq (code_of P (names_of g) g.body) (one Return) 0 }

abbrev pub bodies_of : Prog → List Body
bodies_of P = map (body_of P) P

-- Evaluation with a depth limit.
--
-- It is total: where an operand is not of the form that it should be, a default stands in its place. No typed program meets one
-- (`NoDefault`).
use Rattle.std.specs.Prelude.{ℕ, zero, suc, ℤ, pos, ◌+ℤ◌, ◌-ℤ◌, ◌*ℤ◌, int_div, int_rem, int_lt, int_le, List, [], ◌∷◌, map, Bool, true}
use Rattle.std.specs.Prelude.{false, cond, ◌&&◌, ◌+◌, Option, Some, None}
use Rattle.std.specs.Int.{int_wrap, w64}
use Rattle.std.specs.Str.{bytes_eq}
use Rattle.raml_syntax.specs.declared.tree.ArithOp.TheVariants.{Add, Sub, Mul, Div, Mod}
use Rattle.raml_syntax.specs.declared.tree.CompareOp.TheVariants.{Equal, Less, AtMost}
use Rattle.raml_syntax.specs.Tree as t
use Rattle.raml_syntax.specs.Tree.{Text, ArithOp, CompareOp, Parameter, Function, Prog}
use Rattle.raml_syntax.specs.Value.{Value, Number, Truth, Both, Empty, Cons, Node, Just}

-- what an evaluation gives: a value, or none where it was cut, and what it cost so far
pub record Run (A : Type 0) : Type 0 where
  pub out : Option A
  pub ticks : ℕ
  pub cells : ℕ
  pub work : ℕ

abbrev pub done : {A : Type 0} → A → Run A
done v = record { out = Some v; ticks = 0; cells = 0; work = 0 }

abbrev pub cut : {A : Type 0} → Run A
cut = record { out = None; ticks = 0; cells = 0; work = 0 }

-- these ticks, cells and work before the run
abbrev pub costs : {A : Type 0} → ℕ → ℕ → ℕ → Run A → Run A
costs ticks cells work r = record { out = r.out; ticks = ticks + r.ticks; cells = cells + r.cells; work = work + r.work }

-- what follows from a value; after a cut nothing runs
abbrev pub goes_on : {A B : Type 0} → Option A → (A → Run B) → Run B
goes_on None next = cut
goes_on (Some v) next = next v

-- one part and then what follows; the costs of the part stand in any case
abbrev pub and_then : {A B : Type 0} → Run A → (A → Run B) → Run B
and_then r next = costs r.ticks r.cells r.work (goes_on r.out next)

-- a node of the source is one unit of work
abbrev pub node : {A : Type 0} → Run A → Run A
node r = costs 0 0 1 r

-- a value that takes a cell
abbrev pub new_cell : Value → Run Value
new_cell v = costs 0 1 0 (done v)

-- variables and their values, the newest first
abbrev pub Env : Type 0
Env = List (Text × Value)

-- the value of the newest variable of this name; by default 0
abbrev pub look : Text → Env → Value
look x [] = Number (pos 0)
look x (b ∷ env) = cond (bytes_eq x b.0) b.1 (look x env)

-- the names get the values in order, so that the last is the newest
abbrev pub bind_all : Env → List Text → List Value → Env
bind_all env (x ∷ xs) (v ∷ vs) = bind_all ((x, v) ∷ env) xs vs
bind_all env _ _ = env

-- the number; by default 0
abbrev pub number_of : Value → ℤ
number_of (Number n) = n
number_of _ = pos 0

-- toward zero; 0 where the divisor is 0
abbrev pub quotient : ℤ → ℤ → ℤ
quotient x (pos zero) = pos 0
quotient x y = int_div x y

-- with the sign of the left operand, which it is where the divisor is 0
abbrev pub remainder : ℤ → ℤ → ℤ
remainder x (pos zero) = x
remainder x y = int_rem x y

-- the result as a whole number
abbrev pub arith_result : ArithOp → ℤ → ℤ → ℤ
arith_result Add x y = x +ℤ y
arith_result Sub x y = x -ℤ y
arith_result Mul x y = x *ℤ y
arith_result Div x y = quotient x y
arith_result Mod x y = remainder x y

-- the result is brought into 64 bits
abbrev pub arith : ArithOp → Value → Value → Value
arith op v w = Number (int_wrap w64 (arith_result op (number_of v) (number_of w)))

abbrev pub compare_result : CompareOp → ℤ → ℤ → Bool
compare_result Equal x y = int_le x y && int_le y x
compare_result Less x y = int_lt x y
compare_result AtMost x y = int_le x y

abbrev pub compare : CompareOp → Value → Value → Value
compare op v w = Truth (compare_result op (number_of v) (number_of w))

-- the first of two branches where the condition is true, by default the second
abbrev pub branch : {A : Type 0} → Value → A → A → A
branch (Truth true) a b = a
branch _ a b = b

-- by default the truth is false
abbrev pub negation : Value → Value
negation v = branch v (Truth false) (Truth true)

-- the parts of a pair; by default there is nothing more
abbrev pub pair_case : {A : Type 0} → Value → A → (Value → Value → A) → A
pair_case (Both v w) a f = f v w
pair_case _ a f = a

-- by default the list, the tree or the option is empty
abbrev pub list_case : {A : Type 0} → Value → A → (Value → Value → A) → A
list_case (Cons h r) a f = f h r
list_case _ a f = a

abbrev pub tree_case : {A : Type 0} → Value → A → (Value → Value → Value → A) → A
tree_case (Node e l r) a f = f e l r
tree_case _ a f = a

abbrev pub option_case : {A : Type 0} → Value → A → (Value → A) → A
option_case (Just v) a f = f v
option_case _ a f = a

-- what a call of a function with some arguments gives
abbrev pub Calls : Type 0
Calls = Text → List Value → Run Value

abbrev mutual
  -- the evaluation of an expression, over what calls give
  pub walk : Calls → t.Term → Env → Run Value
  walk call (t.Number p n) env = node (done (Number n))
  walk call (t.Truth p b) env = node (done (Truth b))
  walk call (t.Nil p) env = node (done Empty)
  walk call (t.Leaf p) env = node (done Empty)
  walk call (t.Nothing p) env = node (done Empty)
  walk call (t.Var p x) env = node (done (look x env))
  walk call (t.Arith p op a b) env = node (and_then (walk call a env) (λ v. and_then (walk call b env) (λ w. done (arith op v w))))
  walk call (t.Compare p op a b) env = node (and_then (walk call a env) (λ v. and_then (walk call b env) (λ w. done (compare op v w))))
  walk call (t.Not p a) env = node (and_then (walk call a env) (λ v. done (negation v)))
  walk call (t.Pair p a b) env = node (and_then (walk call a env) (λ v. and_then (walk call b env) (λ w. new_cell (Both v w))))
  walk call (t.Cons p a b) env = node (and_then (walk call a env) (λ v. and_then (walk call b env) (λ w. new_cell (Cons v w))))
  walk call (t.Node p a b c) env =
      node (and_then (walk call a env) (λ u. and_then (walk call b env) (λ v. and_then (walk call c env) (λ w. new_cell (Node u v w)))))
  walk call (t.Just p a) env = node (and_then (walk call a env) (λ v. new_cell (Just v)))
  walk call (t.Call p f args) env = node (and_then (walk_all call args env) (call f))
  walk call (t.Let p x a b) env = node (and_then (walk call a env) (λ v. walk call b ((x.name, v) ∷ env)))
  walk call (t.LetPair p x y a b) env =
      node (and_then (walk call a env) (λ v. pair_case v cut (λ s r. walk call b ((y.name, r) ∷ (x.name, s) ∷ env))))
  walk call (t.If p c a b) env = node (and_then (walk call c env) (λ v. branch v (walk call a env) (walk call b env)))
  walk call (t.MatchList p c a x y b) env =
      node (and_then (walk call c env) (λ v. list_case v (walk call a env) (λ h r. walk call b ((y.name, r) ∷ (x.name, h) ∷ env))))
  walk call (t.MatchTree p c a x y z b) env =
      node (and_then (walk call c env)
      (λ v. tree_case v (walk call a env) (λ e l r. walk call b ((z.name, r) ∷ (y.name, l) ∷ (x.name, e) ∷ env))))
  walk call (t.MatchOption p c a x b) env =
      node (and_then (walk call c env) (λ v. option_case v (walk call a env) (λ w. walk call b ((x.name, w) ∷ env))))
  walk call (t.Tick p k a) env = node (costs k 0 0 (walk call a env))
  walk call (t.Typed p a A) env = walk call a env

  -- the parts from left to right
  pub walk_all : Calls → t.Terms → Env → Run (List Value)
  walk_all call t.None env = done []
  walk_all call (t.More a rest) env = and_then (walk call a env) (λ v. and_then (walk_all call rest env) (λ vs. done (v ∷ vs)))

-- the first function of this name
abbrev pub find : Text → Prog → Option Function
find f [] = None
find f (g ∷ gs) = cond (bytes_eq f g.name) (Some g) (find f gs)

-- the names of a function's parameters
abbrev pub names_of : Function → List Text
names_of g = map (λ (p : Parameter). p.name) g.params

-- a body's evaluation; by default there is nothing to run
abbrev pub enter : (t.Term → Env → Run Value) → Option Function → List Value → Run Value
enter run None vs = cut
enter run (Some g) vs = run g.body (bind_all [] (names_of g) vs)

-- a call is cut at limit 0; at a greater limit the body runs at one less
abbrev pub calls_at : Prog → ℕ → Calls
calls_at P zero f vs = cut
calls_at P (suc n) f vs = enter (walk (calls_at P n)) (find f P) vs

abbrev pub eval : Prog → ℕ → Env → t.Term → Run Value
eval P n env e = walk (calls_at P n) e env

-- the run of a function on arguments at a limit
abbrev pub run_of : Prog → Function → List Value → ℕ → Run Value
run_of P g vs n = node (eval P n (bind_all [] (names_of g) vs) g.body)

-- The codes of small programs and how the machine runs them, worked out by hand.
use Rattle.std.specs.Prelude.{◌≡◌, ℕ, pos, negsuc, List, [], ◌∷◌, false, codes}
use Rattle.raml_syntax.specs.Tree as t
use Rattle.raml_syntax.specs.Tree.{Text, Type', Integer, Boolean, PairOf, ListOf, TreeOf, OptionOf, Bound, Parameter, Function, Prog}
use Rattle.raml_syntax.specs.Value as v
use Rattle.raml_syntax.specs.Value.{Value}
use Rattle.raml_syntax.specs.declared.tree.ArithOp.{ArithOp}
use Rattle.raml_syntax.specs.declared.tree.ArithOp.TheVariants.{Add, Sub, Div, Mod}
use Rattle.raml_syntax.specs.declared.tree.CompareOp.TheVariants.{Less, AtMost}
use Rattle.stack_compile.specs.Code.{body_of}
use Rattle.stack_compile.specs.Machine.{Halted, State}
use Rattle.stack_compile.specs.Laws.{at, IsGoing}
use Rattle.stack_compile.specs.declared.instr.Instr.TheVariants as i

-- a machine that has halted, with its ticks, cells and instructions
abbrev halted : Value → ℕ → ℕ → ℕ → State
halted w ticks cells made = record { at = Halted w; ticks = ticks; cells = cells; made = made }

-- a machine that goes on, with these
abbrev Going : State → ℕ → ℕ → ℕ → Type 0
Going s ticks cells made = IsGoing s.at × (s.ticks ≡ ticks) × (s.cells ≡ cells) × (s.made ≡ made)

abbrev number : ℕ → Value
number n = v.Number (pos n)

-- the number below 0 by n
abbrev below : ℕ → Value
below n = v.Number (negsuc n)

-- 64 bits, signed
abbrev greatest : Value
greatest = number 9223372036854775807

abbrev least : Value
least = below 9223372036854775807

abbrev numbers : List ℕ → Value
numbers [] = v.Empty
numbers (n ∷ ns) = v.Cons (number n) (numbers ns)

-- names
abbrev x : Text
x = codes "x"

abbrev y : Text
y = codes "y"

abbrev head : Text
head = codes "h"

abbrev tail : Text
tail = codes "t"

abbrev second : Text
second = codes "s"

abbrev rest : Text
rest = codes "r"

-- places do not matter here
abbrev num : ℕ → t.Term
num n = t.Number 0 (pos n)

abbrev var : Text → t.Term
var z = t.Var 0 z

abbrev bound : Text → Bound
bound z = record { at = 0; name = z }

abbrev call : Text → t.Term → t.Term
call f a = t.Call 0 f (t.More a t.None)

abbrev call_with : Text → t.Term → t.Term → t.Term
call_with f a b = t.Call 0 f (t.More a (t.More b t.None))

-- match x with nil -> a | h :: t -> b
abbrev match_list : t.Term → t.Term → Text → Text → t.Term → t.Term
match_list subject a h r b = t.MatchList 0 subject a (bound h) (bound r) b

abbrev parameter : Text → Type' → Parameter
parameter z A = record { at = 0; name = z; type = A }

abbrev function : Text → List Parameter → Type' → t.Term → Function
function f params T body = record { at = 0; name = f; params = params; result = T; body = body }

abbrev of_one : Text → t.Term → Function
of_one f body = function f (parameter x Integer ∷ []) Integer body

-- fun main (x : int) : int = tick 3 in x
abbrev three_ticks : Prog
three_ticks = of_one (codes "main") (t.Tick 0 3 (var x)) ∷ []

-- fun main (x : int) : int = x + 1
abbrev successor : Prog
successor = of_one (codes "main") (t.Arith 0 Add (var x) (num 1)) ∷ []

-- fun main (x : int, y : int) : int = x op y
abbrev operator : ArithOp → Prog
operator op = function (codes "main") (parameter x Integer ∷ parameter y Integer ∷ []) Integer (t.Arith 0 op (var x) (var y)) ∷ []

-- fun main (x : int, y : int) : bool = not (x <= y)
abbrev greater : Prog
greater =
    function (codes "main") (parameter x Integer ∷ parameter y Integer ∷ []) Boolean (t.Not 0 (t.Compare 0 AtMost (var x) (var y))) ∷ []

-- fun loop (x : int) : int = loop(x)
abbrev loop : Prog
loop = of_one (codes "loop") (call (codes "loop") (var x)) ∷ []

-- fun spin (x : int) : int = tick 1 in spin(x)
abbrev spin : Prog
spin = of_one (codes "spin") (t.Tick 0 1 (call (codes "spin") (var x))) ∷ []

abbrev int_list : Type'
int_list = ListOf Integer

-- fun append (x : int list, y : int list) : int list = match x with nil -> y | h :: t -> h :: append(t, y)
abbrev append : Function
append =
    function (codes "append") (parameter x int_list ∷ parameter y int_list ∷ []) int_list
    (match_list (var x) (var y) head tail (t.Cons 0 (var head) (call_with (codes "append") (var tail) (var y))))

-- fun flat (x : int list list) : int list = match x with nil -> nil | h :: t -> append(h, flat(t))
abbrev flat : Function
flat =
    function (codes "flat") (parameter x (ListOf int_list) ∷ []) int_list
    (match_list (var x) (t.Nil 0) head tail (call_with (codes "append") (var head) (call (codes "flat") (var tail))))

-- fun flatten (x : int tree) : int list = match x with leaf -> nil | node(h, t, r) -> append(flatten(t), h :: flatten(r))
abbrev flatten : Function
flatten =
    function (codes "flatten") (parameter x (TreeOf Integer) ∷ []) int_list
    (t.MatchTree 0 (var x) (t.Nil 0) (bound head) (bound tail) (bound rest)
    (call_with (codes "append") (call (codes "flatten") (var tail)) (t.Cons 0 (var head) (call (codes "flatten") (var rest)))))

-- fun part (x : int, y : int list) : int list * int list = match y with nil -> (nil, nil) | h :: t ->
-- let (s, r) = part(x, t) in tick 1 in if h < x then (h :: s, r) else (s, h :: r)
abbrev part : Function
part =
    function (codes "part") (parameter x Integer ∷ parameter y int_list ∷ []) (PairOf int_list int_list)
    (match_list (var y) (t.Pair 0 (t.Nil 0) (t.Nil 0)) head tail
    (t.LetPair 0 (bound second) (bound rest) (call_with (codes "part") (var x) (var tail))
    (t.Tick 0 1
    (t.If 0 (t.Compare 0 Less (var head) (var x)) (t.Pair 0 (t.Cons 0 (var head) (var second)) (var rest))
    (t.Pair 0 (var second) (t.Cons 0 (var head) (var rest)))))))

-- fun qsort (x : int list) : int list = match x with nil -> nil | h :: t -> let (s, r) = part(h, t) in append(qsort(s), h :: qsort(r))
abbrev qsort : Function
qsort =
    function (codes "qsort") (parameter x int_list ∷ []) int_list
    (match_list (var x) (t.Nil 0) head tail
    (t.LetPair 0 (bound second) (bound rest) (call_with (codes "part") (var head) (var tail))
    (call_with (codes "append") (call (codes "qsort") (var second)) (t.Cons 0 (var head) (call (codes "qsort") (var rest))))))

-- fun half (x : int list) : int = match x with nil -> 0 | h :: t -> match t with nil -> 0 | s :: r -> tick 1 in half(r)
abbrev half : Prog
half =
    function (codes "half") (parameter x int_list ∷ []) Integer
    (match_list (var x) (num 0) head tail (match_list (var tail) (num 0) second rest (t.Tick 0 1 (call (codes "half") (var rest))))) ∷ []

-- fun first (x : int list) : int option = match x with nil -> none | h :: t -> some(h)
abbrev first : Function
first =
    function (codes "first") (parameter x int_list ∷ []) (OptionOf Integer)
    (match_list (var x) (t.Nothing 0) head tail (t.Just 0 (var head)))

-- fun unwrap (x : int list option) : int list = match x with none -> nil | some(h) -> append(h, nil)
abbrev unwrap : Function
unwrap =
    function (codes "unwrap") (parameter x (OptionOf int_list) ∷ []) int_list
    (t.MatchOption 0 (var x) (t.Nil 0) (bound head) (call_with (codes "append") (var head) (t.Nil 0)))

-- node(2, node(1, leaf, leaf), node(3, leaf, leaf))
abbrev small_tree : Value
small_tree = v.Node (number 2) (v.Node (number 1) v.Empty v.Empty) (v.Node (number 3) v.Empty v.Empty)

pub record Examples : Type 0 where
  pub code_of_append : body_of (append ∷ []) append
      ≡ record {
        arity = 2;
        code = i.Load 0
            ∷ i.CaseList 9
            ∷ i.Load 2
            ∷ i.Load 3
            ∷ i.Load 1
            ∷ i.Call (record { 0 = 0 })
            ∷ i.Cons
            ∷ i.Unbind 2
            ∷ i.Jump 10
            ∷ i.Load 1
            ∷ i.Return
            ∷ [];
      }
  -- tick 3 in x, before its end, at it and past it
  pub ticks_going : Going (at three_ticks 0 (number 5 ∷ []) 1) 3 0 1
  pub ticks_halted : at three_ticks 0 (number 5 ∷ []) 3 ≡ halted (number 5) 3 0 3
  pub ticks_past : at three_ticks 0 (number 5 ∷ []) 100 ≡ halted (number 5) 3 0 3
  -- x + 1 wraps
  pub sum_wraps : at successor 0 (greatest ∷ []) 4 ≡ halted least 0 0 4
  -- the left operand is under the right one
  pub difference : at (operator Sub) 0 (number 5 ∷ number 7 ∷ []) 4 ≡ halted (below 1) 0 0 4
  pub quotient : at (operator Div) 0 (below 6 ∷ number 2 ∷ []) 4 ≡ halted (below 2) 0 0 4
  pub quotient_by_zero : at (operator Div) 0 (number 5 ∷ number 0 ∷ []) 4 ≡ halted (number 0) 0 0 4
  pub remainder : at (operator Mod) 0 (below 6 ∷ number 2 ∷ []) 4 ≡ halted (below 0) 0 0 4
  pub remainder_by_zero : at (operator Mod) 0 (number 5 ∷ number 0 ∷ []) 4 ≡ halted (number 5) 0 0 4
  pub comparison : at greater 0 (number 5 ∷ number 7 ∷ []) 5 ≡ halted (v.Truth false) 0 0 5
  -- calls that never return
  pub loop_goes_on : Going (at loop 0 (number 5 ∷ []) 10) 0 0 10
  pub spin_goes_on : Going (at spin 0 (number 5 ∷ []) 10) 4 0 10
  -- append([1, 2, 3], [4]), before its last cell and at its end
  pub append_going : Going (at (append ∷ []) 0 (numbers (1 ∷ 2 ∷ 3 ∷ []) ∷ numbers (4 ∷ []) ∷ []) 30) 0 2 30
  pub append_halted : at (append ∷ []) 0 (numbers (1 ∷ 2 ∷ 3 ∷ []) ∷ numbers (4 ∷ []) ∷ []) 34
      ≡ halted (numbers (1 ∷ 2 ∷ 3 ∷ 4 ∷ [])) 0 3 34
  -- flat([[1, 2], [], [3]]) and flat([])
  pub flat_halted : at (append ∷ flat ∷ []) 1
      (v.Cons (numbers (1 ∷ 2 ∷ []))
      (v.Cons (numbers []) (v.Cons (numbers (3 ∷ [])) v.Empty)) ∷ []) 73 ≡ halted (numbers (1 ∷ 2 ∷ 3 ∷ [])) 0 3 73
  pub flat_empty : at (append ∷ flat ∷ []) 1 (v.Empty ∷ []) 4 ≡ halted v.Empty 0 0 4
  pub flatten_halted : at (append ∷ flatten ∷ []) 1 (small_tree ∷ []) 74 ≡ halted (numbers (1 ∷ 2 ∷ 3 ∷ [])) 0 4 74
  -- qsort([3, 2, 1]): pairs, comparisons and branches
  pub qsort_halted : at (append ∷ part ∷ qsort ∷ []) 2 (numbers (3 ∷ 2 ∷ 1 ∷ []) ∷ []) 190 ≡ halted (numbers (1 ∷ 2 ∷ 3 ∷ [])) 3 15 190
  -- options: first([7, 8]) and first([]); unwrap(some([1, 2])) and unwrap(none)
  pub code_of_first : body_of (first ∷ []) first
      ≡ record { arity = 1; code = i.Load 0 ∷ i.CaseList 6 ∷ i.Load 1 ∷ i.Some ∷ i.Unbind 2 ∷ i.Jump 7 ∷ i.Empty ∷ i.Return ∷ [] }
  pub first_some : at (first ∷ []) 0 (numbers (7 ∷ 8 ∷ []) ∷ []) 7 ≡ halted (v.Just (number 7)) 0 1 7
  pub first_none : at (first ∷ []) 0 (v.Empty ∷ []) 4 ≡ halted v.Empty 0 0 4
  pub code_of_unwrap : body_of (append ∷ unwrap ∷ []) unwrap
      ≡ record {
        arity = 1;
        code = i.Load 0 ∷ i.CaseOption 7 ∷ i.Load 1 ∷ i.Empty ∷ i.Call (record { 0 = 0 }) ∷ i.Unbind 1 ∷ i.Jump 8 ∷ i.Empty ∷ i.Return ∷ [];
      }
  pub unwrap_some : at (append ∷ unwrap ∷ []) 1 (v.Just (numbers (1 ∷ 2 ∷ [])) ∷ []) 32 ≡ halted (numbers (1 ∷ 2 ∷ [])) 0 2 32
  pub unwrap_none : at (append ∷ unwrap ∷ []) 1 (v.Empty ∷ []) 4 ≡ halted v.Empty 0 0 4
  -- a match in a match
  pub half_halted : at half 0 (numbers (1 ∷ 2 ∷ 3 ∷ []) ∷ []) 20 ≡ halted (number 0) 1 0 20

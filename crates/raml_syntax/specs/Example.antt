-- Small evaluations, worked out by hand.
use Rattle.std.specs.Prelude.{◌≡◌, ℕ, pos, negsuc, [], ◌∷◌, true, false, Some, None}
use Rattle.raml_syntax.specs.declared.tree.ArithOp.TheVariants.{Add, Sub, Mul, Div, Mod}
use Rattle.raml_syntax.specs.declared.tree.CompareOp.TheVariants.{Equal, Less, AtMost}
use Rattle.raml_syntax.specs.Tree as t
use Rattle.raml_syntax.specs.Tree.{Text, Integer, Bound, Parameter, Function, Prog}
use Rattle.raml_syntax.specs.Value.{Value, Number, Truth, Both, Empty, Cons, Node, Just, size}
use Rattle.raml_syntax.specs.Eval.{Run, arith, compare, eval, run_of}

-- a value, and a cut, with ticks, cells and work
abbrev gives : Value → ℕ → ℕ → ℕ → Run Value
gives v ticks cells work = record { out = Some v; ticks = ticks; cells = cells; work = work }

abbrev cuts : ℕ → ℕ → ℕ → Run Value
cuts ticks cells work = record { out = None; ticks = ticks; cells = cells; work = work }

abbrev one : Value
one = Number (pos 1)

-- 64 bits, signed
abbrev least : Value
least = Number (negsuc 9223372036854775807)

abbrev greatest : Value
greatest = Number (pos 9223372036854775807)

abbrev minus_one : Value
minus_one = Number (negsuc 0)

-- names
abbrev x : Text
x = 120 ∷ []

abbrev y : Text
y = 121 ∷ []

abbrev z : Text
z = 122 ∷ []

abbrev f : Text
f = 102 ∷ []

abbrev s : Text
s = 115 ∷ []

-- places do not matter here
abbrev num : ℕ → t.Term
num n = t.Number 0 (pos n)

abbrev var : Text → t.Term
var a = t.Var 0 a

abbrev bound : Text → Bound
bound a = record { at = 0; name = a }

abbrev call : Text → t.Term → t.Term
call g a = t.Call 0 g (t.More a t.None)

abbrev integer : Text → Parameter
integer a = record { at = 0; name = a; type = Integer }

abbrev function : Text → t.Term → Function
function g body = record { at = 0; name = g; params = integer x ∷ []; result = Integer; body = body }

-- fun f (x : int) : int = tick 3 in x
abbrev three : Function
three = function f (t.Tick 0 3 (var x))

-- fun s (x : int) : int = tick 1 in s(x)
abbrev spin : Function
spin = function s (t.Tick 0 1 (call s (var x)))

abbrev program : Prog
program = three ∷ spin ∷ []

abbrev at : ℕ → t.Term → Run Value
at n e = eval program n [] e

-- node(2, leaf, node(1, leaf, leaf))
abbrev two_nodes : t.Term
two_nodes = t.Node 0 (num 2) (t.Leaf 0) (t.Node 0 (num 1) (t.Leaf 0) (t.Leaf 0))

pub record Examples : Type 0 where
  -- + - * wrap
  pub sum_wraps : arith Add greatest one ≡ least
  pub difference_wraps : arith Sub least one ≡ greatest
  pub product_wraps : arith Mul least minus_one ≡ least
  -- div rounds toward zero, mod has the sign of its left operand
  pub quotient : arith Div (Number (negsuc 6)) (Number (pos 2)) ≡ Number (negsuc 2)
  pub remainder : arith Mod (Number (negsuc 6)) (Number (pos 2)) ≡ minus_one
  pub quotient_by_zero : arith Div (Number (pos 5)) (Number (pos 0)) ≡ Number (pos 0)
  pub remainder_by_zero : arith Mod (Number (pos 5)) (Number (pos 0)) ≡ Number (pos 5)
  pub quotient_of_least : arith Div least minus_one ≡ least
  pub remainder_of_least : arith Mod least minus_one ≡ Number (pos 0)
  -- comparisons
  pub less : compare Less least one ≡ Truth true
  pub not_less : compare Less one one ≡ Truth false
  pub at_most : compare AtMost one one ≡ Truth true
  pub equal : compare Equal one one ≡ Truth true
  pub not_equal : compare Equal one least ≡ Truth false
  -- tick 3 in 1
  pub ticks : at 0 (t.Tick 0 3 (num 1)) ≡ gives one 3 0 2
  -- let x = 2 in let x = 1 in x
  pub shadowing : at 0 (t.Let 0 (bound x) (num 2) (t.Let 0 (bound x) (num 1) (var x))) ≡ gives one 0 0 5
  -- (tick 2 in 1) + f(0), where f may not be entered: the ticks of the first operand stand
  pub cut_in_second : at 0 (t.Arith 0 Add (t.Tick 0 2 (num 1)) (call f (num 0))) ≡ cuts 2 0 5
  -- f(0) + (tick 2 in 1): nothing runs after the cut
  pub cut_in_first : at 0 (t.Arith 0 Add (call f (num 0)) (t.Tick 0 2 (num 1))) ≡ cuts 0 0 3
  -- f(1), not entered and entered
  pub call_at_zero : at 0 (call f (num 1)) ≡ cuts 0 0 2
  pub call_at_one : at 1 (call f (num 1)) ≡ gives one 3 0 4
  -- 1 :: nil takes its cell after its parts, and f(0) :: nil takes none
  pub cons : at 0 (t.Cons 0 (num 1) (t.Nil 0)) ≡ gives (Cons one Empty) 0 1 3
  pub cons_cut : at 0 (t.Cons 0 (call f (num 0)) (t.Nil 0)) ≡ cuts 0 0 3
  -- let (x, y) = (2, 1) in y
  pub pair : at 0 (t.LetPair 0 (bound x) (bound y) (t.Pair 0 (num 2) (num 1)) (var y)) ≡ gives one 0 1 5
  -- match 2 :: nil with nil -> 0 | x :: y -> y
  pub list : at 0 (t.MatchList 0 (t.Cons 0 (num 2) (t.Nil 0)) (num 0) (bound x) (bound y) (var y)) ≡ gives Empty 0 1 5
  -- match node(1, leaf, leaf) with leaf -> 0 | node(x, y, z) -> x
  pub tree : at 0 (t.MatchTree 0 (t.Node 0 (num 1) (t.Leaf 0) (t.Leaf 0)) (num 0) (bound x) (bound y) (bound z) (var x)) ≡ gives one 0 1 6
  -- match node(2, leaf, node(1, leaf, leaf)) with leaf -> leaf | node(x, y, z) -> z
  pub right_tree : at 0 (t.MatchTree 0 two_nodes (t.Leaf 0) (bound x) (bound y) (bound z) (var z)) ≡ gives (Node one Empty Empty) 0 2 9
  -- some(1) takes its cell after its part, and some(f(0)) takes none
  pub just : at 0 (t.Just 0 (num 1)) ≡ gives (Just one) 0 1 2
  pub just_cut : at 0 (t.Just 0 (call f (num 0))) ≡ cuts 0 0 3
  -- match some(1) with none -> 2 | some(x) -> x
  pub option : at 0 (t.MatchOption 0 (t.Just 0 (num 1)) (num 2) (bound x) (var x)) ≡ gives one 0 1 4
  -- match none with none -> 1 | some(x) -> x
  pub no_option : at 0 (t.MatchOption 0 (t.Nothing 0) (num 1) (bound x) (var x)) ≡ gives one 0 0 3
  -- of a name that a pattern or the parameters have twice, the last is meant: let (x, x) = (2, 1) in x
  pub pair_of_one_name : at 0 (t.LetPair 0 (bound x) (bound x) (t.Pair 0 (num 2) (num 1)) (var x)) ≡ gives one 0 1 5
  -- match 2 :: nil with nil -> 0 | x :: x -> x
  pub list_of_one_name : at 0 (t.MatchList 0 (t.Cons 0 (num 2) (t.Nil 0)) (num 0) (bound x) (bound x) (var x)) ≡ gives Empty 0 1 5
  -- match node(2, leaf, node(1, leaf, leaf)) with leaf -> leaf | node(x, x, x) -> x
  pub tree_of_one_name : at 0
      (t.MatchTree 0 two_nodes (t.Leaf 0) (bound x) (bound x) (bound x) (var x)) ≡ gives (Node one Empty Empty) 0 2 9
  -- fun f (x : int, x : int) : int = x, run on (2, 1)
  pub parameters_of_one_name : run_of []
      (record {
        at = 0;
        name = f;
        params = integer x ∷ integer x ∷ [];
        result = Integer;
        body = var x;
      }) (Number (pos 2) ∷ one ∷ []) 0 ≡ gives one 0 0 2
  -- if not true then 2 else 1
  pub branch : at 0 (t.If 0 (t.Not 0 (t.Truth 0 true)) (num 2) (num 1)) ≡ gives one 0 0 4
  -- (1 : int) is no more work than 1
  pub annotation : at 0 (t.Typed 0 (num 1) Integer) ≡ gives one 0 0 1
  -- the run of a function has one unit of work beside its body
  pub run : run_of program three (one ∷ []) 0 ≡ gives one 3 0 3
  -- a run that never ends is cut at every limit
  pub never_ends : run_of program spin (one ∷ []) 2 ≡ cuts 3 0 10
  -- sizes: 1, the empty list, (1, (1, 1)), [[1], [1, 1]], a tree of two nodes, and some(some(1))
  pub size_of_number : size one ≡ 0
  pub size_of_empty : size Empty ≡ 0
  pub size_of_pairs : size (Both one (Both one one)) ≡ 2
  pub size_of_lists : size (Cons (Cons one Empty) (Cons (Cons one (Cons one Empty)) Empty)) ≡ 5
  pub size_of_tree : size (Node one (Node one Empty Empty) Empty) ≡ 2
  pub size_of_option : size (Just (Just one)) ≡ 2

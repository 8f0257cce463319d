-- Small tables, runs and programs, worked out by hand.
use Rattle.std.specs.Prelude.{◌≡◌, ℕ, pos, [], ◌∷◌, Some, None, codes}
use Rattle.raml_syntax.specs.Tree as t
use Rattle.raml_syntax.specs.Tree.{Text, Type', Integer, ListOf, Bound, Parameter, Function, Prog}
use Rattle.raml_syntax.specs.Value.{Value, Number, Empty, Cons}
use Rattle.raml_syntax.specs.Eval.{Run}
use Rattle.price_file.specs.Construct as c
use Rattle.price_file.specs.Construct.{Prices}
use Rattle.price_file.specs.Spelling.{Table, lines_of, prices_in, Spells, FirstFault}
use Rattle.price_file.specs.Priced.{eval, run_of}
use Rattle.price_file.specs.Applied.{applied}
use Rattle.price_file.specs.declared.fault.PriceFault.TheVariants.{Shape, Twice}

-- a value, and a cut, with ticks, cells and work
abbrev gives : Value → ℕ → ℕ → ℕ → Run Value
gives v ticks cells work = record { out = Some v; ticks = ticks; cells = cells; work = work }

abbrev cuts : ℕ → ℕ → ℕ → Run Value
cuts ticks cells work = record { out = None; ticks = ticks; cells = cells; work = work }

abbrev one : Value
one = Number (pos 1)

-- cons 1, call 2
abbrev some_prices : Table
some_prices = (c.Cons, 1) ∷ (c.Call, 2) ∷ []

-- number 7, tick 5, let 4, match 9, none 3
abbrev other_prices : Table
other_prices = (c.Number, 7) ∷ (c.Tick, 5) ∷ (c.Let, 4) ∷ (c.Match, 9) ∷ (c.Nothing, 3) ∷ []

-- names
abbrev x : Text
x = 120 ∷ []

abbrev y : Text
y = 121 ∷ []

abbrev h : Text
h = 104 ∷ []

abbrev r : Text
r = 114 ∷ []

abbrev append : Text
append = 97 ∷ []

abbrev num : ℕ → t.Term
num n = t.Number 0 (pos n)

abbrev var : Text → t.Term
var a = t.Var 0 a

abbrev bound : Text → Bound
bound a = record { at = 0; name = a }

abbrev integers : Text → Parameter
integers a = record { at = 0; name = a; type = ListOf Integer }

abbrev call : t.Term → t.Term → t.Term
call a b = t.Call 0 append (t.More a (t.More b t.None))

-- fun a (x : int list, y : int list) : int list = match x with nil -> y | h :: r -> h :: a(r, y)
abbrev appending : Function
appending = record {
  at = 0;
  name = append;
  params = integers x ∷ integers y ∷ [];
  result = ListOf Integer;
  body = t.MatchList 0 (var x) (var y) (bound h) (bound r) (t.Cons 0 (var h) (call (var r) (var y)));
}

abbrev program : Prog
program = appending ∷ []

abbrev list : ℕ → ℕ → Value → Value
list a b v = Cons (Number (pos a)) (Cons (Number (pos b)) v)

abbrev under : Table → ℕ → t.Term → Run Value
under table n e = eval (prices_in table) program n [] e

pub record Examples : Type 0 where
  -- lines end with a line feed, which the last may lack
  pub no_lines : lines_of [] ≡ []
  pub one_line : lines_of (codes "a\n") ≡ codes "a" ∷ []
  pub last_line : lines_of (codes "a\nb") ≡ codes "a" ∷ codes "b" ∷ []
  pub empty_line : lines_of (codes "a\n\n") ≡ codes "a" ∷ [] ∷ []
  pub two_lines : Spells (codes "cons 1\ncall 2") some_prices
  pub zeros_in_front : Spells (codes "call 0000000\n") ((c.Call, 0) ∷ [])
  pub above : FirstFault (codes "call 1000001\n") (Shape 1)
  pub eight_digits : FirstFault (codes "cons 1\ncall 00000001") (Shape 2)
  pub carriage_return : FirstFault (codes "call 1\r\n") (Shape 1)
  pub nothing_behind : FirstFault (codes "cons 1\n\n") (Shape 2)
  pub twice : FirstFault (codes "cons 0\nlet 1\ncons 2\ncall") (Twice 3)
  -- the first of two faulty lines is told
  pub shape_before_twice : FirstFault (codes "cons 1\ncons x\ncons 1\n") (Shape 2)
  -- three cells at 1, three calls at 2, and the first call at none: ([1, 2, 3], [4])
  pub append_costs_nine : run_of (prices_in some_prices) program appending
      (list 1 2 (Cons (Number (pos 3)) Empty) ∷ Cons (Number (pos 4)) Empty ∷ []) 3
      ≡ gives (list 1 2 (list 3 4 Empty)) 9 3 25
  -- 1 :: a(1, 1), where a may not be entered: the price of the call stands, and that of the list element before it
  pub cut_keeps_prices : under some_prices 0 (t.Cons 0 (num 1) (call (num 1) (num 1))) ≡ cuts 3 0 5
  -- a(1, 1) + tick 3 in 1: nothing is paid after the cut
  pub nothing_after_cut : under other_prices 0 (t.Cons 0 (call (num 1) (num 1)) (t.Tick 0 3 (num 1))) ≡ cuts 14 0 4
  -- tick 3 in 1: a tick costs its own number besides
  pub ticks_besides : under other_prices 0 (t.Tick 0 3 (num 1)) ≡ gives one 15 0 2
  -- (1 : int) costs what 1 does
  pub annotation_is_free : under other_prices 0 (t.Typed 0 (num 1) Integer) ≡ gives one 7 0 1
  -- nil is not none
  pub nil : under other_prices 0 (t.Nil 0) ≡ gives Empty 0 0 1
  pub none : under other_prices 0 (t.Nothing 0) ≡ gives Empty 3 0 1
  -- let x = 1 in x, and let (x, y) = (1, 1) in x
  pub let_one : under other_prices 0 (t.Let 0 (bound x) (num 1) (var x)) ≡ gives one 11 0 3
  pub let_pair : under other_prices 0 (t.LetPair 0 (bound x) (bound y) (t.Pair 0 (num 1) (num 1)) (var x)) ≡ gives one 18 1 5
  -- match none with none -> 1 | some(x) -> x, and match leaf with leaf -> 1 | node(x, y, h) -> x
  pub match_option : under other_prices 0 (t.MatchOption 0 (t.Nothing 0) (num 1) (bound x) (var x)) ≡ gives one 19 0 3
  pub match_tree : under other_prices 0 (t.MatchTree 0 (t.Leaf 0) (num 1) (bound x) (bound y) (bound h) (var x)) ≡ gives one 16 0 3
  -- at 5 stands (1 :: nil), of which 1 stands at 6: `tick 1 in` stands at 5, and what costs nothing is as it was
  pub position_stays : applied (prices_in some_prices) (t.Cons 5 (t.Number 6 (pos 1)) (t.Nil 8))
      ≡ t.Tick 5 1 (t.Cons 5 (t.Number 6 (pos 1)) (t.Nil 8))
  -- (tick 3 in 1 : int)
  pub annotation_stays : applied (prices_in other_prices) (t.Typed 0 (t.Tick 1 3 (t.Number 2 (pos 1))) Integer)
      ≡ t.Typed 0 (t.Tick 1 5 (t.Tick 1 3 (t.Tick 2 7 (t.Number 2 (pos 1))))) Integer

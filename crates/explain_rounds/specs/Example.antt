-- Small programs, worked out by hand. The places of calls are those of the sources that are written above them; others do not matter.
use Rattle.std.specs.Prelude.{◌≡◌, ℕ, pos, [], ◌∷◌, true}
use Rattle.raml_syntax.specs.declared.tree.ArithOp.TheVariants.{Add, Sub}
use Rattle.raml_syntax.specs.declared.tree.CompareOp.TheVariants.{Equal}
use Rattle.raml_syntax.specs.Tree as t
use Rattle.raml_syntax.specs.Tree.{Text, Type', Integer, PairOf, ListOf, Bound, Parameter, Function, Prog}
use Rattle.explain_rounds.specs.Calls.{Smaller, Computed, Stuck, group_calls}
use Rattle.explain_rounds.specs.Twice.{calls_with_same_part}

-- names
abbrev x : Text
x = 120 ∷ []

abbrev n : Text
n = 110 ∷ []

abbrev l : Text
l = 108 ∷ []

abbrev h : Text
h = 104 ∷ []

abbrev r : Text
r = 114 ∷ []

abbrev a : Text
a = 97 ∷ []

abbrev b : Text
b = 98 ∷ []

abbrev f : Text
f = 102 ∷ []

abbrev g : Text
g = 103 ∷ []

abbrev var : Text → t.Term
var y = t.Var 0 y

abbrev num : ℕ → t.Term
num k = t.Number 0 (pos k)

abbrev bound : Text → Bound
bound y = record { at = 0; name = y }

abbrev param : Text → Type' → Parameter
param y T = record { at = 0; name = y; type = T }

abbrev integers : Type'
integers = ListOf Integer

-- with one argument, and with two
abbrev call : ℕ → Text → t.Term → t.Term
call p y e = t.Call p y (t.More e t.None)

abbrev call_two : ℕ → Text → t.Term → t.Term → t.Term
call_two p y d e = t.Call p y (t.More d (t.More e t.None))

-- the list has the head h and the tail r
abbrev taken : t.Term → t.Term → t.Term → t.Term
taken subject empty rest = t.MatchList 0 subject empty (bound h) (bound r) rest

-- fun r (x : int, n : int) : int list = tick 3 in if n = 0 then nil else x :: r(x, n - 1)
abbrev repeated : t.Term
repeated = t.Cons 0 (var x) (call_two 76 r (var x) (t.Arith 0 Sub (var n) (num 1)))

abbrev repeat : Function
repeat = record {
  at = 0;
  name = r;
  params = param x Integer ∷ param n Integer ∷ [];
  result = integers;
  body = t.Tick 0 3 (t.If 0 (t.Compare 0 Equal (var n) (num 0)) (t.Nil 0) repeated);
}

-- fun l (x : int list) : int = match x with nil -> 0 | h :: r -> 1 + l(r)
abbrev length_of : Function
length_of = record {
  at = 0;
  name = l;
  params = param x integers ∷ [];
  result = Integer;
  body = taken (var x) (num 0) (t.Arith 0 Add (num 1) (call 67 l (var r)));
}

-- fun f (l : int list) : int list * int list = (l, nil)
-- fun g (l : int list) : int list =
--   match l with nil -> nil | h :: r -> let (a, b) = f(r) in h :: g(a)
abbrev split : Function
split = record {
  at = 0;
  name = f;
  params = param l integers ∷ [];
  result = PairOf integers integers;
  body = t.Pair 0 (var l) (t.Nil 0);
}

abbrev sort : Function
sort = record {
  at = 54;
  name = g;
  params = param l integers ∷ [];
  result = integers;
  body = taken (var l) (t.Nil 0) (t.LetPair 0 (bound a) (bound b) (call 139 f (var r)) (t.Cons 0 (var h) (call 152 g (var a))));
}

abbrev sorting : Prog
sorting = split ∷ sort ∷ []

-- a function of a list and a number
abbrev of_pair : t.Term → Prog
of_pair body = record { at = 0; name = f; params = param x (PairOf integers Integer) ∷ []; result = Integer; body = body } ∷ []

-- fun f (x : int list * int) : int = let (a, b) = x in f((a, b))
abbrev whole_again : Prog
whole_again = of_pair (t.LetPair 0 (bound a) (bound b) (var x) (call 53 f (t.Pair 0 (var a) (var b))))

-- fun f (x : int list * int) : int = let (a, b) = x in match a with nil -> b | h :: r -> f((r, b))
abbrev part_in_pair : Prog
part_in_pair =
    of_pair (t.LetPair 0 (bound a) (bound b) (var x) (taken (var a) (var b) (call 87 f (t.Pair 0 (var r) (var b)))))

-- fun f (l : int list, n : int) : int = f(l, f(l, n))
abbrev within_argument : Prog
within_argument = record {
  at = 0;
  name = f;
  params = param l integers ∷ param n Integer ∷ [];
  result = Integer;
  body = call_two 38 f (var l) (call_two 43 f (var l) (var n));
} ∷ []

-- fun f (x : int list) : int = g(x)
-- fun g (x : int list) : int = match x with nil -> 0 | h :: r -> f(r)
abbrev by_turns : Prog
by_turns =
    record { at = 0; name = f; params = param x integers ∷ []; result = Integer; body = call 29 g (var x) }
    ∷ record { at = 34; name = g; params = param x integers ∷ []; result = Integer; body = taken (var x) (num 0) (call 97 f (var r)) }
    ∷ []

-- a function that calls itself below what is bound again as r
abbrev bound_again : t.Term → Prog
bound_again e = record {
  at = 0;
  name = g;
  params = param l integers ∷ [];
  result = integers;
  body = taken (var l) (t.Nil 0) (t.Let 0 (bound r) e (call 9 g (var r)));
} ∷ []

-- fun f (x : int list) : int = match x with nil -> 1 | h :: r -> f(r) + f(r)
abbrev on_tail : (t.Term → t.Term → t.Term) → Prog
on_tail both = record {
  at = 0;
  name = f;
  params = param x integers ∷ [];
  result = Integer;
  body = t.MatchList 0 (var x) (num 1) (bound h) (record { at = 58; name = r }) (both (call 63 f (var r)) (call 70 f (var r)));
} ∷ []

pub record Examples : Type 0 where
  pub a_number_has_no_size : group_calls (repeat ∷ []) (0 ∷ []) 0 ≡ record { at = 76; callee = 0; kind = Stuck } ∷ []
  pub a_tail_is_a_part : group_calls (length_of ∷ []) (0 ∷ []) 0 ≡ record { at = 67; callee = 0; kind = Smaller } ∷ []
  pub what_a_call_makes : group_calls sorting (1 ∷ []) 1 ≡ record { at = 152; callee = 1; kind = Computed } ∷ []
  pub only_the_group : group_calls sorting (0 ∷ []) 1 ≡ record { at = 139; callee = 0; kind = Smaller } ∷ []
  pub no_function : group_calls sorting (0 ∷ []) 2 ≡ []
  pub whole_in_pair : group_calls whole_again (0 ∷ []) 0 ≡ record { at = 53; callee = 0; kind = Stuck } ∷ []
  pub a_pair_holds_a_part : group_calls part_in_pair (0 ∷ []) 0 ≡ record { at = 87; callee = 0; kind = Smaller } ∷ []
  -- the number comes from a call, but a number has no size
  pub outer_first : group_calls within_argument (0 ∷ []) 0
      ≡ record { at = 38; callee = 0; kind = Stuck } ∷ record { at = 43; callee = 0; kind = Stuck } ∷ []
  pub first_of_two : group_calls by_turns (0 ∷ 1 ∷ []) 0 ≡ record { at = 29; callee = 1; kind = Stuck } ∷ []
  pub second_of_two : group_calls by_turns (0 ∷ 1 ∷ []) 1 ≡ record { at = 97; callee = 0; kind = Smaller } ∷ []
  pub passed_on : group_calls (bound_again (t.Typed 0 (var r) integers)) (0 ∷ []) 0 ≡ record { at = 9; callee = 0; kind = Smaller } ∷ []
  pub hidden : group_calls (bound_again (t.Nil 0)) (0 ∷ []) 0 ≡ record { at = 9; callee = 0; kind = Stuck } ∷ []
  pub made_within : group_calls (bound_again (t.Cons 0 (var h) (call 5 f (var r)))) (0 ∷ []) 0
      ≡ record { at = 9; callee = 0; kind = Computed } ∷ []
  pub same_tail : calls_with_same_part (on_tail (t.Arith 0 Add)) (0 ∷ []) 0 ≡ record { first = 63; second = 70; part = 58 } ∷ []
  -- only one of two branches is evaluated
  pub in_branches : calls_with_same_part (on_tail (t.If 0 (t.Truth 0 true))) (0 ∷ []) 0 ≡ []
  -- but a condition is evaluated before each of them
  pub in_condition : calls_with_same_part (on_tail (λ d e. t.If 0 d e (num 0))) (0 ∷ []) 0
      ≡ record { first = 63; second = 70; part = 58 } ∷ []

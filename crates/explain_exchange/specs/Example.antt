-- Small programs in which two parameters are exchanged, worked out by hand.
use Rattle.std.specs.Prelude.{◌≡◌, ℕ, List, [], ◌∷◌}
use Rattle.raml_syntax.specs.Tree as t
use Rattle.raml_syntax.specs.Tree.{Text, Type', Integer, ListOf, Parameter, Function}
use Rattle.explain_exchange.specs.Exchange.{exchange, TwoParameters, exchanged_program}

-- names
abbrev f : Text
f = 102 ∷ []

abbrev g : Text
g = 103 ∷ []

abbrev x : Text
x = 120 ∷ []

abbrev y : Text
y = 121 ∷ []

abbrev z : Text
z = 122 ∷ []

abbrev parameter : Text → Type' → Parameter
parameter name type = record { at = 0; name = name; type = type }

abbrev ints : Type'
ints = ListOf Integer

abbrev variable : Text → t.Term
variable name = t.Var 0 name

-- a call of three variables
abbrev call : Text → Text → Text → Text → t.Term
call name a b c = t.Call 0 name (t.More (variable a) (t.More (variable b) (t.More (variable c) t.None)))

abbrev with_body : Text → List Parameter → t.Term → Function
with_body name params body = record { at = 0; name = name; params = params; result = ints; body = body }

-- fun f (x : int list, y : int, z : int list) : int list = g(z, y, f(x, y, z))
abbrev before : Function
before = with_body f (parameter x ints ∷ parameter y Integer ∷ parameter z ints ∷ [])
    (t.Call 0 g (t.More (variable z) (t.More (variable y) (t.More (call f x y z) t.None))))

-- fun f (z : int list, y : int, x : int list) : int list = g(z, y, f(z, y, x))
abbrev after : Function
after = with_body f (parameter z ints ∷ parameter y Integer ∷ parameter x ints ∷ [])
    (t.Call 0 g (t.More (variable z) (t.More (variable y) (t.More (call f z y x) t.None))))

-- fun g (x : int list) : int list = f(f(x, y, z), y, z), before and after
abbrev caller : Function
caller = with_body g (parameter x ints ∷ []) (t.Call 0 f (t.More (call f x y z) (t.More (variable y) (t.More (variable z) t.None))))

abbrev caller_after : Function
caller_after = with_body g (parameter x ints ∷ []) (t.Call 0 f (t.More (variable z) (t.More (variable y) (t.More (call f z y x) t.None))))

abbrev both : ℕ → ℕ → TwoParameters
both i j = record { function = f; first = i; second = j }

pub record Examples : Type 0 where
  pub ends : exchange {A = ℕ} 0 2 (1 ∷ 2 ∷ 3 ∷ []) ≡ 3 ∷ 2 ∷ 1 ∷ []
  pub neighbours : exchange {A = ℕ} 1 2 (1 ∷ 2 ∷ 3 ∷ 4 ∷ []) ≡ 1 ∷ 3 ∷ 2 ∷ 4 ∷ []
  -- there is no such place, or the first is not before the second
  pub none : exchange {A = ℕ} 1 3 (1 ∷ 2 ∷ 3 ∷ []) ≡ 1 ∷ 2 ∷ 3 ∷ []
  pub not_before : exchange {A = ℕ} 2 0 (1 ∷ 2 ∷ 3 ∷ []) ≡ 1 ∷ 2 ∷ 3 ∷ []
  -- in the header, and in calls, also in those in arguments
  pub program : exchanged_program (both 0 2) (before ∷ caller ∷ []) ≡ after ∷ caller_after ∷ []

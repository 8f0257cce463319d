-- A program whose certificate was worked out by hand, and what it bounds.
use Rattle.std.specs.Prelude.{[], ◌∷◌}
use Rattle.raml_syntax.specs.Tree as t
use Rattle.raml_syntax.specs.Tree.{Text, Type', Integer, ListOf, Bound, Parameter, Function}
use Rattle.base_poly.specs.Plain.{Unit', End, Then}
use Rattle.cost_free.specs.declared.task.Meter.TheVariants.{Ticks, Cells}
use Rattle.rules_soundness_laws.specs.Bounds.{Bounds}

abbrev pub ints : Type'
ints = ListOf Integer

abbrev pub variable : Text → t.Term
variable name = t.Var 0 name

abbrev pub parameter : Text → Parameter
parameter name = record { at = 0; name = name; type = ints }

abbrev pub bound : Text → Bound
bound name = record { at = 0; name = name }

-- fun f (x : int list, y : int list) : int list = match x with nil -> y | h :: t -> h :: f(t, y)
abbrev pub appends : Function
appends = record {
  at = 0;
  name = 102 ∷ [];
  params = parameter (120 ∷ []) ∷ parameter (121 ∷ []) ∷ [];
  result = ints;
  body = t.MatchList 0 (variable (120 ∷ [])) (variable (121 ∷ [])) (bound (104 ∷ [])) (bound (116 ∷ []))
      (t.Cons 0 (variable (104 ∷ [])) (t.Call 0 (102 ∷ []) (t.More (variable (116 ∷ [])) (t.More (variable (121 ∷ [])) t.None))));
}

pub record Examples : Type 0 where
  -- a cell for each element of the first argument
  pub cells : Bounds (appends ∷ []) 0 appends Cells 1 ((Then Unit' End ∷ End ∷ [], 1) ∷ [])
  pub ticks : Bounds (appends ∷ []) 0 appends Ticks 1 []

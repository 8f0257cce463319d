-- A small program with its count programs, worked out by hand.
use Rattle.std.specs.Prelude.{◌≡◌, [], ◌∷◌, true}
use Rattle.raml_syntax.specs.Tree as t
use Rattle.raml_syntax.specs.Tree.{Text, Integer, ListOf, Bound, Function}
use Rattle.raml_syntax.specs.Value.{Empty, Cons}
use Rattle.raml_syntax.specs.Eval.{run_of}
use Rattle.explain_count.specs.Count.{counting, count_program}

-- names
abbrev x : Text
x = 120 ∷ []

abbrev h : Text
h = 104 ∷ []

abbrev l : Text
l = 108 ∷ []

abbrev r : Text
r = 114 ∷ []

abbrev bound : Text → Bound
bound y = record { at = 0; name = y }

-- match x with nil -> nil | h :: r -> l(r)
abbrev walked : t.Term
walked = t.MatchList 0 (t.Var 0 x) (t.Nil 0) (bound h) (bound r) (t.Call 0 l (t.More (t.Var 0 r) t.None))

-- fun l (x : int list) : int list = BODY, at 7
abbrev with_body : t.Term → Function
with_body body = record {
  at = 7;
  name = l;
  params = record { at = 0; name = x; type = ListOf Integer } ∷ [];
  result = ListOf Integer;
  body = body;
}

-- fun l (x : int list) : int list = tick 5 in match x with nil -> nil | h :: r -> l(r)
abbrev to_end : Function
to_end = with_body (t.Tick 0 5 walked)

pub record Examples : Type 0 where
  pub one_tick_a_round : count_program (0 ∷ []) (to_end ∷ []) ≡ with_body (t.Tick 7 1 walked) ∷ []
  pub none_where_not_counted : count_program [] (to_end ∷ []) ≡ with_body walked ∷ []
  -- the end of a list of two elements is there in the third round
  pub three_rounds : (run_of (count_program (0 ∷ []) (to_end ∷ [])) (counting true to_end) (Cons Empty (Cons Empty Empty) ∷ []) 2).ticks ≡ 3

-- Worked normal forms.
use Rattle.std.specs.Prelude.{◌≡◌, pos, [], ◌∷◌, Some, None}
use Rattle.raml_syntax.specs.declared.tree.ArithOp.TheVariants.{Add}
use Rattle.raml_syntax.specs.Tree as t
use Rattle.raml_syntax.specs.Tree.{Text, Type', Integer, ListOf, PairOf, OptionOf, Bound, Parameter, Function, Prog}
use Rattle.normal_spec.specs.Norm as n
use Rattle.normal_spec.specs.Norm.{NormFun, NormProg}
use Rattle.raml_syntax.specs.Value.{Value, Number, Empty, Cons}
use Rattle.raml_syntax.specs.Eval.{run_of}
use Rattle.normal_spec.specs.Run.{run_norm}
use Rattle.normal_spec.specs.Two.{norm, norm_fun}

abbrev x : Text
x = 120 ∷ []

abbrev y : Text
y = 121 ∷ []

abbrev h : Text
h = 104 ∷ []

abbrev s : Text
s = 116 ∷ []

abbrev f : Text
f = 102 ∷ []

abbrev var : Text → t.Term
var a = t.Var 0 a

abbrev par : Text → Type' → Parameter
par a A = record { at = 0; name = a; type = A }

abbrev b : Text → Bound
b a = record { at = 0; name = a }

-- fun f (x : int, y : int) : int = x + x
abbrev twice : Function
twice = record { at = 0; name = f; params = par x Integer ∷ par y Integer ∷ []; result = Integer; body = t.Arith 0 Add (var x) (var x) }

abbrev ints : Type'
ints = ListOf Integer

-- fun f (x : int list, y : int list) : int list = match x with nil -> y | h :: t -> h :: f(t, y)
abbrev append : Function
append = record {
  at = 0;
  name = f;
  params = par x ints ∷ par y ints ∷ [];
  result = ints;
  body = t.MatchList 0 (var x) (var y) (b h) (b s) (t.Cons 0 (var h) (t.Call 0 f (t.More (var s) (t.More (var y) t.None))));
}

-- fun f (x : int list, y : int list) : int list = match x with nil -> x | h :: t -> f(x, x)
abbrev again : Function
again = record {
  at = 0;
  name = f;
  params = par x ints ∷ par y ints ∷ [];
  result = ints;
  body = t.MatchList 0 (var x) (var x) (b h) (b s) (t.Call 0 f (t.More (var x) (t.More (var x) t.None)));
}

-- fun s (x : int) : int = s(x)
abbrev spin : Function
spin = record { at = 0; name = 115 ∷ []; params = par x Integer ∷ []; result = Integer; body = t.Call 0 (115 ∷ []) (t.More (var x) t.None) }

-- fun f (x : int) : int = s(x) + x
abbrev waits : Function
waits =
    record {
      at = 0;
      name = f;
      params = par x Integer ∷ [];
      result = Integer;
      body = t.Arith 0 Add
          (t.Call 0 (115 ∷ []) (t.More (var x) t.None)) (var x);
    }

-- fun f (x : int list) : int option = match x with nil -> none | h :: t -> some(h)
abbrev first : Function
first = record {
  at = 0;
  name = f;
  params = par x ints ∷ [];
  result = OptionOf Integer;
  body = t.MatchList 0 (var x) (t.Nothing 0) (b h) (b s) (t.Just 0 (var h));
}

-- fun f (x : int option, y : int) : int = match x with none -> y | some(h) -> h + y
abbrev given : Function
given = record {
  at = 0;
  name = f;
  params = par x (OptionOf Integer) ∷ par y Integer ∷ [];
  result = Integer;
  body = t.MatchOption 0 (var x) (var y) (b h) (t.Arith 0 Add (var h) (var y));
}

-- fun f (x : int * int) : int = let (h, t) = x in tick 3 in (h + t) + f((t, h))
abbrev swapped : Function
swapped = record {
  at = 0;
  name = f;
  params = par x (PairOf Integer Integer) ∷ [];
  result = Integer;
  body = t.LetPair 0 (b h) (b s) (var x)
      (t.Tick 0 3 (t.Arith 0 Add (t.Arith 0 Add (var h) (var s)) (t.Call 0 f (t.More (t.Pair 0 (var s) (var h)) t.None))));
}

abbrev one : Value
one = Number (pos 1)

pub record Examples : Type 0 where
  -- 7 of work an element, 3 at the end, and 1 of the run
  pub work : run_norm (norm (append ∷ [])) (norm_fun (append ∷ []) append) (Cons one Empty ∷ Empty ∷ []) 3
      ≡ record { out = Some (Cons one Empty); ticks = 0; cells = 1; work = 11 }
  pub source_work : run_of (append ∷ []) append (Cons one Empty ∷ Empty ∷ []) 3
      ≡ record { out = Some (Cons one Empty); ticks = 0; cells = 1; work = 11 }
  -- where a run is cut before a variable operand, the normal form has paid for it
  pub cut_work : run_norm (norm (waits ∷ (spin ∷ []))) (norm_fun (waits ∷ (spin ∷ [])) waits) (one ∷ []) 2
      ≡ record { out = None; ticks = 0; cells = 0; work = 9 }
  pub source_cut_work : run_of (waits ∷ (spin ∷ [])) waits (one ∷ []) 2 ≡ record { out = None; ticks = 0; cells = 0; work = 8 }
  pub drop_and_share : norm (twice ∷ [])
      ≡ record { params = (1, Integer) ∷ (2, Integer) ∷ []; result = Integer; body = n.Drop 0 2 (n.Share 0 1 3 4 (n.Arith 4 Add 3 4)) } ∷ []
  pub append : norm (append ∷ []) ≡ record {
    params = (1, ints) ∷ (2, ints) ∷ [];
    result = ints;
    body = n.CaseList 3 1 (n.Var 1 2) 3 4 (n.Let 2 5 ints (n.Call 3 0 (4 ∷ 2 ∷ [])) (n.Cons 0 3 5));
  } ∷ []
  pub again : norm (again ∷ []) ≡ record {
    params = (1, ints) ∷ (2, ints) ∷ [];
    result = ints;
    body =
        n.Drop 0 2 (n.Share 0 1 3 4 (n.CaseList 3 3 (n.Var 1 4) 5 6 (n.Drop 0 5 (n.Drop 0 6 (n.Share 0 4 7 8 (n.Call 3 0 (7 ∷ 8 ∷ [])))))));
  } ∷ []
  pub first : norm (first ∷ []) ≡ record {
    params = (1, ints) ∷ [];
    result = OptionOf Integer;
    body = n.CaseList 3 1 (n.Nothing 1) 2 3 (n.Drop 0 3 (n.Just 2 2));
  } ∷ []
  pub given : norm (given ∷ []) ≡ record {
    params = (1, OptionOf Integer) ∷ (2, Integer) ∷ [];
    result = Integer;
    body = n.CaseOption 3 1 (n.Var 1 2) 3 (n.Arith 3 Add 3 2);
  } ∷ []
  -- operands are bound from left to right; the bound expression has the first copies, and what follows the second
  pub swapped : norm (swapped ∷ []) ≡ record {
    params = (1, PairOf Integer Integer) ∷ [];
    result = Integer;
    body = n.Split 3 1 2 3 (n.Tick 1 3 (n.Share 0 2 4 5 (n.Share 0 3 6 7
        (n.Let 1 8 Integer (n.Arith 3 Add 4 6)
        (n.Let 0 9 Integer (n.Let 1 10 (PairOf Integer Integer) (n.Pair 3 7 5) (n.Call 0 0 (10 ∷ []))) (n.Arith 0 Add 8 9))))));
  } ∷ []

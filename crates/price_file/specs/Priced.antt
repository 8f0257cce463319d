-- Evaluation under prices. Its cases are those of evaluation; beside the unit of work of each node that is visited stands the price
-- of its construct, in ticks and before its parts, so that it stands too where a part is cut.
use Rattle.std.specs.Prelude.{ℕ, zero, suc, List, [], ◌∷◌}
use Rattle.raml_syntax.specs.Tree as t
use Rattle.raml_syntax.specs.Tree.{Function, Prog}
use Rattle.raml_syntax.specs.Value.{Value, Number, Truth, Both, Empty, Cons, Node, Just}
use Rattle.raml_syntax.specs.Eval.{Run, done, cut, costs, and_then, node, new_cell, Env, look, bind_all, arith, compare, negation, branch}
use Rattle.raml_syntax.specs.Eval.{pair_case, list_case, tree_case, option_case, Calls, find, names_of, enter}
use Rattle.price_file.specs.Construct as c
use Rattle.price_file.specs.Construct.{Construct, Prices}

module _ (prices : Prices) where
  -- a node of this construct: its price and one unit of work, before its parts
  abbrev pub paid : {A : Type 0} → Construct → Run A → Run A
  paid construct r = costs (prices construct) 0 1 r

  abbrev mutual
    -- the evaluation of an expression, over what calls give
    pub walk : Calls → t.Term → Env → Run Value
    walk call (t.Number p n) env = paid c.Number (done (Number n))
    walk call (t.Truth p b) env = paid c.Truth (done (Truth b))
    walk call (t.Nil p) env = paid c.Nil (done Empty)
    walk call (t.Leaf p) env = paid c.Leaf (done Empty)
    walk call (t.Nothing p) env = paid c.Nothing (done Empty)
    walk call (t.Var p x) env = paid c.Var (done (look x env))
    walk call (t.Arith p op a b) env =
        paid c.Arith (and_then (walk call a env) (λ v. and_then (walk call b env) (λ w. done (arith op v w))))
    walk call (t.Compare p op a b) env =
        paid c.Compare (and_then (walk call a env) (λ v. and_then (walk call b env) (λ w. done (compare op v w))))
    walk call (t.Not p a) env = paid c.Not (and_then (walk call a env) (λ v. done (negation v)))
    walk call (t.Pair p a b) env = paid c.Pair (and_then (walk call a env) (λ v. and_then (walk call b env) (λ w. new_cell (Both v w))))
    walk call (t.Cons p a b) env = paid c.Cons (and_then (walk call a env) (λ v. and_then (walk call b env) (λ w. new_cell (Cons v w))))
    walk call (t.Node p a b d) env =
        paid c.Node (and_then (walk call a env)
        (λ u. and_then (walk call b env) (λ v. and_then (walk call d env) (λ w. new_cell (Node u v w)))))
    walk call (t.Just p a) env = paid c.Just (and_then (walk call a env) (λ v. new_cell (Just v)))
    walk call (t.Call p f args) env = paid c.Call (and_then (walk_all call args env) (call f))
    walk call (t.Let p x a b) env = paid c.Let (and_then (walk call a env) (λ v. walk call b ((x.name, v) ∷ env)))
    walk call (t.LetPair p x y a b) env =
        paid c.Let (and_then (walk call a env) (λ v. pair_case v cut (λ s r. walk call b ((y.name, r) ∷ (x.name, s) ∷ env))))
    walk call (t.If p d a b) env = paid c.If (and_then (walk call d env) (λ v. branch v (walk call a env) (walk call b env)))
    walk call (t.MatchList p d a x y b) env =
        paid c.Match (and_then (walk call d env)
        (λ v. list_case v (walk call a env) (λ h r. walk call b ((y.name, r) ∷ (x.name, h) ∷ env))))
    walk call (t.MatchTree p d a x y z b) env =
        paid c.Match (and_then (walk call d env)
        (λ v. tree_case v (walk call a env) (λ e l r. walk call b ((z.name, r) ∷ (y.name, l) ∷ (x.name, e) ∷ env))))
    walk call (t.MatchOption p d a x b) env =
        paid c.Match (and_then (walk call d env) (λ v. option_case v (walk call a env) (λ w. walk call b ((x.name, w) ∷ env))))
    walk call (t.Tick p k a) env = paid c.Tick (costs k 0 0 (walk call a env))
    walk call (t.Typed p a A) env = walk call a env

    -- the parts from left to right
    pub walk_all : Calls → t.Terms → Env → Run (List Value)
    walk_all call t.None env = done []
    walk_all call (t.More a rest) env = and_then (walk call a env) (λ v. and_then (walk_all call rest env) (λ vs. done (v ∷ vs)))

  -- a call is cut at limit 0; at a greater limit the body runs at one less
  abbrev pub calls_at : Prog → ℕ → Calls
  calls_at P zero f vs = cut
  calls_at P (suc n) f vs = enter (walk (calls_at P n)) (find f P) vs

  abbrev pub eval : Prog → ℕ → Env → t.Term → Run Value
  eval P n env e = walk (calls_at P n) e env

  -- the run of a function on arguments at a limit, in which the first call has no price
  abbrev pub run_of : Prog → Function → List Value → ℕ → Run Value
  run_of P g vs n = node (eval P n (bind_all [] (names_of g) vs) g.body)

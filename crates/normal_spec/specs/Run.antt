-- The evaluation of normal forms with a depth limit.
use Rattle.std.specs.Prelude.{ℕ, zero, suc, pos, nat_eq, List, [], ◌∷◌, map, cond, ◌+◌, ◌-◌, Option, Some, None, slice_get}
use Rattle.raml_syntax.specs.Tree.{Type'}
use Rattle.raml_syntax.specs.Value.{Value, Number, Truth, Both, Empty, Cons, Node, Just}
use Rattle.raml_syntax.specs.Eval.{Run, done, cut, costs, and_then, new_cell, arith, compare, branch, negation, pair_case, list_case}
use Rattle.raml_syntax.specs.Eval.{tree_case, option_case}
use Rattle.normal_spec.specs.Norm as n
use Rattle.normal_spec.specs.Norm.{NormFun, NormProg}

-- variables and their values, the newest first
abbrev pub NormEnv : Type 0
NormEnv = List (ℕ × Value)

-- the value of the newest variable of this number; by default 0
abbrev pub value_at : ℕ → NormEnv → Value
value_at x [] = Number (pos 0)
value_at x (b ∷ env) = cond (nat_eq x b.0) b.1 (value_at x env)

abbrev pub values_at : List ℕ → NormEnv → List Value
values_at [] env = []
values_at (x ∷ xs) env = value_at x env ∷ values_at xs env

-- the variables get the values in order
abbrev pub bind_norm : NormEnv → List ℕ → List Value → NormEnv
bind_norm env (x ∷ xs) (v ∷ vs) = bind_norm ((x, v) ∷ env) xs vs
bind_norm env _ _ = env

-- so much work, and then the run
abbrev pub spend : {A : Type 0} → ℕ → Run A → Run A
spend n r = record { out = r.out; ticks = r.ticks; cells = r.cells; work = n + r.work }

-- what a call of the function at a place with some arguments gives
abbrev pub NormCalls : Type 0
NormCalls = ℕ → List Value → Run Value

-- The evaluation of a form, over what calls give. The nodes of a form are work when it is reached.
abbrev pub walk_norm : NormCalls → n.Norm → NormEnv → Run Value
walk_norm call (n.Var k x) env = spend k (done (value_at x env))
walk_norm call (n.Number k i) env = spend k (done (Number i))
walk_norm call (n.Truth k b) env = spend k (done (Truth b))
walk_norm call (n.Nil k) env = spend k (done Empty)
walk_norm call (n.Leaf k) env = spend k (done Empty)
walk_norm call (n.Nothing k) env = spend k (done Empty)
walk_norm call (n.Arith k op x y) env = spend k (done (arith op (value_at x env) (value_at y env)))
walk_norm call (n.Compare k op x y) env = spend k (done (compare op (value_at x env) (value_at y env)))
walk_norm call (n.Not k x) env = spend k (done (negation (value_at x env)))
walk_norm call (n.Pair k x y) env = spend k (new_cell (Both (value_at x env) (value_at y env)))
walk_norm call (n.Cons k x y) env = spend k (new_cell (Cons (value_at x env) (value_at y env)))
walk_norm call (n.Node k x y z) env = spend k (new_cell (Node (value_at x env) (value_at y env) (value_at z env)))
walk_norm call (n.Just k x) env = spend k (new_cell (Just (value_at x env)))
walk_norm call (n.Call k f xs) env = spend k (call f (values_at xs env))
walk_norm call (n.Let k x A a b) env = spend k (and_then (walk_norm call a env) (λ v. walk_norm call b ((x, v) ∷ env)))
walk_norm call (n.Split k x p q a) env = spend k (pair_case (value_at x env) cut (λ v w. walk_norm call a ((q, w) ∷ (p, v) ∷ env)))
walk_norm call (n.If k x a b) env = spend k (branch (value_at x env) (walk_norm call a env) (walk_norm call b env))
walk_norm call (n.CaseList k x a h t b) env =
    spend k (list_case (value_at x env) (walk_norm call a env) (λ v w. walk_norm call b ((t, w) ∷ (h, v) ∷ env)))
walk_norm call (n.CaseTree k x a h l r b) env =
    spend k (tree_case (value_at x env) (walk_norm call a env) (λ u v w. walk_norm call b ((r, w) ∷ (l, v) ∷ (h, u) ∷ env)))
walk_norm call (n.CaseOption k x a w b) env =
    spend k (option_case (value_at x env) (walk_norm call a env) (λ v. walk_norm call b ((w, v) ∷ env)))
walk_norm call (n.Tick k i a) env = spend k (costs i 0 0 (walk_norm call a env))
walk_norm call (n.Share k x p q a) env = spend k (walk_norm call a ((q, value_at x env) ∷ (p, value_at x env) ∷ env))
walk_norm call (n.Drop k x a) env = spend k (walk_norm call a env)

-- the same with one less of work
abbrev pub less_one : {A : Type 0} → Run A → Run A
less_one r = record { out = r.out; ticks = r.ticks; cells = r.cells; work = r.work - 1 }

abbrev pub variables_of : NormFun → List ℕ
variables_of g = map (λ (p : ℕ × Type'). p.0) g.params

-- a body's evaluation at a call; by default there is nothing to run
abbrev pub enter_norm : (n.Norm → NormEnv → Run Value) → Option NormFun → List Value → Run Value
enter_norm run None vs = cut
enter_norm run (Some g) vs = less_one (run g.body (bind_norm [] (variables_of g) vs))

-- a call is cut at limit 0; at a greater limit the body runs at one less
abbrev pub norm_calls_at : NormProg → ℕ → NormCalls
norm_calls_at N zero f vs = cut
norm_calls_at N (suc m) f vs = enter_norm (walk_norm (norm_calls_at N m)) (slice_get N f) vs

abbrev pub eval_norm : NormProg → ℕ → NormEnv → n.Norm → Run Value
eval_norm N m env e = walk_norm (norm_calls_at N m) e env

-- the run of a function on arguments at a limit
abbrev pub run_norm : NormProg → NormFun → List Value → ℕ → Run Value
run_norm N g vs m = eval_norm N m (bind_norm [] (variables_of g) vs) g.body

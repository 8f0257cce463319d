-- A program in which prices are written out costs what the program costs under the prices.
use Rattle.std.proofs.Common.{◌≡◌, ◌+◌, ℕ, zero, suc, List, [], ◌∷◌, Bool, true, false, cond, Option, Some, None, refl, sym, ap, subst, arith, eqb-true}
use Rattle.std.specs.Prelude.{nat_eq}
use Rattle.std.specs.Option.{option_map}
use Rattle.std.specs.Str.{bytes_eq}
use Rattle.raml_syntax.specs.Tree as t
use Rattle.raml_syntax.specs.Tree.{Text, Bound, Function, Prog}
use Rattle.raml_syntax.specs.Value.{Value, Number, Truth, Both, Empty, Cons, Node, Just}
use Rattle.raml_syntax.specs.Eval.{Run, done, cut, costs, goes_on, and_then, node, new_cell, Env, look, arith as result_of, compare, negation, branch, pair_case, list_case, tree_case, option_case, Calls, walk, walk_all, find, names_of, bind_all, enter, calls_at}
use Rattle.price_file.specs.Construct as c
use Rattle.price_file.specs.Construct.{Prices}
use Rattle.price_file.specs.Priced as priced
use Rattle.price_file.specs.Applied.{behind_ticks, applied, applied_all, applied_function, applied_program}
use Rattle.price_file.specs.Laws.{CostSame, AppliedCostsPrices}

same_run : {A : Type 0} (r : Run A) → CostSame r r
same_run r = record { out = refl; ticks = refl; cells = refl }

same_costs : {A : Type 0} (ticks cells i j : ℕ) (r s : Run A) → CostSame r s → CostSame (costs ticks cells i r) (costs ticks cells j s)
same_costs ticks cells i j r s h = record { out = h.out; ticks = ap (λ n. ticks + n) h.ticks; cells = ap (λ n. cells + n) h.cells }

same_goes : {A B : Type 0} (o : Option A) (f g : A → Run B) → ((v : A) → CostSame (f v) (g v)) → CostSame (goes_on o f) (goes_on o g)
same_goes None f g k = same_run _
same_goes (Some v) f g k = k v

same_then : {A B : Type 0} (r s : Run A) (f g : A → Run B) → CostSame r s → ((v : A) → CostSame (f v) (g v)) → CostSame (and_then r f) (and_then s g)
same_then r s f g h k =
    let q : CostSame (goes_on r.out f) (goes_on s.out g) = subst (λ o. CostSame (goes_on r.out f) (goes_on o g)) h.out (same_goes r.out f g k) in
    record { out = q.out; ticks = omega (arith, h.ticks, q.ticks); cells = omega (arith, h.cells, q.cells) }

same_two : {A B C : Type 0} (r s : Run A) (u w : Run B) (f : A → B → Run C) → CostSame r s → CostSame u w → CostSame (and_then r (λ v. and_then u (f v))) (and_then s (λ v. and_then w (f v)))
same_two r s u w f h k = same_then r s _ _ h (λ v. same_then u w (f v) (f v) k (λ x. same_run _))

same_branch : {A : Type 0} (v : Value) (a b d e : Run A) → CostSame a d → CostSame b e → CostSame (branch v a b) (branch v d e)
same_branch (Truth true) a b d e h k = h
same_branch _ a b d e h k = k

same_pair : {A : Type 0} (v : Value) (a d : Run A) (f g : Value → Value → Run A) → CostSame a d → ((x y : Value) → CostSame (f x y) (g x y)) → CostSame (pair_case v a f) (pair_case v d g)
same_pair (Both x y) a d f g h k = k x y
same_pair _ a d f g h k = h

same_list : {A : Type 0} (v : Value) (a d : Run A) (f g : Value → Value → Run A) → CostSame a d → ((x y : Value) → CostSame (f x y) (g x y)) → CostSame (list_case v a f) (list_case v d g)
same_list (Cons x y) a d f g h k = k x y
same_list _ a d f g h k = h

same_tree : {A : Type 0} (v : Value) (a d : Run A) (f g : Value → Value → Value → Run A) → CostSame a d → ((x y z : Value) → CostSame (f x y z) (g x y z)) → CostSame (tree_case v a f) (tree_case v d g)
same_tree (Node x y z) a d f g h k = k x y z
same_tree _ a d f g h k = h

same_option : {A : Type 0} (v : Value) (a d : Run A) (f g : Value → Run A) → CostSame a d → ((x : Value) → CostSame (f x) (g x)) → CostSame (option_case v a f) (option_case v d g)
same_option (Just x) a d f g h k = k x
same_option _ a d f g h k = h

-- a node behind its price
same_paid : (k p : ℕ) (call : Calls) (e : t.Term) (env : Env) {r s : Run Value} → CostSame r s → walk call e env ≡ node r → CostSame (walk call (behind_ticks k p e) env) (costs k 0 1 s)
same_paid k p call e env {r = r} {s = s} h q = by (nat_eq k 0) (eqb-true k 0)
  where
    first : CostSame (walk call e env) (node s)
    first = subst (λ (x : Run Value). CostSame x (node s)) (sym q) (same_costs 0 0 1 1 r s h)

    by : (b : Bool) → (b ≡ true → k ≡ 0) → CostSame (walk call (cond b e (t.Tick p k e)) env) (costs k 0 1 s)
    by true none = let z : k ≡ 0 = none refl in record { out = first.out; ticks = omega (arith, z, first.ticks); cells = first.cells }
    by false none = record { out = first.out; ticks = omega (arith, first.ticks); cells = omega (arith, first.cells) }

module _ (prices : Prices) (call under : Calls) (same : (f : Text) (vs : List Value) → CostSame (call f vs) (under f vs)) where
  mutual
    walk_same : (e : t.Term) (env : Env) → CostSame (walk call (applied prices e) env) (priced.walk prices under e env)
    walk_same (t.Number p n) env = same_paid (prices c.Number) p call (t.Number p n) env (same_run (done (Number n))) refl
    walk_same (t.Truth p b) env = same_paid (prices c.Truth) p call (t.Truth p b) env (same_run (done (Truth b))) refl
    walk_same (t.Nil p) env = same_paid (prices c.Nil) p call (t.Nil p) env (same_run (done Empty)) refl
    walk_same (t.Leaf p) env = same_paid (prices c.Leaf) p call (t.Leaf p) env (same_run (done Empty)) refl
    walk_same (t.Nothing p) env = same_paid (prices c.Nothing) p call (t.Nothing p) env (same_run (done Empty)) refl
    walk_same (t.Var p x) env = same_paid (prices c.Var) p call (t.Var p x) env (same_run (done (look x env))) refl
    walk_same (t.Arith p o a b) env =
        same_paid (prices c.Arith) p call (t.Arith p o (applied prices a) (applied prices b)) env
        (same_two _ _ _ _ (λ v w. done (result_of o v w)) (walk_same a env) (walk_same b env)) refl
    walk_same (t.Compare p o a b) env =
        same_paid (prices c.Compare) p call (t.Compare p o (applied prices a) (applied prices b)) env
        (same_two _ _ _ _ (λ v w. done (compare o v w)) (walk_same a env) (walk_same b env)) refl
    walk_same (t.Not p a) env =
        same_paid (prices c.Not) p call (t.Not p (applied prices a)) env
        (same_then _ _ (λ v. done (negation v)) (λ v. done (negation v)) (walk_same a env) (λ v. same_run _)) refl
    walk_same (t.Pair p a b) env =
        same_paid (prices c.Pair) p call (t.Pair p (applied prices a) (applied prices b)) env
        (same_two _ _ _ _ (λ v w. new_cell (Both v w)) (walk_same a env) (walk_same b env)) refl
    walk_same (t.Cons p a b) env =
        same_paid (prices c.Cons) p call (t.Cons p (applied prices a) (applied prices b)) env
        (same_two _ _ _ _ (λ v w. new_cell (Cons v w)) (walk_same a env) (walk_same b env)) refl
    walk_same (t.Node p a b d) env =
        same_paid (prices c.Node) p call (t.Node p (applied prices a) (applied prices b) (applied prices d)) env
        (same_then _ _ (λ u. and_then (walk call (applied prices b) env) (λ v. and_then (walk call (applied prices d) env) (λ w. new_cell (Node u v w))))
        (λ u. and_then (priced.walk prices under b env) (λ v. and_then (priced.walk prices under d env) (λ w. new_cell (Node u v w))))
        (walk_same a env) (λ u. same_two _ _ _ _ (λ v w. new_cell (Node u v w)) (walk_same b env) (walk_same d env))) refl
    walk_same (t.Just p a) env =
        same_paid (prices c.Just) p call (t.Just p (applied prices a)) env
        (same_then _ _ (λ v. new_cell (Just v)) (λ v. new_cell (Just v)) (walk_same a env) (λ v. same_run _)) refl
    walk_same (t.Call p f args) env =
        same_paid (prices c.Call) p call (t.Call p f (applied_all prices args)) env (same_then _ _ (call f) (under f) (all_same args env) (same f)) refl
    walk_same (t.Let p x a b) env =
        same_paid (prices c.Let) p call (t.Let p x (applied prices a) (applied prices b)) env
        (same_then _ _ (λ v. walk call (applied prices b) ((x.name, v) ∷ env)) (λ v. priced.walk prices under b ((x.name, v) ∷ env))
        (walk_same a env) (λ v. walk_same b ((x.name, v) ∷ env))) refl
    walk_same (t.LetPair p x y a b) env =
        same_paid (prices c.Let) p call (t.LetPair p x y (applied prices a) (applied prices b)) env
        (same_then _ _ (λ v. pair_case v cut (λ s r. walk call (applied prices b) ((y.name, r) ∷ (x.name, s) ∷ env)))
        (λ v. pair_case v cut (λ s r. priced.walk prices under b ((y.name, r) ∷ (x.name, s) ∷ env)))
        (walk_same a env) (λ v. same_pair v _ _ _ _ (same_run _) (λ s r. walk_same b ((y.name, r) ∷ (x.name, s) ∷ env)))) refl
    walk_same (t.If p d a b) env =
        same_paid (prices c.If) p call (t.If p (applied prices d) (applied prices a) (applied prices b)) env
        (same_then _ _ (λ v. branch v (walk call (applied prices a) env) (walk call (applied prices b) env))
        (λ v. branch v (priced.walk prices under a env) (priced.walk prices under b env))
        (walk_same d env) (λ v. same_branch v _ _ _ _ (walk_same a env) (walk_same b env))) refl
    walk_same (t.MatchList p d a x y b) env =
        same_paid (prices c.Match) p call (t.MatchList p (applied prices d) (applied prices a) x y (applied prices b)) env
        (same_then _ _ (λ v. list_case v (walk call (applied prices a) env) (λ h r. walk call (applied prices b) ((y.name, r) ∷ (x.name, h) ∷ env)))
        (λ v. list_case v (priced.walk prices under a env) (λ h r. priced.walk prices under b ((y.name, r) ∷ (x.name, h) ∷ env)))
        (walk_same d env) (λ v. same_list v _ _ _ _ (walk_same a env) (λ h r. walk_same b ((y.name, r) ∷ (x.name, h) ∷ env)))) refl
    walk_same (t.MatchTree p d a x y z b) env =
        same_paid (prices c.Match) p call (t.MatchTree p (applied prices d) (applied prices a) x y z (applied prices b)) env
        (same_then _ _ (λ v. tree_case v (walk call (applied prices a) env) (λ e l r. walk call (applied prices b) ((z.name, r) ∷ (y.name, l) ∷ (x.name, e) ∷ env)))
        (λ v. tree_case v (priced.walk prices under a env) (λ e l r. priced.walk prices under b ((z.name, r) ∷ (y.name, l) ∷ (x.name, e) ∷ env)))
        (walk_same d env) (λ v. same_tree v _ _ _ _ (walk_same a env) (λ e l r. walk_same b ((z.name, r) ∷ (y.name, l) ∷ (x.name, e) ∷ env)))) refl
    walk_same (t.MatchOption p d a x b) env =
        same_paid (prices c.Match) p call (t.MatchOption p (applied prices d) (applied prices a) x (applied prices b)) env
        (same_then _ _ (λ v. option_case v (walk call (applied prices a) env) (λ w. walk call (applied prices b) ((x.name, w) ∷ env)))
        (λ v. option_case v (priced.walk prices under a env) (λ w. priced.walk prices under b ((x.name, w) ∷ env)))
        (walk_same d env) (λ v. same_option v _ _ _ _ (walk_same a env) (λ w. walk_same b ((x.name, w) ∷ env)))) refl
    walk_same (t.Tick p k a) env =
        same_paid (prices c.Tick) p call (t.Tick p k (applied prices a)) env (same_costs k 0 0 0 _ _ (walk_same a env)) refl
    walk_same (t.Typed p a A) env = walk_same a env

    all_same : (es : t.Terms) (env : Env) → CostSame (walk_all call (applied_all prices es) env) (priced.walk_all prices under es env)
    all_same t.None env = same_run _
    all_same (t.More a rest) env =
        same_then _ _ (λ v. and_then (walk_all call (applied_all prices rest) env) (λ vs. done (v ∷ vs)))
        (λ v. and_then (priced.walk_all prices under rest env) (λ vs. done (v ∷ vs)))
        (walk_same a env) (λ v. same_then _ _ (λ vs. done (v ∷ vs)) (λ vs. done (v ∷ vs)) (all_same rest env) (λ vs. same_run _))

-- a function is found where it was
pub find_applied : (prices : Prices) (P : Prog) (f : Text) → find f (applied_program prices P) ≡ option_map (applied_function prices) (find f P)
find_applied prices [] f = refl
find_applied prices (g ∷ P) f = by (find_applied prices P f) (bytes_eq f g.name)
  where
    by : find f (applied_program prices P) ≡ option_map (applied_function prices) (find f P) → (b : Bool) → cond b (Some (applied_function prices g)) (find f (applied_program prices P)) ≡ option_map (applied_function prices) (cond b (Some g) (find f P))
    by later true = refl
    by later false = later

enter_same : (prices : Prices) (run under : t.Term → Env → Run Value) → ((e : t.Term) (env : Env) → CostSame (run (applied prices e) env) (under e env)) → (o : Option Function) (vs : List Value) → CostSame (enter run (option_map (applied_function prices) o) vs) (enter under o vs)
enter_same prices run under h None vs = same_run _
enter_same prices run under h (Some g) vs = h g.body (bind_all [] (names_of g) vs)

calls_same : (prices : Prices) (P : Prog) (n : ℕ) (f : Text) (vs : List Value) → CostSame (calls_at (applied_program prices P) n f vs) (priced.calls_at prices P n f vs)
calls_same prices P zero f vs = same_run _
calls_same prices P (suc n) f vs =
    let run = walk (calls_at (applied_program prices P) n) in
    let under = priced.walk prices (priced.calls_at prices P n) in
    subst (λ o. CostSame (enter run o vs) (enter under (find f P) vs)) (sym (find_applied prices P f))
    (enter_same prices run under (walk_same prices (calls_at (applied_program prices P) n) (priced.calls_at prices P n) (calls_same prices P n)) (find f P) vs)

pub costs_prices : AppliedCostsPrices
costs_prices prices P = record {
  expressions = λ n env e. walk_same prices _ _ (calls_same prices P n) e env;
  runs = λ n g args. same_costs 0 0 1 1 _ _ (walk_same prices _ _ (calls_same prices P n) g.body (bind_all [] (names_of g) args));
  functions = find_applied prices P;
}

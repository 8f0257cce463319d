-- Costs do not fall where the limit grows, and a value stays.
use Rattle.std.proofs.Common.{◌≡◌, ◌≤◌, ℕ, zero, suc, List, true, Option, Some, None, refl, sym, ap, subst, ◌∙◌, ⊎_elim, arith}
use Rattle.std.proofs.lemmas.Bool.{cases_lt}
use Rattle.std.specs.Prelude.{[], ◌∷◌}
use Rattle.raml_syntax.specs.Tree as t
use Rattle.raml_syntax.specs.Tree.{Text, Bound, Function, Prog}
use Rattle.raml_syntax.specs.Value.{Value, Truth, Both, Cons, Node, Just}
use Rattle.raml_syntax.specs.Eval.{Run, cut, costs, goes_on, and_then, Env, branch, pair_case, list_case, tree_case, option_case, Calls, walk, walk_all, find, names_of, bind_all, enter, calls_at}
use Rattle.raml_syntax.specs.Laws.{Grows, CostsGrowWithLimit}

grows_same : {A : Type 0} (r : Run A) → Grows r r
grows_same r = record { ticks = omega arith; cells = omega arith; work = omega arith; same = λ v e. refl }

grows_costs : {A : Type 0} (i j k : ℕ) (r s : Run A) → Grows r s → Grows (costs i j k r) (costs i j k s)
grows_costs i j k r s h = record {
  ticks = omega (arith, h.ticks);
  cells = omega (arith, h.cells);
  work = omega (arith, h.work);
  same = λ v e. ap (costs i j k) (h.same v e);
}

grows_node : {A : Type 0} {r s : Run A} → Grows r s → Grows (costs 0 0 1 r) (costs 0 0 1 s)
grows_node h = grows_costs 0 0 1 _ _ h

grows_then : {A B : Type 0} (r s : Run A) (f g : A → Run B) → Grows r s → ((v : A) → Grows (f v) (g v)) → Grows (and_then r f) (and_then s g)
grows_then {A} {B} r s f g h k = at r.out refl
  where
    at : (o : Option A) → r.out ≡ o → Grows (costs r.ticks r.cells r.work (goes_on o f)) (and_then s g)
    at None e = record {
      ticks = omega (arith, h.ticks);
      cells = omega (arith, h.cells);
      work = omega (arith, h.work);
      same = λ v e. cc;
    }
    at (Some v) e =
        let same : s ≡ r = h.same v e in
        let out : s.out ≡ Some v = ap (λ (x : Run A). x.out) same ∙ e in
        subst (λ (x : Run A). Grows (costs r.ticks r.cells r.work (f v)) (costs x.ticks x.cells x.work (goes_on x.out g))) (sym same)
        (subst (λ (o : Option A). Grows (costs r.ticks r.cells r.work (f v)) (costs r.ticks r.cells r.work (goes_on o g))) (sym e)
        (grows_costs r.ticks r.cells r.work (f v) (g v) (k v)))

grows_two : {A B C : Type 0} (r s : Run A) (u w : Run B) (f : A → B → Run C) → Grows r s → Grows u w → Grows (and_then r (λ v. and_then u (f v))) (and_then s (λ v. and_then w (f v)))
grows_two r s u w f h k = grows_then _ _ _ _ h (λ v. grows_then _ _ _ _ k (λ x. grows_same _))

grows_branch : {A : Type 0} (v : Value) (a b c d : Run A) → Grows a c → Grows b d → Grows (branch v a b) (branch v c d)
grows_branch (Truth true) a b c d h k = h
grows_branch _ a b c d h k = k

grows_pair : {A : Type 0} (v : Value) (a c : Run A) (f g : Value → Value → Run A) → Grows a c → ((x y : Value) → Grows (f x y) (g x y)) → Grows (pair_case v a f) (pair_case v c g)
grows_pair (Both x y) a c f g h k = k x y
grows_pair _ a c f g h k = h

grows_list : {A : Type 0} (v : Value) (a c : Run A) (f g : Value → Value → Run A) → Grows a c → ((x y : Value) → Grows (f x y) (g x y)) → Grows (list_case v a f) (list_case v c g)
grows_list (Cons x y) a c f g h k = k x y
grows_list _ a c f g h k = h

grows_tree : {A : Type 0} (v : Value) (a c : Run A) (f g : Value → Value → Value → Run A) → Grows a c → ((x y z : Value) → Grows (f x y z) (g x y z)) → Grows (tree_case v a f) (tree_case v c g)
grows_tree (Node x y z) a c f g h k = k x y z
grows_tree _ a c f g h k = h

grows_option : {A : Type 0} (v : Value) (a c : Run A) (f g : Value → Run A) → Grows a c → ((x : Value) → Grows (f x) (g x)) → Grows (option_case v a f) (option_case v c g)
grows_option (Just x) a c f g h k = k x
grows_option _ a c f g h k = h

-- two ways to call, of which the second costs no less
abbrev CallsGrow : Calls → Calls → Type 0
CallsGrow c d = (f : Text) (vs : List Value) → Grows (c f vs) (d f vs)

module _ (c d : Calls) (grow : CallsGrow c d) where
  mutual
    walk_grows : (e : t.Term) (env : Env) → Grows (walk c e env) (walk d e env)
    walk_grows (t.Number p n) env = grows_same _
    walk_grows (t.Truth p b) env = grows_same _
    walk_grows (t.Nil p) env = grows_same _
    walk_grows (t.Leaf p) env = grows_same _
    walk_grows (t.Nothing p) env = grows_same _
    walk_grows (t.Var p x) env = grows_same _
    walk_grows (t.Arith p o a b) env = grows_node (grows_two _ _ _ _ _ (walk_grows a env) (walk_grows b env))
    walk_grows (t.Compare p o a b) env = grows_node (grows_two _ _ _ _ _ (walk_grows a env) (walk_grows b env))
    walk_grows (t.Not p a) env = grows_node (grows_then _ _ _ _ (walk_grows a env) (λ v. grows_same _))
    walk_grows (t.Pair p a b) env = grows_node (grows_two _ _ _ _ _ (walk_grows a env) (walk_grows b env))
    walk_grows (t.Cons p a b) env = grows_node (grows_two _ _ _ _ _ (walk_grows a env) (walk_grows b env))
    walk_grows (t.Node p a b e) env = grows_node (grows_then _ _ _ _ (walk_grows a env) (λ v. grows_two _ _ _ _ _ (walk_grows b env) (walk_grows e env)))
    walk_grows (t.Just p a) env = grows_node (grows_then _ _ _ _ (walk_grows a env) (λ v. grows_same _))
    walk_grows (t.Call p f args) env = grows_node (grows_then _ _ _ _ (all_grow args env) (grow f))
    walk_grows (t.Let p x a b) env = grows_node (grows_then _ _ _ _ (walk_grows a env) (λ v. walk_grows b ((x.name, v) ∷ env)))
    walk_grows (t.LetPair p x y a b) env =
        grows_node (grows_then _ _ _ _ (walk_grows a env) (λ v. grows_pair v _ _ _ _ (grows_same _) (λ s r. walk_grows b ((y.name, r) ∷ (x.name, s) ∷ env))))
    walk_grows (t.If p i a b) env =
        grows_node (grows_then _ _ _ _ (walk_grows i env) (λ v. grows_branch v _ _ _ _ (walk_grows a env) (walk_grows b env)))
    walk_grows (t.MatchList p i a x y b) env =
        grows_node (grows_then _ _ _ _ (walk_grows i env) (λ v. grows_list v _ _ _ _ (walk_grows a env) (λ h r. walk_grows b ((y.name, r) ∷ (x.name, h) ∷ env))))
    walk_grows (t.MatchTree p i a x y z b) env =
        grows_node (grows_then _ _ _ _ (walk_grows i env) (λ v. grows_tree v _ _ _ _ (walk_grows a env) (λ e l r. walk_grows b ((z.name, r) ∷ (y.name, l) ∷ (x.name, e) ∷ env))))
    walk_grows (t.MatchOption p i a x b) env =
        grows_node (grows_then _ _ _ _ (walk_grows i env) (λ v. grows_option v _ _ _ _ (walk_grows a env) (λ w. walk_grows b ((x.name, w) ∷ env))))
    walk_grows (t.Tick p k a) env = grows_node (grows_costs k 0 0 _ _ (walk_grows a env))
    walk_grows (t.Typed p a A) env = walk_grows a env

    all_grow : (es : t.Terms) (env : Env) → Grows (walk_all c es env) (walk_all d es env)
    all_grow t.None env = grows_same _
    all_grow (t.More a rest) env = grows_then _ _ _ _ (walk_grows a env) (λ v. grows_then _ _ _ _ (all_grow rest env) (λ vs. grows_same _))

cut_grows : {A : Type 0} (r : Run A) → Grows cut r
cut_grows r = record { ticks = omega arith; cells = omega arith; work = omega arith; same = λ v e. cc }

enter_grows : (f g : t.Term → Env → Run Value) → ((e : t.Term) (env : Env) → Grows (f e env) (g e env)) → (o : Option Function) (vs : List Value) → Grows (enter f o vs) (enter g o vs)
enter_grows f g h None vs = grows_same _
enter_grows f g h (Some d) vs = h d.body (bind_all [] (names_of d) vs)

calls_grow_one : (P : Prog) (n : ℕ) → CallsGrow (calls_at P n) (calls_at P (suc n))
calls_grow_one P zero f vs = cut_grows _
calls_grow_one P (suc n) f vs = enter_grows _ _ (λ e env. walk_grows _ _ (calls_grow_one P n) e env) (find f P) vs

grows_trans : {A : Type 0} (r s u : Run A) → Grows r s → Grows s u → Grows r u
grows_trans {A} r s u h k = record {
  ticks = omega (arith, h.ticks, k.ticks);
  cells = omega (arith, h.cells, k.cells);
  work = omega (arith, h.work, k.work);
  same = λ v e. let sr = h.same v e in k.same v (ap (λ (x : Run A). x.out) sr ∙ e) ∙ sr;
}

calls_grow : (P : Prog) (m n : ℕ) → m ≤ n → CallsGrow (calls_at P m) (calls_at P n)
calls_grow P m zero le f vs = let z : m ≡ zero = omega arith in rw z (grows_same _)
calls_grow P m (suc n) le f vs =
    ⊎_elim
    (λ lt. grows_trans _ _ _ (calls_grow P m n (omega arith) f vs) (calls_grow_one P n f vs))
    (λ ge. let z : m ≡ suc n = omega arith in rw z (grows_same _))
    (cases_lt m (suc n))

pub costs_grow : CostsGrowWithLimit
costs_grow P = record {
  expressions = λ m n le env e. walk_grows _ _ (calls_grow P m n le) e env;
  runs = λ m n le g args. grows_node (walk_grows _ _ (calls_grow P m n le) g.body (bind_all [] (names_of g) args));
}

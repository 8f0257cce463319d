-- Evaluations beside those of normal forms.
use Rattle.std.proofs.Common.{◌≡◌, ◌+◌, ℕ, true, Option, Some, None, refl, sym, subst, ◌∙◌, arith}
use Rattle.raml_syntax.specs.Value.{Value, Truth, Both, Cons, Node, Just}
use Rattle.raml_syntax.specs.Eval.{Run, costs, goes_on, and_then, node, branch, pair_case, list_case, tree_case, option_case}
use Rattle.normal_spec.specs.Norm as n
use Rattle.normal_spec.specs.Norm.{carries}
use Rattle.normal_spec.specs.Run.{NormEnv, NormCalls, spend, walk_norm}
use Rattle.normal_spec.specs.Laws.{Ahead}

pub run_is : {A : Type 0} (o : Option A) (t u v t' u' v' : ℕ) → t ≡ t' → u ≡ u' → v ≡ v' → ◌≡◌ {A = Run A} (record { out = o; ticks = t; cells = u; work = v }) (record { out = o; ticks = t'; cells = u'; work = v' })
run_is o t u v t' u' v' p q r = λ i. record { out = o; ticks = p i; cells = q i; work = r i }

pub spend_spend : {A : Type 0} (m n : ℕ) (r : Run A) → spend (m + n) r ≡ spend m (spend n r)
spend_spend m n r = run_is _ _ _ _ _ _ _ refl refl (omega arith)

pub spend_none : {A : Type 0} (r : Run A) → spend 0 r ≡ r
spend_none r = run_is _ _ _ _ _ _ _ refl refl (omega arith)

pub walk_carries : (call : NormCalls) (m : ℕ) (e : n.Norm) (env : NormEnv) → walk_norm call (carries m e) env ≡ spend m (walk_norm call e env)
walk_carries call m (n.Var k x) env = run_is _ _ _ _ _ _ _ refl refl (omega arith)
walk_carries call m (n.Number k i) env = run_is _ _ _ _ _ _ _ refl refl (omega arith)
walk_carries call m (n.Truth k b) env = run_is _ _ _ _ _ _ _ refl refl (omega arith)
walk_carries call m (n.Nil k) env = run_is _ _ _ _ _ _ _ refl refl (omega arith)
walk_carries call m (n.Leaf k) env = run_is _ _ _ _ _ _ _ refl refl (omega arith)
walk_carries call m (n.Nothing k) env = run_is _ _ _ _ _ _ _ refl refl (omega arith)
walk_carries call m (n.Arith k op x y) env = run_is _ _ _ _ _ _ _ refl refl (omega arith)
walk_carries call m (n.Compare k op x y) env = run_is _ _ _ _ _ _ _ refl refl (omega arith)
walk_carries call m (n.Not k x) env = run_is _ _ _ _ _ _ _ refl refl (omega arith)
walk_carries call m (n.Pair k x y) env = run_is _ _ _ _ _ _ _ refl refl (omega arith)
walk_carries call m (n.Cons k x y) env = run_is _ _ _ _ _ _ _ refl refl (omega arith)
walk_carries call m (n.Node k x y z) env = run_is _ _ _ _ _ _ _ refl refl (omega arith)
walk_carries call m (n.Just k x) env = run_is _ _ _ _ _ _ _ refl refl (omega arith)
walk_carries call m (n.Call k f xs) env = run_is _ _ _ _ _ _ _ refl refl (omega arith)
walk_carries call m (n.Let k x A a b) env = run_is _ _ _ _ _ _ _ refl refl (omega arith)
walk_carries call m (n.Split k x p q a) env = run_is _ _ _ _ _ _ _ refl refl (omega arith)
walk_carries call m (n.If k x a b) env = run_is _ _ _ _ _ _ _ refl refl (omega arith)
walk_carries call m (n.CaseList k x a h t b) env = run_is _ _ _ _ _ _ _ refl refl (omega arith)
walk_carries call m (n.CaseTree k x a h l r b) env = run_is _ _ _ _ _ _ _ refl refl (omega arith)
walk_carries call m (n.CaseOption k x a w b) env = run_is _ _ _ _ _ _ _ refl refl (omega arith)
walk_carries call m (n.Tick k i a) env = run_is _ _ _ _ _ _ _ refl refl (omega arith)
walk_carries call m (n.Share k x p q a) env = run_is _ _ _ _ _ _ _ refl refl (omega arith)
walk_carries call m (n.Drop k x a) env = run_is _ _ _ _ _ _ _ refl refl (omega arith)

pub ahead_same : {A : Type 0} (r : Run A) → Ahead 0 r r
ahead_same r = record { out = refl; ticks = refl; cells = refl; at_least = omega arith; same = λ v e. omega arith }

pub ahead_is : {A : Type 0} (n : ℕ) (r s s' : Run A) → s' ≡ s → Ahead n r s → Ahead n r s'
ahead_is n r s s' e h = subst (Ahead n r) (sym e) h

-- work alone, and no costs
spend_costs : {A : Type 0} (n : ℕ) (r : Run A) → spend n r ≡ costs 0 0 n r
spend_costs n r = run_is _ _ _ _ _ _ _ (omega arith) (omega arith) refl

costs_none : {A : Type 0} (r : Run A) → r ≡ costs 0 0 0 r
costs_none r = run_is _ _ _ _ _ _ _ (omega arith) (omega arith) (omega arith)

-- costs on both sides, with as much work more on the left as the lead grows
ahead_by : {A : Type 0} (n m i j a b : ℕ) (r s : Run A) → a + n ≡ m + b → Ahead n r s → Ahead m (costs i j a r) (costs i j b s)
ahead_by n m i j a b r s e h = record {
  out = h.out;
  ticks = omega (arith, h.ticks);
  cells = omega (arith, h.cells);
  at_least = omega (arith, e, h.at_least);
  same = λ v q. omega (arith, e, h.same v q);
}

-- the node of the source, and what its form carries
pub ahead_node : {A : Type 0} (n : ℕ) (r s : Run A) → Ahead n r s → Ahead 0 (node r) (spend (1 + n) s)
ahead_node n r s h = ahead_is 0 (node r) (costs 0 0 (1 + n) s) (spend (1 + n) s) (spend_costs (1 + n) s) (ahead_by n 0 0 0 1 (1 + n) r s (omega arith) h)

-- a part that the form has paid
pub ahead_paid : {A : Type 0} (n : ℕ) (r s : Run A) → Ahead n r s → Ahead (1 + n) (costs 0 0 1 r) s
ahead_paid n r s h = ahead_is (1 + n) (costs 0 0 1 r) (costs 0 0 0 s) s (costs_none s) (ahead_by n (1 + n) 0 0 1 0 r s (omega arith) h)

pub ahead_costs : {A : Type 0} (n i j k : ℕ) (r s : Run A) → Ahead n r s → Ahead n (costs i j k r) (costs i j k s)
ahead_costs n i j k r s h = ahead_by n n i j k k r s (omega arith) h

pub ahead_none : {A : Type 0} (n : ℕ) (r s : Run A) → Ahead n r s → Ahead n r (spend 0 s)
ahead_none n r s h = ahead_is n r s (spend 0 s) (spend_none s) h

pub ahead_left : {A : Type 0} (n : ℕ) (r s : Run A) → Ahead n r s → Ahead n (costs 0 0 0 r) s
ahead_left n r s h = ahead_is n (costs 0 0 0 r) (costs 0 0 0 s) s (costs_none s) (ahead_by n n 0 0 0 0 r s (omega arith) h)

pub ahead_then : {A B : Type 0} (n : ℕ) (r s : Run A) (f g : A → Run B) → Ahead 0 r s → ((v : A) → Ahead n (f v) (g v)) → Ahead n (and_then r f) (and_then s g)
ahead_then {A} {B} n r s f g h k = at r.out refl
  where
    at : (o : Option A) → r.out ≡ o → Ahead n (costs r.ticks r.cells r.work (goes_on o f)) (and_then s g)
    at None e =
        let out : s.out ≡ None = h.out ∙ e in
        subst (λ (o : Option A). Ahead n (costs r.ticks r.cells r.work (goes_on None f)) (costs s.ticks s.cells s.work (goes_on o g))) (sym out)
        (record {
          out = refl;
          ticks = omega (arith, h.ticks);
          cells = omega (arith, h.cells);
          at_least = omega (arith, h.at_least);
          same = λ v e. absurd (cc);
        })
    at (Some v) e =
        let out : s.out ≡ Some v = h.out ∙ e in
        let next = k v in
        let work : r.work ≡ 0 + s.work = h.same v e in
        subst (λ (o : Option A). Ahead n (costs r.ticks r.cells r.work (f v)) (costs s.ticks s.cells s.work (goes_on o g))) (sym out)
        (record {
          out = next.out;
          ticks = omega (arith, h.ticks, next.ticks);
          cells = omega (arith, h.cells, next.cells);
          at_least = omega (arith, work, next.at_least);
          same = λ w q. omega (arith, work, next.same w q);
        })

pub ahead_branch : {A : Type 0} (n : ℕ) (v : Value) (a b c d : Run A) → Ahead n a c → Ahead n b d → Ahead n (branch v a b) (branch v c d)
ahead_branch n (Truth true) a b c d h k = h
ahead_branch n _ a b c d h k = k

pub ahead_pair : {A : Type 0} (n : ℕ) (v : Value) (a c : Run A) (f g : Value → Value → Run A) → Ahead n a c → ((x y : Value) → Ahead n (f x y) (g x y)) → Ahead n (pair_case v a f) (pair_case v c g)
ahead_pair n (Both x y) a c f g h k = k x y
ahead_pair n _ a c f g h k = h

pub ahead_list : {A : Type 0} (n : ℕ) (v : Value) (a c : Run A) (f g : Value → Value → Run A) → Ahead n a c → ((x y : Value) → Ahead n (f x y) (g x y)) → Ahead n (list_case v a f) (list_case v c g)
ahead_list n (Cons x y) a c f g h k = k x y
ahead_list n _ a c f g h k = h

pub ahead_tree : {A : Type 0} (n : ℕ) (v : Value) (a c : Run A) (f g : Value → Value → Value → Run A) → Ahead n a c → ((x y z : Value) → Ahead n (f x y z) (g x y z)) → Ahead n (tree_case v a f) (tree_case v c g)
ahead_tree n (Node x y z) a c f g h k = k x y z
ahead_tree n _ a c f g h k = h

pub ahead_option : {A : Type 0} (n : ℕ) (v : Value) (a c : Run A) (f g : Value → Run A) → Ahead n a c → ((x : Value) → Ahead n (f x) (g x)) → Ahead n (option_case v a f) (option_case v c g)
ahead_option n (Just x) a c f g h k = k x
ahead_option n _ a c f g h k = h

-- The forms of step one evaluate as the expressions that they are made from.
use Rattle.std.proofs.Common.{◌≡◌, ◌≤◌, ◌<◌, ◌+◌, ℕ, List, [], ◌∷◌, map, length, Bool, true, false, cond, Option, Some, None, refl, sym, ap, subst, ◌∙◌, arith}
use Rattle.std.proofs.lemmas.Bool.{eqb-true, eq-eqb, false_from_ne_true}
use Rattle.std.specs.Prelude.{nat_eq}
use Rattle.std.specs.Str.{bytes_eq}
use Rattle.raml_syntax.specs.Tree as t
use Rattle.raml_syntax.specs.Tree.{Text, Type', Integer, Boolean, ListOf, TreeOf, OptionOf, Bound, Function, Prog}
use Rattle.raml_syntax.specs.Value.{Value, Both, Cons, Node, Just}
use Rattle.raml_syntax.specs.Eval.{Run, done, cut, costs, goes_on, and_then, node, new_cell, Env, look, arith as calculate, compare, negation, branch, pair_case, list_case, tree_case, option_case, Calls, walk, walk_all, find}
use Rattle.raml_syntax.specs.Place.{place_of}
use Rattle.normal_spec.specs.Norm as n
use Rattle.normal_spec.specs.Norm.{carries}
use Rattle.normal_spec.specs.Run.{NormEnv, value_at, values_at, NormCalls, spend, walk_norm}
use Rattle.normal_spec.specs.One.{Scope, number_of, types_in, bound, first_part, second_part, element, part_of, place_or, plain, parameters_or, first_of_types, rest_of, Operand, name, after, bare, bare_all, wrap, wrap_all, operand, operands, norm_one, norm_two, norm_three, split_form, if_form, list_form, tree_form, option_form, bound_two, one, found, type_of}
use Rattle.normal_spec.specs.Laws.{Ahead}
use Rattle.normal_spec.proofs.Ahead.{run_is, spend_none, walk_carries, ahead_same, ahead_is, ahead_node, ahead_paid, ahead_costs, ahead_none, ahead_left, ahead_then, ahead_branch, ahead_pair, ahead_list, ahead_tree, ahead_option}

pub same_number : (x : ℕ) → nat_eq x x ≡ true
same_number x = eq-eqb x x refl

pub other_number : (x y : ℕ) → (x ≡ y → ⊥) → nat_eq x y ≡ false
other_number x y h = false_from_ne_true (nat_eq x y) (λ e. h (eqb-true x y e))

-- the variables below a number have the values that they had
pub record Kept (k : ℕ) (e f : NormEnv) : Type 0 where
  pub at : (x : ℕ) → x < k → value_at x f ≡ value_at x e

pub kept_same : (k : ℕ) (e : NormEnv) → Kept k e e
kept_same k e = record { at = λ x h. refl }

pub value_newest : (x : ℕ) (v : Value) (e : NormEnv) → value_at x ((x, v) ∷ e) ≡ v
value_newest x v e = ap (λ b. cond b v (value_at x e)) (same_number x)

pub value_older : (x y : ℕ) (v : Value) (e : NormEnv) → (x ≡ y → ⊥) → value_at x ((y, v) ∷ e) ≡ value_at x e
value_older x y v e h = ap (λ b. cond b v (value_at x e)) (other_number x y h)

pub kept_more : (k j : ℕ) (v : Value) (e f : NormEnv) → k ≤ j → Kept k e f → Kept k e ((j, v) ∷ f)
kept_more k j v e f le h = record { at = λ x lt. value_older x j v f (λ q. omega arith) ∙ h.at x lt }

pub kept_on : (k j : ℕ) (e f g : NormEnv) → k ≤ j → Kept k e f → Kept j f g → Kept k e g
kept_on k j e f g le h i = record { at = λ x lt. i.at x (omega arith) ∙ h.at x lt }

-- the variables in scope have the values of their names, and are below a number
pub record Stands (S : Scope) (k : ℕ) (env : Env) (e : NormEnv) : Type 0 where
  pub agree : (x : Text) → value_at (number_of x S) e ≡ look x env
  pub low : (x : Text) → number_of x S < k

pub stands_on : (S : Scope) (k j : ℕ) (env : Env) (e f : NormEnv) → k ≤ j → Kept k e f → Stands S k env e → Stands S j env f
stands_on S k j env e f le kept h = record {
  agree = λ x. kept.at (number_of x S) (h.low x) ∙ h.agree x;
  low = λ x. omega (arith, h.low x);
}

pub stands_bound : (x : Text) (A : Type') (v : Value) (S : Scope) (k j : ℕ) (env : Env) (e : NormEnv) → k < j → Stands S k env e → Stands (bound x k A S) j ((x, v) ∷ env) ((k, v) ∷ e)
stands_bound x A v S k j env e lt h = record { agree = λ y. agree_by y (bytes_eq y x); low = λ y. low_by y (bytes_eq y x) }
  where
    agree_by : (y : Text) (b : Bool) → value_at (cond b k (number_of y S)) ((k, v) ∷ e) ≡ cond b v (look y env)
    agree_by y true = value_newest k v e
    agree_by y false = let low = h.low y in value_older (number_of y S) k v e (λ q. omega arith) ∙ h.agree y

    low_by : (y : Text) (b : Bool) → cond b k (number_of y S) < j
    low_by y true = lt
    low_by y false = let low = h.low y in omega arith

-- an operand that has its value
record Meets (k : ℕ) (e f : NormEnv) (x : Operand) (v : Value) : Type 0 where
  is : value_at (name x) f ≡ v
  kept : Kept k e f
  below : name x < after k x
  grows : k ≤ after k x

then_then : {A B C : Type 0} (r : Run A) (f : A → Run B) (g : B → Run C) → and_then (and_then r f) g ≡ and_then r (λ v. and_then (f v) g)
then_then {A} {B} {C} r f g = by r.out
  where
    by : (o : Option A) → and_then (costs r.ticks r.cells r.work (goes_on o f)) g ≡ costs r.ticks r.cells r.work (goes_on o (λ v. and_then (f v) g))
    by None = run_is _ _ _ _ _ _ _ (omega arith) (omega arith) (omega arith)
    by (Some v) = run_is _ _ _ _ _ _ _ (omega arith) (omega arith) (omega arith)

module _ (P : Prog) (c : Calls) (d : NormCalls) where
  plain_walk : (e : t.Term) (x : Text) (env : Env) → plain e ≡ Some x → walk c e env ≡ node (done (look x env))
  plain_walk (t.Var p y) x env h = let q : y ≡ x = cc in ap (λ z. node (done (look z env))) q
  plain_walk (t.Typed p a A) x env h = plain_walk a x env h
  plain_walk _ x env h = absurd (cc)

  -- what an expression and its form give, wherever they stand
  abbrev pub Agrees : t.Term → Scope → Env → (ℕ → n.Norm) → Type 0
  Agrees e S env a = (k : ℕ) (f : NormEnv) → Stands S k env f → Ahead 0 (walk c e env) (walk_norm d (a k) f)

  part_ahead : (o : Option Text) (e : t.Term) → plain e ≡ o → (S : Scope) (A : Type') (k : ℕ) (env : Env) (f : NormEnv) (a : ℕ → n.Norm) (m : ℕ) (next : Value → Run Value) (rest : n.Norm) → Stands S k env f → Agrees e S env a → ((v : Value) (g : NormEnv) → Meets k f g (operand o S A a k) v → Ahead m (next v) (walk_norm d rest g)) → Ahead (bare (operand o S A a k) + m) (and_then (walk c e env) next) (walk_norm d (wrap (operand o S A a k) rest) f)
  part_ahead (Some x) e p S A k env f a m next rest st h then =
      subst (λ (r : Run Value). Ahead (1 + m) (and_then r next) (walk_norm d rest f)) (sym (plain_walk e x env p))
      (ahead_paid m (next (look x env)) (walk_norm d rest f) (then (look x env) f (record { is = st.agree x; kept = kept_same k f; below = st.low x; grows = omega arith })))
  part_ahead None e p S A k env f a m next rest st h then =
      let zero_add : m ≡ 0 + m = omega arith in
      subst (λ i. Ahead i (and_then (walk c e env) next) (walk_norm d (n.Let 0 k A (a k) rest) f)) zero_add
      (ahead_none m _ (and_then (walk_norm d (a k) f) (λ v. walk_norm d rest ((k, v) ∷ f)))
      (ahead_then m (walk c e env) (walk_norm d (a k) f) next (λ v. walk_norm d rest ((k, v) ∷ f)) (h k f st)
      (λ v. then v ((k, v) ∷ f) (record { is = value_newest k v f; kept = kept_more k k v f f (omega arith) (kept_same k f); below = omega arith; grows = omega arith }))))

  -- a form with its operands and what it carries
  whole : (m : ℕ) (r : Run Value) (e : n.Norm) (f : NormEnv) → Ahead m r (walk_norm d e f) → Ahead 0 (node r) (walk_norm d (carries (1 + m) e) f)
  whole m r e f h = ahead_is 0 (node r) (spend (1 + m) (walk_norm d e f)) _ (walk_carries d (1 + m) e f) (ahead_node m r (walk_norm d e f) h)

  one_ahead : (next : Value → Run Value) (g : ℕ → ℕ → n.Norm) (a : t.Term) (S : Scope) (A : Type') (k : ℕ) (env : Env) (f : NormEnv) (a' : ℕ → n.Norm) → Stands S k env f → Agrees a S env a' → ((v : Value) (j x : ℕ) (e : NormEnv) → Stands S j env e → value_at x e ≡ v → Ahead 0 (next v) (walk_norm d (g j x) e)) → Ahead 0 (node (and_then (walk c a env) next)) (walk_norm d (norm_one g (operand (plain a) S A a') k) f)
  one_ahead next g a S A k env f a' st h then =
      let x = operand (plain a) S A a' k in
      let zero_add : bare x + 0 ≡ bare x = omega arith in
      whole (bare x) _ (wrap x (g (after k x) (name x))) f
      (subst (λ i. Ahead i (and_then (walk c a env) next) (walk_norm d (wrap x (g (after k x) (name x))) f)) zero_add
      (part_ahead (plain a) a refl S A k env f a' 0 next (g (after k x) (name x)) st h
      (λ v e m. then v (after k x) (name x) e (stands_on S k (after k x) env f e m.grows m.kept st) m.is)))

  two_ahead : (next : Value → Value → Run Value) (g : ℕ → ℕ → n.Norm) → ((x y : ℕ) (e : NormEnv) → walk_norm d (g x y) e ≡ spend 0 (next (value_at x e) (value_at y e))) → (a b : t.Term) (S : Scope) (A B : Type') (k : ℕ) (env : Env) (f : NormEnv) (a' b' : ℕ → n.Norm) → Stands S k env f → Agrees a S env a' → Agrees b S env b' → Ahead 0 (node (and_then (walk c a env) (λ v. and_then (walk c b env) (next v)))) (walk_norm d (norm_two g (operand (plain a) S A a') (operand (plain b) S B b') k) f)
  two_ahead next g is a b S A B k env f a' b' st ha hb =
      let x = operand (plain a) S A a' k in
      let y = operand (plain b) S B b' (after k x) in
      let zero_add : bare y + 0 ≡ bare y = omega arith in
      whole (bare x + bare y) _ (wrap x (wrap y (g (name x) (name y)))) f
      (part_ahead (plain a) a refl S A k env f a' (bare y) (λ v. and_then (walk c b env) (next v)) (wrap y (g (name x) (name y))) st ha
      (λ v e m.
      subst (λ i. Ahead i (and_then (walk c b env) (next v)) (walk_norm d (wrap y (g (name x) (name y))) e)) zero_add
      (part_ahead (plain b) b refl S B (after k x) env e b' 0 (next v) (g (name x) (name y)) (stands_on S k (after k x) env f e m.grows m.kept st) hb
      (λ w e' m'.
      let old : value_at (name x) e' ≡ v = m'.kept.at (name x) m.below ∙ m.is in
      ahead_is 0 (next v w) (next v w) _ (is (name x) (name y) e' ∙ spend_none _ ∙ (λ i. next (old i) (m'.is i))) (ahead_same (next v w))))))

  three_ahead : (next : Value → Value → Value → Run Value) (g : ℕ → ℕ → ℕ → n.Norm) → ((x y z : ℕ) (e : NormEnv) → walk_norm d (g x y z) e ≡ spend 0 (next (value_at x e) (value_at y e) (value_at z e))) → (a b i : t.Term) (S : Scope) (A B C : Type') (k : ℕ) (env : Env) (f : NormEnv) (a' b' i' : ℕ → n.Norm) → Stands S k env f → Agrees a S env a' → Agrees b S env b' → Agrees i S env i' → Ahead 0 (node (and_then (walk c a env) (λ v. and_then (walk c b env) (λ w. and_then (walk c i env) (next v w))))) (walk_norm d (norm_three g (operand (plain a) S A a') (operand (plain b) S B b') (operand (plain i) S C i') k) f)
  three_ahead next g is a b i S A B C k env f a' b' i' st ha hb hi =
      let x = operand (plain a) S A a' k in
      let y = operand (plain b) S B b' (after k x) in
      let j = after (after k x) y in
      let z = operand (plain i) S C i' j in
      let zero_add : bare z + 0 ≡ bare z = omega arith in
      whole (bare x + (bare y + bare z)) _ (wrap x (wrap y (wrap z (g (name x) (name y) (name z))))) f
      (part_ahead (plain a) a refl S A k env f a' (bare y + bare z) (λ v. and_then (walk c b env) (λ w. and_then (walk c i env) (next v w))) (wrap y (wrap z (g (name x) (name y) (name z)))) st ha
      (λ v e m.
      let st1 = stands_on S k (after k x) env f e m.grows m.kept st in
      part_ahead (plain b) b refl S B (after k x) env e b' (bare z) (λ w. and_then (walk c i env) (next v w)) (wrap z (g (name x) (name y) (name z))) st1 hb
      (λ w e' m'.
      subst (λ q. Ahead q (and_then (walk c i env) (next v w)) (walk_norm d (wrap z (g (name x) (name y) (name z))) e')) zero_add
      (part_ahead (plain i) i refl S C j env e' i' 0 (next v w) (g (name x) (name y) (name z)) (stands_on S (after k x) j env e e' m'.grows m'.kept st1) hi
      (λ u e'' m''.
      let first : value_at (name x) e'' ≡ v = m''.kept.at (name x) (omega (arith, m.below, m'.grows)) ∙ m'.kept.at (name x) m.below ∙ m.is in
      let second : value_at (name y) e'' ≡ w = m''.kept.at (name y) m'.below ∙ m'.is in
      ahead_is 0 (next v w u) (next v w u) _ (is (name x) (name y) (name z) e'' ∙ spend_none _ ∙ (λ q. next (first q) (second q) (m''.is q))) (ahead_same (next v w u)))))))

  module _ (calls : (f : Text) (vs : List Value) → Ahead 0 (c f vs) (d (place_or (length P) (place_of f P)) vs)) where
    mutual
      pub walk_ahead : (e : t.Term) (want : Option Type') (S : Scope) (env : Env) → Agrees e S env (one P want S e)
      walk_ahead (t.Number p i) want S env k f st = ahead_is 0 _ _ _ refl (ahead_same _)
      walk_ahead (t.Truth p b) want S env k f st = ahead_same _
      walk_ahead (t.Nil p) want S env k f st = ahead_same _
      walk_ahead (t.Leaf p) want S env k f st = ahead_same _
      walk_ahead (t.Nothing p) want S env k f st = ahead_same _
      walk_ahead (t.Var p x) want S env k f st = ahead_is 0 _ _ _ (ap (λ v. node (done v)) (st.agree x)) (ahead_same (node (done (look x env))))
      walk_ahead (t.Arith p op a b) want S env k f st =
          two_ahead (λ v w. done (calculate op v w)) (n.Arith 0 op) (λ x y e. refl) a b S Integer Integer k env f _ _ st (walk_ahead a (Some Integer) S env) (walk_ahead b (Some Integer) S env)
      walk_ahead (t.Compare p op a b) want S env k f st =
          two_ahead (λ v w. done (compare op v w)) (n.Compare 0 op) (λ x y e. refl) a b S Integer Integer k env f _ _ st (walk_ahead a (Some Integer) S env) (walk_ahead b (Some Integer) S env)
      walk_ahead (t.Not p a) want S env k f st =
          one_ahead (λ v. done (negation v)) (λ j. n.Not 0) a S Boolean k env f _ st (walk_ahead a (Some Boolean) S env)
          (λ v j x e st' q. ahead_is 0 _ _ _ (spend_none _ ∙ ap (λ w. done (negation w)) q) (ahead_same (done (negation v))))
      walk_ahead (t.Pair p a b) want S env k f st =
          two_ahead (λ v w. new_cell (Both v w)) (n.Pair 0) (λ x y e. refl) a b S _ _ k env f _ _ st (walk_ahead a (part_of first_part want) S env) (walk_ahead b (part_of second_part want) S env)
      walk_ahead (t.Cons p a b) want S env k f st =
          two_ahead (λ v w. new_cell (Cons v w)) (n.Cons 0) (λ x y e. refl) a b S _ _ k env f _ _ st (walk_ahead a (part_of element want) S env) (walk_ahead b (Some (ListOf (type_of P (part_of element want) S a))) S env)
      walk_ahead (t.Node p a b i) want S env k f st =
          let T = TreeOf (type_of P (part_of element want) S a) in
          three_ahead (λ u v w. new_cell (Node u v w)) (n.Node 0) (λ x y z e. refl) a b i S _ _ _ k env f _ _ _ st (walk_ahead a (part_of element want) S env) (walk_ahead b (Some T) S env) (walk_ahead i (Some T) S env)
      walk_ahead (t.Just p a) want S env k f st =
          one_ahead (λ v. new_cell (Just v)) (λ j. n.Just 0) a S _ k env f _ st (walk_ahead a (part_of element want) S env)
          (λ v j x e st' q. ahead_is 0 _ _ _ (spend_none _ ∙ ap (λ w. new_cell (Just w)) q) (ahead_same (new_cell (Just v))))
      walk_ahead (t.Call p g args) want S env k f st =
          let os = operands P S args (parameters_or (find g P)) k in
          let zero_add : bare_all os + 0 ≡ bare_all os = omega arith in
          let called = n.Call 0 (place_or (length P) (place_of g P)) (map name os) in
          whole (bare_all os) _ (wrap_all os called) f
          (subst (λ i. Ahead i (and_then (walk_all c args env) (c g)) (walk_norm d (wrap_all os called) f)) zero_add
          (all_ahead args (parameters_or (find g P)) S k env f 0 (c g) called st
          (λ vs e q kept. ahead_is 0 (c g vs) _ _ (spend_none _ ∙ ap (d (place_or (length P) (place_of g P))) q) (calls g vs))))
      walk_ahead (t.Let p x a b) want S env k f st =
          let A = found P (types_in S) a in
          ahead_is 0 _ _ _ refl
          (ahead_node 0 _ (and_then (walk_norm d (one P None S a k) f) (λ v. walk_norm d (one P want (bound x.name k A S) b (k + 1)) ((k, v) ∷ f)))
          (ahead_then 0 (walk c a env) (walk_norm d (one P None S a k) f) _ _ (walk_ahead a None S env k f st)
          (λ v. walk_ahead b want (bound x.name k A S) ((x.name, v) ∷ env) (k + 1) ((k, v) ∷ f) (stands_bound x.name A v S k (k + 1) env f (omega arith) st))))
      walk_ahead (t.LetPair p x y a b) want S env k f st =
          let T = found P (types_in S) a in
          one_ahead (λ v. pair_case v cut (λ s r. walk c b ((y.name, r) ∷ (x.name, s) ∷ env))) (split_form (λ j. one P want (bound_two x.name y.name (first_part T) (second_part T) S j) b (j + 2))) a S T k env f _ st (walk_ahead a None S env)
          (λ v j z e st' q.
          ahead_none 0 _ _
          (subst (λ u. Ahead 0 (pair_case v cut (λ s r. walk c b ((y.name, r) ∷ (x.name, s) ∷ env))) (pair_case u cut (λ s r. walk_norm d (one P want (bound y.name (j + 1) (second_part T) (bound x.name j (first_part T) S)) b (j + 2)) ((j + 1, r) ∷ (j, s) ∷ e)))) (sym q)
          (ahead_pair 0 v cut cut _ _ (ahead_same cut)
          (λ s r. walk_ahead b want (bound y.name (j + 1) (second_part T) (bound x.name j (first_part T) S)) ((y.name, r) ∷ (x.name, s) ∷ env) (j + 2) ((j + 1, r) ∷ (j, s) ∷ e)
          (stands_bound y.name _ r _ (j + 1) (j + 2) _ _ (omega arith) (stands_bound x.name _ s S j (j + 1) env e (omega arith) st'))))))
      walk_ahead (t.If p i a b) want S env k f st =
          one_ahead (λ v. branch v (walk c a env) (walk c b env)) (if_form (one P want S a) (one P (Some (type_of P want S a)) S b)) i S Boolean k env f _ st (walk_ahead i (Some Boolean) S env)
          (λ v j z e st' q.
          ahead_none 0 _ _
          (subst (λ u. Ahead 0 (branch v (walk c a env) (walk c b env)) (branch u (walk_norm d (one P want S a j) e) (walk_norm d (one P (Some (type_of P want S a)) S b j) e))) (sym q)
          (ahead_branch 0 v _ _ _ _ (walk_ahead a want S env j e st') (walk_ahead b (Some (type_of P want S a)) S env j e st'))))
      walk_ahead (t.MatchList p i a x y b) want S env k f st =
          let T = found P (types_in S) i in
          let S' = λ (j : ℕ). bound y.name (j + 1) T (bound x.name j (element T) S) in
          let B = Some (type_of P want S a) in
          one_ahead (λ v. list_case v (walk c a env) (λ s r. walk c b ((y.name, r) ∷ (x.name, s) ∷ env))) (list_form (one P want S a) (λ j. one P B (S' j) b (j + 2))) i S T k env f _ st (walk_ahead i None S env)
          (λ v j z e st' q.
          ahead_none 0 _ _
          (subst (λ u. Ahead 0 (list_case v (walk c a env) (λ s r. walk c b ((y.name, r) ∷ (x.name, s) ∷ env))) (list_case u (walk_norm d (one P want S a j) e) (λ s r. walk_norm d (one P B (S' j) b (j + 2)) ((j + 1, r) ∷ (j, s) ∷ e)))) (sym q)
          (ahead_list 0 v _ _ _ _ (walk_ahead a want S env j e st')
          (λ s r. walk_ahead b B (S' j) ((y.name, r) ∷ (x.name, s) ∷ env) (j + 2) ((j + 1, r) ∷ (j, s) ∷ e)
          (stands_bound y.name _ r _ (j + 1) (j + 2) _ _ (omega arith) (stands_bound x.name _ s S j (j + 1) env e (omega arith) st'))))))
      walk_ahead (t.MatchTree p i a x y z b) want S env k f st =
          let T = found P (types_in S) i in
          let S' = λ (j : ℕ). bound z.name (j + 2) T (bound y.name (j + 1) T (bound x.name j (element T) S)) in
          let B = Some (type_of P want S a) in
          one_ahead (λ v. tree_case v (walk c a env) (λ s l r. walk c b ((z.name, r) ∷ (y.name, l) ∷ (x.name, s) ∷ env))) (tree_form (one P want S a) (λ j. one P B (S' j) b (j + 3))) i S T k env f _ st (walk_ahead i None S env)
          (λ v j m e st' q.
          ahead_none 0 _ _
          (subst (λ u. Ahead 0 (tree_case v (walk c a env) (λ s l r. walk c b ((z.name, r) ∷ (y.name, l) ∷ (x.name, s) ∷ env))) (tree_case u (walk_norm d (one P want S a j) e) (λ s l r. walk_norm d (one P B (S' j) b (j + 3)) ((j + 2, r) ∷ (j + 1, l) ∷ (j, s) ∷ e)))) (sym q)
          (ahead_tree 0 v _ _ _ _ (walk_ahead a want S env j e st')
          (λ s l r. walk_ahead b B (S' j) ((z.name, r) ∷ (y.name, l) ∷ (x.name, s) ∷ env) (j + 3) ((j + 2, r) ∷ (j + 1, l) ∷ (j, s) ∷ e)
          (stands_bound z.name _ r _ (j + 2) (j + 3) _ _ (omega arith) (stands_bound y.name _ l _ (j + 1) (j + 2) _ _ (omega arith) (stands_bound x.name _ s S j (j + 1) env e (omega arith) st')))))))
      walk_ahead (t.MatchOption p i a x b) want S env k f st =
          let T = found P (types_in S) i in
          let S' = λ (j : ℕ). bound x.name j (element T) S in
          let B = Some (type_of P want S a) in
          one_ahead (λ v. option_case v (walk c a env) (λ s. walk c b ((x.name, s) ∷ env))) (option_form (one P want S a) (λ j. one P B (S' j) b (j + 1))) i S T k env f _ st (walk_ahead i None S env)
          (λ v j z e st' q.
          ahead_none 0 _ _
          (subst (λ u. Ahead 0 (option_case v (walk c a env) (λ s. walk c b ((x.name, s) ∷ env))) (option_case u (walk_norm d (one P want S a j) e) (λ s. walk_norm d (one P B (S' j) b (j + 1)) ((j, s) ∷ e)))) (sym q)
          (ahead_option 0 v _ _ _ _ (walk_ahead a want S env j e st')
          (λ s. walk_ahead b B (S' j) ((x.name, s) ∷ env) (j + 1) ((j, s) ∷ e) (stands_bound x.name _ s S j (j + 1) env e (omega arith) st')))))
      walk_ahead (t.Tick p i a) want S env k f st = ahead_node 0 _ _ (ahead_costs 0 i 0 0 _ _ (walk_ahead a want S env k f st))
      walk_ahead (t.Typed p a A) want S env k f st = walk_ahead a (Some A) S env k f st

      all_ahead : (es : t.Terms) (As : List Type') (S : Scope) (k : ℕ) (env : Env) (f : NormEnv) (m : ℕ) (next : List Value → Run Value) (rest : n.Norm) → Stands S k env f → ((vs : List Value) (g : NormEnv) → values_at (map name (operands P S es As k)) g ≡ vs → Kept k f g → Ahead m (next vs) (walk_norm d rest g)) → Ahead (bare_all (operands P S es As k) + m) (and_then (walk_all c es env) next) (walk_norm d (wrap_all (operands P S es As k) rest) f)
      all_ahead t.None As S k env f m next rest st then =
          let zero_add : m ≡ 0 + m = omega arith in
          subst (λ i. Ahead i (and_then (done []) next) (walk_norm d rest f)) zero_add
          (ahead_left m (next []) (walk_norm d rest f) (then [] f refl (kept_same k f)))
      all_ahead (t.More a es) As S k env f m next rest st then =
          let A = first_of_types As in
          let x = operand (plain a) S A (one P (Some A) S a) k in
          let xs = operands P S es (rest_of As) (after k x) in
          let assoc : bare x + (bare_all xs + m) ≡ (bare x + bare_all xs) + m = omega arith in
          let whole_run : Run Value → Type 0 = λ r. Ahead (bare x + (bare_all xs + m)) r (walk_norm d (wrap x (wrap_all xs rest)) f) in
          subst (λ i. Ahead i (and_then (walk_all c (t.More a es) env) next) (walk_norm d (wrap x (wrap_all xs rest)) f)) assoc
          (subst whole_run (sym (then_then (walk c a env) (λ v. and_then (walk_all c es env) (λ vs. done (v ∷ vs))) next))
          (part_ahead (plain a) a refl S A k env f (one P (Some A) S a) (bare_all xs + m) (λ v. and_then (and_then (walk_all c es env) (λ vs. done (v ∷ vs))) next) (wrap_all xs rest) st (walk_ahead a (Some A) S env)
          (λ v e mt.
          subst (λ r. Ahead (bare_all xs + m) r (walk_norm d (wrap_all xs rest) e)) (sym (then_then (walk_all c es env) (λ vs. done (v ∷ vs)) next))
          (all_ahead es (rest_of As) S (after k x) env e m (λ vs. and_then (done (v ∷ vs)) next) rest (stands_on S k (after k x) env f e mt.grows mt.kept st)
          (λ vs g q kept.
          let old : value_at (name x) g ≡ v = kept.at (name x) mt.below ∙ mt.is in
          ahead_left m (next (v ∷ vs)) (walk_norm d rest g) (then (v ∷ vs) g (λ i. old i ∷ q i) (kept_on k (after k x) f e g mt.grows mt.kept kept)))))))

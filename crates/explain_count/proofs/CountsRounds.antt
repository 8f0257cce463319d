-- The count program comes to what the program comes to, and its ticks are rounds.
use Rattle.std.proofs.Common.{◌≡◌, ◌+◌, ℕ, zero, suc, List, [], ◌∷◌, Bool, true, false, cond, Option, Some, None, refl, sym, ap, subst, ◌∙◌, arith}
use Rattle.std.specs.Option.{option_map}
use Rattle.std.specs.Str.{bytes_eq}
use Rattle.raml_syntax.specs.Tree as t
use Rattle.raml_syntax.specs.Tree.{Text, Bound, Function, Prog}
use Rattle.raml_syntax.specs.Value.{Value, Truth, Both, Cons, Node, Just}
use Rattle.raml_syntax.specs.Eval.{Run, cut, costs, goes_on, and_then, node, Env, branch, pair_case, list_case, tree_case, option_case, Calls, walk, walk_all, find, names_of, bind_all, enter, calls_at}
use Rattle.raml_syntax.specs.Node.{AllNodes, AllOf}
use Rattle.raml_syntax.specs.Place.{place_of}
use Rattle.explain_rounds.specs.Calls.{is_in}
use Rattle.explain_count.specs.Count.{without_ticks, all_without_ticks, counting, counting_from, count_program}
use Rattle.explain_count.specs.Rounds.{is_counted, round, rounds_at}
use Rattle.explain_count.specs.Laws.{ComesToSame, IsNoTick, CountProgramsCountRounds}

same_run : {A : Type 0} (r : Run A) → ComesToSame r r
same_run r = record { out = refl; cells = refl }

same_costs : {A : Type 0} (i j cells k l : ℕ) (r s : Run A) → ComesToSame r s → ComesToSame (costs i cells k r) (costs j cells l s)
same_costs i j cells k l r s h = record { out = h.out; cells = ap (λ n. cells + n) h.cells }

same_node : {A : Type 0} {r s : Run A} → ComesToSame r s → ComesToSame (node r) (node s)
same_node h = same_costs 0 0 0 1 1 _ _ h

same_goes : {A B : Type 0} (o : Option A) (f g : A → Run B) → ((v : A) → ComesToSame (f v) (g v)) → ComesToSame (goes_on o f) (goes_on o g)
same_goes None f g k = same_run _
same_goes (Some v) f g k = k v

same_then : {A B : Type 0} (r s : Run A) (f g : A → Run B) → ComesToSame r s → ((v : A) → ComesToSame (f v) (g v)) → ComesToSame (and_then r f) (and_then s g)
same_then r s f g h k =
    let q : ComesToSame (goes_on r.out f) (goes_on s.out g) = subst (λ o. ComesToSame (goes_on r.out f) (goes_on o g)) h.out (same_goes r.out f g k) in
    record { out = q.out; cells = omega (arith, h.cells, q.cells) }

same_two : {A B C : Type 0} (r s : Run A) (u w : Run B) (f : A → B → Run C) → ComesToSame r s → ComesToSame u w → ComesToSame (and_then r (λ v. and_then u (f v))) (and_then s (λ v. and_then w (f v)))
same_two r s u w f h k = same_then r s _ _ h (λ v. same_then u w (f v) (f v) k (λ x. same_run _))

same_branch : {A : Type 0} (v : Value) (a b d e : Run A) → ComesToSame a d → ComesToSame b e → ComesToSame (branch v a b) (branch v d e)
same_branch (Truth true) a b d e h k = h
same_branch _ a b d e h k = k

same_pair : {A : Type 0} (v : Value) (a d : Run A) (f g : Value → Value → Run A) → ComesToSame a d → ((x y : Value) → ComesToSame (f x y) (g x y)) → ComesToSame (pair_case v a f) (pair_case v d g)
same_pair (Both x y) a d f g h k = k x y
same_pair _ a d f g h k = h

same_list : {A : Type 0} (v : Value) (a d : Run A) (f g : Value → Value → Run A) → ComesToSame a d → ((x y : Value) → ComesToSame (f x y) (g x y)) → ComesToSame (list_case v a f) (list_case v d g)
same_list (Cons x y) a d f g h k = k x y
same_list _ a d f g h k = h

same_tree : {A : Type 0} (v : Value) (a d : Run A) (f g : Value → Value → Value → Run A) → ComesToSame a d → ((x y z : Value) → ComesToSame (f x y z) (g x y z)) → ComesToSame (tree_case v a f) (tree_case v d g)
same_tree (Node x y z) a d f g h k = k x y z
same_tree _ a d f g h k = h

same_option : {A : Type 0} (v : Value) (a d : Run A) (f g : Value → Run A) → ComesToSame a d → ((x : Value) → ComesToSame (f x) (g x)) → ComesToSame (option_case v a f) (option_case v d g)
same_option (Just x) a d f g h k = k x
same_option _ a d f g h k = h

-- without its ticks an expression comes to the same, where calls do
module _ (call under : Calls) (same : (f : Text) (vs : List Value) → ComesToSame (call f vs) (under f vs)) where
  mutual
    walk_same : (e : t.Term) (env : Env) → ComesToSame (walk call (without_ticks e) env) (walk under e env)
    walk_same (t.Number p n) env = same_run _
    walk_same (t.Truth p b) env = same_run _
    walk_same (t.Nil p) env = same_run _
    walk_same (t.Leaf p) env = same_run _
    walk_same (t.Nothing p) env = same_run _
    walk_same (t.Var p x) env = same_run _
    walk_same (t.Arith p o a b) env = same_node (same_two _ _ _ _ _ (walk_same a env) (walk_same b env))
    walk_same (t.Compare p o a b) env = same_node (same_two _ _ _ _ _ (walk_same a env) (walk_same b env))
    walk_same (t.Not p a) env = same_node (same_then _ _ _ _ (walk_same a env) (λ v. same_run _))
    walk_same (t.Pair p a b) env = same_node (same_two _ _ _ _ _ (walk_same a env) (walk_same b env))
    walk_same (t.Cons p a b) env = same_node (same_two _ _ _ _ _ (walk_same a env) (walk_same b env))
    walk_same (t.Node p a b d) env = same_node (same_then _ _ _ _ (walk_same a env) (λ u. same_two _ _ _ _ _ (walk_same b env) (walk_same d env)))
    walk_same (t.Just p a) env = same_node (same_then _ _ _ _ (walk_same a env) (λ v. same_run _))
    walk_same (t.Call p f args) env = same_node (same_then _ _ _ _ (all_same args env) (same f))
    walk_same (t.Let p x a b) env = same_node (same_then _ _ _ _ (walk_same a env) (λ v. walk_same b ((x.name, v) ∷ env)))
    walk_same (t.LetPair p x y a b) env =
        same_node (same_then _ _ _ _ (walk_same a env) (λ v. same_pair v _ _ _ _ (same_run _) (λ s r. walk_same b ((y.name, r) ∷ (x.name, s) ∷ env))))
    walk_same (t.If p d a b) env = same_node (same_then _ _ _ _ (walk_same d env) (λ v. same_branch v _ _ _ _ (walk_same a env) (walk_same b env)))
    walk_same (t.MatchList p d a x y b) env =
        same_node (same_then _ _ _ _ (walk_same d env) (λ v. same_list v _ _ _ _ (walk_same a env) (λ h r. walk_same b ((y.name, r) ∷ (x.name, h) ∷ env))))
    walk_same (t.MatchTree p d a x y z b) env =
        same_node (same_then _ _ _ _ (walk_same d env) (λ v. same_tree v _ _ _ _ (walk_same a env) (λ e l r. walk_same b ((z.name, r) ∷ (y.name, l) ∷ (x.name, e) ∷ env))))
    walk_same (t.MatchOption p d a x b) env =
        same_node (same_then _ _ _ _ (walk_same d env) (λ v. same_option v _ _ _ _ (walk_same a env) (λ w. walk_same b ((x.name, w) ∷ env))))
    walk_same (t.Tick p k a) env = let h = walk_same a env in record { out = h.out; cells = omega (arith, h.cells) }
    walk_same (t.Typed p a A) env = walk_same a env

    all_same : (es : t.Terms) (env : Env) → ComesToSame (walk_all call (all_without_ticks es) env) (walk_all under es env)
    all_same t.None env = same_run _
    all_same (t.More a rest) env = same_then _ _ _ _ (walk_same a env) (λ v. same_then _ _ _ _ (all_same rest env) (λ vs. same_run _))

-- the place of a function among those from a place on
abbrev pub place_from : ℕ → List ℕ → Text → Prog → Bool
place_from k group f [] = false
place_from k group f (g ∷ P) = cond (bytes_eq f g.name) (is_in k group) (place_from (suc k) group f P)

-- a function is found where it was
pub find_from : (k : ℕ) (group : List ℕ) (P : Prog) (f : Text) → find f (counting_from k group P) ≡ option_map (counting (place_from k group f P)) (find f P)
find_from k group [] f = refl
find_from k group (g ∷ P) f = by (bytes_eq f g.name) (find_from (suc k) group P f)
  where
    by : (b : Bool) → find f (counting_from (suc k) group P) ≡ option_map (counting (place_from (suc k) group f P)) (find f P) → cond b (Some (counting (is_in k group) g)) (find f (counting_from (suc k) group P)) ≡ option_map (counting (cond b (is_in k group) (place_from (suc k) group f P))) (cond b (Some g) (find f P))
    by true later = refl
    by false later = later

-- the place so many functions later
abbrev later_by : ℕ → Option ℕ → Option ℕ
later_by k o = option_map (λ j. j + k) o

place_is : (k : ℕ) (group : List ℕ) (P : Prog) (f : Text) → place_from k group f P ≡ is_counted group (later_by k (place_of f P))
place_is k group [] f = refl
place_is k group (g ∷ P) f = by (bytes_eq f g.name) (place_of f P) (place_is (suc k) group P f)
  where
    by : (b : Bool) (o : Option ℕ) → place_from (suc k) group f P ≡ is_counted group (later_by (suc k) o) → cond b (is_in k group) (place_from (suc k) group f P) ≡ is_counted group (later_by k (cond b (Some zero) (option_map suc o)))
    by true o e = ap (λ n. is_in n group) (let s : k ≡ zero + k = omega arith in s)
    by false None e = e
    by false (Some j) e = e ∙ ap (λ n. is_in n group) (let s : j + suc k ≡ suc j + k = omega arith in s)

place_now : (group : List ℕ) (P : Prog) (f : Text) → place_from 0 group f P ≡ is_counted group (place_of f P)
place_now group P f = by (place_of f P) (place_is 0 group P f)
  where
    by : (o : Option ℕ) → place_from 0 group f P ≡ is_counted group (later_by 0 o) → place_from 0 group f P ≡ is_counted group o
    by None e = e
    by (Some j) e = e ∙ ap (λ n. is_in n group) (let s : j + 0 ≡ j = omega arith in s)

-- a function that is counted is a round
counting_is : (call : Calls) (b : Bool) (g : Function) (env : Env) → walk call (counting b g).body env ≡ round b (walk call (without_ticks g.body) env)
counting_is call true g env = refl
counting_is call false g env = refl

enter_counting : (call : Calls) (b : Bool) (o : Option Function) (vs : List Value) → (o ≡ None → b ≡ false) → enter (walk call) (option_map (counting b) o) vs ≡ round b (enter (λ e. walk call (without_ticks e)) o vs)
enter_counting call b None vs none = subst (λ (c : Bool). cut ≡ round c cut) (sym (none refl)) refl
enter_counting call b (Some g) vs none = counting_is call b g (bind_all [] (names_of g) vs)

-- where no function is found, none is counted
none_counted : (k : ℕ) (group : List ℕ) (P : Prog) (f : Text) → find f P ≡ None → place_from k group f P ≡ false
none_counted k group [] f e = refl
none_counted k group (g ∷ P) f e = by (bytes_eq f g.name) (none_counted (suc k) group P f) e
  where
    by : (b : Bool) → (find f P ≡ None → place_from (suc k) group f P ≡ false) → cond b (Some g) (find f P) ≡ None → cond b (is_in k group) (place_from (suc k) group f P) ≡ false
    by true more e = absurd (cc)
    by false more e = more e

calls_are : (group : List ℕ) (P : Prog) (n : ℕ) (f : Text) (vs : List Value) → calls_at (count_program group P) n f vs ≡ rounds_at P group n f vs
calls_are group P zero f vs = refl
calls_are group P (suc n) f vs =
    let below : calls_at (count_program group P) n ≡ rounds_at P group n = λ i h ws. calls_are group P n h ws i in
    ap (λ (call : Calls). enter (walk call) (find f (count_program group P)) vs) below
    ∙ ap (λ o. enter (walk (rounds_at P group n)) o vs) (find_from 0 group P f)
    ∙ enter_counting (rounds_at P group n) (place_from 0 group f P) (find f P) vs (none_counted 0 group P f)
    ∙ ap (λ b. round b (enter (λ e. walk (rounds_at P group n) (without_ticks e)) (find f P) vs)) (place_now group P f)

-- a round comes to the same
round_same : (b : Bool) (r s : Run Value) → ComesToSame r s → ComesToSame (round b r) s
round_same true r s h = record { out = h.out; cells = omega (arith, h.cells) }
round_same false r s h = h

enter_same : (run under : t.Term → Env → Run Value) → ((e : t.Term) (env : Env) → ComesToSame (run (without_ticks e) env) (under e env)) → (o : Option Function) (vs : List Value) → ComesToSame (enter (λ e. run (without_ticks e)) o vs) (enter under o vs)
enter_same run under h None vs = same_run _
enter_same run under h (Some g) vs = h g.body (bind_all [] (names_of g) vs)

rounds_same : (group : List ℕ) (P : Prog) (n : ℕ) (f : Text) (vs : List Value) → ComesToSame (rounds_at P group n f vs) (calls_at P n f vs)
rounds_same group P zero f vs = same_run _
rounds_same group P (suc n) f vs =
    round_same (is_counted group (place_of f P)) _ _
    (enter_same (walk (rounds_at P group n)) (walk (calls_at P n)) (walk_same (rounds_at P group n) (calls_at P n) (rounds_same group P n)) (find f P) vs)

-- no tick is left
mutual
  none_left : (e : t.Term) → AllNodes IsNoTick (without_ticks e)
  none_left (t.Number p n) = tt
  none_left (t.Truth p b) = tt
  none_left (t.Nil p) = tt
  none_left (t.Leaf p) = tt
  none_left (t.Nothing p) = tt
  none_left (t.Var p x) = tt
  none_left (t.Arith p o a b) = (tt, none_left a, none_left b)
  none_left (t.Compare p o a b) = (tt, none_left a, none_left b)
  none_left (t.Not p a) = (tt, none_left a)
  none_left (t.Pair p a b) = (tt, none_left a, none_left b)
  none_left (t.Cons p a b) = (tt, none_left a, none_left b)
  none_left (t.Node p a b c) = (tt, none_left a, none_left b, none_left c)
  none_left (t.Just p a) = (tt, none_left a)
  none_left (t.Call p f args) = (tt, none_left_in args)
  none_left (t.Let p x a b) = (tt, none_left a, none_left b)
  none_left (t.LetPair p x y a b) = (tt, none_left a, none_left b)
  none_left (t.If p c a b) = (tt, none_left c, none_left a, none_left b)
  none_left (t.MatchList p c a x y b) = (tt, none_left c, none_left a, none_left b)
  none_left (t.MatchTree p c a x y z b) = (tt, none_left c, none_left a, none_left b)
  none_left (t.MatchOption p c a x b) = (tt, none_left c, none_left a, none_left b)
  none_left (t.Tick p k a) = none_left a
  none_left (t.Typed p a A) = (tt, none_left a)

  none_left_in : (es : t.Terms) → AllOf IsNoTick (all_without_ticks es)
  none_left_in t.None = tt
  none_left_in (t.More a rest) = (none_left a, none_left_in rest)

pub counts_rounds : CountProgramsCountRounds
counts_rounds group P =
    let below : (n : ℕ) → calls_at (count_program group P) n ≡ rounds_at P group n = λ n i h ws. calls_are group P n h ws i in
    let run : (k : ℕ) (g : Function) (args : List Value) (n : ℕ) → walk (calls_at (count_program group P) n) (counting (is_in k group) g).body (bind_all [] (names_of g) args) ≡ round (is_in k group) (walk (rounds_at P group n) (without_ticks g.body) (bind_all [] (names_of g) args)) =
    λ k g args n. ap (λ (call : Calls). walk call (counting (is_in k group) g).body (bind_all [] (names_of g) args)) (below n) ∙ counting_is (rounds_at P group n) (is_in k group) g (bind_all [] (names_of g) args) in
    record {
      values = λ k g args n at.
          subst (λ (r : Run Value). ComesToSame (node r) (node (walk (calls_at P n) g.body (bind_all [] (names_of g) args)))) (sym (run k g args n))
          (same_node (round_same (is_in k group) _ _ (walk_same (rounds_at P group n) (calls_at P n) (rounds_same group P n) g.body (bind_all [] (names_of g) args))));
      calls = calls_are group P;
      runs = λ k g args n at. ap node (run k g args n);
      no_ticks = none_left;
    }

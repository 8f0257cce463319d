-- Runs that give the same: how they are put together.
use Rattle.std.proofs.Common.{◌≡◌, ◌∙◌, ℕ, List, [], ◌∷◌, map, true, false, Option, Some, None, refl, sym, ap, subst}
use Rattle.std.specs.Option.{option_map}
use Rattle.raml_syntax.specs.Value.{Value, Truth, Both, Cons, Node, Just}
use Rattle.raml_syntax.specs.Eval.{Run, done, cut, costs, goes_on, and_then, node, branch, pair_case, list_case, tree_case, option_case}
use Rattle.explain_exchange.specs.Exchange.{exchange}
use Rattle.explain_exchange.specs.Laws.{RunsExchanged}
use Rattle.explain_exchange.proofs.Lists.{map_exchange}
use Rattle.explain_exchange.proofs.Orders.{twice, total, same_total}

pub same : {A : Type 0} (r : Run A) → RunsExchanged r r
same r = record { out = refl; costs = λ v e. refl }

pub same_costs : {A : Type 0} (i j k : ℕ) (r s : Run A) → RunsExchanged r s → RunsExchanged (costs i j k r) (costs i j k s)
same_costs i j k r s h = record { out = h.out; costs = λ v e. ap (costs i j k) (h.costs v e) }

pub same_node : {A : Type 0} {r s : Run A} → RunsExchanged r s → RunsExchanged (node r) (node s)
same_node h = record { out = h.out; costs = λ v e. ap node (h.costs v e) }

pub same_then : {A B : Type 0} (r s : Run A) (f g : A → Run B) → RunsExchanged r s → ((v : A) → r.out ≡ Some v → RunsExchanged (f v) (g v)) → RunsExchanged (and_then r f) (and_then s g)
same_then {A} {B} r s f g h k = by r.out refl
  where
    by : (o : Option A) → r.out ≡ o → RunsExchanged (and_then r f) (and_then s g)
    by None e =
        let first : (and_then r f).out ≡ None = ap (λ q. (goes_on q f).out) e in
        let second : (and_then s g).out ≡ None = ap (λ q. (goes_on q g).out) (h.out ∙ e) in
        record { out = second ∙ sym first; costs = λ v q. absurd (none_is v (sym first ∙ q)) }
      where
        none_is : (v : B) → None ≡ Some v → ⊥
        none_is v q = cc
    by (Some v) e =
        let rest : RunsExchanged (goes_on r.out f) (goes_on r.out g) = subst (λ q. RunsExchanged (goes_on q f) (goes_on q g)) (sym e) (k v e) in
        subst (λ z. RunsExchanged (and_then r f) (and_then z g)) (sym (h.costs v e)) (same_costs r.ticks r.cells r.work _ _ rest)

pub same_branch : (v : Value) (a b c d : Run Value) → RunsExchanged a c → RunsExchanged b d → RunsExchanged (branch v a b) (branch v c d)
same_branch (Truth true) a b c d h k = h
same_branch (Truth false) a b c d h k = k
same_branch _ a b c d h k = k

pub same_pair : (v : Value) (f g : Value → Value → Run Value) → ((s r : Value) → RunsExchanged (f s r) (g s r)) → RunsExchanged (pair_case v cut f) (pair_case v cut g)
same_pair (Both s r) f g k = k s r
same_pair _ f g k = same cut

pub same_list : (v : Value) (a b : Run Value) (f g : Value → Value → Run Value) → RunsExchanged a b → ((s r : Value) → RunsExchanged (f s r) (g s r)) → RunsExchanged (list_case v a f) (list_case v b g)
same_list (Cons s r) a b f g h k = k s r
same_list _ a b f g h k = h

pub same_tree : (v : Value) (a b : Run Value) (f g : Value → Value → Value → Run Value) → RunsExchanged a b → ((s l r : Value) → RunsExchanged (f s l r) (g s l r)) → RunsExchanged (tree_case v a f) (tree_case v b g)
same_tree (Node s l r) a b f g h k = k s l r
same_tree _ a b f g h k = h

pub same_option : (v : Value) (a b : Run Value) (f g : Value → Run Value) → RunsExchanged a b → ((s : Value) → RunsExchanged (f s) (g s)) → RunsExchanged (option_case v a f) (option_case v b g)
same_option (Just s) a b f g h k = k s
same_option _ a b f g h k = h

-- ---- one run after another

abbrev pub all : {A : Type 0} → List (Run A) → Run (List A)
all [] = done []
all (r ∷ rs) = and_then r (λ v. and_then (all rs) (λ vs. done (v ∷ vs)))

-- what all of them give, at what they cost together
abbrev given : {A : Type 0} → List (Run A) → List A → Run (List A)
given rs vs = record { out = Some vs; ticks = total (λ r. r.ticks) rs; cells = total (λ r. r.cells) rs; work = total (λ r. r.work) rs }

abbrev outs : {A : Type 0} → List (Run A) → List (Option A)
outs rs = map (λ r. r.out) rs

all_given : {A : Type 0} (rs : List (Run A)) (vs : List A) → outs rs ≡ map Some vs → all rs ≡ given rs vs
all_given [] [] e = refl
all_given [] (v ∷ vs) e = absurd (cc)
all_given (r ∷ rs) [] e = absurd (cc)
all_given (r ∷ rs) (v ∷ vs) e =
    let first : r.out ≡ Some v = cc in
    let rest : outs rs ≡ map Some vs = cc in
    ap (λ o. costs r.ticks r.cells r.work (goes_on o (λ w. and_then (all rs) (λ ws. done (w ∷ ws))))) first
    ∙ ap (λ m. costs r.ticks r.cells r.work (and_then m (λ ws. done (v ∷ ws)))) (all_given rs vs rest)

given_all : {A : Type 0} (rs : List (Run A)) (vs : List A) → (all rs).out ≡ Some vs → outs rs ≡ map Some vs
given_all [] [] e = refl
given_all [] (v ∷ vs) e = absurd (cc)
given_all {A} (r ∷ rs) vs e = by (given_all rs) r.out (all rs).out refl refl
  where
    by : ((ws : List A) → (all rs).out ≡ Some ws → outs rs ≡ map Some ws) → (o : Option A) (q : Option (List A)) → r.out ≡ o → (all rs).out ≡ q → outs (r ∷ rs) ≡ map Some vs
    by later None q h k = absurd (none_is vs (sym (ap (λ z. (goes_on z (λ w. and_then (all rs) (λ ws. done (w ∷ ws)))).out) h) ∙ e))
      where
        none_is : (ws : List A) → None ≡ Some ws → ⊥
        none_is ws z = cc
    by later (Some v) None h k =
        absurd (none_is vs (sym (ap (λ z. (goes_on z (λ w. and_then (all rs) (λ ws. done (w ∷ ws)))).out) h ∙ ap (λ z. (goes_on z (λ ws. done (v ∷ ws))).out) k) ∙ e))
      where
        none_is : (ws : List A) → None ≡ Some ws → ⊥
        none_is ws z = cc
    by later (Some v) (Some ws) h k =
        let all_of : Some (v ∷ ws) ≡ Some vs =
        sym (ap (λ z. (goes_on z (λ w. and_then (all rs) (λ us. done (w ∷ us)))).out) h ∙ ap (λ z. (goes_on z (λ us. done (v ∷ us))).out) k) ∙ e in
        (λ i. h i ∷ later ws k i) ∙ ap (map Some) (some_is (v ∷ ws) vs all_of)
      where
        some_is : (us ws : List A) → Some us ≡ Some ws → us ≡ ws
        some_is us ws z = cc

-- what follows other runs gives the same, in another order
pub record InOrder {A : Type 0} (order : List A → List A) (r s : Run (List A)) : Type 0 where
  pub out : s.out ≡ option_map order r.out
  pub ticks : (vs : List A) → r.out ≡ Some vs → s.ticks ≡ r.ticks
  pub cells : (vs : List A) → r.out ≡ Some vs → s.cells ≡ r.cells
  pub work : (vs : List A) → r.out ≡ Some vs → s.work ≡ r.work

pub all_in_order : {A : Type 0} (i j : ℕ) (rs : List (Run A)) → InOrder (exchange i j) (all rs) (all (exchange i j rs))
all_in_order {A} i j rs = by (all rs).out refl
  where
    outs_exchanged : (xs : List (Run A)) → outs (exchange i j xs) ≡ exchange i j (outs xs)
    outs_exchanged xs = sym (map_exchange (λ (r : Run A). r.out) i j xs)

    by : (o : Option (List A)) → (all rs).out ≡ o → InOrder (exchange i j) (all rs) (all (exchange i j rs))
    by (Some vs) e =
        let before = all_given rs vs (given_all rs vs e) in
        let after = all_given (exchange i j rs) (exchange i j vs) (outs_exchanged rs ∙ ap (exchange i j) (given_all rs vs e) ∙ map_exchange Some i j vs) in
        record {
          out = ap (λ (r : Run (List A)). r.out) after ∙ sym (ap (option_map (exchange i j)) e);
          ticks = λ ws q. ap (λ (r : Run (List A)). r.ticks) after ∙ same_total (λ (r : Run A). r.ticks) i j rs ∙ sym (ap (λ (r : Run (List A)). r.ticks) before);
          cells = λ ws q. ap (λ (r : Run (List A)). r.cells) after ∙ same_total (λ (r : Run A). r.cells) i j rs ∙ sym (ap (λ (r : Run (List A)). r.cells) before);
          work = λ ws q. ap (λ (r : Run (List A)). r.work) after ∙ same_total (λ (r : Run A). r.work) i j rs ∙ sym (ap (λ (r : Run (List A)). r.work) before);
        }
    by None e =
        let cut_too = cuts (all (exchange i j rs)).out refl in
        record {
          out = cut_too ∙ sym (ap (option_map (exchange i j)) e);
          ticks = λ ws q. absurd (none_is ws (sym e ∙ q));
          cells = λ ws q. absurd (none_is ws (sym e ∙ q));
          work = λ ws q. absurd (none_is ws (sym e ∙ q));
        }
      where
        none_is : (ws : List A) → None ≡ Some ws → ⊥
        none_is ws z = cc

        -- else all of them would give something
        cuts : (o : Option (List A)) → (all (exchange i j rs)).out ≡ o → (all (exchange i j rs)).out ≡ None
        cuts None q = q
        cuts (Some ws) q =
            let each : outs rs ≡ map Some (exchange i j ws) =
            sym (ap outs (twice i j rs)) ∙ outs_exchanged (exchange i j rs) ∙ ap (exchange i j) (given_all (exchange i j rs) ws q) ∙ map_exchange Some i j ws in
            absurd (none_is (exchange i j ws) (sym e ∙ ap (λ (r : Run (List A)). r.out) (all_given rs (exchange i j ws) each)))

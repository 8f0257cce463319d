-- Rebuilding keeps values and ticks.
use Rattle.std.proofs.Common.{◌≡◌, ◌∙◌, ℕ, zero, suc, List, [], ◌∷◌, map, Bool, true, false, cond, Option, Some, None, refl, sym, ap, subst, arith}
use Rattle.std.proofs.lemmas.Option.{same_Some}
use Rattle.std.specs.Option.{option_map}
use Rattle.std.specs.Str.{bytes_eq}
use Rattle.raml_syntax.specs.Tree as t
use Rattle.raml_syntax.specs.Tree.{Text, Function, Prog}
use Rattle.raml_syntax.specs.Value.{Value}
use Rattle.raml_syntax.specs.Eval.{done, cut, node, Env, look, Calls, walk, walk_all, find, enter, calls_at, run_of}
use Rattle.raml_syntax.specs.Default.{Asked, NoDefault, NoDefaults, Enters, CallMeetsNone}
use Rattle.raml_syntax.proofs.Keep.{typed_runs_keep}
use Rattle.explain_changes.specs.Built as m
use Rattle.explain_changes.specs.Built.{Built, expression}
use Rattle.explain_changes.specs.Scope.{Scope, variable, built_at, kind}
use Rattle.explain_changes.specs.Sites.{is_chosen, rebuilt, unless, changed, changed_all, changed_function, changed_program}
use Rattle.explain_changes.specs.Laws.{RunsRebuilt, RebuildingKeeps, IsRebuilt, WrittenKeeps}
use Rattle.explain_changes.proofs.SameRuns.{SameFound, types_same, find_same, run_same}
use Rattle.explain_changes.proofs.Rebuilt.{rebuilt_same, rebuilt_costs, rebuilt_node, rebuilt_then, rebuilt_two, rebuilt_branch, rebuilt_pair, rebuilt_list, rebuilt_tree, rebuilt_option}
use Rattle.explain_changes.proofs.Stands.{value, Stands, IsSubject, stands_bound, stands_pair, stands_empty, stands_list, stands_tree, stands_option, stands_at_start}

-- in place of a value, what builds it
built_run : (call : Calls) (p : ℕ) (env : Env) (x : Built) → RunsRebuilt (node (done (value x env))) (walk call (expression p x) env)
built_run call p env m.Nil = rebuilt_same _
built_run call p env m.Leaf = rebuilt_same _
built_run call p env m.Nothing = rebuilt_same _
built_run call p env (m.Pair x y) = record { out = refl; ticks = refl; cells = omega arith; work = omega arith }
built_run call p env (m.Cons x y) = record { out = refl; ticks = refl; cells = omega arith; work = omega arith }
built_run call p env (m.Node x y z) = record { out = refl; ticks = refl; cells = omega arith; work = omega arith }
built_run call p env (m.Just x) = record { out = refl; ticks = refl; cells = omega arith; work = omega arith }

use_rebuilt : (call : Calls) (p : ℕ) (x : Text) (S : Scope) (env : Env) → Stands S env → (chosen : Bool) → RunsRebuilt (node (done (look x env))) (walk call (cond chosen (rebuilt p x (built_at x S)) (t.Var p x)) env)
use_rebuilt call p x S env k false = rebuilt_same _
use_rebuilt call p x S env k true = by (built_at x S) refl
  where
    by : (o : Option Built) → built_at x S ≡ o → RunsRebuilt (node (done (look x env))) (walk call (rebuilt p x o) env)
    by None e = rebuilt_same _
    by (Some d) e = subst (λ w. RunsRebuilt (node (done w)) (walk call (expression p d) env)) (sym (k.at x d e)) (built_run call p env d)

-- what is taken apart, where it is a variable
subject_is : (call : Calls) (e : t.Term) (env : Env) (w : Value) → (walk call e env).out ≡ Some w → IsSubject e env w
subject_is call (t.Var p x) env w e y q = ap (λ z. look z env) (sym (same_Some x y q)) ∙ same_Some _ w e
subject_is call (t.Typed p a A) env w e y q = subject_is call a env w e y q
subject_is call _ env w e y q = absurd (cc)

variable_same : (c d : Calls) (e : t.Term) (env : Env) (x : Text) → variable e ≡ Some x → RunsRebuilt (walk c e env) (walk d e env)
variable_same c d (t.Var p y) env x q = rebuilt_same _
variable_same c d (t.Typed p a A) env x q = variable_same c d a env x q
variable_same c d _ env x q = absurd (cc)

subject_rebuilt : (c d : Calls) (e other : t.Term) (env : Env) → RunsRebuilt (walk c e env) (walk d other env) → RunsRebuilt (walk c e env) (walk d (unless (variable e) e other) env)
subject_rebuilt c d e other env h = by (variable e) refl
  where
    by : (o : Option Text) → variable e ≡ o → RunsRebuilt (walk c e env) (walk d (unless o e other) env)
    by None q = h
    by (Some x) q = variable_same c d e env x q

module _ (P : Prog) (chosen : List ℕ) (c d : Calls) (asked : Asked) (calls : (f : Text) (vs : List Value) → asked f vs → RunsRebuilt (c f vs) (d f vs)) where
  mutual
    walk_rebuilt : (e : t.Term) (S : Scope) (env : Env) → Stands S env → NoDefault c asked e env → RunsRebuilt (walk c e env) (walk d (changed P chosen S e) env)
    walk_rebuilt (t.Number p n) S env k h = rebuilt_same _
    walk_rebuilt (t.Truth p b) S env k h = rebuilt_same _
    walk_rebuilt (t.Nil p) S env k h = rebuilt_same _
    walk_rebuilt (t.Leaf p) S env k h = rebuilt_same _
    walk_rebuilt (t.Nothing p) S env k h = rebuilt_same _
    walk_rebuilt (t.Var p x) S env k h = use_rebuilt d p x S env k (is_chosen chosen p)
    walk_rebuilt (t.Arith p op a b) S env k h = rebuilt_node (rebuilt_two _ _ _ _ _ (walk_rebuilt a S env k h.0) (walk_rebuilt b S env k h.1))
    walk_rebuilt (t.Compare p op a b) S env k h = rebuilt_node (rebuilt_two _ _ _ _ _ (walk_rebuilt a S env k h.0) (walk_rebuilt b S env k h.1))
    walk_rebuilt (t.Not p a) S env k h = rebuilt_node (rebuilt_then _ _ _ _ (walk_rebuilt a S env k h.0) (λ w e. rebuilt_same _))
    walk_rebuilt (t.Pair p a b) S env k h = rebuilt_node (rebuilt_two _ _ _ _ _ (walk_rebuilt a S env k h.0) (walk_rebuilt b S env k h.1))
    walk_rebuilt (t.Cons p a b) S env k h = rebuilt_node (rebuilt_two _ _ _ _ _ (walk_rebuilt a S env k h.0) (walk_rebuilt b S env k h.1))
    walk_rebuilt (t.Node p a b e) S env k h =
        rebuilt_node (rebuilt_then _ _ _ _ (walk_rebuilt a S env k h.0) (λ w q. rebuilt_two _ _ _ _ _ (walk_rebuilt b S env k h.1) (walk_rebuilt e S env k h.2)))
    walk_rebuilt (t.Just p a) S env k h = rebuilt_node (rebuilt_then _ _ _ _ (walk_rebuilt a S env k h) (λ w e. rebuilt_same _))
    walk_rebuilt (t.Call p f args) S env k h = rebuilt_node (rebuilt_then _ _ _ _ (all_rebuilt args S env k h.0) (λ ws e. calls f ws (h.1 ws e)))
    walk_rebuilt (t.Let p x a b) S env k h =
        rebuilt_node (rebuilt_then _ _ _ _ (walk_rebuilt a S env k h.0)
        (λ w e. walk_rebuilt b _ _ (stands_bound x.name (kind P S a) w S env k) (h.1 w e)))
    walk_rebuilt (t.LetPair p x y a b) S env k h =
        rebuilt_node (rebuilt_then _ _ _ _ (subject_rebuilt c d a _ env (walk_rebuilt a S env k h.0))
        (λ w e. rebuilt_pair w _ _ _ (h.1 w e) (λ s r q n. walk_rebuilt b _ _ (stands_pair P S env a x.name y.name s r k (subject_is c a env _ (e ∙ ap Some q))) n)))
    walk_rebuilt (t.If p i a b) S env k h =
        rebuilt_node (rebuilt_then _ _ _ _ (walk_rebuilt i S env k h.0)
        (λ w e. rebuilt_branch w _ _ _ _ _ _ (h.1 w e) (walk_rebuilt a S env k) (walk_rebuilt b S env k)))
    walk_rebuilt (t.MatchList p i a x y b) S env k h =
        rebuilt_node (rebuilt_then _ _ _ _ (subject_rebuilt c d i _ env (walk_rebuilt i S env k h.0))
        (λ w e. rebuilt_list w _ _ _ _ _ _ (h.1 w e)
        (λ q n. walk_rebuilt a _ env (stands_empty S env i m.Nil k (subject_is c i env _ (e ∙ ap Some q))) n)
        (λ s r q n. walk_rebuilt b _ _ (stands_list P S env i x.name y.name s r k (subject_is c i env _ (e ∙ ap Some q))) n)))
    walk_rebuilt (t.MatchTree p i a x y z b) S env k h =
        rebuilt_node (rebuilt_then _ _ _ _ (subject_rebuilt c d i _ env (walk_rebuilt i S env k h.0))
        (λ w e. rebuilt_tree w _ _ _ _ _ _ (h.1 w e)
        (λ q n. walk_rebuilt a _ env (stands_empty S env i m.Leaf k (subject_is c i env _ (e ∙ ap Some q))) n)
        (λ s l r q n. walk_rebuilt b _ _ (stands_tree P S env i x.name y.name z.name s l r k (subject_is c i env _ (e ∙ ap Some q))) n)))
    walk_rebuilt (t.MatchOption p i a x b) S env k h =
        rebuilt_node (rebuilt_then _ _ _ _ (subject_rebuilt c d i _ env (walk_rebuilt i S env k h.0))
        (λ w e. rebuilt_option w _ _ _ _ _ _ (h.1 w e)
        (λ q n. walk_rebuilt a _ env (stands_empty S env i m.Nothing k (subject_is c i env _ (e ∙ ap Some q))) n)
        (λ s q n. walk_rebuilt b _ _ (stands_option P S env i x.name s k (subject_is c i env _ (e ∙ ap Some q))) n)))
    walk_rebuilt (t.Tick p j a) S env k h = rebuilt_node (rebuilt_costs j 0 0 _ _ (walk_rebuilt a S env k h))
    walk_rebuilt (t.Typed p a A) S env k h = walk_rebuilt a S env k h

    all_rebuilt : (es : t.Terms) (S : Scope) (env : Env) → Stands S env → NoDefaults c asked es env → RunsRebuilt (walk_all c es env) (walk_all d (changed_all P chosen S es) env)
    all_rebuilt t.None S env k h = rebuilt_same _
    all_rebuilt (t.More a rest) S env k h =
        rebuilt_then _ _ _ _ (walk_rebuilt a S env k h.0) (λ w e. rebuilt_then _ _ _ _ (all_rebuilt rest S env k h.1) (λ ws q. rebuilt_same _))

-- the changed function is found where the function is
find_changed : (P : Prog) (chosen : List ℕ) (f : Text) (gs : Prog) → find f (map (changed_function P chosen) gs) ≡ option_map (changed_function P chosen) (find f gs)
find_changed P chosen f [] = refl
find_changed P chosen f (g ∷ gs) = by (bytes_eq f g.name) (find_changed P chosen f gs)
  where
    by : (c : Bool) → find f (map (changed_function P chosen) gs) ≡ option_map (changed_function P chosen) (find f gs) → cond c (Some (changed_function P chosen g)) (find f (map (changed_function P chosen) gs)) ≡ option_map (changed_function P chosen) (cond c (Some g) (find f gs))
    by true later = refl
    by false later = later

enter_rebuilt : (P : Prog) (chosen : List ℕ) (c d : Calls) (asked : Asked) → ((f : Text) (vs : List Value) → asked f vs → RunsRebuilt (c f vs) (d f vs)) → (o : Option Function) (vs : List Value) → Enters (NoDefault c asked) o vs → RunsRebuilt (enter (walk c) o vs) (enter (walk d) (option_map (changed_function P chosen) o) vs)
enter_rebuilt P chosen c d asked calls None vs h = absurd h
enter_rebuilt P chosen c d asked calls (Some g) vs h = walk_rebuilt P chosen c d asked calls g.body _ _ (stands_at_start g.params vs h.0) h.1

calls_rebuilt : (P : Prog) (chosen : List ℕ) (n : ℕ) (f : Text) (vs : List Value) → CallMeetsNone P n f vs → RunsRebuilt (calls_at P n f vs) (calls_at (changed_program P chosen) n f vs)
calls_rebuilt P chosen zero f vs h = rebuilt_same cut
calls_rebuilt P chosen (suc n) f vs h =
    subst
    (λ o. RunsRebuilt (enter (walk (calls_at P n)) (find f P) vs) (enter (walk (calls_at (changed_program P chosen) n)) o vs))
    (sym (find_changed P chosen f P))
    (enter_rebuilt P chosen _ _ (CallMeetsNone P n) (calls_rebuilt P chosen n) (find f P) vs h)

pub rebuilding_keeps : RebuildingKeeps
rebuilding_keeps P typed fits chosen f g found args n has =
    let meets = ((typed_runs_keep P typed fits).runs n f g args found has).no_default in
    let entered : Enters (NoDefault (calls_at P n) (CallMeetsNone P n)) (Some g) args =
    subst (λ o. Enters (NoDefault (calls_at P n) (CallMeetsNone P n)) o args) found meets in
    rebuilt_node (enter_rebuilt P chosen _ _ (CallMeetsNone P n) (calls_rebuilt P chosen n) (Some g) args entered)

pub written_keeps : WrittenKeeps
written_keeps P typed fits chosen Q same f g found = by (find f Q) refl
    (subst (λ o. SameFound o (find f Q)) (find_changed P chosen f P ∙ ap (option_map (changed_function P chosen)) found) (find_same f (changed_program P chosen) Q same))
  where
    by : (o : Option Function) → find f Q ≡ o → SameFound (Some (changed_function P chosen g)) o → IsRebuilt P Q f g
    by None e h = absurd h
    by (Some k) e h = record {
      other = k;
      found = e;
      params = sym (types_same g.params k.params h.1);
      result = sym h.2;
      runs = λ args n has. subst (RunsRebuilt (run_of P g args n)) (run_same (changed_program P chosen) Q same (changed_function P chosen g) k h args n)
          (rebuilding_keeps P typed fits chosen f g found args n has);
    }

-- Typed expressions of typed values give values of their types, and meet no default.
use Rattle.std.proofs.Common.{◌≡◌, ℕ, zero, suc, List, [], ◌∷◌, length, map, Bool, true, false, cond, Option, Some, None, refl, sym, subst, arith}
use Rattle.std.specs.Int.{w64}
use Rattle.std.specs.List.{All}
use Rattle.std.specs.Str.{bytes_eq}
use Rattle.std.proofs.lemmas.Int.{SFits-int_wrap}
use Rattle.std.proofs.lemmas.List.Elements.{All-head, All-tail}
use Rattle.std.proofs.lemmas.Option.{same_Some}
use Rattle.raml_syntax.specs.Tree as t
use Rattle.raml_syntax.specs.Tree.{Text, Type', Integer, Boolean, PairOf, ListOf, TreeOf, OptionOf, ArithOp, CompareOp, Bound, Parameter, Function, Prog}
use Rattle.raml_syntax.specs.Value.{Value, Number, Truth, Both, Empty, Cons, Node, Just, Has, HaveTypes}
use Rattle.raml_syntax.specs.Eval.{Run, goes_on, and_then, Env, look, branch, negation, pair_case, list_case, tree_case, option_case, cut, Calls, walk, walk_all, find, names_of, bind_all, enter, calls_at}
use Rattle.raml_syntax.specs.Types.{Context, type_at, bind_types, types_of, IsListType, IsTreeType, IsOptionType, Way, Finding, Checking, OnlyChecked, HasType, CheckEach, Checks, Typed}
use Rattle.raml_syntax.specs.Default.{IsNumber, IsTruth, IsBound, Taken, TakenPair, TakenList, TakenTree, TakenOption, Asked, NoDefault, NoDefaults, Enters, CallMeetsNone}
use Rattle.raml_syntax.specs.Node.{AllNodes, AllOf, NumberFits}
use Rattle.raml_syntax.specs.Laws.{Keeps, Holds, TypedRunsKeepTypes}

-- a value of a run in two parts comes from a value of the first
then_inv : {A B : Type 0} (r : Run A) (f : A → Run B) (y : B) → (and_then r f).out ≡ Some y → (x : A) × (r.out ≡ Some x) × ((f x).out ≡ Some y)
then_inv {A} {B} r f y e = by r.out refl e
  where
    by : (o : Option A) → r.out ≡ o → (goes_on o f).out ≡ Some y → (x : A) × (r.out ≡ Some x) × ((f x).out ≡ Some y)
    by None q e = absurd (cc)
    by (Some x) q e = (x, q, e)

-- the value that a finished run gives
gives : (T : Type') (v w : Value) → Some v ≡ Some w → Has v T → Has w T
gives T v w e h = subst (λ x. Has x T) (same_Some v w e) h

holds_more : (x : Text) (A : Type') (v : Value) (G : Context) (env : Env) → Has v A → Holds G env → Holds ((x, A) ∷ G) ((x, v) ∷ env)
holds_more x A v G env h k = record { at = λ y B. by y B (bytes_eq y x) }
  where
    by : (y : Text) (B : Type') (c : Bool) → cond c (Some A) (type_at y G) ≡ Some B → Has (cond c v (look y env)) B × cond c (Unit {0}) (IsBound y env)
    by y B true e = (subst (Has v) (same_Some A B e) h, tt)
    by y B false e = k.at y B e

holds_bound : (ps : List Parameter) (vs : List Value) (G : Context) (env : Env) → HaveTypes vs (map (λ (p : Parameter). p.type) ps) → Holds G env → Holds (bind_types G ps) (bind_all env (map (λ (p : Parameter). p.name) ps) vs)
holds_bound [] [] G env h k = k
holds_bound [] (v ∷ vs) G env h k = absurd h
holds_bound (p ∷ ps) [] G env h k = absurd h
holds_bound (p ∷ ps) (v ∷ vs) G env h k = holds_bound ps vs ((p.name, p.type) ∷ G) ((p.name, v) ∷ env) h.1 (holds_more p.name p.type v G env h.0 k)

same_length : (ps : List Parameter) (vs : List Value) → HaveTypes vs (map (λ (p : Parameter). p.type) ps) → length vs ≡ length ps
same_length [] [] h = refl
same_length [] (v ∷ vs) h = absurd h
same_length (p ∷ ps) [] h = absurd h
same_length (p ∷ ps) (v ∷ vs) h = omega (arith, same_length ps vs h.1)

no_variable : Holds [] []
no_variable = record { at = λ x A e. absurd (cc) }

number_is : (v : Value) → Has v Integer → IsNumber v
number_is (Number n) h = tt
number_is _ h = absurd h

truth_is : (v : Value) → Has v Boolean → IsTruth v
truth_is (Truth b) h = tt
truth_is _ h = absurd h

negation_has : (v : Value) → Has (negation v) Boolean
negation_has (Truth true) = tt
negation_has _ = tt

empty_list : (way : Way) (T : Type') → OnlyChecked way (IsListType T) → Has Empty T
empty_list Finding T h = absurd h
empty_list Checking T h = subst (Has Empty) (sym h.1) tt

empty_tree : (way : Way) (T : Type') → OnlyChecked way (IsTreeType T) → Has Empty T
empty_tree Finding T h = absurd h
empty_tree Checking T h = subst (Has Empty) (sym h.1) tt

no_value : (way : Way) (T : Type') → OnlyChecked way (IsOptionType T) → Has Empty T
no_value Finding T h = absurd h
no_value Checking T h = subst (Has Empty) (sym h.1) tt

taken : (v : Value) (A B : Type 0) → Has v Boolean → A → B → Taken v A B
taken (Truth true) A B h a b = a
taken (Truth false) A B h a b = b
taken _ A B h a b = absurd h

branch_has : (v w : Value) (ra rb : Run Value) (T : Type') → ((w : Value) → ra.out ≡ Some w → Has w T) → ((w : Value) → rb.out ≡ Some w → Has w T) → (branch v ra rb).out ≡ Some w → Has w T
branch_has (Truth true) w ra rb T ha hb e = ha w e
branch_has _ w ra rb T ha hb e = hb w e

taken_pair : (v : Value) (A B : Type') (F : Value → Value → Type 0) → Has v (PairOf A B) → ((s r : Value) → Has s A → Has r B → F s r) → TakenPair v F
taken_pair (Both s r) A B F h f = f s r h.0 h.1
taken_pair _ A B F h f = absurd h

pair_has : (v w : Value) (A B T : Type') (rb : Value → Value → Run Value) → Has v (PairOf A B) → ((s r : Value) → Has s A → Has r B → (w : Value) → (rb s r).out ≡ Some w → Has w T) → (pair_case v cut rb).out ≡ Some w → Has w T
pair_has (Both s r) w A B T rb h hb e = hb s r h.0 h.1 w e
pair_has _ w A B T rb h hb e = absurd h

taken_list : (v : Value) (A : Type') (X : Type 0) (F : Value → Value → Type 0) → Has v (ListOf A) → X → ((s r : Value) → Has s A → Has r (ListOf A) → F s r) → TakenList v X F
taken_list Empty A X F h x f = x
taken_list (Cons s r) A X F h x f = f s r h.0 h.1
taken_list _ A X F h x f = absurd h

list_has : (v w : Value) (A T : Type') (ra : Run Value) (rb : Value → Value → Run Value) → Has v (ListOf A) → ((w : Value) → ra.out ≡ Some w → Has w T) → ((s r : Value) → Has s A → Has r (ListOf A) → (w : Value) → (rb s r).out ≡ Some w → Has w T) → (list_case v ra rb).out ≡ Some w → Has w T
list_has Empty w A T ra rb h ha hb e = ha w e
list_has (Cons s r) w A T ra rb h ha hb e = hb s r h.0 h.1 w e
list_has _ w A T ra rb h ha hb e = absurd h

taken_tree : (v : Value) (A : Type') (X : Type 0) (F : Value → Value → Value → Type 0) → Has v (TreeOf A) → X → ((s l r : Value) → Has s A → Has l (TreeOf A) → Has r (TreeOf A) → F s l r) → TakenTree v X F
taken_tree Empty A X F h x f = x
taken_tree (Node s l r) A X F h x f = f s l r h.0 h.1 h.2
taken_tree _ A X F h x f = absurd h

tree_has : (v w : Value) (A T : Type') (ra : Run Value) (rb : Value → Value → Value → Run Value) → Has v (TreeOf A) → ((w : Value) → ra.out ≡ Some w → Has w T) → ((s l r : Value) → Has s A → Has l (TreeOf A) → Has r (TreeOf A) → (w : Value) → (rb s l r).out ≡ Some w → Has w T) → (tree_case v ra rb).out ≡ Some w → Has w T
tree_has Empty w A T ra rb h ha hb e = ha w e
tree_has (Node s l r) w A T ra rb h ha hb e = hb s l r h.0 h.1 h.2 w e
tree_has _ w A T ra rb h ha hb e = absurd h

taken_option : (v : Value) (A : Type') (X : Type 0) (F : Value → Type 0) → Has v (OptionOf A) → X → ((s : Value) → Has s A → F s) → TakenOption v X F
taken_option Empty A X F h x f = x
taken_option (Just s) A X F h x f = f s h
taken_option _ A X F h x f = absurd h

option_has : (v w : Value) (A T : Type') (ra : Run Value) (rb : Value → Run Value) → Has v (OptionOf A) → ((w : Value) → ra.out ≡ Some w → Has w T) → ((s : Value) → Has s A → (w : Value) → (rb s).out ≡ Some w → Has w T) → (option_case v ra rb).out ≡ Some w → Has w T
option_has Empty w A T ra rb h ha hb e = ha w e
option_has (Just s) w A T ra rb h ha hb e = hb s h w e
option_has _ w A T ra rb h ha hb e = absurd h

-- what a walk may rely on in the functions that it calls
record CallsKeep (P : Prog) (call : Calls) (asked : Asked) : Type 0 where
  by : (f : Text) (g : Function) (vs : List Value) → find f P ≡ Some g → HaveTypes vs (types_of g) → Keeps g.result (call f vs) (asked f vs)

-- the values of the arguments have their types, and none of them meets a default
record KeepsAll (As : List Type') (r : Run (List Value)) (MeetsNone : Type 0) : Type 0 where
  values : (vs : List Value) → r.out ≡ Some vs → HaveTypes vs As
  no_default : MeetsNone

module _ (P : Prog) (call : Calls) (asked : Asked) (calls : CallsKeep P call asked) where
  mutual
    walk_keeps : (e : t.Term) (way : Way) (G : Context) (env : Env) (T : Type') → AllNodes NumberFits e → HasType P way G e T → Holds G env → Keeps T (walk call e env) (NoDefault call asked e env)
    walk_keeps (t.Number p n) way G env T fits h k = record { value = λ v e. subst (Has v) (sym h) (gives Integer (Number n) v e fits); no_default = tt }
    walk_keeps (t.Truth p b) way G env T fits h k = record { value = λ v e. subst (Has v) (sym h) (gives Boolean (Truth b) v e tt); no_default = tt }
    walk_keeps (t.Nil p) way G env T fits h k = record { value = λ v e. gives T Empty v e (empty_list way T h); no_default = tt }
    walk_keeps (t.Leaf p) way G env T fits h k = record { value = λ v e. gives T Empty v e (empty_tree way T h); no_default = tt }
    walk_keeps (t.Nothing p) way G env T fits h k = record { value = λ v e. gives T Empty v e (no_value way T h); no_default = tt }
    walk_keeps (t.Var p x) way G env T fits h k = record { value = λ v e. gives T _ v e (k.at x T h).0; no_default = (k.at x T h).1 }
    walk_keeps (t.Arith p op a b) way G env T fits h k =
        let ka = walk_keeps a Checking G env Integer fits.1 h.1 k in
        let kb = walk_keeps b Checking G env Integer fits.2 h.2 k in
        record {
          value = λ v e.
              let p = then_inv (walk call a env) _ v e in
              let q = then_inv (walk call b env) _ v p.2 in
              subst (Has v) (sym h.0) (gives Integer _ v q.2 (SFits-int_wrap w64 _));
          no_default = (ka.no_default, kb.no_default, (λ v e. number_is v (ka.value v e)), (λ v e. number_is v (kb.value v e)));
        }
    walk_keeps (t.Compare p op a b) way G env T fits h k =
        let ka = walk_keeps a Checking G env Integer fits.1 h.1 k in
        let kb = walk_keeps b Checking G env Integer fits.2 h.2 k in
        record {
          value = λ v e.
              let p = then_inv (walk call a env) _ v e in
              let q = then_inv (walk call b env) _ v p.2 in
              subst (Has v) (sym h.0) (gives Boolean _ v q.2 tt);
          no_default = (ka.no_default, kb.no_default, (λ v e. number_is v (ka.value v e)), (λ v e. number_is v (kb.value v e)));
        }
    walk_keeps (t.Not p a) way G env T fits h k =
        let ka = walk_keeps a Checking G env Boolean fits.1 h.1 k in
        record {
          value = λ v e. let p = then_inv (walk call a env) _ v e in subst (Has v) (sym h.0) (gives Boolean _ v p.2 (negation_has p.0));
          no_default = (ka.no_default, (λ v e. truth_is v (ka.value v e)));
        }
    walk_keeps (t.Pair p a b) way G env T fits h k =
        let ka = walk_keeps a way G env h.0 fits.1 h.3 k in
        let kb = walk_keeps b way G env h.1 fits.2 h.4 k in
        record {
          value = λ v e.
              let p = then_inv (walk call a env) _ v e in
              let q = then_inv (walk call b env) _ v p.2 in
              subst (Has v) (sym h.2) (gives (PairOf h.0 h.1) _ v q.2 (ka.value p.0 p.1, kb.value q.0 q.1));
          no_default = (ka.no_default, kb.no_default);
        }
    walk_keeps (t.Cons p a b) way G env T fits h k =
        let ka = walk_keeps a way G env h.0 fits.1 h.2 k in
        let kb = walk_keeps b Checking G env (ListOf h.0) fits.2 h.3 k in
        record {
          value = λ v e.
              let p = then_inv (walk call a env) _ v e in
              let q = then_inv (walk call b env) _ v p.2 in
              subst (Has v) (sym h.1) (gives (ListOf h.0) _ v q.2 (ka.value p.0 p.1, kb.value q.0 q.1));
          no_default = (ka.no_default, kb.no_default);
        }
    walk_keeps (t.Node p a b c) way G env T fits h k =
        let ka = walk_keeps a way G env h.0 fits.1 h.2 k in
        let kb = walk_keeps b Checking G env (TreeOf h.0) fits.2 h.3 k in
        let kc = walk_keeps c Checking G env (TreeOf h.0) fits.3 h.4 k in
        record {
          value = λ v e.
              let p = then_inv (walk call a env) _ v e in
              let q = then_inv (walk call b env) _ v p.2 in
              let r = then_inv (walk call c env) _ v q.2 in
              subst (Has v) (sym h.1) (gives (TreeOf h.0) _ v r.2 (ka.value p.0 p.1, kb.value q.0 q.1, kc.value r.0 r.1));
          no_default = (ka.no_default, kb.no_default, kc.no_default);
        }
    walk_keeps (t.Just p a) way G env T fits h k =
        let ka = walk_keeps a way G env h.0 fits.1 h.2 k in
        record {
          value = λ v e. let p = then_inv (walk call a env) _ v e in subst (Has v) (sym h.1) (gives (OptionOf h.0) _ v p.2 (ka.value p.0 p.1));
          no_default = ka.no_default;
        }
    walk_keeps (t.Call p f args) way G env T fits h k =
        let ks = all_keep args G env (types_of h.0) fits.1 h.3 k in
        record {
          value = λ v e.
              let p = then_inv (walk_all call args env) _ v e in
              subst (Has v) (sym h.2) ((calls.by f h.0 p.0 h.1 (ks.values p.0 p.1)).value v p.2);
          no_default = (ks.no_default, (λ vs e. (calls.by f h.0 vs h.1 (ks.values vs e)).no_default));
        }
    walk_keeps (t.Let p x a b) way G env T fits h k =
        let A = h.0 in
        let ka = walk_keeps a Finding G env A fits.1 h.1 k in
        let kb : (v : Value) → Has v A → Keeps T (walk call b ((x.name, v) ∷ env)) (NoDefault call asked b ((x.name, v) ∷ env)) =
        λ v hv. walk_keeps b way ((x.name, A) ∷ G) ((x.name, v) ∷ env) T fits.2 h.2 (holds_more x.name A v G env hv k) in
        record {
          value = λ v e. let p = then_inv (walk call a env) _ v e in (kb p.0 (ka.value p.0 p.1)).value v p.2;
          no_default = (ka.no_default, (λ v e. (kb v (ka.value v e)).no_default));
        }
    walk_keeps (t.LetPair p x y a b) way G env T fits h k =
        let A = h.0 in
        let B = h.1 in
        let ka = walk_keeps a Finding G env (PairOf A B) fits.1 h.3 k in
        let kb : (s r : Value) → Has s A → Has r B → Keeps T (walk call b ((y.name, r) ∷ (x.name, s) ∷ env)) (NoDefault call asked b ((y.name, r) ∷ (x.name, s) ∷ env)) =
        λ s r hs hr. walk_keeps b way ((y.name, B) ∷ (x.name, A) ∷ G) ((y.name, r) ∷ (x.name, s) ∷ env) T fits.2 h.4 (holds_more y.name B r _ _ hr (holds_more x.name A s G env hs k)) in
        record {
          value = λ v e. let p = then_inv (walk call a env) _ v e in pair_has p.0 v A B T _ (ka.value p.0 p.1) (λ s r hs hr. (kb s r hs hr).value) p.2;
          no_default = (ka.no_default, (λ v e. taken_pair v A B _ (ka.value v e) (λ s r hs hr. (kb s r hs hr).no_default)));
        }
    walk_keeps (t.If p c a b) way G env T fits h k =
        let kc = walk_keeps c Checking G env Boolean fits.1 h.0 k in
        let ka = walk_keeps a way G env T fits.2 h.1 k in
        let kb = walk_keeps b Checking G env T fits.3 h.2 k in
        record {
          value = λ v e. let p = then_inv (walk call c env) _ v e in branch_has p.0 v _ _ T ka.value kb.value p.2;
          no_default = (kc.no_default, (λ v e. taken v _ _ (kc.value v e) ka.no_default kb.no_default));
        }
    walk_keeps (t.MatchList p c a x y b) way G env T fits h k =
        let A = h.0 in
        let kc = walk_keeps c Finding G env (ListOf A) fits.1 h.2 k in
        let ka = walk_keeps a way G env T fits.2 h.3 k in
        let kb : (s r : Value) → Has s A → Has r (ListOf A) → Keeps T (walk call b ((y.name, r) ∷ (x.name, s) ∷ env)) (NoDefault call asked b ((y.name, r) ∷ (x.name, s) ∷ env)) =
        λ s r hs hr. walk_keeps b Checking ((y.name, ListOf A) ∷ (x.name, A) ∷ G) ((y.name, r) ∷ (x.name, s) ∷ env) T fits.3 h.4 (holds_more y.name (ListOf A) r _ _ hr (holds_more x.name A s G env hs k)) in
        record {
          value = λ v e. let p = then_inv (walk call c env) _ v e in list_has p.0 v A T _ _ (kc.value p.0 p.1) ka.value (λ s r hs hr. (kb s r hs hr).value) p.2;
          no_default = (kc.no_default, (λ v e. taken_list v A _ _ (kc.value v e) ka.no_default (λ s r hs hr. (kb s r hs hr).no_default)));
        }
    walk_keeps (t.MatchTree p c a x y z b) way G env T fits h k =
        let A = h.0 in
        let kc = walk_keeps c Finding G env (TreeOf A) fits.1 h.2 k in
        let ka = walk_keeps a way G env T fits.2 h.3 k in
        let kb : (s l r : Value) → Has s A → Has l (TreeOf A) → Has r (TreeOf A) → Keeps T (walk call b ((z.name, r) ∷ (y.name, l) ∷ (x.name, s) ∷ env)) (NoDefault call asked b ((z.name, r) ∷ (y.name, l) ∷ (x.name, s) ∷ env)) =
        λ s l r hs hl hr. walk_keeps b Checking ((z.name, TreeOf A) ∷ (y.name, TreeOf A) ∷ (x.name, A) ∷ G) ((z.name, r) ∷ (y.name, l) ∷ (x.name, s) ∷ env) T fits.3 h.4 (holds_more z.name (TreeOf A) r _ _ hr (holds_more y.name (TreeOf A) l _ _ hl (holds_more x.name A s G env hs k))) in
        record {
          value = λ v e. let p = then_inv (walk call c env) _ v e in tree_has p.0 v A T _ _ (kc.value p.0 p.1) ka.value (λ s l r hs hl hr. (kb s l r hs hl hr).value) p.2;
          no_default = (kc.no_default, (λ v e. taken_tree v A _ _ (kc.value v e) ka.no_default (λ s l r hs hl hr. (kb s l r hs hl hr).no_default)));
        }
    walk_keeps (t.MatchOption p c a x b) way G env T fits h k =
        let A = h.0 in
        let kc = walk_keeps c Finding G env (OptionOf A) fits.1 h.1 k in
        let ka = walk_keeps a way G env T fits.2 h.2 k in
        let kb : (s : Value) → Has s A → Keeps T (walk call b ((x.name, s) ∷ env)) (NoDefault call asked b ((x.name, s) ∷ env)) =
        λ s hs. walk_keeps b Checking ((x.name, A) ∷ G) ((x.name, s) ∷ env) T fits.3 h.3 (holds_more x.name A s G env hs k) in
        record {
          value = λ v e. let p = then_inv (walk call c env) _ v e in option_has p.0 v A T _ _ (kc.value p.0 p.1) ka.value (λ s hs. (kb s hs).value) p.2;
          no_default = (kc.no_default, (λ v e. taken_option v A _ _ (kc.value v e) ka.no_default (λ s hs. (kb s hs).no_default)));
        }
    walk_keeps (t.Tick p n a) way G env T fits h k = let ka = walk_keeps a way G env T fits.1 h k in record { value = ka.value; no_default = ka.no_default }
    walk_keeps (t.Typed p a A) way G env T fits h k =
        let ka = walk_keeps a Checking G env A fits.1 h.1 k in
        record { value = λ v e. subst (Has v) (sym h.0) (ka.value v e); no_default = ka.no_default }

    all_keep : (es : t.Terms) (G : Context) (env : Env) (As : List Type') → AllOf NumberFits es → CheckEach P G es As → Holds G env → KeepsAll As (walk_all call es env) (NoDefaults call asked es env)
    all_keep t.None G env [] fits h k = record { values = λ vs e. subst (λ ws. HaveTypes ws []) (same_Some _ _ e) tt; no_default = tt }
    all_keep t.None G env (A ∷ As) fits h k = absurd h
    all_keep (t.More a es) G env [] fits h k = absurd h
    all_keep (t.More a es) G env (A ∷ As) fits h k =
        let ka = walk_keeps a Checking G env A fits.0 h.0 k in
        let ks = all_keep es G env As fits.1 h.1 k in
        record {
          values = λ vs e.
              let p = then_inv (walk call a env) _ vs e in
              let q = then_inv (walk_all call es env) _ vs p.2 in
              subst (λ ws. HaveTypes ws (A ∷ As)) (same_Some _ _ q.2) (ka.value p.0 p.1, ks.values q.0 q.1);
          no_default = (ka.no_default, ks.no_default);
        }

-- what holds of all functions holds of the one that is found
found_is : (Q : Function → Type 0) (f : Text) (g : Function) (P : Prog) → All Q P → find f P ≡ Some g → Q g
found_is Q f g [] all e = absurd (cc)
found_is Q f g (d ∷ P) all e = by (λ h. found_is Q f g P (All-tail Q d P all) h) (bytes_eq f d.name) e
  where
    by : (find f P ≡ Some g → Q g) → (c : Bool) → cond c (Some d) (find f P) ≡ Some g → Q g
    by later true e = subst Q (same_Some d g e) (All-head Q d P all)
    by later false e = later e

module _ (P : Prog) (typed : Typed P) (fits : All (λ (g : Function). AllNodes NumberFits g.body) P) where
  body_keeps : (call : Calls) (asked : Asked) → CallsKeep P call asked → (f : Text) (g : Function) (vs : List Value) → find f P ≡ Some g → HaveTypes vs (types_of g) → Keeps g.result (walk call g.body (bind_all [] (names_of g) vs)) (NoDefault call asked g.body (bind_all [] (names_of g) vs))
  body_keeps call asked calls f g vs e h =
      walk_keeps P call asked calls g.body Checking (bind_types [] g.params) (bind_all [] (names_of g) vs) g.result
      (found_is (λ (g : Function). AllNodes NumberFits g.body) f g P fits e)
      (found_is (λ (g : Function). Checks P (bind_types [] g.params) g.body g.result) f g P typed.bodies e)
      (holds_bound g.params vs [] [] h no_variable)

  calls_keep : (n : ℕ) → CallsKeep P (calls_at P n) (CallMeetsNone P n)
  calls_keep zero = record {
    by = λ f g vs e h. record {
      value = λ v q. absurd (cc);
      no_default = subst (λ o. Enters (λ e env. Unit {0}) o vs) (sym e) (same_length g.params vs h, tt);
    };
  }
  calls_keep (suc n) = record {
    by = λ f g vs e h.
        let k = body_keeps (calls_at P n) (CallMeetsNone P n) (calls_keep n) f g vs e h in
        record {
          value = subst (λ o. (v : Value) → (enter (walk (calls_at P n)) o vs).out ≡ Some v → Has v g.result) (sym e) k.value;
          no_default = subst (λ o. Enters (NoDefault (calls_at P n) (CallMeetsNone P n)) o vs) (sym e) (same_length g.params vs h, k.no_default);
        };
  }

pub typed_runs_keep : TypedRunsKeepTypes
typed_runs_keep P typed fits = record {
  expressions = λ n way G env e T nf h k. walk_keeps P (calls_at P n) (CallMeetsNone P n) (calls_keep P typed fits n) e way G env T nf h k;
  runs = λ n f g args e h. record {
    value = (body_keeps P typed fits (calls_at P n) (CallMeetsNone P n) (calls_keep P typed fits n) f g args e h).value;
    no_default = ((calls_keep P typed fits (suc n)).by f g args e h).no_default;
  };
}

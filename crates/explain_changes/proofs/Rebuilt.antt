-- Runs of which the second makes values again: how they are put together.
use Rattle.std.proofs.Common.{◌≡◌, ℕ, true, false, Option, Some, None, refl, sym, subst, arith}
use Rattle.raml_syntax.specs.Value.{Value, Truth, Both, Empty, Cons, Node, Just}
use Rattle.raml_syntax.specs.Eval.{Run, cut, costs, goes_on, and_then, branch, pair_case, list_case, tree_case, option_case}
use Rattle.raml_syntax.specs.Default.{Taken, TakenPair, TakenList, TakenTree, TakenOption}
use Rattle.explain_changes.specs.Laws.{RunsRebuilt}

pub rebuilt_same : {A : Type 0} (r : Run A) → RunsRebuilt r r
rebuilt_same r = record { out = refl; ticks = refl; cells = omega arith; work = omega arith }

pub rebuilt_costs : {A : Type 0} (i j k : ℕ) (r s : Run A) → RunsRebuilt r s → RunsRebuilt (costs i j k r) (costs i j k s)
rebuilt_costs i j k r s h = record {
  out = h.out;
  ticks = omega (arith, h.ticks);
  cells = omega (arith, h.cells);
  work = omega (arith, h.work);
}

pub rebuilt_node : {A : Type 0} {r s : Run A} → RunsRebuilt r s → RunsRebuilt (costs 0 0 1 r) (costs 0 0 1 s)
rebuilt_node h = rebuilt_costs 0 0 1 _ _ h

pub rebuilt_then : {A B : Type 0} (r s : Run A) (f g : A → Run B) → RunsRebuilt r s → ((v : A) → r.out ≡ Some v → RunsRebuilt (f v) (g v)) → RunsRebuilt (and_then r f) (and_then s g)
rebuilt_then {A} {B} r s f g h k =
    let rest : RunsRebuilt (goes_on r.out f) (goes_on s.out g) =
    subst (λ o. RunsRebuilt (goes_on r.out f) (goes_on o g)) (sym h.out) (by r.out refl) in
    record {
      out = rest.out;
      ticks = omega (arith, h.ticks, rest.ticks);
      cells = omega (arith, h.cells, rest.cells);
      work = omega (arith, h.work, rest.work);
    }
  where
    by : (o : Option A) → r.out ≡ o → RunsRebuilt (goes_on o f) (goes_on o g)
    by None e = rebuilt_same cut
    by (Some v) e = k v e

pub rebuilt_two : {A B C : Type 0} (r s : Run A) (u w : Run B) (f : A → B → Run C) → RunsRebuilt r s → RunsRebuilt u w → RunsRebuilt (and_then r (λ v. and_then u (f v))) (and_then s (λ v. and_then w (f v)))
rebuilt_two r s u w f h k = rebuilt_then _ _ _ _ h (λ v e. rebuilt_then _ _ _ _ k (λ x q. rebuilt_same _))

pub rebuilt_branch : (v : Value) (X Y : Type 0) (a b c d : Run Value) → Taken v X Y → (X → RunsRebuilt a c) → (Y → RunsRebuilt b d) → RunsRebuilt (branch v a b) (branch v c d)
rebuilt_branch (Truth true) X Y a b c d t h k = h t
rebuilt_branch (Truth false) X Y a b c d t h k = k t
rebuilt_branch _ X Y a b c d t h k = absurd t

pub rebuilt_pair : (v : Value) (F : Value → Value → Type 0) (f g : Value → Value → Run Value) → TakenPair v F → ((s r : Value) → v ≡ Both s r → F s r → RunsRebuilt (f s r) (g s r)) → RunsRebuilt (pair_case v cut f) (pair_case v cut g)
rebuilt_pair (Both s r) F f g t k = k s r refl t
rebuilt_pair _ F f g t k = absurd t

pub rebuilt_list : (v : Value) (X : Type 0) (F : Value → Value → Type 0) (a b : Run Value) (f g : Value → Value → Run Value) → TakenList v X F → (v ≡ Empty → X → RunsRebuilt a b) → ((s r : Value) → v ≡ Cons s r → F s r → RunsRebuilt (f s r) (g s r)) → RunsRebuilt (list_case v a f) (list_case v b g)
rebuilt_list Empty X F a b f g t h k = h refl t
rebuilt_list (Cons s r) X F a b f g t h k = k s r refl t
rebuilt_list _ X F a b f g t h k = absurd t

pub rebuilt_tree : (v : Value) (X : Type 0) (F : Value → Value → Value → Type 0) (a b : Run Value) (f g : Value → Value → Value → Run Value) → TakenTree v X F → (v ≡ Empty → X → RunsRebuilt a b) → ((s l r : Value) → v ≡ Node s l r → F s l r → RunsRebuilt (f s l r) (g s l r)) → RunsRebuilt (tree_case v a f) (tree_case v b g)
rebuilt_tree Empty X F a b f g t h k = h refl t
rebuilt_tree (Node s l r) X F a b f g t h k = k s l r refl t
rebuilt_tree _ X F a b f g t h k = absurd t

pub rebuilt_option : (v : Value) (X : Type 0) (F : Value → Type 0) (a b : Run Value) (f g : Value → Run Value) → TakenOption v X F → (v ≡ Empty → X → RunsRebuilt a b) → ((s : Value) → v ≡ Just s → F s → RunsRebuilt (f s) (g s)) → RunsRebuilt (option_case v a f) (option_case v b g)
rebuilt_option Empty X F a b f g t h k = h refl t
rebuilt_option (Just s) X F a b f g t h k = k s refl t
rebuilt_option _ X F a b f g t h k = absurd t

-- Bodies in normal form call what the bodies of the source call.
use Rattle.std.proofs.Common.{◌≡◌, refl, ap, sym, ◌∙◌, arith}
use Rattle.std.specs.Prelude.{ℕ, zero, suc, ◌+◌, ◌<◌, ◌≤◌, Bool, true, false, cond, not, ◌||◌, ◌&&◌, nat_eq, List, [], ◌∷◌, ◌++◌, map, length, Option, None, Some}
use Rattle.std.specs.List.{list_any, range_with_len}
use Rattle.std.proofs.lemmas.List.{length-map}
use Rattle.std.proofs.lemmas.List.Folds.{list_any-append}
use Rattle.std.proofs.lemmas.Bool.{eqb-true, eq-eqb}
use Rattle.std.proofs.lemmas.Map.Views.{any-filter_same}
use Rattle.raml_syntax.specs.Tree as t
use Rattle.raml_syntax.specs.Tree.{Text, Type', Integer, Boolean, ListOf, TreeOf, Function, Prog}
use Rattle.raml_syntax.specs.Place.{place_of}
use Rattle.raml_syntax.specs.Eval.{find}
use Rattle.normal_spec.specs.Norm as n
use Rattle.normal_spec.specs.Norm.{Norm, NormFun, NormProg, carries}
use Rattle.normal_spec.specs.One.{Scope, Operand, Is, Binds, name, after, wrap, wrap_all, with_one, with_two, with_three, operand, plain, one, operands, body_of, place_or, parameters_or, first_of_types, rest_of, scope_of, type_of, part_of, first_part, second_part, element, found, types_in, bound, bound_two, bound_three, split_form, if_form, list_form, tree_form, option_form}
use Rattle.normal_spec.specs.Two.{Slots, Shared, drop_all, share_all, take_all, take_slot, part, of_one, of_two, of_three, over, around, two, norm_fun, norm, slot}
use Rattle.normal_spec.specs.Free.{free_in, put, used, unused}
use Rattle.call_groups.specs.Calls.{is_place, is_called, is_called_in, callees, calls_of}
use Rattle.cost_free.specs.Task.{Kind, Free, With, Task, Outcome}
use Rattle.cost_free.specs.Blocked.{is_among, row, any_calls, is_earlier, has_bound, blocks, least_from, blocker, blocked}
use Rattle.annot_types.specs.Program.{called_in}

true_false : true ≡ false → ⊥
true_false e = cc

-- what a form of step one calls
calls : Norm → List ℕ
calls (n.Call k f xs) = f ∷ []
calls (n.Let k x A a b) = calls a ++ calls b
calls (n.Split k x p q a) = calls a
calls (n.If k x a b) = calls a ++ calls b
calls (n.CaseList k x a h l b) = calls a ++ calls b
calls (n.CaseTree k x a h l r b) = calls a ++ calls b
calls (n.CaseOption k x a w b) = calls a ++ calls b
calls (n.Tick k i a) = calls a
calls _ = []

drops : (G : Slots) (e : Norm) → called_in (drop_all G e) ≡ called_in e
drops [] e = refl
drops (s ∷ G) e = drops G e

shares : (ss : List Shared) (e : Norm) → called_in (share_all ss e) ≡ called_in e
shares [] e = refl
shares (s ∷ ss) e = shares ss e

of_one_calls : (f : ℕ → Norm) → ((x : ℕ) → called_in (f x) ≡ []) → (xs : List ℕ) → called_in (of_one f xs) ≡ []
of_one_calls f h [] = refl
of_one_calls f h (x ∷ []) = h x
of_one_calls f h (x ∷ y ∷ xs) = refl

of_two_calls : (f : ℕ → ℕ → Norm) → ((x y : ℕ) → called_in (f x y) ≡ []) → (xs : List ℕ) → called_in (of_two f xs) ≡ []
of_two_calls f h [] = refl
of_two_calls f h (x ∷ []) = refl
of_two_calls f h (x ∷ y ∷ []) = h x y
of_two_calls f h (x ∷ y ∷ z ∷ xs) = refl

of_three_calls : (f : ℕ → ℕ → ℕ → Norm) → ((x y z : ℕ) → called_in (f x y z) ≡ []) → (xs : List ℕ) → called_in (of_three f xs) ≡ []
of_three_calls f h [] = refl
of_three_calls f h (x ∷ []) = refl
of_three_calls f h (x ∷ y ∷ []) = refl
of_three_calls f h (x ∷ y ∷ z ∷ []) = h x y z
of_three_calls f h (x ∷ y ∷ z ∷ w ∷ xs) = refl

over_one : (f : ℕ → Norm) → ((x : ℕ) → called_in (f x) ≡ []) → (xs : List ℕ) (G : Slots) (k : ℕ) → called_in (over (of_one f) xs G k).0 ≡ []
over_one f h xs G k = let r = take_all xs G k in shares r.0.shares (of_one f r.0.names) ∙ of_one_calls f h r.0.names

over_two : (f : ℕ → ℕ → Norm) → ((x y : ℕ) → called_in (f x y) ≡ []) → (xs : List ℕ) (G : Slots) (k : ℕ) → called_in (over (of_two f) xs G k).0 ≡ []
over_two f h xs G k = let r = take_all xs G k in shares r.0.shares (of_two f r.0.names) ∙ of_two_calls f h r.0.names

over_three : (f : ℕ → ℕ → ℕ → Norm) → ((x y z : ℕ) → called_in (f x y z) ≡ []) → (xs : List ℕ) (G : Slots) (k : ℕ) → called_in (over (of_three f) xs G k).0 ≡ []
over_three f h xs G k = let r = take_all xs G k in shares r.0.shares (of_three f r.0.names) ∙ of_three_calls f h r.0.names

around_is : (e : Norm) → ((G : Slots) (k : ℕ) → called_in (two e G k).0 ≡ calls e) → (G : Slots) (k : ℕ) → called_in (around e (two e) G k).0 ≡ calls e
around_is e h G k = drops (unused e G) (two e (used e G) k).0 ∙ h (used e G) k

-- step two calls the same
two_calls : (e : Norm) (G : Slots) (k : ℕ) → called_in (two e G k).0 ≡ calls e
unfolding calls
two_calls (n.Var i x) G k = over_one (n.Var i) (λ x. refl) (x ∷ []) G k
two_calls (n.Number i v) G k = refl
two_calls (n.Truth i b) G k = refl
two_calls (n.Nil i) G k = refl
two_calls (n.Leaf i) G k = refl
two_calls (n.Nothing i) G k = refl
two_calls (n.Arith i op x y) G k = over_two (n.Arith i op) (λ x y. refl) (x ∷ y ∷ []) G k
two_calls (n.Compare i op x y) G k = over_two (n.Compare i op) (λ x y. refl) (x ∷ y ∷ []) G k
two_calls (n.Not i x) G k = over_one (n.Not i) (λ x. refl) (x ∷ []) G k
two_calls (n.Pair i x y) G k = over_two (n.Pair i) (λ x y. refl) (x ∷ y ∷ []) G k
two_calls (n.Cons i x y) G k = over_two (n.Cons i) (λ x y. refl) (x ∷ y ∷ []) G k
two_calls (n.Node i x y z) G k = over_three (n.Node i) (λ x y z. refl) (x ∷ y ∷ z ∷ []) G k
two_calls (n.Just i x) G k = over_one (n.Just i) (λ x. refl) (x ∷ []) G k
two_calls (n.Call i f xs) G k = let r = take_all xs G k in shares r.0.shares (n.Call i f r.0.names)
two_calls (n.Let i x A a b) G k =
    let d = part a b G k in
    let c = d.1 in
    let ra = around a (two a) d.0.first (c + 1) in
    let rb = around b (two b) (d.0.second ++ slot x c ∷ []) ra.1 in
    shares d.0.shares (n.Let i c A ra.0 rb.0) ∙ (λ j. around_is a (two_calls a) d.0.first (c + 1) j ++ around_is b (two_calls b) (d.0.second ++ slot x c ∷ []) ra.1 j)
two_calls (n.Split i x p q a) G k =
    let t = take_slot (free_in x a) x G k in
    let c = t.1 in
    let r = around a (two a) (put x (slot p c ∷ slot q (c + 1) ∷ t.0.stay) G) (c + 2) in
    shares t.0.shares (n.Split i t.0.name c (c + 1) r.0) ∙ around_is a (two_calls a) (put x (slot p c ∷ slot q (c + 1) ∷ t.0.stay) G) (c + 2)
two_calls (n.If i x a b) G k =
    let t = take_slot (free_in x a || free_in x b) x G k in
    let ra = around a (two a) (put x t.0.stay G) t.1 in
    let rb = around b (two b) (put x t.0.stay G) ra.1 in
    shares t.0.shares (n.If i t.0.name ra.0 rb.0) ∙ (λ j. around_is a (two_calls a) (put x t.0.stay G) t.1 j ++ around_is b (two_calls b) (put x t.0.stay G) ra.1 j)
two_calls (n.CaseList i x a h l b) G k =
    let t = take_slot (free_in x a || free_in x b) x G k in
    let c = t.1 in
    let ra = around a (two a) (put x t.0.stay G) (c + 2) in
    let G' = put x (slot h c ∷ slot l (c + 1) ∷ t.0.stay) G in
    let rb = around b (two b) G' ra.1 in
    shares t.0.shares (n.CaseList i t.0.name ra.0 c (c + 1) rb.0) ∙ (λ j. around_is a (two_calls a) (put x t.0.stay G) (c + 2) j ++ around_is b (two_calls b) G' ra.1 j)
two_calls (n.CaseTree i x a h l r b) G k =
    let t = take_slot (free_in x a || free_in x b) x G k in
    let c = t.1 in
    let ra = around a (two a) (put x t.0.stay G) (c + 3) in
    let G' = put x (slot h c ∷ slot l (c + 1) ∷ slot r (c + 2) ∷ t.0.stay) G in
    let rb = around b (two b) G' ra.1 in
    shares t.0.shares (n.CaseTree i t.0.name ra.0 c (c + 1) (c + 2) rb.0) ∙ (λ j. around_is a (two_calls a) (put x t.0.stay G) (c + 3) j ++ around_is b (two_calls b) G' ra.1 j)
two_calls (n.CaseOption i x a w b) G k =
    let t = take_slot (free_in x a || free_in x b) x G k in
    let c = t.1 in
    let ra = around a (two a) (put x t.0.stay G) (c + 1) in
    let G' = put x (slot w c ∷ t.0.stay) G in
    let rb = around b (two b) G' ra.1 in
    shares t.0.shares (n.CaseOption i t.0.name ra.0 c rb.0) ∙ (λ j. around_is a (two_calls a) (put x t.0.stay G) (c + 1) j ++ around_is b (two_calls b) G' ra.1 j)
two_calls (n.Tick i j a) G k = two_calls a G k
two_calls (n.Share i x p q a) G k = refl
two_calls (n.Drop i x a) G k = refl

carries_calls : (i : ℕ) (e : Norm) → calls (carries i e) ≡ calls e
unfolding calls
carries_calls i (n.Var k x) = refl
carries_calls i (n.Number k v) = refl
carries_calls i (n.Truth k b) = refl
carries_calls i (n.Nil k) = refl
carries_calls i (n.Leaf k) = refl
carries_calls i (n.Nothing k) = refl
carries_calls i (n.Arith k op x y) = refl
carries_calls i (n.Compare k op x y) = refl
carries_calls i (n.Not k x) = refl
carries_calls i (n.Pair k x y) = refl
carries_calls i (n.Cons k x y) = refl
carries_calls i (n.Node k x y z) = refl
carries_calls i (n.Just k x) = refl
carries_calls i (n.Call k f xs) = refl
carries_calls i (n.Let k x A a b) = refl
carries_calls i (n.Split k x p q a) = refl
carries_calls i (n.If k x a b) = refl
carries_calls i (n.CaseList k x a h t b) = refl
carries_calls i (n.CaseTree k x a h l r b) = refl
carries_calls i (n.CaseOption k x a w b) = refl
carries_calls i (n.Tick k j a) = refl
carries_calls i (n.Share k x p q a) = refl
carries_calls i (n.Drop k x a) = refl

pub or_false : (a : Bool) → (a || false) ≡ a
or_false true = refl
or_false false = refl

or_swap : (a b : Bool) → (a || b) ≡ (b || a)
or_swap true true = refl
or_swap true false = refl
or_swap false true = refl
or_swap false false = refl

module _ (P : Prog) (f : ℕ) (low : f < length P) where
  called : Norm → Bool
  called e = is_among f (calls e)

  operand_calls : Operand → Bool
  operand_calls (Is x) = false
  operand_calls (Binds z A a) = called a

  all_call : List Operand → Bool
  all_call [] = false
  all_call (x ∷ xs) = operand_calls x || all_call xs

  wrapped : (x : Operand) (e : Norm) → called (wrap x e) ≡ (operand_calls x || called e)
  unfolding called operand_calls calls
  wrapped (Is x) e = refl
  wrapped (Binds z A a) e = list_any-append (nat_eq f) (calls a) (calls e)

  all_wrapped : (xs : List Operand) (e : Norm) → called (wrap_all xs e) ≡ (all_call xs || called e)
  unfolding all_call
  all_wrapped [] e = refl
  all_wrapped (x ∷ xs) e = wrapped x (wrap_all xs e) ∙ ap (λ b. operand_calls x || b) (all_wrapped xs e) ∙ by (operand_calls x) where
    by : (b : Bool) → (b || (all_call xs || called e)) ≡ ((b || all_call xs) || called e)
    by true = refl
    by false = refl

  carried : (i : ℕ) (e : Norm) → called (carries i e) ≡ called e
  unfolding called
  carried i e = ap (is_among f) (carries_calls i e)

  -- a form over operands
  one_called : (g : ℕ → Norm) (x : Operand) (p : Bool) → operand_calls x ≡ p → called (with_one g x) ≡ (p || called (g (name x)))
  one_called g x p e = carried _ (wrap x (g (name x))) ∙ wrapped x (g (name x)) ∙ ap (λ b. b || called (g (name x))) e

  two_called : (g : ℕ → ℕ → Norm) (x y : Operand) (p q : Bool) → operand_calls x ≡ p → operand_calls y ≡ q → called (g (name x) (name y)) ≡ false →
      called (with_two g x y) ≡ (p || q)
  two_called g x y p q e h none = carried _ (wrap x (wrap y (g (name x) (name y)))) ∙ wrapped x (wrap y (g (name x) (name y)))
      ∙ (λ i. e i || (wrapped y (g (name x) (name y)) ∙ (λ j. h j || none j) ∙ or_false q) i)

  three_called : (g : ℕ → ℕ → ℕ → Norm) (x y z : Operand) (p q r : Bool) → operand_calls x ≡ p → operand_calls y ≡ q → operand_calls z ≡ r →
      called (g (name x) (name y) (name z)) ≡ false → called (with_three g x y z) ≡ (p || (q || r))
  three_called g x y z p q r e h l none = carried _ (wrap x (wrap y (wrap z (g (name x) (name y) (name z))))) ∙ wrapped x (wrap y (wrap z (g (name x) (name y) (name z))))
      ∙ (λ i. e i || (wrapped y (wrap z (g (name x) (name y) (name z))) ∙ (λ j. h j || (wrapped z (g (name x) (name y) (name z)) ∙ (λ m. l m || none m) ∙ or_false r) j)) i)

  plain_calls : (e : t.Term) (x : Text) → plain e ≡ Some x → is_called P f e ≡ false
  plain_calls (t.Var p y) x h = refl
  plain_calls (t.Typed p a A) x h = plain_calls a x h
  plain_calls e x h = absurd (cc)

  operand_is : (e : t.Term) (S : Scope) (A : Type') (form : ℕ → Norm) (k : ℕ) → ((k : ℕ) → called (form k) ≡ is_called P f e) →
      operand_calls (operand (plain e) S A form k) ≡ is_called P f e
  unfolding operand_calls
  operand_is e S A form k h = by (plain e) refl where
    by : (o : Option Text) → plain e ≡ o → operand_calls (operand o S A form k) ≡ is_called P f e
    by None e = h k
    by (Some x) h = sym (plain_calls e x h)

  place_called : (o : Option ℕ) → (nat_eq f (place_or (length P) o) || false) ≡ is_place f o
  place_called None = by (nat_eq f (length P)) refl where
    by : (b : Bool) → nat_eq f (length P) ≡ b → (b || false) ≡ false
    by true e = absurd (omega (arith, eqb-true f (length P) e, low))
    by false e = refl
  place_called (Some k) = or_false (nat_eq f k)

  -- both parts of a form
  parts : (a b : Norm) → is_among f (calls a ++ calls b) ≡ (called a || called b)
  unfolding called
  parts a b = list_any-append (nat_eq f) (calls a) (calls b)

  part_is : (e : t.Term) (S : Scope) (A : Type') (want : Option Type') (k : ℕ) → ((k : ℕ) → called (one P want S e k) ≡ is_called P f e) →
      operand_calls (operand (plain e) S A (one P want S e) k) ≡ is_called P f e
  part_is e S A want k h = operand_is e S A (one P want S e) k h

  mutual
    unfolding called calls all_call

    step_one : (want : Option Type') (S : Scope) (e : t.Term) (k : ℕ) → called (one P want S e k) ≡ is_called P f e
    step_one want S (t.Number p i) k = refl
    step_one want S (t.Truth p b) k = refl
    step_one want S (t.Nil p) k = refl
    step_one want S (t.Leaf p) k = refl
    step_one want S (t.Nothing p) k = refl
    step_one want S (t.Var p x) k = refl
    step_one want S (t.Arith p op a b) k = two_called (n.Arith 0 op) _ _ _ _ (part_is a S Integer (Some Integer) k (λ k. step_one (Some Integer) S a k)) (part_is b S Integer (Some Integer) _ (λ k. step_one (Some Integer) S b k)) refl
    step_one want S (t.Compare p op a b) k = two_called (n.Compare 0 op) _ _ _ _ (part_is a S Integer (Some Integer) k (λ k. step_one (Some Integer) S a k)) (part_is b S Integer (Some Integer) _ (λ k. step_one (Some Integer) S b k)) refl
    step_one want S (t.Not p a) k = one_called (n.Not 0) _ _ (part_is a S Boolean (Some Boolean) k (λ k. step_one (Some Boolean) S a k)) ∙ or_false (is_called P f a)
    step_one want S (t.Pair p a b) k = two_called (n.Pair 0) _ _ _ _ (part_is a S (type_of P (part_of first_part want) S a) (part_of first_part want) k (λ k. step_one (part_of first_part want) S a k)) (part_is b S (type_of P (part_of second_part want) S b) (part_of second_part want) _ (λ k. step_one (part_of second_part want) S b k)) refl
    step_one want S (t.Cons p a b) k = let A = type_of P (part_of element want) S a in two_called (n.Cons 0) _ _ _ _ (part_is a S A (part_of element want) k (λ k. step_one (part_of element want) S a k)) (part_is b S (ListOf A) (Some (ListOf A)) _ (λ k. step_one (Some (ListOf A)) S b k)) refl
    step_one want S (t.Node p a b c) k = let A = type_of P (part_of element want) S a in three_called (n.Node 0) _ _ _ _ _ _ (part_is a S A (part_of element want) k (λ k. step_one (part_of element want) S a k)) (part_is b S (TreeOf A) (Some (TreeOf A)) _ (λ k. step_one (Some (TreeOf A)) S b k)) (part_is c S (TreeOf A) (Some (TreeOf A)) _ (λ k. step_one (Some (TreeOf A)) S c k)) refl
    step_one want S (t.Just p a) k = one_called (n.Just 0) _ _ (part_is a S (type_of P (part_of element want) S a) (part_of element want) k (λ k. step_one (part_of element want) S a k)) ∙ or_false (is_called P f a)
    step_one want S (t.Call p g args) k =
        let xs = operands P S args (parameters_or (find g P)) k in
        let form = n.Call 0 (place_or (length P) (place_of g P)) (map name xs) in
        carried _ (wrap_all xs form) ∙ all_wrapped xs form
        ∙ (λ i. arguments S args (parameters_or (find g P)) k i || place_called (place_of g P) i)
        ∙ or_swap (is_called_in P f args) (is_place f (place_of g P))
    step_one want S (t.Let p x a b) k =
        let A = found P (types_in S) a in
        parts (one P None S a k) (one P want (bound x.name k A S) b (k + 1)) ∙ (λ i. step_one None S a k i || step_one want (bound x.name k A S) b (k + 1) i)
    step_one want S (t.LetPair p x y a b) k =
        let T = found P (types_in S) a in
        let o = operand (plain a) S T (one P None S a) k in
        let j = after k o in
        one_called (split_form (λ j. one P want (bound_two x.name y.name (first_part T) (second_part T) S j) b (j + 2)) j) o _ (part_is a S T None k (λ k. step_one None S a k))
        ∙ ap (λ d. is_called P f a || d) (step_one want (bound_two x.name y.name (first_part T) (second_part T) S j) b (j + 2))
    step_one want S (t.If p c a b) k =
        let o = operand (plain c) S Boolean (one P (Some Boolean) S c) k in
        let j = after k o in
        let W = Some (type_of P want S a) in
        one_called (if_form (one P want S a) (one P W S b) j) o _ (part_is c S Boolean (Some Boolean) k (λ k. step_one (Some Boolean) S c k))
        ∙ ap (λ d. is_called P f c || d) (parts (one P want S a j) (one P W S b j) ∙ (λ i. step_one want S a j i || step_one W S b j i))
    step_one want S (t.MatchList p c a x y b) k =
        let T = found P (types_in S) c in
        let o = operand (plain c) S T (one P None S c) k in
        let j = after k o in
        let W = Some (type_of P want S a) in
        one_called (list_form (one P want S a) (λ j. one P W (bound_two x.name y.name (element T) T S j) b (j + 2)) j) o _ (part_is c S T None k (λ k. step_one None S c k))
        ∙ ap (λ d. is_called P f c || d) (parts (one P want S a j) (one P W (bound_two x.name y.name (element T) T S j) b (j + 2)) ∙ (λ i. step_one want S a j i || step_one W (bound_two x.name y.name (element T) T S j) b (j + 2) i))
    step_one want S (t.MatchTree p c a x y z b) k =
        let T = found P (types_in S) c in
        let o = operand (plain c) S T (one P None S c) k in
        let j = after k o in
        let W = Some (type_of P want S a) in
        one_called (tree_form (one P want S a) (λ j. one P W (bound_three x.name y.name z.name (element T) T T S j) b (j + 3)) j) o _ (part_is c S T None k (λ k. step_one None S c k))
        ∙ ap (λ d. is_called P f c || d) (parts (one P want S a j) (one P W (bound_three x.name y.name z.name (element T) T T S j) b (j + 3)) ∙ (λ i. step_one want S a j i || step_one W (bound_three x.name y.name z.name (element T) T T S j) b (j + 3) i))
    step_one want S (t.MatchOption p c a x b) k =
        let T = found P (types_in S) c in
        let o = operand (plain c) S T (one P None S c) k in
        let j = after k o in
        let W = Some (type_of P want S a) in
        one_called (option_form (one P want S a) (λ j. one P W (bound x.name j (element T) S) b (j + 1)) j) o _ (part_is c S T None k (λ k. step_one None S c k))
        ∙ ap (λ d. is_called P f c || d) (parts (one P want S a j) (one P W (bound x.name j (element T) S) b (j + 1)) ∙ (λ i. step_one want S a j i || step_one W (bound x.name j (element T) S) b (j + 1) i))
    step_one want S (t.Tick p i a) k = step_one want S a k
    step_one want S (t.Typed p a A) k = step_one (Some A) S a k

    arguments : (S : Scope) (es : t.Terms) (As : List Type') (k : ℕ) → all_call (operands P S es As k) ≡ is_called_in P f es
    arguments S t.None As k = refl
    arguments S (t.More e rest) As k = λ i. part_is e S (first_of_types As) (Some (first_of_types As)) k (λ k. step_one (Some (first_of_types As)) S e k) i
        || arguments S rest (rest_of As) (after k (operand (plain e) S (first_of_types As) (one P (Some (first_of_types As)) S e) k)) i

  body_called : (h : Function) → is_among f (called_in (norm_fun P h).body) ≡ is_called P f h.body
  unfolding called
  body_called h =
      ap (is_among f) (around_is (body_of P h) (two_calls (body_of P h)) _ _) ∙ carried 1 _ ∙ step_one (Some h.result) (scope_of h.params 1 []) h.body (length h.params + 1)

in_range : (f a count : ℕ) → a ≤ f → f < a + count → list_any (nat_eq f) (range_with_len a count) ≡ true
in_range f a zero low high = absurd (omega (arith, low, high))
in_range f a (suc count) low high = by (nat_eq f a) refl (in_range f (a + 1) count) where
  by : (b : Bool) → nat_eq f a ≡ b → (a + 1 ≤ f → f < a + 1 + count → list_any (nat_eq f) (range_with_len (a + 1) count) ≡ true) → (b || list_any (nat_eq f) (range_with_len (a + 1) count)) ≡ true
  by true e h = refl
  by false e h =
      let other : f ≡ a → ⊥ = λ k. true_false (sym (eq-eqb f a k) ∙ e) in
      h (omega (arith, low, other)) (omega (arith, high))

pub and_true : (b : Bool) → (b && true) ≡ b
and_true true = refl
and_true false = refl

callees_are : (P : Prog) (e : t.Term) (f : ℕ) → f < length P → is_among f (callees P e) ≡ is_called P f e
callees_are P e f low =
    any-filter_same (nat_eq f) (λ g. is_called P g e) (is_called P f e) (λ k h. ap (λ g. is_called P g e) (sym (eqb-true f k h))) (range_with_len 0 (length P))
    ∙ ap (λ b. is_called P f e && b) (in_range f 0 (length P) (omega arith) (omega (arith, low)))
    ∙ and_true (is_called P f e)

-- the two lists of calls, function by function
normal_calls : NormProg → List (List ℕ)
normal_calls N = map (λ (g : NormFun). called_in g.body) N

same_row : (P : Prog) (Q : Prog) (f k : ℕ) → f < length P →
    is_among f (row (normal_calls (map (norm_fun P) Q)) k) ≡ is_among f (row (map (λ (h : Function). callees P h.body) Q) k)
unfolding normal_calls
same_row P [] f k low = refl
same_row P (h ∷ Q) f zero low = body_called P f low h ∙ sym (callees_are P h.body f low)
same_row P (h ∷ Q) f (suc k) low = same_row P Q f k low

same_any : (calls other : List (List ℕ)) (f : ℕ) → ((k : ℕ) → is_among f (row calls k) ≡ is_among f (row other k)) → (gs : List ℕ) → any_calls calls f gs ≡ any_calls other f gs
same_any calls other f h [] = refl
same_any calls other f h (g ∷ gs) = λ i. h g i || same_any calls other f h gs i

same_least : (p q : ℕ → Bool) (count k : ℕ) → ((f : ℕ) → f < k + count → p f ≡ q f) → least_from p count k ≡ least_from q count k
same_least p q zero k h = refl
same_least p q (suc count) k h = λ i. cond (h k (omega arith) i) (Some k) (same_least p q count (suc k) (λ f l. h f (omega (arith, l))) i)

-- So a task waits for the same function.
pub same_blocker : (P : Prog) (groups : List (List ℕ)) (task : Task) (done : List Outcome) →
    blocked groups (map (λ (g : NormFun). called_in g.body) (norm P)) task done ≡ blocked groups (calls_of P) task done
unfolding normal_calls
same_blocker P groups task done = by task.kind where
  by : (kind : Kind) → blocker groups (normal_calls (norm P)) task.group kind done ≡ blocker groups (calls_of P) task.group kind done
  by (Free budget f target) = refl
  by (With meter) =
      ap (λ n. least_from (blocks groups (normal_calls (norm P)) task.group meter done) n 0)
      (length-map (norm P) (λ (g : NormFun). called_in g.body) ∙ length-map P (norm_fun P) ∙ sym (length-map P (λ (h : Function). callees P h.body)))
      ∙ same_least (blocks groups (normal_calls (norm P)) task.group meter done) (blocks groups (calls_of P) task.group meter done) (length (calls_of P)) 0
      (λ f l. let low : f < length P = omega (arith, l, length-map P (λ (h : Function). callees P h.body)) in
      ap (λ b. (b && is_earlier groups (calls_of P) task.group f) && not (has_bound groups meter done f))
      (same_any (normal_calls (norm P)) (calls_of P) f (λ k. same_row P P f k low) (row groups task.group)))

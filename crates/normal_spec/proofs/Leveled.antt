-- In the forms of step one no variable hides another.
use Rattle.std.proofs.Common.{◌≡◌, ◌≤◌, ◌<◌, ◌+◌, ℕ, List, [], ◌∷◌, map, length, Option, Some, None, subst, arith}
use Rattle.std.specs.Str.{bytes_eq}
use Rattle.std.specs.Prelude.{Bool, true, false, cond}
use Rattle.raml_syntax.specs.Tree as t
use Rattle.raml_syntax.specs.Tree.{Text, Type', Integer, Boolean, ListOf, TreeOf, OptionOf, Bound, Prog}
use Rattle.raml_syntax.specs.Eval.{find}
use Rattle.raml_syntax.specs.Place.{place_of}
use Rattle.normal_spec.specs.Norm as n
use Rattle.normal_spec.specs.Norm.{carries}
use Rattle.normal_spec.specs.Levels.{AllBelow, Levels}
use Rattle.normal_spec.specs.One.{Scope, number_of, types_in, bound, bound_two, bound_three, first_part, second_part, element, part_of, place_or, plain, parameters_or, first_of_types, rest_of, Operand, name, after, bare, bare_all, wrap, wrap_all, operand, operands, norm_one, norm_two, norm_three, split_form, if_form, list_form, tree_form, option_form, one, found, type_of}

pub levels_carries : (j m : ℕ) (e : n.Norm) → Levels j e → Levels j (carries m e)
levels_carries j m (n.Var k x) h = h
levels_carries j m (n.Number k i) h = h
levels_carries j m (n.Truth k b) h = h
levels_carries j m (n.Nil k) h = h
levels_carries j m (n.Leaf k) h = h
levels_carries j m (n.Nothing k) h = h
levels_carries j m (n.Arith k op x y) h = h
levels_carries j m (n.Compare k op x y) h = h
levels_carries j m (n.Not k x) h = h
levels_carries j m (n.Pair k x y) h = h
levels_carries j m (n.Cons k x y) h = h
levels_carries j m (n.Node k x y z) h = h
levels_carries j m (n.Just k x) h = h
levels_carries j m (n.Call k f xs) h = h
levels_carries j m (n.Let k x A a b) h = h
levels_carries j m (n.Split k x p q a) h = h
levels_carries j m (n.If k x a b) h = h
levels_carries j m (n.CaseList k x a p q b) h = h
levels_carries j m (n.CaseTree k x a p q r b) h = h
levels_carries j m (n.CaseOption k x a w b) h = h
levels_carries j m (n.Tick k i a) h = h
levels_carries j m (n.Share k x p q a) h = h
levels_carries j m (n.Drop k x a) h = h

-- the numbers in scope are below k
pub record Low (S : Scope) (k : ℕ) : Type 0 where
  pub at : (x : Text) → number_of x S < k

low_more : (S : Scope) (k j : ℕ) → k ≤ j → Low S k → Low S j
low_more S k j le h = record { at = λ x. omega (arith, h.at x) }

low_bound : (x : Text) (A : Type') (S : Scope) (k j : ℕ) → k < j → Low S k → Low (bound x k A S) j
low_bound x A S k j lt h = record { at = λ y. by y (bytes_eq y x) }
  where
    by : (y : Text) (b : Bool) → cond b k (number_of y S) < j
    by y true = lt
    by y false = let low = h.at y in omega arith

-- an operand, and the room behind it
record Room (k : ℕ) (x : Operand) : Type 0 where
  name_low : name x < after k x
  grows : k ≤ after k x
  holds : (rest : n.Norm) → Levels (after k x) rest → Levels k (wrap x rest)

room : (o : Option Text) (S : Scope) (A : Type') (a : ℕ → n.Norm) (k : ℕ) → Low S k → ((j : ℕ) → Low S j → Levels j (a j)) → Room k (operand o S A a k)
room (Some x) S A a k low h = record { name_low = low.at x; grows = omega arith; holds = λ rest l. l }
room None S A a k low h = record { name_low = omega arith; grows = omega arith; holds = λ rest l. (omega arith, h k low, l) }

all_below_more : (xs : List ℕ) (i j : ℕ) → i ≤ j → AllBelow i xs → AllBelow j xs
all_below_more [] i j le h = tt
all_below_more (x ∷ xs) i j le h = (omega (arith, h.0), all_below_more xs i j le h.1)

one_levels : (g : ℕ → ℕ → n.Norm) (o : Option Text) (S : Scope) (A : Type') (a : ℕ → n.Norm) (k : ℕ) → Low S k → ((j : ℕ) → Low S j → Levels j (a j)) → ((j x : ℕ) → x < j → Low S j → Levels j (g j x)) → Levels k (norm_one g (operand o S A a) k)
one_levels g o S A a k low ha hg =
    let r = room o S A a k low ha in
    let x = operand o S A a k in
    levels_carries k (1 + bare x) (wrap x (g (after k x) (name x))) (r.holds (g (after k x) (name x)) (hg (after k x) (name x) r.name_low (low_more S k (after k x) r.grows low)))

two_levels : (g : ℕ → ℕ → n.Norm) (o p : Option Text) (S : Scope) (A B : Type') (a b : ℕ → n.Norm) (k : ℕ) → Low S k → ((j : ℕ) → Low S j → Levels j (a j)) → ((j : ℕ) → Low S j → Levels j (b j)) → ((j x y : ℕ) → x < j → y < j → Levels j (g x y)) → Levels k (norm_two g (operand o S A a) (operand p S B b) k)
two_levels g o p S A B a b k low ha hb hg =
    let r = room o S A a k low ha in
    let x = operand o S A a k in
    let i = after k x in
    let s = room p S B b i (low_more S k i r.grows low) hb in
    let y = operand p S B b i in
    levels_carries k (1 + (bare x + bare y)) (wrap x (wrap y (g (name x) (name y)))) (r.holds (wrap y (g (name x) (name y))) (s.holds (g (name x) (name y)) (hg (after i y) (name x) (name y) (omega (arith, r.name_low, s.grows)) s.name_low)))

three_levels : (g : ℕ → ℕ → ℕ → n.Norm) (o p q : Option Text) (S : Scope) (A B C : Type') (a b c : ℕ → n.Norm) (k : ℕ) → Low S k → ((j : ℕ) → Low S j → Levels j (a j)) → ((j : ℕ) → Low S j → Levels j (b j)) → ((j : ℕ) → Low S j → Levels j (c j)) → ((j x y z : ℕ) → x < j → y < j → z < j → Levels j (g x y z)) → Levels k (norm_three g (operand o S A a) (operand p S B b) (operand q S C c) k)
three_levels g o p q S A B C a b c k low ha hb hc hg =
    let r = room o S A a k low ha in
    let x = operand o S A a k in
    let i = after k x in
    let low1 = low_more S k i r.grows low in
    let s = room p S B b i low1 hb in
    let y = operand p S B b i in
    let l = after i y in
    let u = room q S C c l (low_more S i l s.grows low1) hc in
    let z = operand q S C c l in
    let last = g (name x) (name y) (name z) in
    levels_carries k (1 + (bare x + (bare y + bare z))) (wrap x (wrap y (wrap z last))) (r.holds (wrap y (wrap z last)) (s.holds (wrap z last) (u.holds last (hg (after l z) (name x) (name y) (name z) (omega (arith, r.name_low, s.grows, u.grows)) (omega (arith, s.name_low, u.grows)) u.name_low))))

levels_is : (i j : ℕ) (e : n.Norm) → i ≡ j → Levels i e → Levels j e
levels_is i j e q h = subst (λ k. Levels k e) q h

module _ (P : Prog) where
  mutual
    pub levels_one : (e : t.Term) (want : Option Type') (S : Scope) (k : ℕ) → Low S k → Levels k (one P want S e k)
    levels_one (t.Number p i) want S k low = tt
    levels_one (t.Truth p b) want S k low = tt
    levels_one (t.Nil p) want S k low = tt
    levels_one (t.Leaf p) want S k low = tt
    levels_one (t.Nothing p) want S k low = tt
    levels_one (t.Var p x) want S k low = low.at x
    levels_one (t.Arith p op a b) want S k low = two_levels (n.Arith 0 op) (plain a) (plain b) S Integer Integer (one P (Some Integer) S a) (one P (Some Integer) S b) k low (levels_one a (Some Integer) S) (levels_one b (Some Integer) S) (λ j x y l m. (l, m))
    levels_one (t.Compare p op a b) want S k low = two_levels (n.Compare 0 op) (plain a) (plain b) S Integer Integer (one P (Some Integer) S a) (one P (Some Integer) S b) k low (levels_one a (Some Integer) S) (levels_one b (Some Integer) S) (λ j x y l m. (l, m))
    levels_one (t.Not p a) want S k low = one_levels (λ j. n.Not 0) (plain a) S Boolean (one P (Some Boolean) S a) k low (levels_one a (Some Boolean) S) (λ j x l m. l)
    levels_one (t.Pair p a b) want S k low = two_levels (n.Pair 0) (plain a) (plain b) S (type_of P (part_of first_part want) S a) (type_of P (part_of second_part want) S b) (one P (part_of first_part want) S a) (one P (part_of second_part want) S b) k low (levels_one a (part_of first_part want) S) (levels_one b (part_of second_part want) S) (λ j x y l m. (l, m))
    levels_one (t.Cons p a b) want S k low = two_levels (n.Cons 0) (plain a) (plain b) S (type_of P (part_of element want) S a) (ListOf (type_of P (part_of element want) S a)) (one P (part_of element want) S a) (one P (Some (ListOf (type_of P (part_of element want) S a))) S b) k low (levels_one a (part_of element want) S) (levels_one b (Some (ListOf (type_of P (part_of element want) S a))) S) (λ j x y l m. (l, m))
    levels_one (t.Node p a b c) want S k low =
        let T = TreeOf (type_of P (part_of element want) S a) in
        three_levels (n.Node 0) (plain a) (plain b) (plain c) S (type_of P (part_of element want) S a) T T (one P (part_of element want) S a) (one P (Some T) S b) (one P (Some T) S c) k low (levels_one a (part_of element want) S) (levels_one b (Some T) S) (levels_one c (Some T) S) (λ j x y z l m o. (l, m, o))
    levels_one (t.Just p a) want S k low = one_levels (λ j. n.Just 0) (plain a) S (type_of P (part_of element want) S a) (one P (part_of element want) S a) k low (levels_one a (part_of element want) S) (λ j x l m. l)
    levels_one (t.Call p f args) want S k low =
        let os = operands P S args (parameters_or (find f P)) k in
        let m = n.Call 0 (place_or (length P) (place_of f P)) in
        levels_carries k (1 + bare_all os) (wrap_all os (m (map name os))) (all_levels args (parameters_or (find f P)) S k m low (λ j le h. h))
    levels_one (t.Let p x a b) want S k low =
        (omega arith, levels_one a None S k low, levels_one b want (bound x.name k (found P (types_in S) a) S) (k + 1) (low_bound x.name _ S k (k + 1) (omega arith) low))
    levels_one (t.LetPair p x y a b) want S k low =
        let T = found P (types_in S) a in
        one_levels (split_form (λ j. one P want (bound_two x.name y.name (first_part T) (second_part T) S j) b (j + 2))) (plain a) S T (one P None S a) k low (levels_one a None S)
        (λ j z l m. (l, omega arith, omega arith, levels_is (j + 2) (j + 1 + 1) (one P want (bound_two x.name y.name (first_part T) (second_part T) S j) b (j + 2)) (omega arith) (levels_one b want (bound_two x.name y.name (first_part T) (second_part T) S j) (j + 2) (low_bound y.name _ _ (j + 1) (j + 2) (omega arith) (low_bound x.name _ S j (j + 1) (omega arith) m)))))
    levels_one (t.If p c a b) want S k low =
        one_levels (if_form (one P want S a) (one P (Some (type_of P want S a)) S b)) (plain c) S Boolean (one P (Some Boolean) S c) k low (levels_one c (Some Boolean) S)
        (λ j z l m. (l, levels_one a want S j m, levels_one b (Some (type_of P want S a)) S j m))
    levels_one (t.MatchList p c a x y b) want S k low =
        let T = found P (types_in S) c in
        let B = Some (type_of P want S a) in
        one_levels (list_form (one P want S a) (λ j. one P B (bound_two x.name y.name (element T) T S j) b (j + 2))) (plain c) S T (one P None S c) k low (levels_one c None S)
        (λ j z l m. (l, levels_one a want S j m, omega arith, omega arith, levels_is (j + 2) (j + 1 + 1) (one P B (bound_two x.name y.name (element T) T S j) b (j + 2)) (omega arith) (levels_one b B (bound_two x.name y.name (element T) T S j) (j + 2) (low_bound y.name _ _ (j + 1) (j + 2) (omega arith) (low_bound x.name _ S j (j + 1) (omega arith) m)))))
    levels_one (t.MatchTree p c a x y z b) want S k low =
        let T = found P (types_in S) c in
        let B = Some (type_of P want S a) in
        one_levels (tree_form (one P want S a) (λ j. one P B (bound_three x.name y.name z.name (element T) T T S j) b (j + 3))) (plain c) S T (one P None S c) k low (levels_one c None S)
        (λ j u l m. (l, levels_one a want S j m, omega arith, omega arith, omega arith, levels_is (j + 3) (j + 2 + 1) (one P B (bound_three x.name y.name z.name (element T) T T S j) b (j + 3)) (omega arith) (levels_one b B (bound_three x.name y.name z.name (element T) T T S j) (j + 3) (low_bound z.name _ _ (j + 2) (j + 3) (omega arith) (low_bound y.name _ _ (j + 1) (j + 2) (omega arith) (low_bound x.name _ S j (j + 1) (omega arith) m))))))
    levels_one (t.MatchOption p c a x b) want S k low =
        let T = found P (types_in S) c in
        let B = Some (type_of P want S a) in
        one_levels (option_form (one P want S a) (λ j. one P B (bound x.name j (element T) S) b (j + 1))) (plain c) S T (one P None S c) k low (levels_one c None S)
        (λ j z l m. (l, levels_one a want S j m, omega arith, levels_one b B (bound x.name j (element T) S) (j + 1) (low_bound x.name _ S j (j + 1) (omega arith) m)))
    levels_one (t.Tick p i a) want S k low = levels_one a want S k low
    levels_one (t.Typed p a A) want S k low = levels_one a (Some A) S k low

    all_levels : (es : t.Terms) (As : List Type') (S : Scope) (k : ℕ) (f : List ℕ → n.Norm) → Low S k → ((j : ℕ) → k ≤ j → AllBelow j (map name (operands P S es As k)) → Levels j (f (map name (operands P S es As k)))) → Levels k (wrap_all (operands P S es As k) (f (map name (operands P S es As k))))
    all_levels t.None As S k f low h = h k (omega arith) tt
    all_levels (t.More a es) As S k f low h =
        let A = first_of_types As in
        let r = room (plain a) S A (one P (Some A) S a) k low (levels_one a (Some A) S) in
        let x = operand (plain a) S A (one P (Some A) S a) k in
        let i = after k x in
        let xs = operands P S es (rest_of As) i in
        r.holds (wrap_all xs (f (name x ∷ map name xs))) (all_levels es (rest_of As) S i (λ ys. f (name x ∷ ys)) (low_more S k i r.grows low) (λ j le m. h j (omega (arith, r.grows)) (omega (arith, r.name_low), m)))

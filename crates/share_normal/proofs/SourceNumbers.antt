-- The numbers of an expression are those of its form of step one.
use Rattle.std.proofs.Common.{◌≡◌, ◌+◌, ℕ, List, [], ◌∷◌, map, length, Option, Some, None, refl}
use Rattle.raml_syntax.specs.Tree as t
use Rattle.raml_syntax.specs.Tree.{Text, Type', Integer, Boolean, ListOf, TreeOf, Function, Prog}
use Rattle.raml_syntax.specs.Eval.{find}
use Rattle.raml_syntax.specs.Place.{place_of}
use Rattle.raml_syntax.specs.Node.{AllNodes, AllOf, NumberFits}
use Rattle.normal_spec.specs.Norm as n
use Rattle.normal_spec.specs.Norm.{carries}
use Rattle.normal_spec.specs.One.{Scope, types_in, bound, bound_two, bound_three, first_part, second_part, element, part_of, place_or, parameters_or, first_of_types, rest_of, plain, Operand, Is, Binds, name, after, bare, wrap, wrap_all, bare_all, operand, norm_one, norm_two, norm_three, split_form, if_form, list_form, tree_form, option_form, found, type_of, one, operands, scope_of, body_of}
use Rattle.share_normal.specs.Numbers.{NumbersFit}

carried : (m : ℕ) (e : n.Norm) → NumbersFit (carries m e) → NumbersFit e
carried m (n.Var k x) h = h
carried m (n.Number k i) h = h
carried m (n.Truth k b) h = h
carried m (n.Nil k) h = h
carried m (n.Leaf k) h = h
carried m (n.Nothing k) h = h
carried m (n.Arith k op x y) h = h
carried m (n.Compare k op x y) h = h
carried m (n.Not k x) h = h
carried m (n.Pair k x y) h = h
carried m (n.Cons k x y) h = h
carried m (n.Node k x y z) h = h
carried m (n.Just k x) h = h
carried m (n.Call k f xs) h = h
carried m (n.Let k x A a b) h = h
carried m (n.Split k x p q a) h = h
carried m (n.If k x a b) h = h
carried m (n.CaseList k x a l r b) h = h
carried m (n.CaseTree k x a e l r b) h = h
carried m (n.CaseOption k x a w b) h = h
carried m (n.Tick k i a) h = h
carried m (n.Share k x p q a) h = h
carried m (n.Drop k x a) h = h

abbrev OperandFits : Operand → Type 0
OperandFits (Is x) = Unit {0}
OperandFits (Binds z A a) = NumbersFit a

abbrev OperandsFit : List Operand → Type 0
OperandsFit [] = Unit {0}
OperandsFit (x ∷ xs) = OperandFits x × OperandsFit xs

wrapped : (x : Operand) (rest : n.Norm) → NumbersFit (wrap x rest) → OperandFits x × NumbersFit rest
wrapped (Is x) rest h = (tt, h)
wrapped (Binds z A a) rest h = h

all_wrapped : (xs : List Operand) (rest : n.Norm) → NumbersFit (wrap_all xs rest) → OperandsFit xs
all_wrapped [] rest h = tt
all_wrapped (x ∷ xs) rest h = let p = wrapped x (wrap_all xs rest) h in (p.0, all_wrapped xs rest p.1)

-- a variable has no numbers
plain_fits : (e : t.Term) (x : Text) → plain e ≡ Some x → AllNodes NumberFits e
plain_fits (t.Var p y) x h = tt
plain_fits (t.Typed p a A) x h = (tt, plain_fits a x h)
plain_fits (t.Number p i) x h = absurd (cc)
plain_fits (t.Truth p b) x h = absurd (cc)
plain_fits (t.Nil p) x h = absurd (cc)
plain_fits (t.Leaf p) x h = absurd (cc)
plain_fits (t.Nothing p) x h = absurd (cc)
plain_fits (t.Arith p op a b) x h = absurd (cc)
plain_fits (t.Compare p op a b) x h = absurd (cc)
plain_fits (t.Not p a) x h = absurd (cc)
plain_fits (t.Pair p a b) x h = absurd (cc)
plain_fits (t.Cons p a b) x h = absurd (cc)
plain_fits (t.Node p a b c) x h = absurd (cc)
plain_fits (t.Just p a) x h = absurd (cc)
plain_fits (t.Call p f args) x h = absurd (cc)
plain_fits (t.Let p y a b) x h = absurd (cc)
plain_fits (t.LetPair p y z a b) x h = absurd (cc)
plain_fits (t.If p c a b) x h = absurd (cc)
plain_fits (t.MatchList p c a y z b) x h = absurd (cc)
plain_fits (t.MatchTree p c a y z w b) x h = absurd (cc)
plain_fits (t.MatchOption p c a y b) x h = absurd (cc)
plain_fits (t.Tick p i a) x h = absurd (cc)

-- the numbers of an expression are among those of its forms
abbrev Tells : t.Term → (ℕ → n.Norm) → Type 0
Tells e m = (j : ℕ) → NumbersFit (m j) → AllNodes NumberFits e

operand_fits : (e : t.Term) (o : Option Text) → plain e ≡ o → (S : Scope) (A : Type') (m : ℕ → n.Norm) (k : ℕ) → Tells e m → OperandFits (operand o S A m k) → AllNodes NumberFits e
operand_fits e (Some x) is S A m k tells h = plain_fits e x is
operand_fits e None is S A m k tells h = tells k h

one_fits : (f : ℕ → ℕ → n.Norm) (e : t.Term) (S : Scope) (A : Type') (m : ℕ → n.Norm) (k : ℕ) → Tells e m → NumbersFit (norm_one f (operand (plain e) S A m) k)
    → AllNodes NumberFits e × NumbersFit (f (after k (operand (plain e) S A m k)) (name (operand (plain e) S A m k)))
one_fits f e S A m k tells h =
    let x = operand (plain e) S A m k in
    let p = wrapped x (f (after k x) (name x)) (carried (1 + bare x) (wrap x (f (after k x) (name x))) h) in
    (operand_fits e (plain e) refl S A m k tells p.0, p.1)

two_fit : (f : ℕ → ℕ → n.Norm) (a b : t.Term) (S : Scope) (A B : Type') (m l : ℕ → n.Norm) (k : ℕ) → Tells a m → Tells b l → NumbersFit (norm_two f (operand (plain a) S A m) (operand (plain b) S B l) k)
    → AllNodes NumberFits a × AllNodes NumberFits b
two_fit f a b S A B m l k first second h =
    let x = operand (plain a) S A m k in
    let j = after k x in
    let y = operand (plain b) S B l j in
    let p = wrapped x (wrap y (f (name x) (name y))) (carried (1 + (bare x + bare y)) (wrap x (wrap y (f (name x) (name y)))) h) in
    let q = wrapped y (f (name x) (name y)) p.1 in
    (operand_fits a (plain a) refl S A m k first p.0, operand_fits b (plain b) refl S B l j second q.0)

three_fit : (f : ℕ → ℕ → ℕ → n.Norm) (a b c : t.Term) (S : Scope) (A B C : Type') (m l r : ℕ → n.Norm) (k : ℕ) → Tells a m → Tells b l → Tells c r
    → NumbersFit (norm_three f (operand (plain a) S A m) (operand (plain b) S B l) (operand (plain c) S C r) k) → AllNodes NumberFits a × AllNodes NumberFits b × AllNodes NumberFits c
three_fit f a b c S A B C m l r k first second third h =
    let x = operand (plain a) S A m k in
    let i = after k x in
    let y = operand (plain b) S B l i in
    let j = after i y in
    let z = operand (plain c) S C r j in
    let inner = f (name x) (name y) (name z) in
    let p = wrapped x (wrap y (wrap z inner)) (carried (1 + (bare x + (bare y + bare z))) (wrap x (wrap y (wrap z inner))) h) in
    let q = wrapped y (wrap z inner) p.1 in
    let s = wrapped z inner q.1 in
    (operand_fits a (plain a) refl S A m k first p.0, operand_fits b (plain b) refl S B l i second q.0, operand_fits c (plain c) refl S C r j third s.0)

module _ (P : Prog) where
  mutual
    pub numbers_in : (e : t.Term) (want : Option Type') (S : Scope) → Tells e (one P want S e)
    numbers_in (t.Number p i) want S k h = h
    numbers_in (t.Truth p b) want S k h = tt
    numbers_in (t.Nil p) want S k h = tt
    numbers_in (t.Leaf p) want S k h = tt
    numbers_in (t.Nothing p) want S k h = tt
    numbers_in (t.Var p x) want S k h = tt
    numbers_in (t.Arith p op a b) want S k h =
        let r = two_fit (n.Arith 0 op) a b S Integer Integer (one P (Some Integer) S a) (one P (Some Integer) S b) k (numbers_in a (Some Integer) S) (numbers_in b (Some Integer) S) h in (tt, r.0, r.1)
    numbers_in (t.Compare p op a b) want S k h =
        let r = two_fit (n.Compare 0 op) a b S Integer Integer (one P (Some Integer) S a) (one P (Some Integer) S b) k (numbers_in a (Some Integer) S) (numbers_in b (Some Integer) S) h in (tt, r.0, r.1)
    numbers_in (t.Not p a) want S k h = (tt, (one_fits (λ j. n.Not 0) a S Boolean (one P (Some Boolean) S a) k (numbers_in a (Some Boolean) S) h).0)
    numbers_in (t.Pair p a b) want S k h =
        let first = part_of first_part want in
        let second = part_of second_part want in
        let r = two_fit (n.Pair 0) a b S (type_of P first S a) (type_of P second S b) (one P first S a) (one P second S b) k (numbers_in a first S) (numbers_in b second S) h in (tt, r.0, r.1)
    numbers_in (t.Cons p a b) want S k h =
        let head = part_of element want in
        let A = type_of P head S a in
        let r = two_fit (n.Cons 0) a b S A (ListOf A) (one P head S a) (one P (Some (ListOf A)) S b) k (numbers_in a head S) (numbers_in b (Some (ListOf A)) S) h in (tt, r.0, r.1)
    numbers_in (t.Node p a b c) want S k h =
        let head = part_of element want in
        let A = type_of P head S a in
        let r = three_fit (n.Node 0) a b c S A (TreeOf A) (TreeOf A) (one P head S a) (one P (Some (TreeOf A)) S b) (one P (Some (TreeOf A)) S c) k
        (numbers_in a head S) (numbers_in b (Some (TreeOf A)) S) (numbers_in c (Some (TreeOf A)) S) h in
        (tt, r.0, r.1, r.2)
    numbers_in (t.Just p a) want S k h =
        let content = part_of element want in
        (tt, (one_fits (λ j. n.Just 0) a S (type_of P content S a) (one P content S a) k (numbers_in a content S) h).0)
    numbers_in (t.Call p f args) want S k h =
        let xs = operands P S args (parameters_or (find f P)) k in
        let call = n.Call 0 (place_or (length P) (place_of f P)) (map name xs) in
        (tt, numbers_in_all args (parameters_or (find f P)) S k (all_wrapped xs call (carried (1 + bare_all xs) (wrap_all xs call) h)))
    numbers_in (t.Let p x a b) want S k h =
        let A = found P (types_in S) a in
        (tt, numbers_in a None S k h.0, numbers_in b want (bound x.name k A S) (k + 1) h.1)
    numbers_in (t.LetPair p x y a b) want S k h =
        let T = found P (types_in S) a in
        let inner = λ (j : ℕ). bound_two x.name y.name (first_part T) (second_part T) S j in
        let u = one_fits (split_form (λ j. one P want (inner j) b (j + 2))) a S T (one P None S a) k (numbers_in a None S) h in
        (tt, u.0, numbers_in b want (inner (after k (operand (plain a) S T (one P None S a) k))) (after k (operand (plain a) S T (one P None S a) k) + 2) u.1)
    numbers_in (t.If p c a b) want S k h =
        let A = type_of P want S a in
        let u = one_fits (if_form (one P want S a) (one P (Some A) S b)) c S Boolean (one P (Some Boolean) S c) k (numbers_in c (Some Boolean) S) h in
        let j = after k (operand (plain c) S Boolean (one P (Some Boolean) S c) k) in
        (tt, u.0, numbers_in a want S j u.1.0, numbers_in b (Some A) S j u.1.1)
    numbers_in (t.MatchList p c a x y b) want S k h =
        let T = found P (types_in S) c in
        let A = type_of P want S a in
        let inner = λ (j : ℕ). bound_two x.name y.name (element T) T S j in
        let u = one_fits (list_form (one P want S a) (λ j. one P (Some A) (inner j) b (j + 2))) c S T (one P None S c) k (numbers_in c None S) h in
        let j = after k (operand (plain c) S T (one P None S c) k) in
        (tt, u.0, numbers_in a want S j u.1.0, numbers_in b (Some A) (inner j) (j + 2) u.1.1)
    numbers_in (t.MatchTree p c a x y z b) want S k h =
        let T = found P (types_in S) c in
        let A = type_of P want S a in
        let inner = λ (j : ℕ). bound_three x.name y.name z.name (element T) T T S j in
        let u = one_fits (tree_form (one P want S a) (λ j. one P (Some A) (inner j) b (j + 3))) c S T (one P None S c) k (numbers_in c None S) h in
        let j = after k (operand (plain c) S T (one P None S c) k) in
        (tt, u.0, numbers_in a want S j u.1.0, numbers_in b (Some A) (inner j) (j + 3) u.1.1)
    numbers_in (t.MatchOption p c a x b) want S k h =
        let T = found P (types_in S) c in
        let A = type_of P want S a in
        let inner = λ (j : ℕ). bound x.name j (element T) S in
        let u = one_fits (option_form (one P want S a) (λ j. one P (Some A) (inner j) b (j + 1))) c S T (one P None S c) k (numbers_in c None S) h in
        let j = after k (operand (plain c) S T (one P None S c) k) in
        (tt, u.0, numbers_in a want S j u.1.0, numbers_in b (Some A) (inner j) (j + 1) u.1.1)
    numbers_in (t.Tick p i a) want S k h = (tt, numbers_in a want S k h)
    numbers_in (t.Typed p a A) want S k h = (tt, numbers_in a (Some A) S k h)

    numbers_in_all : (args : t.Terms) (As : List Type') (S : Scope) (k : ℕ) → OperandsFit (operands P S args As k) → AllOf NumberFits args
    numbers_in_all t.None As S k h = tt
    numbers_in_all (t.More a rest) As S k h =
        let A = first_of_types As in
        (operand_fits a (plain a) refl S A (one P (Some A) S a) k (numbers_in a (Some A) S) h.0, numbers_in_all rest (rest_of As) S (after k (operand (plain a) S A (one P (Some A) S a) k)) h.1)

-- the numbers of a function's body
pub body_fits : (P : Prog) (g : Function) → NumbersFit (body_of P g) → AllNodes NumberFits g.body
body_fits P g h =
    let S = scope_of g.params 1 [] in
    numbers_in P g.body (Some g.result) S (length g.params + 1) (carried 1 (one P (Some g.result) S g.body (length g.params + 1)) h)

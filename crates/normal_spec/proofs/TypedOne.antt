-- The forms of step one have the types of their expressions.
use Rattle.std.proofs.Common.{◌≡◌, ◌≤◌, ◌<◌, ◌+◌, ℕ, List, [], ◌∷◌, map, length, Bool, true, false, cond, Option, Some, None, refl, sym, ap, subst, ◌∙◌, arith}
use Rattle.std.specs.Prelude.{nat_eq, slice_get, FitsSigned}
use Rattle.std.specs.Int.{w64}
use Rattle.std.specs.Str.{bytes_eq}
use Rattle.raml_syntax.specs.Tree as t
use Rattle.raml_syntax.specs.Tree.{Text, Type', Integer, Boolean, PairOf, ListOf, TreeOf, OptionOf, Bound, Parameter, Function, Prog}
use Rattle.raml_syntax.specs.Eval.{find}
use Rattle.raml_syntax.specs.Place.{place_of}
use Rattle.raml_syntax.specs.Node.{AllNodes, AllOf, NumberFits}
use Rattle.raml_syntax.specs.Types as ty
use Rattle.raml_syntax.specs.Types.{type_at, IsListType, IsTreeType, IsOptionType, Way, Finding, Checking, OnlyChecked, HasType, CheckEach}
use Rattle.normal_spec.specs.Norm as n
use Rattle.normal_spec.specs.Norm.{carries, NormFun, NormProg}
use Rattle.normal_spec.specs.Uses.{types_of}
use Rattle.normal_spec.specs.One.{Scope, number_of, types_in, bound, bound_two, bound_three, first_part, second_part, element, part_of, type_or, result_or, place_or, plain, parameters_or, Operand, name, after, bare, bare_all, wrap, wrap_all, operand, operands, norm_one, norm_two, norm_three, split_form, if_form, list_form, tree_form, option_form, one, found, type_of}
use Rattle.normal_spec.proofs.StepOne.{same_number, other_number}

-- the types of variables
abbrev pub Given : Type 0
Given = ℕ → Option Type'

abbrev pub more : Given → ℕ → Type' → Given
more V x A = λ y. cond (nat_eq y x) (Some A) (V y)

abbrev pub AllGiven : Given → List ℕ → List Type' → Type 0
AllGiven V [] [] = Unit {0}
AllGiven V (x ∷ xs) (A ∷ As) = (V x ≡ Some A) × AllGiven V xs As
AllGiven V _ _ = ⊥

module _ (N : NormProg) where
  -- a form of step one has the type
  abbrev pub OfType : Given → n.Norm → Type' → Type 0
  OfType V (n.Var k x) T = AllGiven V (x ∷ []) (T ∷ [])
  OfType V (n.Number k i) T = (T ≡ Integer) × FitsSigned w64 i
  OfType V (n.Truth k b) T = T ≡ Boolean
  OfType V (n.Nil k) T = IsListType T
  OfType V (n.Leaf k) T = IsTreeType T
  OfType V (n.Nothing k) T = IsOptionType T
  OfType V (n.Arith k op x y) T = (T ≡ Integer) × AllGiven V (x ∷ y ∷ []) (Integer ∷ Integer ∷ [])
  OfType V (n.Compare k op x y) T = (T ≡ Boolean) × AllGiven V (x ∷ y ∷ []) (Integer ∷ Integer ∷ [])
  OfType V (n.Not k x) T = (T ≡ Boolean) × AllGiven V (x ∷ []) (Boolean ∷ [])
  OfType V (n.Pair k x y) T = (A : Type') × (B : Type') × (T ≡ PairOf A B) × AllGiven V (x ∷ y ∷ []) (A ∷ B ∷ [])
  OfType V (n.Cons k x y) T = (A : Type') × (T ≡ ListOf A) × AllGiven V (x ∷ y ∷ []) (A ∷ ListOf A ∷ [])
  OfType V (n.Node k x y z) T = (A : Type') × (T ≡ TreeOf A) × AllGiven V (x ∷ y ∷ z ∷ []) (A ∷ TreeOf A ∷ TreeOf A ∷ [])
  OfType V (n.Just k x) T = (A : Type') × (T ≡ OptionOf A) × AllGiven V (x ∷ []) (A ∷ [])
  OfType V (n.Call k f xs) T = (g : NormFun) × (slice_get N f ≡ Some g) × (T ≡ g.result) × AllGiven V xs (types_of g)
  OfType V (n.Let k x A a b) T = OfType V a A × OfType (more V x A) b T
  OfType V (n.Split k x p q a) T = (A : Type') × (B : Type') × (V x ≡ Some (PairOf A B)) × OfType (more (more V p A) q B) a T
  OfType V (n.If k x a b) T = (V x ≡ Some Boolean) × OfType V a T × OfType V b T
  OfType V (n.CaseList k x a h t b) T = (A : Type') × (V x ≡ Some (ListOf A)) × OfType V a T × OfType (more (more V h A) t (ListOf A)) b T
  OfType V (n.CaseTree k x a h l r b) T = (A : Type') × (V x ≡ Some (TreeOf A)) × OfType V a T × OfType (more (more (more V h A) l (TreeOf A)) r (TreeOf A)) b T
  OfType V (n.CaseOption k x a w b) T = (A : Type') × (V x ≡ Some (OptionOf A)) × OfType V a T × OfType (more V w A) b T
  OfType V (n.Tick k i a) T = OfType V a T
  OfType V (n.Share k x p q a) T = ⊥
  OfType V (n.Drop k x a) T = ⊥

  pub type_carries : (V : Given) (m : ℕ) (e : n.Norm) (T : Type') → OfType V e T → OfType V (carries m e) T
  type_carries V m (n.Var k x) T h = h
  type_carries V m (n.Number k i) T h = h
  type_carries V m (n.Truth k b) T h = h
  type_carries V m (n.Nil k) T h = h
  type_carries V m (n.Leaf k) T h = h
  type_carries V m (n.Nothing k) T h = h
  type_carries V m (n.Arith k op x y) T h = h
  type_carries V m (n.Compare k op x y) T h = h
  type_carries V m (n.Not k x) T h = h
  type_carries V m (n.Pair k x y) T h = h
  type_carries V m (n.Cons k x y) T h = h
  type_carries V m (n.Node k x y z) T h = h
  type_carries V m (n.Just k x) T h = h
  type_carries V m (n.Call k f xs) T h = h
  type_carries V m (n.Let k x A a b) T h = h
  type_carries V m (n.Split k x p q a) T h = h
  type_carries V m (n.If k x a b) T h = h
  type_carries V m (n.CaseList k x a p q b) T h = h
  type_carries V m (n.CaseTree k x a p q r b) T h = h
  type_carries V m (n.CaseOption k x a w b) T h = h
  type_carries V m (n.Tick k i a) T h = h
  type_carries V m (n.Share k x p q a) T h = h
  type_carries V m (n.Drop k x a) T h = h

  -- the names in scope have their types, and their numbers are below k
  pub record Scoped (S : Scope) (k : ℕ) (V : Given) : Type 0 where
    pub given : (x : Text) (A : Type') → type_at x (types_in S) ≡ Some A → V (number_of x S) ≡ Some A
    pub low : (x : Text) → number_of x S < k

  -- what is given below a number stays
  record Kept (k : ℕ) (V W : Given) : Type 0 where
    at : (x : ℕ) → x < k → W x ≡ V x

  kept_more : (k j : ℕ) (A : Type') (V : Given) → k ≤ j → Kept k V (more V j A)
  kept_more k j A V le = record { at = λ x lt. ap (λ b. cond b (Some A) (V x)) (other_number x j (λ q. omega arith)) }

  scoped_on : (S : Scope) (k j : ℕ) (V W : Given) → k ≤ j → Kept k V W → Scoped S k V → Scoped S j W
  scoped_on S k j V W le kept h = record { given = λ x A q. kept.at (number_of x S) (h.low x) ∙ h.given x A q; low = λ x. omega (arith, h.low x) }

  more_here : (V : Given) (x : ℕ) (A : Type') → more V x A x ≡ Some A
  more_here V x A = ap (λ b. cond b (Some A) (V x)) (same_number x)

  pub scoped_bound : (x : Text) (A : Type') (S : Scope) (k j : ℕ) (V : Given) → k < j → Scoped S k V → Scoped (bound x k A S) j (more V k A)
  scoped_bound x A S k j V lt h = record { given = λ y B. given_by y B (bytes_eq y x); low = λ y. low_by y (bytes_eq y x) }
    where
      given_by : (y : Text) (B : Type') (b : Bool) → cond b (Some A) (type_at y (types_in S)) ≡ Some B → more V k A (cond b k (number_of y S)) ≡ Some B
      given_by y B true q = more_here V k A ∙ q
      given_by y B false q = let low = h.low y in ap (λ b. cond b (Some A) (V (number_of y S))) (other_number (number_of y S) k (λ w. omega arith)) ∙ h.given y B q

      low_by : (y : Text) (b : Bool) → cond b k (number_of y S) < j
      low_by y true = lt
      low_by y false = let low = h.low y in omega arith

  -- an operand of a type, and what is given behind it
  record Put (S : Scope) (k : ℕ) (V : Given) (x : Operand) (A : Type') : Type 0 where
    behind : Given
    is : behind (name x) ≡ Some A
    scoped : Scoped S (after k x) behind
    kept : Kept k V behind
    low : name x < after k x
    grows : k ≤ after k x
    holds : (rest : n.Norm) (T : Type') → OfType behind rest T → OfType V (wrap x rest) T

  -- wherever it stands, the form has the type
  abbrev pub Made : Scope → (ℕ → n.Norm) → Type' → Type 0
  Made S a A = (k : ℕ) (V : Given) → Scoped S k V → OfType V (a k) A

  operand_put : (o : Option Text) (S : Scope) (A : Type') (a : ℕ → n.Norm) (k : ℕ) (V : Given) → ((x : Text) → o ≡ Some x → type_at x (types_in S) ≡ Some A) → Scoped S k V → Made S a A → Put S k V (operand o S A a k) A
  operand_put (Some x) S A a k V t st h = record { behind = V; is = st.given x A (t x refl); scoped = st; kept = record { at = λ y lt. refl }; low = st.low x; grows = omega arith; holds = λ rest T r. r }
  operand_put None S A a k V t st h = record {
    behind = more V k A;
    is = more_here V k A;
    scoped = scoped_on S k (k + 1) V (more V k A) (omega arith) (kept_more k k A V (omega arith)) st;
    kept = kept_more k k A V (omega arith);
    low = omega arith;
    grows = omega arith;
    holds = λ rest T r. (h k V st, r);
  }

  module _ (P : Prog) where
    found_is : (e : t.Term) (G : ty.Context) (T : Type') → HasType P Finding G e T → found P G e ≡ T
    found_is (t.Number p i) G T h = sym h
    found_is (t.Truth p b) G T h = sym h
    found_is (t.Nil p) G T h = absurd h
    found_is (t.Leaf p) G T h = absurd h
    found_is (t.Nothing p) G T h = absurd h
    found_is (t.Var p x) G T h = ap type_or h
    found_is (t.Arith p op a b) G T h = sym h.0
    found_is (t.Compare p op a b) G T h = sym h.0
    found_is (t.Not p a) G T h = sym h.0
    found_is (t.Pair p a b) G T h = (λ i. PairOf (found_is a G h.0 h.3 i) (found_is b G h.1 h.4 i)) ∙ sym h.2
    found_is (t.Cons p a b) G T h = ap ListOf (found_is a G h.0 h.2) ∙ sym h.1
    found_is (t.Node p a b c) G T h = ap TreeOf (found_is a G h.0 h.2) ∙ sym h.1
    found_is (t.Just p a) G T h = ap OptionOf (found_is a G h.0 h.2) ∙ sym h.1
    found_is (t.Call p f args) G T h = ap result_or h.1 ∙ sym h.2
    found_is (t.Let p x a b) G T h = ap (λ A. found P ((x.name, A) ∷ G) b) (found_is a G h.0 h.1) ∙ found_is b ((x.name, h.0) ∷ G) T h.2
    found_is (t.LetPair p x y a b) G T h =
        ap (λ A. found P ((y.name, second_part A) ∷ (x.name, first_part A) ∷ G) b) (found_is a G (PairOf h.0 h.1) h.3)
        ∙ found_is b ((y.name, h.1) ∷ (x.name, h.0) ∷ G) T h.4
    found_is (t.If p c a b) G T h = found_is a G T h.1
    found_is (t.MatchList p c a x y b) G T h = found_is a G T h.3
    found_is (t.MatchTree p c a x y z b) G T h = found_is a G T h.3
    found_is (t.MatchOption p c a x b) G T h = found_is a G T h.2
    found_is (t.Tick p i a) G T h = found_is a G T h
    found_is (t.Typed p a A) G T h = sym h.0

    -- what is wanted where a type is checked, and where it is found
    abbrev pub want_of : Way → Type' → Option Type'
    want_of Finding T = None
    want_of Checking T = Some T

    want_part : (way : Way) (f : Type' → Type') (T A : Type') → f T ≡ A → part_of f (want_of way T) ≡ want_of way A
    want_part Finding f T A e = refl
    want_part Checking f T A e = ap Some e

    type_is : (way : Way) (e : t.Term) (S : Scope) (T : Type') → HasType P way (types_in S) e T → type_of P (want_of way T) S e ≡ T
    type_is Finding e S T h = found_is e (types_in S) T h
    type_is Checking e S T h = refl

    plain_type : (e : t.Term) (way : Way) (G : ty.Context) (T : Type') (x : Text) → plain e ≡ Some x → HasType P way G e T → type_at x G ≡ Some T
    plain_type (t.Var p y) way G T x q h = let e : y ≡ x = cc in subst (λ z. type_at z G ≡ Some T) e h
    plain_type (t.Typed p a A) way G T x q h = plain_type a Checking G A x q h.1 ∙ ap Some (sym h.0)
    plain_type _ way G T x q h = absurd (cc)

    option_only : (way : Way) (T : Type') → OnlyChecked way (IsOptionType T) → IsOptionType T
    option_only Finding T h = absurd h
    option_only Checking T h = h

    list_only : (way : Way) (T : Type') → OnlyChecked way (IsListType T) → IsListType T
    list_only Finding T h = absurd h
    list_only Checking T h = h

    tree_only : (way : Way) (T : Type') → OnlyChecked way (IsTreeType T) → IsTreeType T
    tree_only Finding T h = absurd h
    tree_only Checking T h = h

    operand_want : (way : Way) (w : Option Type') (A : Type') (a : t.Term) (S : Scope) → w ≡ want_of way A → HasType P way (types_in S) a A → ◌≡◌ {A = ℕ → Operand} (operand (plain a) S (type_of P w S a) (one P w S a)) (operand (plain a) S A (one P (want_of way A) S a))
    operand_want way w A a S e h =
        (λ i. operand (plain a) S (type_of P (e i) S a) (one P (e i) S a)) ∙ (λ i. operand (plain a) S (type_is way a S A h i) (one P (want_of way A) S a))

    put_of : (way : Way) (a : t.Term) (S : Scope) (A : Type') (a' : ℕ → n.Norm) (k : ℕ) (V : Given) → HasType P way (types_in S) a A → Scoped S k V → Made S a' A → Put S k V (operand (plain a) S A a' k) A
    put_of way a S A a' k V h st m = operand_put (plain a) S A a' k V (λ x q. plain_type a way (types_in S) A x q h) st m

    fits_one : (g : ℕ → ℕ → n.Norm) (way : Way) (a : t.Term) (S : Scope) (A T : Type') (a' : ℕ → n.Norm) (k : ℕ) (V : Given) → HasType P way (types_in S) a A → Scoped S k V → Made S a' A → ((j x : ℕ) (W : Given) → Scoped S j W → W x ≡ Some A → OfType W (g j x) T) → OfType V (norm_one g (operand (plain a) S A a') k) T
    fits_one g way a S A T a' k V h st m next =
        let x = operand (plain a) S A a' k in
        let p = put_of way a S A a' k V h st m in
        type_carries V (1 + bare x) (wrap x (g (after k x) (name x))) T (p.holds (g (after k x) (name x)) T (next (after k x) (name x) p.behind p.scoped p.is))

    fits_two : (g : ℕ → ℕ → n.Norm) (way way' : Way) (a b : t.Term) (S : Scope) (A B T : Type') (a' b' : ℕ → n.Norm) (k : ℕ) (V : Given) → HasType P way (types_in S) a A → HasType P way' (types_in S) b B → Scoped S k V → Made S a' A → Made S b' B → ((x y : ℕ) (W : Given) → AllGiven W (x ∷ y ∷ []) (A ∷ B ∷ []) → OfType W (g x y) T) → OfType V (norm_two g (operand (plain a) S A a') (operand (plain b) S B b') k) T
    fits_two g way way' a b S A B T a' b' k V ha hb st ma mb next =
        let x = operand (plain a) S A a' k in
        let p = put_of way a S A a' k V ha st ma in
        let y = operand (plain b) S B b' (after k x) in
        let q = put_of way' b S B b' (after k x) p.behind hb p.scoped mb in
        let last = g (name x) (name y) in
        type_carries V (1 + (bare x + bare y)) (wrap x (wrap y last)) T
        (p.holds (wrap y last) T (q.holds last T (next (name x) (name y) q.behind (q.kept.at (name x) p.low ∙ p.is, (q.is, tt)))))

    fits_three : (g : ℕ → ℕ → ℕ → n.Norm) (way way' way'' : Way) (a b c : t.Term) (S : Scope) (A B C T : Type') (a' b' c' : ℕ → n.Norm) (k : ℕ) (V : Given) → HasType P way (types_in S) a A → HasType P way' (types_in S) b B → HasType P way'' (types_in S) c C → Scoped S k V → Made S a' A → Made S b' B → Made S c' C → ((x y z : ℕ) (W : Given) → AllGiven W (x ∷ y ∷ z ∷ []) (A ∷ B ∷ C ∷ []) → OfType W (g x y z) T) → OfType V (norm_three g (operand (plain a) S A a') (operand (plain b) S B b') (operand (plain c) S C c') k) T
    fits_three g way way' way'' a b c S A B C T a' b' c' k V ha hb hc st ma mb mc next =
        let x = operand (plain a) S A a' k in
        let p = put_of way a S A a' k V ha st ma in
        let y = operand (plain b) S B b' (after k x) in
        let q = put_of way' b S B b' (after k x) p.behind hb p.scoped mb in
        let i = after (after k x) y in
        let z = operand (plain c) S C c' i in
        let r = put_of way'' c S C c' i q.behind hc q.scoped mc in
        let last = g (name x) (name y) (name z) in
        type_carries V (1 + (bare x + (bare y + bare z))) (wrap x (wrap y (wrap z last))) T
        (p.holds (wrap y (wrap z last)) T (q.holds (wrap z last) T (r.holds last T
        (next (name x) (name y) (name z) r.behind (r.kept.at (name x) (omega (arith, p.low, q.grows)) ∙ q.kept.at (name x) p.low ∙ p.is, (r.kept.at (name y) q.low ∙ q.is, (r.is, tt)))))))

    -- the functions that are called are there
    module _ (calls : (f : Text) (g : Function) → find f P ≡ Some g → (h : NormFun) × (slice_get N (place_or (length P) (place_of f P)) ≡ Some h) × (h.result ≡ g.result) × (types_of h ≡ ty.types_of g)) where
      mutual
        pub one_types : (e : t.Term) (way : Way) (S : Scope) (T : Type') → AllNodes NumberFits e → HasType P way (types_in S) e T → Made S (one P (want_of way T) S e) T
        one_types (t.Number p i) way S T fit h k V st = (h, fit)
        one_types (t.Truth p b) way S T fit h k V st = h
        one_types (t.Nil p) way S T fit h k V st = list_only way T h
        one_types (t.Leaf p) way S T fit h k V st = tree_only way T h
        one_types (t.Nothing p) way S T fit h k V st = option_only way T h
        one_types (t.Var p x) way S T fit h k V st = (st.given x T h, tt)
        one_types (t.Arith p op a b) way S T fit h k V st =
            fits_two (n.Arith 0 op) Checking Checking a b S Integer Integer T (one P (Some Integer) S a) (one P (Some Integer) S b) k V h.1 h.2 st (one_types a Checking S Integer fit.1 h.1) (one_types b Checking S Integer fit.2 h.2) (λ x y W g. (h.0, g))
        one_types (t.Compare p op a b) way S T fit h k V st =
            fits_two (n.Compare 0 op) Checking Checking a b S Integer Integer T (one P (Some Integer) S a) (one P (Some Integer) S b) k V h.1 h.2 st (one_types a Checking S Integer fit.1 h.1) (one_types b Checking S Integer fit.2 h.2) (λ x y W g. (h.0, g))
        one_types (t.Not p a) way S T fit h k V st =
            fits_one (λ j. n.Not 0) Checking a S Boolean T (one P (Some Boolean) S a) k V h.1 st (one_types a Checking S Boolean fit.1 h.1) (λ j x W s g. (h.0, (g, tt)))
        one_types (t.Pair p a b) way S T fit h k V st =
            let w = want_of way T in
            let first = part_of first_part w in
            let second = part_of second_part w in
            let oa = operand_want way first h.0 a S (want_part way first_part T h.0 (ap first_part h.2)) h.3 in
            let ob = operand_want way second h.1 b S (want_part way second_part T h.1 (ap second_part h.2)) h.4 in
            subst (λ (o : ℕ → Operand). OfType V (norm_two (n.Pair 0) o (operand (plain b) S (type_of P second S b) (one P second S b)) k) T) (sym oa)
            (subst (λ (o : ℕ → Operand). OfType V (norm_two (n.Pair 0) (operand (plain a) S h.0 (one P (want_of way h.0) S a)) o k) T) (sym ob)
            (fits_two (n.Pair 0) way way a b S h.0 h.1 T (one P (want_of way h.0) S a) (one P (want_of way h.1) S b) k V h.3 h.4 st (one_types a way S h.0 fit.1 h.3) (one_types b way S h.1 fit.2 h.4) (λ x y W g. (h.0, h.1, h.2, g))))
        one_types (t.Cons p a b) way S T fit h k V st =
            let A = h.0 in
            let head = part_of element (want_of way T) in
            let e = want_part way element T A (ap element h.1) in
            let is : type_of P head S a ≡ A = ap (λ w. type_of P w S a) e ∙ type_is way a S A h.2 in
            let oa = operand_want way head A a S e h.2 in
            subst (λ (o : ℕ → Operand). OfType V (norm_two (n.Cons 0) o (operand (plain b) S (ListOf (type_of P head S a)) (one P (Some (ListOf (type_of P head S a))) S b)) k) T) (sym oa)
            (subst (λ B. OfType V (norm_two (n.Cons 0) (operand (plain a) S A (one P (want_of way A) S a)) (operand (plain b) S (ListOf B) (one P (Some (ListOf B)) S b)) k) T) (sym is)
            (fits_two (n.Cons 0) way Checking a b S A (ListOf A) T (one P (want_of way A) S a) (one P (Some (ListOf A)) S b) k V h.2 h.3 st (one_types a way S A fit.1 h.2) (one_types b Checking S (ListOf A) fit.2 h.3) (λ x y W g. (A, h.1, g))))
        one_types (t.Node p a b c) way S T fit h k V st =
            let A = h.0 in
            let head = part_of element (want_of way T) in
            let e = want_part way element T A (ap element h.1) in
            let is : type_of P head S a ≡ A = ap (λ w. type_of P w S a) e ∙ type_is way a S A h.2 in
            let oa = operand_want way head A a S e h.2 in
            let rest = λ (i : t.Term) (B : Type'). operand (plain i) S (TreeOf B) (one P (Some (TreeOf B)) S i) in
            subst (λ (o : ℕ → Operand). OfType V (norm_three (n.Node 0) o (rest b (type_of P head S a)) (rest c (type_of P head S a)) k) T) (sym oa)
            (subst (λ B. OfType V (norm_three (n.Node 0) (operand (plain a) S A (one P (want_of way A) S a)) (rest b B) (rest c B) k) T) (sym is)
            (fits_three (n.Node 0) way Checking Checking a b c S A (TreeOf A) (TreeOf A) T (one P (want_of way A) S a) (one P (Some (TreeOf A)) S b) (one P (Some (TreeOf A)) S c) k V h.2 h.3 h.4 st (one_types a way S A fit.1 h.2) (one_types b Checking S (TreeOf A) fit.2 h.3) (one_types c Checking S (TreeOf A) fit.3 h.4) (λ x y z W g. (A, h.1, g))))
        one_types (t.Just p a) way S T fit h k V st =
            let A = h.0 in
            let content = part_of element (want_of way T) in
            let oa = operand_want way content A a S (want_part way element T A (ap element h.1)) h.2 in
            subst (λ (o : ℕ → Operand). OfType V (norm_one (λ j. n.Just 0) o k) T) (sym oa)
            (fits_one (λ j. n.Just 0) way a S A T (one P (want_of way A) S a) k V h.2 st (one_types a way S A fit.1 h.2) (λ j x W s g. (A, h.1, (g, tt))))
        one_types (t.Call p f args) way S T fit h k V st =
            let q = calls f h.0 h.1 in
            let m = n.Call 0 (place_or (length P) (place_of f P)) in
            let As : parameters_or (find f P) ≡ ty.types_of h.0 = ap parameters_or h.1 in
            subst (λ Bs. OfType V (carries (1 + bare_all (operands P S args Bs k)) (wrap_all (operands P S args Bs k) (m (map name (operands P S args Bs k))))) T) (sym As)
            (type_carries V (1 + bare_all (operands P S args (ty.types_of h.0) k)) (wrap_all (operands P S args (ty.types_of h.0) k) (m (map name (operands P S args (ty.types_of h.0) k)))) T
            (all_types args (ty.types_of h.0) S k V m T fit.1 h.3 st (λ W j le kept g. (q.0, q.1, h.2 ∙ sym q.2, subst (AllGiven W (map name (operands P S args (ty.types_of h.0) k))) (sym q.3) g))))
        one_types (t.Let p x a b) way S T fit h k V st =
            let A = h.0 in
            subst (λ B. OfType V (n.Let 1 k B (one P None S a k) (one P (want_of way T) (bound x.name k B S) b (k + 1))) T) (sym (found_is a (types_in S) A h.1))
            (one_types a Finding S A fit.1 h.1 k V st, one_types b way (bound x.name k A S) T fit.2 h.2 (k + 1) (more V k A) (scoped_bound x.name A S k (k + 1) V (omega arith) st))
        one_types (t.LetPair p x y a b) way S T fit h k V st =
            let A = h.0 in
            let B = h.1 in
            subst (λ R. OfType V (norm_one (split_form (λ j. one P (want_of way T) (bound_two x.name y.name (first_part R) (second_part R) S j) b (j + 2))) (operand (plain a) S R (one P None S a)) k) T) (sym (found_is a (types_in S) (PairOf A B) h.3))
            (fits_one (split_form (λ j. one P (want_of way T) (bound_two x.name y.name A B S j) b (j + 2))) Finding a S (PairOf A B) T (one P None S a) k V h.3 st (one_types a Finding S (PairOf A B) fit.1 h.3)
            (λ j z W s g. (A, B, g, one_types b way (bound_two x.name y.name A B S j) T fit.2 h.4 (j + 2) (more (more W j A) (j + 1) B) (scoped_bound y.name B (bound x.name j A S) (j + 1) (j + 2) (more W j A) (omega arith) (scoped_bound x.name A S j (j + 1) W (omega arith) s)))))
        one_types (t.If p c a b) way S T fit h k V st =
            let w = want_of way T in
            subst (λ B. OfType V (norm_one (if_form (one P w S a) (one P (Some B) S b)) (operand (plain c) S Boolean (one P (Some Boolean) S c)) k) T) (sym (type_is way a S T h.1))
            (fits_one (if_form (one P w S a) (one P (Some T) S b)) Checking c S Boolean T (one P (Some Boolean) S c) k V h.0 st (one_types c Checking S Boolean fit.1 h.0)
            (λ j z W s g. (g, one_types a way S T fit.2 h.1 j W s, one_types b Checking S T fit.3 h.2 j W s)))
        one_types (t.MatchList p c a x y b) way S T fit h k V st =
            let w = want_of way T in
            let A = h.0 in
            subst (λ B. OfType V (norm_one (list_form (one P w S a) (λ j. one P (Some B) (bound_two x.name y.name (element (found P (types_in S) c)) (found P (types_in S) c) S j) b (j + 2))) (operand (plain c) S (found P (types_in S) c) (one P None S c)) k) T) (sym (type_is way a S T h.3))
            (subst (λ R. OfType V (norm_one (list_form (one P w S a) (λ j. one P (Some T) (bound_two x.name y.name (element R) R S j) b (j + 2))) (operand (plain c) S R (one P None S c)) k) T) (sym (found_is c (types_in S) (ListOf A) h.2))
            (fits_one (list_form (one P w S a) (λ j. one P (Some T) (bound_two x.name y.name A (ListOf A) S j) b (j + 2))) Finding c S (ListOf A) T (one P None S c) k V h.2 st (one_types c Finding S (ListOf A) fit.1 h.2)
            (λ j z W s g. (A, g, one_types a way S T fit.2 h.3 j W s, one_types b Checking (bound_two x.name y.name A (ListOf A) S j) T fit.3 h.4 (j + 2) (more (more W j A) (j + 1) (ListOf A)) (scoped_bound y.name (ListOf A) (bound x.name j A S) (j + 1) (j + 2) (more W j A) (omega arith) (scoped_bound x.name A S j (j + 1) W (omega arith) s))))))
        one_types (t.MatchTree p c a x y z b) way S T fit h k V st =
            let w = want_of way T in
            let A = h.0 in
            let R' = TreeOf A in
            subst (λ B. OfType V (norm_one (tree_form (one P w S a) (λ j. one P (Some B) (bound_three x.name y.name z.name (element (found P (types_in S) c)) (found P (types_in S) c) (found P (types_in S) c) S j) b (j + 3))) (operand (plain c) S (found P (types_in S) c) (one P None S c)) k) T) (sym (type_is way a S T h.3))
            (subst (λ R. OfType V (norm_one (tree_form (one P w S a) (λ j. one P (Some T) (bound_three x.name y.name z.name (element R) R R S j) b (j + 3))) (operand (plain c) S R (one P None S c)) k) T) (sym (found_is c (types_in S) R' h.2))
            (fits_one (tree_form (one P w S a) (λ j. one P (Some T) (bound_three x.name y.name z.name A R' R' S j) b (j + 3))) Finding c S R' T (one P None S c) k V h.2 st (one_types c Finding S R' fit.1 h.2)
            (λ j u W s g. (A, g, one_types a way S T fit.2 h.3 j W s, one_types b Checking (bound_three x.name y.name z.name A R' R' S j) T fit.3 h.4 (j + 3) (more (more (more W j A) (j + 1) R') (j + 2) R') (scoped_bound z.name R' (bound_two x.name y.name A R' S j) (j + 2) (j + 3) (more (more W j A) (j + 1) R') (omega arith) (scoped_bound y.name R' (bound x.name j A S) (j + 1) (j + 2) (more W j A) (omega arith) (scoped_bound x.name A S j (j + 1) W (omega arith) s)))))))
        one_types (t.MatchOption p c a x b) way S T fit h k V st =
            let w = want_of way T in
            let A = h.0 in
            subst (λ B. OfType V (norm_one (option_form (one P w S a) (λ j. one P (Some B) (bound x.name j (element (found P (types_in S) c)) S) b (j + 1))) (operand (plain c) S (found P (types_in S) c) (one P None S c)) k) T) (sym (type_is way a S T h.2))
            (subst (λ R. OfType V (norm_one (option_form (one P w S a) (λ j. one P (Some T) (bound x.name j (element R) S) b (j + 1))) (operand (plain c) S R (one P None S c)) k) T) (sym (found_is c (types_in S) (OptionOf A) h.1))
            (fits_one (option_form (one P w S a) (λ j. one P (Some T) (bound x.name j A S) b (j + 1))) Finding c S (OptionOf A) T (one P None S c) k V h.1 st (one_types c Finding S (OptionOf A) fit.1 h.1)
            (λ j z W s g. (A, g, one_types a way S T fit.2 h.2 j W s, one_types b Checking (bound x.name j A S) T fit.3 h.3 (j + 1) (more W j A) (scoped_bound x.name A S j (j + 1) W (omega arith) s)))))
        one_types (t.Tick p i a) way S T fit h k V st = one_types a way S T fit.1 h k V st
        one_types (t.Typed p a A) way S T fit h k V st = subst (OfType V (one P (Some A) S a k)) (sym h.0) (one_types a Checking S A fit.1 h.1 k V st)

        all_types : (es : t.Terms) (As : List Type') (S : Scope) (k : ℕ) (V : Given) (f : List ℕ → n.Norm) (T : Type') → AllOf NumberFits es → CheckEach P (types_in S) es As → Scoped S k V → ((W : Given) (j : ℕ) → k ≤ j → Kept k V W → AllGiven W (map name (operands P S es As k)) As → OfType W (f (map name (operands P S es As k))) T) → OfType V (wrap_all (operands P S es As k) (f (map name (operands P S es As k)))) T
        all_types t.None [] S k V f T fit h st next = next V k (omega arith) (record { at = λ x lt. refl }) tt
        all_types t.None (A ∷ As) S k V f T fit h st next = absurd h
        all_types (t.More a es) [] S k V f T fit h st next = absurd h
        all_types (t.More a es) (A ∷ As) S k V f T fit h st next =
            let x = operand (plain a) S A (one P (Some A) S a) k in
            let p = put_of Checking a S A (one P (Some A) S a) k V h.0 st (one_types a Checking S A fit.0 h.0) in
            let i = after k x in
            let xs = operands P S es As i in
            p.holds (wrap_all xs (f (name x ∷ map name xs))) T
            (all_types es As S i p.behind (λ ys. f (name x ∷ ys)) T fit.1 h.1 p.scoped
            (λ W j le kept g. next W j (omega (arith, p.grows)) (record { at = λ y lt. kept.at y (omega (arith, p.grows)) ∙ p.kept.at y lt }) (kept.at (name x) p.low ∙ p.is, g)))

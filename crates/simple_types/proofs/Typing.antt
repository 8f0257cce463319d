-- The walk gives a type exactly where the expression has it.
use Rattle.std.proofs.Common.{◌≡◌, ◌∙◌, ℕ, suc, List, [], ◌∷◌, length, map, nat_eq, Bool, true, false, cond, Option, Some, None, Result, Ok, Err, refl, sym, ap, subst, arith}
use Rattle.std.specs.List.{All}
use Rattle.std.proofs.lemmas.Bool.{eqb-true, eq-eqb}
use Rattle.std.proofs.lemmas.List.Elements.{All-nil, All-cons, All-head, All-tail}
use Rattle.raml_syntax.specs.Tree as t
use Rattle.raml_syntax.specs.Tree.{Text, Type', Integer, Boolean, PairOf, ListOf, TreeOf, OptionOf, Bound, Parameter, Function, Prog}
use Rattle.raml_syntax.specs.Eval.{find, names_of}
use Rattle.raml_syntax.specs.Types.{Context, type_at, bind_types, types_of, Differ, Way, Finding, Checking, HasType, CheckEach, Checks, Typed}
use Rattle.raml_syntax.specs.Node.{count}
use Rattle.simple_types.specs.Fault.{Fault, Wanted, Is, SomeList, SomeTree, SomeOption, SomePair, Unknown, Arity}
use Rattle.simple_types.specs.Walk.{and_then, or_fault, pair_parts, list_element, tree_element, option_content, place, distinct, settle, arity, walk, walk_each, checks, parameter_name, function_name, walk_headers, walk_bodies, walk_program}
use Rattle.simple_types.specs.Laws.{WalksAreTypings}
use Rattle.std.specs.Option.{IsSome}
use Rattle.simple_types.specs.Read.{fault_of, EndsWith}
use Rattle.simple_types.specs.declared.fault.TypeFault.{TypeFault}
use Rattle.raml_syntax.specs.SameType.{same_type}
use Rattle.raml_syntax.proofs.SameType.{same_self, same_is}
use Rattle.simple_types.proofs.Names.{distinct_differ, differ_distinct}

-- the type is the one that is wanted, if one is
abbrev Meets : Option Type' → Type' → Type 0
Meets None A = Unit {0}
Meets (Some T) A = A ≡ T

abbrev way_of : Option Type' → Way
way_of None = Finding
way_of (Some T) = Checking

abbrev ok : {A : Type 0} → A → Result A Fault
ok x = Ok x

ok_is : {A : Type 0} (x y : A) → ok x ≡ ok y → x ≡ y
ok_is x y e = cc

then_ok : {A B : Type 0} (r : Result A Fault) (next : A → Result B Fault) (y : B) → and_then r next ≡ Ok y → (x : A) × (r ≡ Ok x) × (next x ≡ Ok y)
then_ok (Ok x) next y e = (x, refl, e)
then_ok (Err f) next y e = absurd (cc)

then_is : {A B : Type 0} (r : Result A Fault) (next : A → Result B Fault) (x : A) (y : B) → r ≡ Ok x → next x ≡ Ok y → and_then r next ≡ Ok y
then_is r next x y e h = ap (λ q. and_then q next) e ∙ h

or_ok : {A : Type 0} (o : Option A) (f : Fault) (x : A) → or_fault o f ≡ Ok x → o ≡ Some x
or_ok (Some y) f x e = ap Some (ok_is y x e)
or_ok None f x e = absurd (cc)

or_is : {A : Type 0} (o : Option A) (f : Fault) (x : A) → o ≡ Some x → or_fault o f ≡ Ok x
or_is o f x e = ap (λ q. or_fault q f) e

some_is : {A : Type 0} (x y : A) → Some x ≡ Some y → x ≡ y
some_is x y e = cc

list_is : (T A : Type') → list_element T ≡ Some A → T ≡ ListOf A
list_is (ListOf B) A e = ap ListOf (some_is B A e)
list_is _ A e = absurd (cc)

tree_is : (T A : Type') → tree_element T ≡ Some A → T ≡ TreeOf A
tree_is (TreeOf B) A e = ap TreeOf (some_is B A e)
tree_is _ A e = absurd (cc)

option_is : (T A : Type') → option_content T ≡ Some A → T ≡ OptionOf A
option_is (OptionOf B) A e = ap OptionOf (some_is B A e)
option_is _ A e = absurd (cc)

pair_is : (T : Type') (S : Type' × Type') → pair_parts T ≡ Some S → T ≡ PairOf S.0 S.1
pair_is (PairOf A B) S e = ap (λ (p : Type' × Type'). PairOf p.0 p.1) (some_is (A, B) S e)
pair_is _ S e = absurd (cc)

settle_ok : (want : Option Type') (p : ℕ) (A B : Type') → settle want p A ≡ Ok B → Meets want B × (B ≡ A)
settle_ok None p A B e = (tt, sym (ok_is A B e))
settle_ok (Some T) p A B e = by (same_type T A) refl e
  where
    by : (b : Bool) → same_type T A ≡ b → cond b (Ok A) (Err (Wanted p (Is T) (Is A))) ≡ Ok B → (B ≡ T) × (B ≡ A)
    by true s e = let q = sym (ok_is A B e) in (q ∙ sym (same_is T A s), q)
    by false s e = absurd (cc)

settle_is : (want : Option Type') (p : ℕ) (A B : Type') → Meets want B → B ≡ A → settle want p A ≡ Ok B
settle_is None p A B m e = ap Ok (sym e)
settle_is (Some T) p A B m e =
    ap (λ b. cond b (Ok A) (Err (Wanted p (Is T) (Is A)))) (subst (λ X. same_type X A ≡ true) (sym e ∙ m) (same_self A)) ∙ ap Ok (sym e)

arity_ok : (p want got : ℕ) (u : Unit {0}) → arity p want got ≡ Ok u → want ≡ got
arity_ok p want got u e = by (nat_eq want got) refl e
  where
    by : (b : Bool) → nat_eq want got ≡ b → cond b (Ok tt) (Err (Arity p want got)) ≡ Ok u → want ≡ got
    by true q e = eqb-true want got q
    by false q e = absurd (cc)

arity_is : (p want got : ℕ) → want ≡ got → arity p want got ≡ Ok tt
arity_is p want got e = ap (λ b. cond b (Ok tt) (Err (Arity p want got))) (eq-eqb want got e)

length_types : (ps : List Parameter) → length (map (λ (p : Parameter). p.type) ps) ≡ length ps
length_types [] = refl
length_types (p ∷ ps) = ap suc (length_types ps)

module _ (P : Prog) where
  -- what is checked against a type has that one
  checked_is : (e : t.Term) (G : Context) (S T : Type') → Meets (Some S) T × HasType P Checking G e T → HasType P Checking G e S
  checked_is e G S T h = subst (HasType P Checking G e) h.0 h.1

  mutual
    sound : (e : t.Term) (want : Option Type') (G : Context) (T : Type') → walk P want G e ≡ Ok T → Meets want T × HasType P (way_of want) G e T
    sound (t.Number p n) want G T h = settle_ok want p Integer T h
    sound (t.Truth p b) want G T h = settle_ok want p Boolean T h
    sound (t.Nil p) None G T h = absurd (cc)
    sound (t.Nil p) (Some S) G T h =
        let q = then_ok (or_fault (list_element S) (Wanted p (Is S) SomeList)) _ T h in
        let e = sym (ok_is S T q.2) in
        (e, (q.0, e ∙ list_is S q.0 (or_ok _ _ q.0 q.1)))
    sound (t.Leaf p) None G T h = absurd (cc)
    sound (t.Leaf p) (Some S) G T h =
        let q = then_ok (or_fault (tree_element S) (Wanted p (Is S) SomeTree)) _ T h in
        let e = sym (ok_is S T q.2) in
        (e, (q.0, e ∙ tree_is S q.0 (or_ok _ _ q.0 q.1)))
    sound (t.Nothing p) None G T h = absurd (cc)
    sound (t.Nothing p) (Some S) G T h =
        let q = then_ok (or_fault (option_content S) (Wanted p (Is S) SomeOption)) _ T h in
        let e = sym (ok_is S T q.2) in
        (e, (q.0, e ∙ option_is S q.0 (or_ok _ _ q.0 q.1)))
    sound (t.Var p x) want G T h =
        let q = then_ok (or_fault (type_at x G) (Unknown p)) _ T h in
        let s = settle_ok want p q.0 T q.2 in
        (s.0, or_ok _ _ q.0 q.1 ∙ ap Some (sym s.1))
    sound (t.Arith p op a b) want G T h =
        let q = then_ok (walk P (Some Integer) G a) _ T h in
        let r = then_ok (walk P (Some Integer) G b) _ T q.2 in
        let s = settle_ok want p Integer T r.2 in
        (s.0, (s.1, checked_is a G Integer q.0 (sound a (Some Integer) G q.0 q.1), checked_is b G Integer r.0 (sound b (Some Integer) G r.0 r.1)))
    sound (t.Compare p op a b) want G T h =
        let q = then_ok (walk P (Some Integer) G a) _ T h in
        let r = then_ok (walk P (Some Integer) G b) _ T q.2 in
        let s = settle_ok want p Boolean T r.2 in
        (s.0, (s.1, checked_is a G Integer q.0 (sound a (Some Integer) G q.0 q.1), checked_is b G Integer r.0 (sound b (Some Integer) G r.0 r.1)))
    sound (t.Not p a) want G T h =
        let q = then_ok (walk P (Some Boolean) G a) _ T h in
        let s = settle_ok want p Boolean T q.2 in
        (s.0, (s.1, checked_is a G Boolean q.0 (sound a (Some Boolean) G q.0 q.1)))
    sound (t.Pair p a b) None G T h =
        let q = then_ok (walk P None G a) _ T h in
        let r = then_ok (walk P None G b) _ T q.2 in
        (tt, (q.0, r.0, sym (ok_is _ T r.2), (sound a None G q.0 q.1).1, (sound b None G r.0 r.1).1))
    sound (t.Pair p a b) (Some S) G T h =
        let o = then_ok (or_fault (pair_parts S) (Wanted p (Is S) SomePair)) _ T h in
        let q = then_ok (walk P (Some o.0.0) G a) _ T o.2 in
        let r = then_ok (walk P (Some o.0.1) G b) _ T q.2 in
        let e = sym (ok_is S T r.2) in
        (e, (o.0.0, o.0.1, e ∙ pair_is S o.0 (or_ok _ _ o.0 o.1), checked_is a G o.0.0 q.0 (sound a (Some o.0.0) G q.0 q.1), checked_is b G o.0.1 r.0 (sound b (Some o.0.1) G r.0 r.1)))
    sound (t.Cons p a b) None G T h =
        let q = then_ok (walk P None G a) _ T h in
        let s = sound b (Some (ListOf q.0)) G T q.2 in
        (tt, (q.0, s.0, (sound a None G q.0 q.1).1, checked_is b G (ListOf q.0) T s))
    sound (t.Cons p a b) (Some S) G T h =
        let o = then_ok (or_fault (list_element S) (Wanted p (Is S) SomeList)) _ T h in
        let q = then_ok (walk P (Some o.0) G a) _ T o.2 in
        let s = sound b (Some S) G T q.2 in
        let e = s.0 ∙ list_is S o.0 (or_ok _ _ o.0 o.1) in
        (s.0, (o.0, e, checked_is a G o.0 q.0 (sound a (Some o.0) G q.0 q.1), subst (HasType P Checking G b) e s.1))
    sound (t.Node p a b c) None G T h =
        let q = then_ok (walk P None G a) _ T h in
        let r = then_ok (walk P (Some (TreeOf q.0)) G b) _ T q.2 in
        let s = sound c (Some (TreeOf q.0)) G T r.2 in
        (tt, (q.0, s.0, (sound a None G q.0 q.1).1, checked_is b G (TreeOf q.0) r.0 (sound b (Some (TreeOf q.0)) G r.0 r.1), checked_is c G (TreeOf q.0) T s))
    sound (t.Node p a b c) (Some S) G T h =
        let o = then_ok (or_fault (tree_element S) (Wanted p (Is S) SomeTree)) _ T h in
        let q = then_ok (walk P (Some o.0) G a) _ T o.2 in
        let r = then_ok (walk P (Some S) G b) _ T q.2 in
        let s = sound c (Some S) G T r.2 in
        let f = tree_is S o.0 (or_ok _ _ o.0 o.1) in
        (s.0, (o.0, s.0 ∙ f, checked_is a G o.0 q.0 (sound a (Some o.0) G q.0 q.1), subst (HasType P Checking G b) f (checked_is b G S r.0 (sound b (Some S) G r.0 r.1)), subst (HasType P Checking G c) (s.0 ∙ f) s.1))
    sound (t.Just p a) None G T h =
        let q = then_ok (walk P None G a) _ T h in
        (tt, (q.0, sym (ok_is _ T q.2), (sound a None G q.0 q.1).1))
    sound (t.Just p a) (Some S) G T h =
        let o = then_ok (or_fault (option_content S) (Wanted p (Is S) SomeOption)) _ T h in
        let q = then_ok (walk P (Some o.0) G a) _ T o.2 in
        let e = sym (ok_is S T q.2) in
        (e, (o.0, e ∙ option_is S o.0 (or_ok _ _ o.0 o.1), checked_is a G o.0 q.0 (sound a (Some o.0) G q.0 q.1)))
    sound (t.Call p f args) want G T h =
        let o = then_ok (or_fault (find f P) (Unknown p)) _ T h in
        let n = then_ok (arity p (length o.0.params) (count args)) _ T o.2 in
        let q = then_ok (walk_each P G args (types_of o.0)) _ T n.2 in
        let s = settle_ok want p o.0.result T q.2 in
        (s.0, (o.0, or_ok _ _ o.0 o.1, s.1, each_sound args G (types_of o.0) (sym (arity_ok p _ _ n.0 n.1) ∙ sym (length_types o.0.params)) q.0 q.1))
    sound (t.Let p x a b) want G T h =
        let q = then_ok (walk P None G a) _ T h in
        let s = sound b want ((x.name, q.0) ∷ G) T q.2 in
        (s.0, (q.0, (sound a None G q.0 q.1).1, s.1))
    sound (t.LetPair p x y a b) want G T h =
        let d = then_ok (distinct (x ∷ y ∷ [])) _ T h in
        let q = then_ok (walk P None G a) _ T d.2 in
        let o = then_ok (or_fault (pair_parts q.0) (Wanted (place a) SomePair (Is q.0))) _ T q.2 in
        let s = sound b want ((y.name, o.0.1) ∷ (x.name, o.0.0) ∷ G) T o.2 in
        (s.0, (o.0.0, o.0.1, distinct_differ (x ∷ y ∷ []) d.1, subst (HasType P Finding G a) (pair_is q.0 o.0 (or_ok _ _ o.0 o.1)) (sound a None G q.0 q.1).1, s.1))
    sound (t.If p c a b) want G T h =
        let q = then_ok (walk P (Some Boolean) G c) _ T h in
        let r = then_ok (walk P want G a) _ T q.2 in
        let sa = sound a want G r.0 r.1 in
        let sb = sound b (Some r.0) G T r.2 in
        let e = sym sb.0 in
        (subst (Meets want) e sa.0, (checked_is c G Boolean q.0 (sound c (Some Boolean) G q.0 q.1), subst (HasType P (way_of want) G a) e sa.1, sb.1))
    sound (t.MatchList p c a x y b) want G T h =
        let d = then_ok (distinct (x ∷ y ∷ [])) _ T h in
        let q = then_ok (walk P None G c) _ T d.2 in
        let o = then_ok (or_fault (list_element q.0) (Wanted (place c) SomeList (Is q.0))) _ T q.2 in
        let r = then_ok (walk P want G a) _ T o.2 in
        let sa = sound a want G r.0 r.1 in
        let sb = sound b (Some r.0) ((y.name, q.0) ∷ (x.name, o.0) ∷ G) T r.2 in
        let e = sym sb.0 in
        let f = list_is q.0 o.0 (or_ok _ _ o.0 o.1) in
        (subst (Meets want) e sa.0, (o.0, distinct_differ (x ∷ y ∷ []) d.1, subst (HasType P Finding G c) f (sound c None G q.0 q.1).1, subst (HasType P (way_of want) G a) e sa.1, subst (λ S. HasType P Checking ((y.name, S) ∷ (x.name, o.0) ∷ G) b T) f sb.1))
    sound (t.MatchTree p c a x y z b) want G T h =
        let d = then_ok (distinct (x ∷ y ∷ z ∷ [])) _ T h in
        let q = then_ok (walk P None G c) _ T d.2 in
        let o = then_ok (or_fault (tree_element q.0) (Wanted (place c) SomeTree (Is q.0))) _ T q.2 in
        let r = then_ok (walk P want G a) _ T o.2 in
        let sa = sound a want G r.0 r.1 in
        let sb = sound b (Some r.0) ((z.name, q.0) ∷ (y.name, q.0) ∷ (x.name, o.0) ∷ G) T r.2 in
        let e = sym sb.0 in
        let f = tree_is q.0 o.0 (or_ok _ _ o.0 o.1) in
        (subst (Meets want) e sa.0, (o.0, distinct_differ (x ∷ y ∷ z ∷ []) d.1, subst (HasType P Finding G c) f (sound c None G q.0 q.1).1, subst (HasType P (way_of want) G a) e sa.1, subst (λ S. HasType P Checking ((z.name, S) ∷ (y.name, S) ∷ (x.name, o.0) ∷ G) b T) f sb.1))
    sound (t.MatchOption p c a x b) want G T h =
        let q = then_ok (walk P None G c) _ T h in
        let o = then_ok (or_fault (option_content q.0) (Wanted (place c) SomeOption (Is q.0))) _ T q.2 in
        let r = then_ok (walk P want G a) _ T o.2 in
        let sa = sound a want G r.0 r.1 in
        let sb = sound b (Some r.0) ((x.name, o.0) ∷ G) T r.2 in
        let e = sym sb.0 in
        (subst (Meets want) e sa.0, (o.0, subst (HasType P Finding G c) (option_is q.0 o.0 (or_ok _ _ o.0 o.1)) (sound c None G q.0 q.1).1, subst (HasType P (way_of want) G a) e sa.1, sb.1))
    sound (t.Tick p k a) want G T h = sound a want G T h
    sound (t.Typed p a A) want G T h =
        let q = then_ok (walk P (Some A) G a) _ T h in
        let s = settle_ok want p A T q.2 in
        (s.0, (s.1, checked_is a G A q.0 (sound a (Some A) G q.0 q.1)))

    each_sound : (es : t.Terms) (G : Context) (As : List Type') → count es ≡ length As → (u : Unit {0}) → walk_each P G es As ≡ Ok u → CheckEach P G es As
    each_sound t.None G [] n u h = tt
    each_sound t.None G (A ∷ As) n u h = absurd (omega (arith, n))
    each_sound (t.More a es) G [] n u h = absurd (omega (arith, n))
    each_sound (t.More a es) G (A ∷ As) n u h =
        let q = then_ok (walk P (Some A) G a) _ u h in
        (checked_is a G A q.0 (sound a (Some A) G q.0 q.1), each_sound es G As (omega (arith, n)) u q.2)

  each_count : (es : t.Terms) (G : Context) (As : List Type') → CheckEach P G es As → length As ≡ count es
  each_count t.None G [] h = refl
  each_count t.None G (A ∷ As) h = absurd h
  each_count (t.More a es) G [] h = absurd h
  each_count (t.More a es) G (A ∷ As) h = omega (arith, each_count es G As h.1)

  mutual
    complete : (e : t.Term) (want : Option Type') (G : Context) (T : Type') → Meets want T → HasType P (way_of want) G e T → walk P want G e ≡ Ok T
    complete (t.Number p n) want G T m h = settle_is want p Integer T m h
    complete (t.Truth p b) want G T m h = settle_is want p Boolean T m h
    complete (t.Nil p) None G T m h = absurd h
    complete (t.Nil p) (Some S) G T m h =
        then_is (or_fault (list_element S) (Wanted p (Is S) SomeList)) _ h.0 T (or_is _ _ h.0 (ap list_element (sym m ∙ h.1))) (ap Ok (sym m))
    complete (t.Leaf p) None G T m h = absurd h
    complete (t.Leaf p) (Some S) G T m h =
        then_is (or_fault (tree_element S) (Wanted p (Is S) SomeTree)) _ h.0 T (or_is _ _ h.0 (ap tree_element (sym m ∙ h.1))) (ap Ok (sym m))
    complete (t.Nothing p) None G T m h = absurd h
    complete (t.Nothing p) (Some S) G T m h =
        then_is (or_fault (option_content S) (Wanted p (Is S) SomeOption)) _ h.0 T (or_is _ _ h.0 (ap option_content (sym m ∙ h.1))) (ap Ok (sym m))
    complete (t.Var p x) want G T m h = then_is (or_fault (type_at x G) (Unknown p)) _ T T (or_is _ _ T h) (settle_is want p T T m refl)
    complete (t.Arith p op a b) want G T m h =
        then_is (walk P (Some Integer) G a) _ Integer T (complete a (Some Integer) G Integer refl h.1)
        (then_is (walk P (Some Integer) G b) _ Integer T (complete b (Some Integer) G Integer refl h.2) (settle_is want p Integer T m h.0))
    complete (t.Compare p op a b) want G T m h =
        then_is (walk P (Some Integer) G a) _ Integer T (complete a (Some Integer) G Integer refl h.1)
        (then_is (walk P (Some Integer) G b) _ Integer T (complete b (Some Integer) G Integer refl h.2) (settle_is want p Boolean T m h.0))
    complete (t.Not p a) want G T m h =
        then_is (walk P (Some Boolean) G a) _ Boolean T (complete a (Some Boolean) G Boolean refl h.1) (settle_is want p Boolean T m h.0)
    complete (t.Pair p a b) None G T m h =
        then_is (walk P None G a) _ h.0 T (complete a None G h.0 tt h.3)
        (then_is (walk P None G b) _ h.1 T (complete b None G h.1 tt h.4) (ap Ok (sym h.2)))
    complete (t.Pair p a b) (Some S) G T m h =
        let S' : Type' × Type' = (h.0, h.1) in
        then_is (or_fault (pair_parts S) (Wanted p (Is S) SomePair)) _ S' T (or_is _ _ S' (ap pair_parts (sym m ∙ h.2)))
        (then_is (walk P (Some h.0) G a) _ h.0 T (complete a (Some h.0) G h.0 refl h.3)
        (then_is (walk P (Some h.1) G b) _ h.1 T (complete b (Some h.1) G h.1 refl h.4) (ap Ok (sym m))))
    complete (t.Cons p a b) None G T m h =
        then_is (walk P None G a) _ h.0 T (complete a None G h.0 tt h.2) (complete b (Some (ListOf h.0)) G (ListOf h.0) refl h.3 ∙ ap Ok (sym h.1))
    complete (t.Cons p a b) (Some S) G T m h =
        then_is (or_fault (list_element S) (Wanted p (Is S) SomeList)) _ h.0 T (or_is _ _ h.0 (ap list_element (sym m ∙ h.1)))
        (then_is (walk P (Some h.0) G a) _ h.0 T (complete a (Some h.0) G h.0 refl h.2) (complete b (Some S) G T m (subst (HasType P Checking G b) (sym h.1) h.3)))
    complete (t.Node p a b c) None G T m h =
        then_is (walk P None G a) _ h.0 T (complete a None G h.0 tt h.2)
        (then_is (walk P (Some (TreeOf h.0)) G b) _ (TreeOf h.0) T (complete b (Some (TreeOf h.0)) G (TreeOf h.0) refl h.3) (complete c (Some (TreeOf h.0)) G (TreeOf h.0) refl h.4 ∙ ap Ok (sym h.1)))
    complete (t.Node p a b c) (Some S) G T m h =
        then_is (or_fault (tree_element S) (Wanted p (Is S) SomeTree)) _ h.0 T (or_is _ _ h.0 (ap tree_element (sym m ∙ h.1)))
        (then_is (walk P (Some h.0) G a) _ h.0 T (complete a (Some h.0) G h.0 refl h.2)
        (then_is (walk P (Some S) G b) _ T T (complete b (Some S) G T m (subst (HasType P Checking G b) (sym h.1) h.3)) (complete c (Some S) G T m (subst (HasType P Checking G c) (sym h.1) h.4))))
    complete (t.Just p a) None G T m h = then_is (walk P None G a) _ h.0 T (complete a None G h.0 tt h.2) (ap Ok (sym h.1))
    complete (t.Just p a) (Some S) G T m h =
        then_is (or_fault (option_content S) (Wanted p (Is S) SomeOption)) _ h.0 T (or_is _ _ h.0 (ap option_content (sym m ∙ h.1)))
        (then_is (walk P (Some h.0) G a) _ h.0 T (complete a (Some h.0) G h.0 refl h.2) (ap Ok (sym m)))
    complete (t.Call p f args) want G T m h =
        then_is (or_fault (find f P) (Unknown p)) _ h.0 T (or_is _ _ h.0 h.1)
        (then_is (arity p (length h.0.params) (count args)) _ tt T (arity_is p _ _ (sym (length_types h.0.params) ∙ each_count args G (types_of h.0) h.3))
        (then_is (walk_each P G args (types_of h.0)) _ tt T (each_complete args G (types_of h.0) h.3) (settle_is want p h.0.result T m h.2)))
    complete (t.Let p x a b) want G T m h = then_is (walk P None G a) _ h.0 T (complete a None G h.0 tt h.1) (complete b want ((x.name, h.0) ∷ G) T m h.2)
    complete (t.LetPair p x y a b) want G T m h =
        then_is (distinct (x ∷ y ∷ [])) _ tt T (differ_distinct (x ∷ y ∷ []) h.2)
        (then_is (walk P None G a) _ (PairOf h.0 h.1) T (complete a None G (PairOf h.0 h.1) tt h.3) (complete b want ((y.name, h.1) ∷ (x.name, h.0) ∷ G) T m h.4))
    complete (t.If p c a b) want G T m h =
        then_is (walk P (Some Boolean) G c) _ Boolean T (complete c (Some Boolean) G Boolean refl h.0)
        (then_is (walk P want G a) _ T T (complete a want G T m h.1) (complete b (Some T) G T refl h.2))
    complete (t.MatchList p c a x y b) want G T m h =
        then_is (distinct (x ∷ y ∷ [])) _ tt T (differ_distinct (x ∷ y ∷ []) h.1)
        (then_is (walk P None G c) _ (ListOf h.0) T (complete c None G (ListOf h.0) tt h.2)
        (then_is (walk P want G a) _ T T (complete a want G T m h.3) (complete b (Some T) ((y.name, ListOf h.0) ∷ (x.name, h.0) ∷ G) T refl h.4)))
    complete (t.MatchTree p c a x y z b) want G T m h =
        then_is (distinct (x ∷ y ∷ z ∷ [])) _ tt T (differ_distinct (x ∷ y ∷ z ∷ []) h.1)
        (then_is (walk P None G c) _ (TreeOf h.0) T (complete c None G (TreeOf h.0) tt h.2)
        (then_is (walk P want G a) _ T T (complete a want G T m h.3) (complete b (Some T) ((z.name, TreeOf h.0) ∷ (y.name, TreeOf h.0) ∷ (x.name, h.0) ∷ G) T refl h.4)))
    complete (t.MatchOption p c a x b) want G T m h =
        then_is (walk P None G c) _ (OptionOf h.0) T (complete c None G (OptionOf h.0) tt h.1)
        (then_is (walk P want G a) _ T T (complete a want G T m h.2) (complete b (Some T) ((x.name, h.0) ∷ G) T refl h.3))
    complete (t.Tick p k a) want G T m h = complete a want G T m h
    complete (t.Typed p a A) want G T m h = then_is (walk P (Some A) G a) _ A T (complete a (Some A) G A refl h.1) (settle_is want p A T m h.0)

    each_complete : (es : t.Terms) (G : Context) (As : List Type') → CheckEach P G es As → walk_each P G es As ≡ Ok tt
    each_complete t.None G [] h = refl
    each_complete t.None G (A ∷ As) h = refl
    each_complete (t.More a es) G [] h = absurd h
    each_complete (t.More a es) G (A ∷ As) h = then_is (walk P (Some A) G a) _ A tt (complete a (Some A) G A refl h.0) (each_complete es G As h.1)

  bodies_sound : (gs : List Function) (u : Unit {0}) → walk_bodies P gs ≡ Ok u → All (λ (g : Function). Checks P (bind_types [] g.params) g.body g.result) gs
  bodies_sound [] u h = All-nil _
  bodies_sound (g ∷ gs) u h =
      let q = then_ok (checks P (bind_types [] g.params) g.body g.result) _ u h in
      All-cons (λ (f : Function). Checks P (bind_types [] f.params) f.body f.result) g gs (checked_is g.body (bind_types [] g.params) g.result q.0 (sound g.body (Some g.result) (bind_types [] g.params) q.0 q.1)) (bodies_sound gs u q.2)

  bodies_complete : (gs : List Function) → All (λ (g : Function). Checks P (bind_types [] g.params) g.body g.result) gs → walk_bodies P gs ≡ Ok tt
  bodies_complete [] h = refl
  bodies_complete (g ∷ gs) h =
      then_is (checks P (bind_types [] g.params) g.body g.result) _ g.result tt (complete g.body (Some g.result) (bind_types [] g.params) g.result refl (All-head (λ (f : Function). Checks P (bind_types [] f.params) f.body f.result) g gs h)) (bodies_complete gs (All-tail (λ (f : Function). Checks P (bind_types [] f.params) f.body f.result) g gs h))

parameter_names : (ps : List Parameter) → map (λ (b : Bound). b.name) (map parameter_name ps) ≡ map (λ (p : Parameter). p.name) ps
parameter_names [] = refl
parameter_names (p ∷ ps) = ap (λ xs. p.name ∷ xs) (parameter_names ps)

function_names : (gs : List Function) → map (λ (b : Bound). b.name) (map function_name gs) ≡ map (λ (g : Function). g.name) gs
function_names [] = refl
function_names (g ∷ gs) = ap (λ xs. g.name ∷ xs) (function_names gs)

headers_sound : (gs : List Function) (u : Unit {0}) → walk_headers gs ≡ Ok u → All (λ g. Differ (names_of g)) gs
headers_sound [] u h = All-nil _
headers_sound (g ∷ gs) u h =
    let q = then_ok (distinct (map parameter_name g.params)) _ u h in
    All-cons (λ (f : Function). Differ (names_of f)) g gs (subst Differ (parameter_names g.params) (distinct_differ (map parameter_name g.params) q.1)) (headers_sound gs u q.2)

headers_complete : (gs : List Function) → All (λ g. Differ (names_of g)) gs → walk_headers gs ≡ Ok tt
headers_complete [] h = refl
headers_complete (g ∷ gs) h =
    then_is (distinct (map parameter_name g.params)) _ tt tt (differ_distinct (map parameter_name g.params) (subst Differ (sym (parameter_names g.params)) (All-head (λ (f : Function). Differ (names_of f)) g gs h))) (headers_complete gs (All-tail (λ (f : Function). Differ (names_of f)) g gs h))

pub program_sound : (P : Prog) → walk_program P ≡ Ok tt → Typed P
program_sound P h =
    let q = then_ok (distinct (map function_name P)) _ tt h in
    let r = then_ok (walk_headers P) _ tt q.2 in
    record {
      functions = subst Differ (function_names P) (distinct_differ (map function_name P) q.1);
      parameters = headers_sound P r.0 r.1;
      bodies = bodies_sound P P tt r.2;
    }

pub program_complete : (P : Prog) → Typed P → walk_program P ≡ Ok tt
program_complete P h =
    then_is (distinct (map function_name P)) _ tt tt (differ_distinct (map function_name P) (subst Differ (sym (function_names P)) h.functions))
    (then_is (walk_headers P) _ tt tt (headers_complete P h.parameters) (bodies_complete P P h.bodies))

fault_where_not : (P : Prog) (r : Result (Unit {0}) Fault) → walk_program P ≡ r → (Typed P → ⊥) → (fault : Fault) × (walk_program P ≡ Err fault)
fault_where_not P (Ok u) e not = absurd (not (program_sound P e))
fault_where_not P (Err fault) e not = (fault, e)

not_where_fault : (P : Prog) (fault : Fault) → walk_program P ≡ Err fault → Typed P → ⊥
not_where_fault P fault e typed = let ok = program_complete P typed in absurd (cc)

-- where the code's fault is one of the program, the program is not typed
pub refused_untyped : (P : Prog) (fault : TypeFault) → EndsWith (walk_program P) fault → IsSome (fault_of fault) → Typed P → ⊥
refused_untyped P fault ends some typed = by (fault_of fault) refl some
  where
    by : (o : Option Fault) → fault_of fault ≡ o → IsSome o → ⊥
    by (Some first) e some = not_where_fault P first (ends first e) typed
    by None e some = absurd (cc)

pub walks_are_typings : WalksAreTypings
walks_are_typings P = record {
  found = λ G e T. ((λ h. (sound P e None G T h).1), (λ h. complete P e None G T tt h));
  checked = λ G e T. ((λ h. checked_is P e G T T (sound P e (Some T) G T h)), (λ h. complete P e (Some T) G T refl h));
  same = λ G e T A h. (sound P e (Some T) G A h).0;
  whole = (program_sound P, program_complete P);
  faulty = ((λ h. not_where_fault P h.0 h.1), fault_where_not P (walk_program P) refl);
}

-- The walk over types in a table agrees with the walk over types.
use Rattle.std.proofs.Common.{◌≡◌, ◌∙◌, suc, List, [], ◌∷◌, ◌++◌, length, map, append_assoc, append-nil, Bool, true, false, cond, Option, Some, None, Result, Ok, Err, refl, sym, ap, subst}
use Rattle.std.specs.Str.{bytes_eq}
use Rattle.raml_syntax.specs.Tree as t
use Rattle.raml_syntax.specs.Tree.{Text, Type', Integer, Boolean, PairOf, ListOf, TreeOf, OptionOf, Parameter, Function, Prog}
use Rattle.raml_syntax.specs.Eval.{find}
use Rattle.raml_syntax.specs.Types.{Context, bind_types, types_of}
use Rattle.raml_syntax.specs.Node.{count}
use Rattle.simple_types.specs.Fault.{Wanted, Is, SomeList, SomeTree, SomeOption, SomePair}
use Rattle.simple_types.specs.Walk as w
use Rattle.simple_types.specs.Walk.{place, distinct, arity, function_name, walk_headers}
use Rattle.simple_types.specs.Table.{Table, base, integer, boolean, placed, numbered, numbered_all}
use Rattle.simple_types.specs.Numbered as n
use Rattle.simple_types.specs.Numbered.{Ids, Sig, Sigs, or_else, signature, signed, signatures, no_sigs}
use Rattle.simple_types.specs.declared.types.TypeId.{TypeId}
use Rattle.simple_types.specs.declared.types.Node.TheVariants.{List as ListAt, Tree}
use Rattle.simple_types.specs.Read.{Leaves, Passes}
use Rattle.simple_types.specs.declared.fault.TypeFault.{TypeFault}
use Rattle.simple_types.proofs.Standing.{Stands, Good, Later, later_refl, later_then, stands_type, pair_placed, list_placed, tree_placed, option_placed, type_numbered, base_good}
use Rattle.simple_types.proofs.Steps.{Agree, AgreeAll, Bound, Wants, AllStand, Signed, agree_err, agree_ok, agree_back, agree_then, agree_numbered, agree_or, agree_or_pair, agree_or_sig, agree_settle, agree_test, all_ok, all_back, all_then, all_test, all_next, each_then, forget, list_both, tree_both, option_both, pair_both, var_both, bound_later, wants_later, all_later, signed_later}

-- the signatures are those of the program's functions, and the variables have the types of the context
record At (S : Sigs) (P : Prog) (u : Table) (is : Ids) (G : Context) : Type 0 where
  pub good : Good u
  pub sigs : (f : Text) → Signed u (S f) (find f P)
  pub bound : Bound u is G

at_later : {S : Sigs} {P : Prog} {u v : Table} {is : Ids} {G : Context} → Later u v → At S P u is G → At S P v is G
at_later l at = record { good = l.good; sigs = λ f. signed_later l _ _ (at.sigs f); bound = bound_later l _ _ at.bound }

at_more : {S : Sigs} {P : Prog} {u : Table} {is : Ids} {G : Context} (x : Text) (i : TypeId) (A : Type') → Stands u i A → At S P u is G → At S P u ((x, i) ∷ is) ((x, A) ∷ G)
at_more x i A s at = record { good = at.good; sigs = at.sigs; bound = (refl, s, at.bound) }

same_length : (u : Table) (is : List TypeId) (ps : List Parameter) → AllStand u is (map (λ (p : Parameter). p.type) ps) → length is ≡ length ps
same_length u [] [] h = refl
same_length u (i ∷ is) (p ∷ ps) h = ap suc (same_length u is ps h.1)
same_length u [] (p ∷ ps) h = absurd h
same_length u (i ∷ is) [] h = absurd h

module _ (S : Sigs) (P : Prog) where
  mutual
    agree : (e : t.Term) (u : Table) (i : Option TypeId) (T : Option Type') (is : Ids) (G : Context) → At S P u is G → Wants u i T → Agree u (n.walk S u i is e) (w.walk P T G e)
    agree (t.Number p m) u i T is G at h = agree_settle u i T p integer Integer at.good h at.good.int
    agree (t.Truth p b) u i T is G at h = agree_settle u i T p boolean Boolean at.good h at.good.bool
    agree (t.Nil p) u None None is G at h =
        agree_err u _ _ refl
    agree (t.Nil p) u (Some i) (Some T) is G at h =
        agree_or _ _ _ _ _ _ (list_both u T i h) (ap (λ X. Wanted p (Is X) SomeList) (stands_type u at.good T i h)) (λ a A e s. agree_ok u u i T (later_refl at.good) h)
    agree (t.Nil p) u None (Some T) is G at h = absurd h
    agree (t.Nil p) u (Some i) None is G at h = absurd h
    agree (t.Leaf p) u None None is G at h =
        agree_err u _ _ refl
    agree (t.Leaf p) u (Some i) (Some T) is G at h =
        agree_or _ _ _ _ _ _ (tree_both u T i h) (ap (λ X. Wanted p (Is X) SomeTree) (stands_type u at.good T i h)) (λ a A e s. agree_ok u u i T (later_refl at.good) h)
    agree (t.Leaf p) u None (Some T) is G at h = absurd h
    agree (t.Leaf p) u (Some i) None is G at h = absurd h
    agree (t.Nothing p) u None None is G at h =
        agree_err u _ _ refl
    agree (t.Nothing p) u (Some i) (Some T) is G at h =
        agree_or _ _ _ _ _ _ (option_both u T i h) (ap (λ X. Wanted p (Is X) SomeOption) (stands_type u at.good T i h)) (λ a A e s. agree_ok u u i T (later_refl at.good) h)
    agree (t.Nothing p) u None (Some T) is G at h = absurd h
    agree (t.Nothing p) u (Some i) None is G at h = absurd h
    agree (t.Var p x) u i T is G at h =
        agree_or _ _ _ _ _ _ (var_both u x is G at.bound) refl (λ a A e s. agree_settle u i T p a A at.good h s)
    agree (t.Arith p op a b) u i T is G at h =
        agree_then _ _ (agree a u (Some integer) (Some Integer) is G at at.good.int) (λ v j A l s.
        agree_then _ _ (agree b v (Some integer) (Some Integer) is G (at_later l at) l.good.int) (λ v2 j2 B l2 s2.
        agree_settle v2 i T p integer Integer l2.good (wants_later (later_then l l2) i T h) l2.good.int))
    agree (t.Compare p op a b) u i T is G at h =
        agree_then _ _ (agree a u (Some integer) (Some Integer) is G at at.good.int) (λ v j A l s.
        agree_then _ _ (agree b v (Some integer) (Some Integer) is G (at_later l at) l.good.int) (λ v2 j2 B l2 s2.
        agree_settle v2 i T p boolean Boolean l2.good (wants_later (later_then l l2) i T h) l2.good.bool))
    agree (t.Not p a) u i T is G at h =
        agree_then _ _ (agree a u (Some boolean) (Some Boolean) is G at at.good.bool) (λ v j A l s.
        agree_settle v i T p boolean Boolean l.good (wants_later l i T h) l.good.bool)
    agree (t.Pair p a b) u None None is G at h =
        agree_then _ _ (agree a u None None is G at tt) (λ v j A l s.
        agree_then _ _ (agree b v None None is G (at_later l at) tt) (λ v2 j2 B l2 s2.
        agree_numbered v2 _ (PairOf A B) (pair_placed v2 j j2 A B l2.good (l2.kept j A s) s2)))
    agree (t.Pair p a b) u (Some i) (Some T) is G at h =
        agree_or_pair _ _ _ _ _ _ (pair_both u T i h) (ap (λ X. Wanted p (Is X) SomePair) (stands_type u at.good T i h)) (λ x X sx sy.
        agree_then _ _ (agree a u (Some x.0) (Some X.0) is G at sx) (λ v j A l s.
        agree_then _ _ (agree b v (Some x.1) (Some X.1) is G (at_later l at) (l.kept x.1 X.1 sy)) (λ v2 j2 B l2 s2.
        agree_ok v2 v2 i T (later_refl l2.good) (l2.kept i T (l.kept i T h)))))
    agree (t.Pair p a b) u None (Some T) is G at h = absurd h
    agree (t.Pair p a b) u (Some i) None is G at h = absurd h
    agree (t.Cons p a b) u None None is G at h =
        agree_then _ _ (agree a u None None is G at tt) (λ v j A l s.
        let m = list_placed v j A l.good s in
        agree_back m.later (agree b (placed v (ListAt j)).0 (Some (placed v (ListAt j)).1) (Some (ListOf A)) is G (at_later (later_then l m.later) at) m.stands))
    agree (t.Cons p a b) u (Some i) (Some T) is G at h =
        agree_or _ _ _ _ _ _ (list_both u T i h) (ap (λ X. Wanted p (Is X) SomeList) (stands_type u at.good T i h)) (λ x X e sx.
        agree_then _ _ (agree a u (Some x) (Some X) is G at sx) (λ v j A l s.
        agree b v (Some i) (Some T) is G (at_later l at) (l.kept i T h)))
    agree (t.Cons p a b) u None (Some T) is G at h = absurd h
    agree (t.Cons p a b) u (Some i) None is G at h = absurd h
    agree (t.Node p a b c) u None None is G at h =
        agree_then _ _ (agree a u None None is G at tt) (λ v j A l s.
        let m = tree_placed v j A l.good s in
        let r = placed v (Tree j) in
        let at2 = at_later (later_then l m.later) at in
        agree_back m.later (agree_then _ _ (agree b r.0 (Some r.1) (Some (TreeOf A)) is G at2 m.stands) (λ v2 j2 B l2 s2.
        agree c v2 (Some r.1) (Some (TreeOf A)) is G (at_later l2 at2) (l2.kept r.1 (TreeOf A) m.stands))))
    agree (t.Node p a b c) u (Some i) (Some T) is G at h =
        agree_or _ _ _ _ _ _ (tree_both u T i h) (ap (λ X. Wanted p (Is X) SomeTree) (stands_type u at.good T i h)) (λ x X e sx.
        agree_then _ _ (agree a u (Some x) (Some X) is G at sx) (λ v j A l s.
        agree_then _ _ (agree b v (Some i) (Some T) is G (at_later l at) (l.kept i T h)) (λ v2 j2 B l2 s2.
        agree c v2 (Some i) (Some T) is G (at_later (later_then l l2) at) (l2.kept i T (l.kept i T h)))))
    agree (t.Node p a b c) u None (Some T) is G at h = absurd h
    agree (t.Node p a b c) u (Some i) None is G at h = absurd h
    agree (t.Just p a) u None None is G at h =
        agree_then _ _ (agree a u None None is G at tt) (λ v j A l s. agree_numbered v _ (OptionOf A) (option_placed v j A l.good s))
    agree (t.Just p a) u (Some i) (Some T) is G at h =
        agree_or _ _ _ _ _ _ (option_both u T i h) (ap (λ X. Wanted p (Is X) SomeOption) (stands_type u at.good T i h)) (λ x X e sx.
        agree_then _ _ (agree a u (Some x) (Some X) is G at sx) (λ v j A l s.
        agree_ok v v i T (later_refl l.good) (l.kept i T h)))
    agree (t.Just p a) u None (Some T) is G at h = absurd h
    agree (t.Just p a) u (Some i) None is G at h = absurd h
    agree (t.Call p f args) u i T is G at h =
        agree_or_sig _ _ _ _ _ (at.sigs f) (λ s g all res.
        agree_test _ _ _ _ (ap (λ m. arity p m (count args)) (same_length u s.0 g.params all))
        (each_then _ _ (agree_each args u s.0 (types_of g) is G at all) (λ v l.
        agree_settle v i T p s.1 g.result l.good (wants_later l i T h) (l.kept s.1 g.result res))))
    agree (t.Let p x a b) u i T is G at h =
        agree_then _ _ (agree a u None None is G at tt) (λ v j A l s.
        agree b v i T ((x.name, j) ∷ is) ((x.name, A) ∷ G) (at_more x.name j A s (at_later l at)) (wants_later l i T h))
    agree (t.LetPair p x y a b) u i T is G at h =
        agree_test (distinct (x ∷ y ∷ [])) (distinct (x ∷ y ∷ [])) _ _ refl
        (agree_then _ _ (agree a u None None is G at tt) (λ v j A l s.
        agree_or_pair _ _ _ _ _ _ (pair_both v A j s) (ap (λ X. Wanted (place a) SomePair (Is X)) (stands_type v l.good A j s)) (λ z Z sz sw.
        agree b v i T ((y.name, z.1) ∷ (x.name, z.0) ∷ is) ((y.name, Z.1) ∷ (x.name, Z.0) ∷ G)
        (at_more y.name z.1 Z.1 sw (at_more x.name z.0 Z.0 sz (at_later l at))) (wants_later l i T h))))
    agree (t.If p c a b) u i T is G at h =
        agree_then _ _ (agree c u (Some boolean) (Some Boolean) is G at at.good.bool) (λ v j C l s.
        agree_then _ _ (agree a v i T is G (at_later l at) (wants_later l i T h)) (λ v2 j2 A l2 s2.
        agree b v2 (Some j2) (Some A) is G (at_later (later_then l l2) at) s2))
    agree (t.MatchList p c a x y b) u i T is G at h =
        agree_test (distinct (x ∷ y ∷ [])) (distinct (x ∷ y ∷ [])) _ _ refl
        (agree_then _ _ (agree c u None None is G at tt) (λ v j C l s.
        agree_or _ _ _ _ _ _ (list_both v C j s) (ap (λ X. Wanted (place c) SomeList (Is X)) (stands_type v l.good C j s)) (λ z Z e sz.
        agree_then _ _ (agree a v i T is G (at_later l at) (wants_later l i T h)) (λ v2 j2 A l2 s2.
        agree b v2 (Some j2) (Some A) ((y.name, j) ∷ (x.name, z) ∷ is) ((y.name, C) ∷ (x.name, Z) ∷ G)
        (at_more y.name j C (l2.kept j C s) (at_more x.name z Z (l2.kept z Z sz) (at_later (later_then l l2) at))) s2))))
    agree (t.MatchTree p c a x y z' b) u i T is G at h =
        agree_test (distinct (x ∷ y ∷ z' ∷ [])) (distinct (x ∷ y ∷ z' ∷ [])) _ _ refl
        (agree_then _ _ (agree c u None None is G at tt) (λ v j C l s.
        agree_or _ _ _ _ _ _ (tree_both v C j s) (ap (λ X. Wanted (place c) SomeTree (Is X)) (stands_type v l.good C j s)) (λ z Z e sz.
        agree_then _ _ (agree a v i T is G (at_later l at) (wants_later l i T h)) (λ v2 j2 A l2 s2.
        agree b v2 (Some j2) (Some A) ((z'.name, j) ∷ (y.name, j) ∷ (x.name, z) ∷ is) ((z'.name, C) ∷ (y.name, C) ∷ (x.name, Z) ∷ G)
        (at_more z'.name j C (l2.kept j C s) (at_more y.name j C (l2.kept j C s) (at_more x.name z Z (l2.kept z Z sz) (at_later (later_then l l2) at)))) s2))))
    agree (t.MatchOption p c a x b) u i T is G at h =
        (agree_then _ _ (agree c u None None is G at tt) (λ v j C l s.
        agree_or _ _ _ _ _ _ (option_both v C j s) (ap (λ X. Wanted (place c) SomeOption (Is X)) (stands_type v l.good C j s)) (λ z Z e sz.
        agree_then _ _ (agree a v i T is G (at_later l at) (wants_later l i T h)) (λ v2 j2 A l2 s2.
        agree b v2 (Some j2) (Some A) ((x.name, z) ∷ is) ((x.name, Z) ∷ G)
        (at_more x.name z Z (l2.kept z Z sz) (at_later (later_then l l2) at)) s2))))
    agree (t.Tick p k a) u i T is G at h = agree a u i T is G at h
    agree (t.Typed p a A) u i T is G at h =
        let m = type_numbered A u at.good in
        let r = numbered u A in
        agree_back m.later (agree_then _ _ (agree a r.0 (Some r.1) (Some A) is G (at_later m.later at) m.stands) (λ v j B l s.
        agree_settle v i T p r.1 A l.good (wants_later (later_then m.later l) i T h) (l.kept r.1 A m.stands)))

    agree_each : (es : t.Terms) (u : Table) (js : List TypeId) (As : List Type') (is : Ids) (G : Context) → At S P u is G → AllStand u js As → AgreeAll u (n.walk_each S u is es js) (w.walk_each P G es As)
    agree_each t.None u js As is G at h = all_ok u u (later_refl at.good)
    agree_each (t.More a es) u [] [] is G at h = all_ok u u (later_refl at.good)
    agree_each (t.More a es) u (j ∷ js) (A ∷ As) is G at h =
        all_then _ _ (agree a u (Some j) (Some A) is G at h.0) (λ v i B l s. agree_each es v js As is G (at_later l at) (all_later l js As h.1))
    agree_each (t.More a es) u [] (A ∷ As) is G at h = absurd h
    agree_each (t.More a es) u (j ∷ js) [] is G at h = absurd h

  body_agrees : (ps : List Parameter) (u : Table) (is : Ids) (G : Context) (g : Function) → At S P u is G → AgreeAll u (n.walk_body S u is ps g) (forget (w.walk P (Some g.result) (bind_types G ps) g.body))
  body_agrees [] u is G g at =
      let m = type_numbered g.result u at.good in
      let r = numbered u g.result in
      all_back m.later (all_then _ _ (agree g.body r.0 (Some r.1) (Some g.result) is G (at_later m.later at) m.stands) (λ v i A l s. all_ok v v (later_refl l.good)))
  body_agrees (p ∷ ps) u is G g at =
      let m = type_numbered p.type u at.good in
      let r = numbered u p.type in
      all_back m.later (body_agrees ps r.0 ((p.name, r.1) ∷ is) ((p.name, p.type) ∷ G) g (at_more p.name r.1 p.type m.stands (at_later m.later at)))

  bodies_agree : (gs : List Function) (u : Table) → At S P u [] [] → AgreeAll u (n.walk_bodies S u gs) (w.walk_bodies P gs)
  bodies_agree [] u at = all_ok u u (later_refl at.good)
  bodies_agree (g ∷ gs) u at = all_next (w.checks P (bind_types [] g.params) g.body g.result) _ _ (body_agrees g.params u [] [] g at) (λ v l. bodies_agree gs v (at_later l at))

all_push : (u : Table) (is : List TypeId) (As : List Type') (i : TypeId) (A : Type') → AllStand u is As → Stands u i A → AllStand u (is ++ i ∷ []) (As ++ A ∷ [])
all_push u [] [] i A h s = (s, tt)
all_push u (j ∷ is) (B ∷ As) i A h s = (h.0, all_push u is As i A h.1 s)
all_push u [] (B ∷ As) i A h s = absurd h
all_push u (j ∷ is) [] i A h s = absurd h

-- the table after types are put in, and their places
record AreNumbered (u : Table) (As : List Type') (r : Table × List TypeId) : Type 0 where
  pub later : Later u r.0
  pub stand : AllStand r.0 r.1 As

types_numbered : (As : List Type') (u : Table) (is : List TypeId) (Bs : List Type') → Good u → AllStand u is Bs → AreNumbered u (Bs ++ As) (numbered_all u is As)
types_numbered [] u is Bs good h = record { later = later_refl good; stand = subst (AllStand u is) (sym (append-nil Bs)) h }
types_numbered (A ∷ As) u is Bs good h =
    let m = type_numbered A u good in
    let i = numbered u A in
    let rest = types_numbered As i.0 (is ++ i.1 ∷ []) (Bs ++ A ∷ []) m.later.good (all_push i.0 is Bs i.1 A (all_later m.later is Bs h) m.stands) in
    record {
      later = later_then m.later rest.later;
      stand = subst (AllStand (numbered_all u is (A ∷ As)).0 (numbered_all u is (A ∷ As)).1) (append_assoc Bs (A ∷ []) As) rest.stand;
    }

-- the table after a function's types are put in, and its signature
record IsSignature (u : Table) (g : Function) (r : Table × Sig) : Type 0 where
  pub later : Later u r.0
  pub signed : Signed r.0 (Some r.1) (Some g)

signature_is : (g : Function) (u : Table) → Good u → IsSignature u g (signature u g)
signature_is g u good =
    let ps = types_numbered (types_of g) u [] [] good tt in
    let r = type_numbered g.result (numbered_all u [] (types_of g)).0 ps.later.good in
    record { later = later_then ps.later r.later; signed = (all_later r.later _ (types_of g) ps.stand, r.stands) }

-- signatures behind others
record AreSigned (u : Table) (S : Sigs) (gs : List Function) (r : Table × Sigs) : Type 0 where
  pub later : Later u r.0
  pub kept : (f : Text) (s : Sig) → S f ≡ Some s → r.1 f ≡ Some s
  pub fresh : (f : Text) → S f ≡ None → Signed r.0 (r.1 f) (find f gs)

signatures_are : (gs : List Function) (u : Table) (S : Sigs) → Good u → AreSigned u S gs (signatures u S gs)
signatures_are [] u S good = record { later = later_refl good; kept = λ f s e. e; fresh = λ f e. subst (λ o. Signed u o None) (sym e) tt }
signatures_are (g ∷ gs) u S good =
    let m = signature_is g u good in
    let s = signature u g in
    let rest = signatures_are gs s.0 (signed S g.name s.1) m.later.good in
    record {
      later = later_then m.later rest.later;
      kept = λ f x e. rest.kept f x (ap (λ o. or_else o (cond (bytes_eq f g.name) (Some s.1) None)) e);
      fresh = λ f e. fresh (signatures s.0 (signed S g.name s.1) gs).0 (signatures s.0 (signed S g.name s.1) gs).1 f e m rest (bytes_eq f g.name) refl;
    }
  where
    fresh : (v : Table) (R : Sigs) (f : Text) → S f ≡ None → IsSignature u g (signature u g) → AreSigned (signature u g).0 (signed S g.name (signature u g).1) gs (v, R) → (b : Bool) → bytes_eq f g.name ≡ b → Signed v (R f) (cond (bytes_eq f g.name) (Some g) (find f gs))
    fresh v R f e m rest true q =
        let s = (signature u g).1 in
        let here : signed S g.name s f ≡ Some s = ap (λ o. or_else o (cond (bytes_eq f g.name) (Some s) None)) e ∙ ap (λ b. cond b (Some s) None) q in
        subst (λ b. Signed v (R f) (cond b (Some g) (find f gs))) (sym q)
        (subst (λ o. Signed v o (Some g)) (sym (rest.kept f s here)) (signed_later rest.later (Some s) (Some g) m.signed))
    fresh v R f e m rest false q =
        let s = (signature u g).1 in
        let none : signed S g.name s f ≡ None = ap (λ o. or_else o (cond (bytes_eq f g.name) (Some s) None)) e ∙ ap (λ b. cond b (Some s) None) q in
        subst (λ b. Signed v (R f) (cond b (Some g) (find f gs))) (sym q) (rest.fresh f none)

-- the walk over a program
pub programs_agree : (P : Prog) → AgreeAll base (n.walk_program P) (w.walk_program P)
programs_agree P =
    let s = signatures_are P base no_sigs base_good in
    let at : At (signatures base no_sigs P).1 P (signatures base no_sigs P).0 [] [] = record { good = s.later.good; sigs = λ f. s.fresh f refl; bound = tt } in
    all_test (distinct (map function_name P)) _ _ (all_test (walk_headers P) _ _ (all_back s.later (bodies_agree (signatures base no_sigs P).1 P P (signatures base no_sigs P).0 at)))

-- what the code says of the one walk it says of the other
pub passes : (P : Prog) (u : Table) (r : Result (Unit {0}) TypeFault) → Leaves (n.walk_program P) u r → Passes (w.walk_program P) r
passes P u (Ok done) h = ((programs_agree P).done u h).0
passes P u (Err fault) h = λ first e. (programs_agree P).fault first (h first e)

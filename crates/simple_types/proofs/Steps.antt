-- Steps of two walks that agree: one over types in a table, the other over types.
use Rattle.std.proofs.Common.{◌≡◌, ◌∙◌, ℕ, List, [], ◌∷◌, nat_eq, Bool, true, false, cond, Option, Some, None, Result, Ok, Err, refl, sym, ap, subst}
use Rattle.std.specs.Str.{bytes_eq}
use Rattle.std.proofs.lemmas.Bool.{eqb-true, eq-eqb}
use Rattle.raml_syntax.specs.Tree.{Text, Type', Integer, Boolean, PairOf, ListOf, TreeOf, OptionOf, Function}
use Rattle.raml_syntax.specs.Types.{Context, type_at, types_of}
use Rattle.simple_types.specs.Fault.{Fault, Wanted, Is}
use Rattle.simple_types.specs.Walk as w
use Rattle.simple_types.specs.Walk.{and_then, or_fault, place, distinct, arity, function_name, walk_headers}
use Rattle.simple_types.specs.Table as k
use Rattle.simple_types.specs.Table.{Table, base, integer, boolean, node_at, type_of, numbered, numbered_all}
use Rattle.simple_types.specs.Numbered as n
use Rattle.simple_types.specs.Numbered.{Ids, Sig, Sigs, Found, id_at, or_else, signature, signed, signatures, no_sigs}
use Rattle.simple_types.specs.declared.types.TypeId.{TypeId}
use Rattle.simple_types.specs.declared.types.Node.TheVariants.{Int, Bool as Truth, Pair, List as ListAt, Tree, Opt}
use Rattle.raml_syntax.specs.SameType.{same_type}
use Rattle.raml_syntax.proofs.SameType.{same_self, same_is}
use Rattle.simple_types.proofs.Standing.{Stands, Good, Later, later_refl, later_then, IsNumbered, node_is, stands_type, one_place}

-- the two walks end with the same fault, or with a type and its place in a later table
pub record Agree (u : Table) (r : Found) (s : Result Type' Fault) : Type 0 where
  pub fault : (f : Fault) → r ≡ Err f → s ≡ Err f
  pub found : (v : Table) (i : TypeId) → r ≡ Ok (v, i) → (A : Type') × (s ≡ Ok A) × Later u v × Stands v i A

abbrev pub faulty : Fault → Found
faulty f = Err f

abbrev pub typed : Type' → Result Type' Fault
typed A = Ok A

err_is : (f g : Fault) → faulty f ≡ faulty g → f ≡ g
err_is f g e = cc

ok_is : (x y : Table × TypeId) → n.gives x ≡ n.gives y → x ≡ y
ok_is x y e = cc

pub agree_err : (u : Table) (f g : Fault) → f ≡ g → Agree u (Err f) (Err g)
agree_err u f g e = record { fault = λ h p. ap Err (sym e ∙ err_is f h p); found = λ v i p. absurd (cc) }

pub agree_ok : (u v : Table) (i : TypeId) (A : Type') → Later u v → Stands v i A → Agree u (Ok (v, i)) (Ok A)
agree_ok u v i A l s = record { fault = λ f p. absurd (cc); found = λ x j p. at (x, j) (ok_is (v, i) (x, j) p) }
  where
    at : (r : Table × TypeId) → (v, i) ≡ r → (B : Type') × (typed A ≡ typed B) × Later u r.0 × Stands r.0 r.1 B
    at r e = subst (λ (q : Table × TypeId). (B : Type') × (typed A ≡ typed B) × Later u q.0 × Stands q.0 q.1 B) e (A, refl, l, s)

pub agree_back : {u v : Table} {r : Found} {s : Result Type' Fault} → Later u v → Agree v r s → Agree u r s
agree_back l a = record { fault = a.fault; found = λ v i p. let h = a.found v i p in (h.0, h.1, later_then l h.2, h.3) }

pub agree_then : {u : Table} {r : Found} {s : Result Type' Fault} (go : Table × TypeId → Found) (next : Type' → Result Type' Fault) → Agree u r s → ((v : Table) (i : TypeId) (A : Type') → Later u v → Stands v i A → Agree v (go (v, i)) (next A)) → Agree u (and_then r go) (and_then s next)
agree_then {u = u} {r = Ok r} {s = s} go next a h =
    let f = a.found r.0 r.1 refl in
    subst (λ q. Agree u (go r) (and_then q next)) (sym f.1) (agree_back f.2 (h r.0 r.1 f.0 f.2 f.3))
agree_then {u = u} {r = Err f} {s = s} go next a h = subst (λ q. Agree u (Err f) (and_then q next)) (sym (a.fault f refl)) (agree_err u f f refl)

pub agree_numbered : (u : Table) (r : Table × TypeId) (A : Type') → IsNumbered u A r → Agree u (n.gives r) (Ok A)
agree_numbered u r A m = agree_ok u r.0 r.1 A m.later m.stands

-- both are there, or none is
abbrev pub Both : Table → Option TypeId → Option Type' → Type 0
Both u None None = Unit {0}
Both u (Some a) (Some A) = Stands u a A
Both u _ _ = ⊥

pub agree_or : {u : Table} (o : Option TypeId) (O : Option Type') (f g : Fault) (go : TypeId → Found) (next : Type' → Result Type' Fault) → Both u o O → f ≡ g → ((a : TypeId) (A : Type') → O ≡ Some A → Stands u a A → Agree u (go a) (next A)) → Agree u (and_then (or_fault o f) go) (and_then (or_fault O g) next)
agree_or None None f g go next b e h = agree_err _ f g e
agree_or (Some a) (Some A) f g go next b e h = h a A refl b
agree_or None (Some A) f g go next b e h = absurd b
agree_or (Some a) None f g go next b e h = absurd b

pub list_both : (u : Table) (T : Type') (i : TypeId) → Stands u i T → Both u (k.list_element (node_at u i)) (w.list_element T)
list_both u Integer i s = subst (λ x. Both u (k.list_element x) None) (sym (node_is u i Int s)) tt
list_both u Boolean i s = subst (λ x. Both u (k.list_element x) None) (sym (node_is u i Truth s)) tt
list_both u (PairOf A B) i s = subst (λ x. Both u (k.list_element x) None) (sym (node_is u i (Pair s.0 s.1) s.2)) tt
list_both u (ListOf A) i s = subst (λ x. Both u (k.list_element x) (Some A)) (sym (node_is u i (ListAt s.0) s.1)) s.2
list_both u (TreeOf A) i s = subst (λ x. Both u (k.list_element x) None) (sym (node_is u i (Tree s.0) s.1)) tt
list_both u (OptionOf A) i s = subst (λ x. Both u (k.list_element x) None) (sym (node_is u i (Opt s.0) s.1)) tt

pub tree_both : (u : Table) (T : Type') (i : TypeId) → Stands u i T → Both u (k.tree_element (node_at u i)) (w.tree_element T)
tree_both u Integer i s = subst (λ x. Both u (k.tree_element x) None) (sym (node_is u i Int s)) tt
tree_both u Boolean i s = subst (λ x. Both u (k.tree_element x) None) (sym (node_is u i Truth s)) tt
tree_both u (PairOf A B) i s = subst (λ x. Both u (k.tree_element x) None) (sym (node_is u i (Pair s.0 s.1) s.2)) tt
tree_both u (ListOf A) i s = subst (λ x. Both u (k.tree_element x) None) (sym (node_is u i (ListAt s.0) s.1)) tt
tree_both u (TreeOf A) i s = subst (λ x. Both u (k.tree_element x) (Some A)) (sym (node_is u i (Tree s.0) s.1)) s.2
tree_both u (OptionOf A) i s = subst (λ x. Both u (k.tree_element x) None) (sym (node_is u i (Opt s.0) s.1)) tt

pub option_both : (u : Table) (T : Type') (i : TypeId) → Stands u i T → Both u (k.option_content (node_at u i)) (w.option_content T)
option_both u Integer i s = subst (λ x. Both u (k.option_content x) None) (sym (node_is u i Int s)) tt
option_both u Boolean i s = subst (λ x. Both u (k.option_content x) None) (sym (node_is u i Truth s)) tt
option_both u (PairOf A B) i s = subst (λ x. Both u (k.option_content x) None) (sym (node_is u i (Pair s.0 s.1) s.2)) tt
option_both u (ListOf A) i s = subst (λ x. Both u (k.option_content x) None) (sym (node_is u i (ListAt s.0) s.1)) tt
option_both u (TreeOf A) i s = subst (λ x. Both u (k.option_content x) None) (sym (node_is u i (Tree s.0) s.1)) tt
option_both u (OptionOf A) i s = subst (λ x. Both u (k.option_content x) (Some A)) (sym (node_is u i (Opt s.0) s.1)) s.2

abbrev pub BothPairs : Table → Option (TypeId × TypeId) → Option (Type' × Type') → Type 0
BothPairs u None None = Unit {0}
BothPairs u (Some a) (Some A) = Stands u a.0 A.0 × Stands u a.1 A.1
BothPairs u _ _ = ⊥

pub agree_or_pair : {u : Table} (o : Option (TypeId × TypeId)) (O : Option (Type' × Type')) (f g : Fault) (go : TypeId × TypeId → Found) (next : Type' × Type' → Result Type' Fault) → BothPairs u o O → f ≡ g → ((a : TypeId × TypeId) (A : Type' × Type') → Stands u a.0 A.0 → Stands u a.1 A.1 → Agree u (go a) (next A)) → Agree u (and_then (or_fault o f) go) (and_then (or_fault O g) next)
agree_or_pair None None f g go next b e h = agree_err _ f g e
agree_or_pair (Some a) (Some A) f g go next b e h = h a A b.0 b.1
agree_or_pair None (Some A) f g go next b e h = absurd b
agree_or_pair (Some a) None f g go next b e h = absurd b

pub pair_both : (u : Table) (T : Type') (i : TypeId) → Stands u i T → BothPairs u (k.pair_parts (node_at u i)) (w.pair_parts T)
pair_both u Integer i s = subst (λ x. BothPairs u (k.pair_parts x) None) (sym (node_is u i Int s)) tt
pair_both u Boolean i s = subst (λ x. BothPairs u (k.pair_parts x) None) (sym (node_is u i Truth s)) tt
pair_both u (PairOf A B) i s = subst (λ x. BothPairs u (k.pair_parts x) (Some (A, B))) (sym (node_is u i (Pair s.0 s.1) s.2)) (s.3, s.4)
pair_both u (ListOf A) i s = subst (λ x. BothPairs u (k.pair_parts x) None) (sym (node_is u i (ListAt s.0) s.1)) tt
pair_both u (TreeOf A) i s = subst (λ x. BothPairs u (k.pair_parts x) None) (sym (node_is u i (Tree s.0) s.1)) tt
pair_both u (OptionOf A) i s = subst (λ x. BothPairs u (k.pair_parts x) None) (sym (node_is u i (Opt s.0) s.1)) tt

-- variables have the types that stand at their places
abbrev pub Bound : Table → Ids → Context → Type 0
Bound u [] [] = Unit {0}
Bound u (x ∷ is) (y ∷ G) = (x.0 ≡ y.0) × Stands u x.1 y.1 × Bound u is G
Bound u _ _ = ⊥

-- so has what is wanted
abbrev pub Wants : Table → Option TypeId → Option Type' → Type 0
Wants u None None = Unit {0}
Wants u (Some i) (Some T) = Stands u i T
Wants u _ _ = ⊥

abbrev pub AllStand : Table → List TypeId → List Type' → Type 0
AllStand u [] [] = Unit {0}
AllStand u (i ∷ is) (A ∷ As) = Stands u i A × AllStand u is As
AllStand u _ _ = ⊥

-- and a signature
abbrev pub Signed : Table → Option Sig → Option Function → Type 0
Signed u None None = Unit {0}
Signed u (Some s) (Some g) = AllStand u s.0 (types_of g) × Stands u s.1 g.result
Signed u _ _ = ⊥

pub bound_later : {u v : Table} → Later u v → (is : Ids) (G : Context) → Bound u is G → Bound v is G
bound_later l [] [] b = tt
bound_later l (x ∷ is) (y ∷ G) b = (b.0, l.kept x.1 y.1 b.1, bound_later l is G b.2)
bound_later l [] (y ∷ G) b = absurd b
bound_later l (x ∷ is) [] b = absurd b

pub wants_later : {u v : Table} → Later u v → (i : Option TypeId) (T : Option Type') → Wants u i T → Wants v i T
wants_later l None None h = tt
wants_later l (Some i) (Some T) h = l.kept i T h
wants_later l None (Some T) h = absurd h
wants_later l (Some i) None h = absurd h

pub all_later : {u v : Table} → Later u v → (is : List TypeId) (As : List Type') → AllStand u is As → AllStand v is As
all_later l [] [] h = tt
all_later l (i ∷ is) (A ∷ As) h = (l.kept i A h.0, all_later l is As h.1)
all_later l [] (A ∷ As) h = absurd h
all_later l (i ∷ is) [] h = absurd h

pub signed_later : {u v : Table} → Later u v → (o : Option Sig) (O : Option Function) → Signed u o O → Signed v o O
signed_later l None None h = tt
signed_later l (Some s) (Some g) h = (all_later l s.0 (types_of g) h.0, l.kept s.1 g.result h.1)
signed_later l None (Some g) h = absurd h
signed_later l (Some s) None h = absurd h

pub var_both : (u : Table) (x : Text) (is : Ids) (G : Context) → Bound u is G → Both u (id_at x is) (type_at x G)
var_both u x [] [] b = tt
var_both u x (y ∷ is) (z ∷ G) b =
    subst (λ (name : Text). Both u (id_at x (y ∷ is)) (cond (bytes_eq x name) (Some z.1) (type_at x G))) b.0 (by (bytes_eq x y.0) (var_both u x is G b.2))
  where
    by : (c : Bool) → Both u (id_at x is) (type_at x G) → Both u (cond c (Some y.1) (id_at x is)) (cond c (Some z.1) (type_at x G))
    by true rest = b.1
    by false rest = rest
var_both u x [] (z ∷ G) b = absurd b
var_both u x (y ∷ is) [] b = absurd b

-- what was found is settled in the same way
pub agree_settle : (u : Table) (i : Option TypeId) (T : Option Type') (p : ℕ) (a : TypeId) (A : Type') → Good u → Wants u i T → Stands u a A → Agree u (n.settle u i p a) (w.settle T p A)
agree_settle u None None p a A good h s = agree_ok u u a A (later_refl good) s
agree_settle u (Some i) (Some T) p a A good h s = by (nat_eq i.0 a.0) refl (same_type T A) refl
  where
    by : (b : Bool) → nat_eq i.0 a.0 ≡ b → (c : Bool) → same_type T A ≡ c → Agree u (cond b (Ok (u, a)) (Err (Wanted p (Is (type_of u i)) (Is (type_of u a))))) (cond c (Ok A) (Err (Wanted p (Is T) (Is A))))
    by true e true f = agree_ok u u a A (later_refl good) s
    by false e false f =
        let q = stands_type u good T i h in
        let r = stands_type u good A a s in
        agree_err u (Wanted p (Is (type_of u i)) (Is (type_of u a))) (Wanted p (Is T) (Is A)) (λ j. Wanted p (Is (q j)) (Is (r j)))
    by true e false f =
        let at : i ≡ a = λ j. record { 0 = eqb-true i.0 a.0 e j } in
        let same : T ≡ A = sym (stands_type u good T i h) ∙ ap (type_of u) at ∙ stands_type u good A a s in
        let yes : same_type T A ≡ true = subst (λ X. same_type T X ≡ true) same (same_self T) in
        absurd (cc)
    by false e true f =
        let at : i ≡ a = one_place u good T i a h (subst (Stands u a) (sym (same_is T A f)) s) in
        let yes : nat_eq i.0 a.0 ≡ true = eq-eqb i.0 a.0 (ap (λ (x : TypeId). x.0) at) in
        absurd (cc)
agree_settle u None (Some T) p a A good h s = absurd h
agree_settle u (Some i) None p a A good h s = absurd h

-- a test that both make
pub agree_test : {u : Table} (r q : Result (Unit {0}) Fault) (go : Unit {0} → Found) (next : Unit {0} → Result Type' Fault) → r ≡ q → Agree u (go tt) (next tt) → Agree u (and_then r go) (and_then q next)
agree_test {u = u} r q go next e h = subst (λ x. Agree u (and_then r go) (and_then x next)) e (by r)
  where
    by : (x : Result (Unit {0}) Fault) → Agree u (and_then x go) (and_then x next)
    by (Ok x) = h
    by (Err f) = agree_err u f f refl

-- a function that is called
pub agree_or_sig : {u : Table} (o : Option Sig) (O : Option Function) (f : Fault) (go : Sig → Found) (next : Function → Result Type' Fault) → Signed u o O → ((s : Sig) (g : Function) → AllStand u s.0 (types_of g) → Stands u s.1 g.result → Agree u (go s) (next g)) → Agree u (and_then (or_fault o f) go) (and_then (or_fault O f) next)
agree_or_sig None None f go next b h = agree_err _ f f refl
agree_or_sig (Some s) (Some g) f go next b h = h s g b.0 b.1
agree_or_sig None (Some g) f go next b h = absurd b
agree_or_sig (Some s) None f go next b h = absurd b

-- the two walks end with the same fault, or with none and a later table
pub record AgreeAll (u : Table) (r : Result Table Fault) (s : Result (Unit {0}) Fault) : Type 0 where
  pub fault : (f : Fault) → r ≡ Err f → s ≡ Err f
  pub done : (v : Table) → r ≡ Ok v → (s ≡ Ok tt) × Later u v

abbrev pub faulty_all : Fault → Result Table Fault
faulty_all f = Err f

abbrev pub left : Table → Result Table Fault
left v = Ok v

abbrev pub stopped : Fault → Result (Unit {0}) Fault
stopped f = Err f

err_all_is : (f g : Fault) → faulty_all f ≡ faulty_all g → f ≡ g
err_all_is f g e = cc

left_is : (u v : Table) → left u ≡ left v → u ≡ v
left_is u v e = cc

pub all_err : (u : Table) (f : Fault) → AgreeAll u (Err f) (Err f)
all_err u f = record { fault = λ h p. ap stopped (err_all_is f h p); done = λ v p. absurd (cc) }

pub all_ok : (u v : Table) → Later u v → AgreeAll u (Ok v) (Ok tt)
all_ok u v l = record { fault = λ f p. absurd (cc); done = λ x p. (refl, subst (Later u) (left_is v x p) l) }

pub all_back : {u v : Table} {r : Result Table Fault} {s : Result (Unit {0}) Fault} → Later u v → AgreeAll v r s → AgreeAll u r s
all_back l a = record { fault = a.fault; done = λ v p. let h = a.done v p in (h.0, later_then l h.1) }

pub all_then : {u : Table} {r : Found} {s : Result Type' Fault} (go : Table × TypeId → Result Table Fault) (next : Type' → Result (Unit {0}) Fault) → Agree u r s → ((v : Table) (i : TypeId) (A : Type') → Later u v → Stands v i A → AgreeAll v (go (v, i)) (next A)) → AgreeAll u (and_then r go) (and_then s next)
all_then {u = u} {r = Ok r} {s = s} go next a h =
    let f = a.found r.0 r.1 refl in
    subst (λ q. AgreeAll u (go r) (and_then q next)) (sym f.1) (all_back f.2 (h r.0 r.1 f.0 f.2 f.3))
all_then {u = u} {r = Err f} {s = s} go next a h = subst (λ q. AgreeAll u (Err f) (and_then q next)) (sym (a.fault f refl)) (all_err u f)

pub each_then : {u : Table} {r : Result Table Fault} {s : Result (Unit {0}) Fault} (go : Table → Found) (next : Unit {0} → Result Type' Fault) → AgreeAll u r s → ((v : Table) → Later u v → Agree v (go v) (next tt)) → Agree u (and_then r go) (and_then s next)
each_then {u = u} {r = Ok v} {s = s} go next a h =
    let f = a.done v refl in
    subst (λ q. Agree u (go v) (and_then q next)) (sym f.0) (agree_back f.1 (h v f.1))
each_then {u = u} {r = Err f} {s = s} go next a h = subst (λ q. Agree u (Err f) (and_then q next)) (sym (a.fault f refl)) (agree_err u f f refl)

pub all_test : {u : Table} (r : Result (Unit {0}) Fault) (go : Unit {0} → Result Table Fault) (next : Unit {0} → Result (Unit {0}) Fault) → AgreeAll u (go tt) (next tt) → AgreeAll u (and_then r go) (and_then r next)
all_test (Ok x) go next h = h
all_test {u = u} (Err f) go next h = all_err u f

-- what is checked is forgotten
abbrev pub forget : Result Type' Fault → Result (Unit {0}) Fault
forget s = and_then s (λ A. Ok tt)

pub all_next : {u : Table} {r : Result Table Fault} (s : Result Type' Fault) (go : Table → Result Table Fault) (next : Result (Unit {0}) Fault) → AgreeAll u r (forget s) → ((v : Table) → Later u v → AgreeAll v (go v) next) → AgreeAll u (and_then r go) (and_then s (λ A. next))
all_next {u = u} {r = Ok v} s go next a h = by s (a.done v refl).0 (all_back (a.done v refl).1 (h v (a.done v refl).1))
  where
    by : (q : Result Type' Fault) → forget q ≡ Ok tt → AgreeAll u (go v) next → AgreeAll u (go v) (and_then q (λ A. next))
    by (Ok A) e rest = rest
    by (Err f) e rest = absurd (cc)
all_next {u = u} {r = Err f} s go next a h = by s (a.fault f refl)
  where
    by : (q : Result Type' Fault) → forget q ≡ Err f → AgreeAll u (Err f) (and_then q (λ A. next))
    by (Ok A) e = absurd (cc)
    by (Err g) e = subst (λ x. AgreeAll u (Err f) x) (sym e) (all_err u f)

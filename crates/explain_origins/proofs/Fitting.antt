-- The origins of an expression fit its normal form.
use Rattle.std.proofs.Common.{◌+◌, ℕ, List, [], ◌∷◌, ◌++◌, ◌||◌, map, length, Option, Some, None, refl, inr, inl, arith}
use Rattle.raml_syntax.specs.Tree as t
use Rattle.raml_syntax.specs.Tree.{Text, Type', Integer, Boolean, ListOf, TreeOf, Function, Prog}
use Rattle.raml_syntax.specs.Eval.{find}
use Rattle.raml_syntax.specs.Place.{place_of}
use Rattle.normal_spec.specs.Norm as n
use Rattle.normal_spec.specs.Norm.{carries}
use Rattle.normal_spec.specs.Levels.{Levels}
use Rattle.normal_spec.specs.One.{Scope, types_in, bound, bound_two, bound_three, first_part, second_part, element, part_of, found, type_of, split_form, if_form, list_form, tree_form, option_form, place_or, plain, parameters_or, rest_of, name, bare_all, after, wrap, wrap_all, operand, operands, norm_one, norm_two, norm_three, one, scope_of, numbered, body_of}
use Rattle.normal_spec.specs.Two.{Shared, Slots, Made, free_in, slot, put, drop_all, share_all, used, unused, take_slot, take_all, part, of_one, of_two, of_three, over, around, two, norm_fun, own}
use Rattle.normal_spec.proofs.Leveled.{Low, levels_one, levels_carries}
use Rattle.normal_spec.proofs.Runs.{low_entry}
use Rattle.explain_origins.specs.Kinds.{Kind}
use Rattle.explain_origins.specs.Origins.{Origins, Ends, Goes, Forks, bound_unless, before, origins, before_all}
use Rattle.explain_origins.specs.Fits.{WithOne, WithTwo, Binds, Fits}

fits_carries : (m : ℕ) (e : n.Norm) (o : Origins) → Fits e o → Fits (carries m e) o
fits_carries m (n.Var k x) o h = h
fits_carries m (n.Number k i) o h = h
fits_carries m (n.Truth k b) o h = h
fits_carries m (n.Nil k) o h = h
fits_carries m (n.Leaf k) o h = h
fits_carries m (n.Nothing k) o h = h
fits_carries m (n.Arith k op x y) o h = h
fits_carries m (n.Compare k op x y) o h = h
fits_carries m (n.Not k x) o h = h
fits_carries m (n.Pair k x y) o h = h
fits_carries m (n.Cons k x y) o h = h
fits_carries m (n.Node k x y z) o h = h
fits_carries m (n.Just k x) o h = h
fits_carries m (n.Call k f xs) o h = h
fits_carries m (n.Let k x A a b) o h = h
fits_carries m (n.Split k x p q a) o h = h
fits_carries m (n.If k x a b) o h = h
fits_carries m (n.CaseList k x a p q b) o h = h
fits_carries m (n.CaseTree k x a p q r b) o h = h
fits_carries m (n.CaseOption k x a w b) o h = h
fits_carries m (n.Tick k i a) o h = h
fits_carries m (n.Share k x p q a) o h = h
fits_carries m (n.Drop k x a) o h = h

-- operands that are bound before a form
bind : (p : Option Text) (e : t.Term) (S : Scope) (A : Type') (f : ℕ → n.Norm) (k : ℕ) (next : n.Norm) (rest : Origins) → ((j : ℕ) → Fits (f j) (origins e)) → Fits next rest → Fits (wrap (operand p S A f k) next) (bound_unless p e (origins e) rest)
bind (Some x) e S A f k next rest h i = i
bind None e S A f k next rest h i = (inr refl, h k, i)

bind_one : (a : t.Term) (S : Scope) (A : Type') (f : ℕ → n.Norm) (g : ℕ → ℕ → n.Norm) (k : ℕ) (rest : Origins) → ((j : ℕ) → Fits (f j) (origins a)) → ((j x : ℕ) → Fits (g j x) rest) → Fits (norm_one g (operand (plain a) S A f) k) (before a (origins a) rest)
bind_one a S A f g k rest h i =
    let x = operand (plain a) S A f k in
    let next = g (after k x) (name x) in
    fits_carries _ (wrap x next) (before a (origins a) rest) (bind (plain a) a S A f k next rest h (i (after k x) (name x)))

bind_two : (a b : t.Term) (S : Scope) (A B : Type') (f f' : ℕ → n.Norm) (g : ℕ → ℕ → n.Norm) (k : ℕ) (rest : Origins) → ((j : ℕ) → Fits (f j) (origins a)) → ((j : ℕ) → Fits (f' j) (origins b)) → ((x y : ℕ) → Fits (g x y) rest) → Fits (norm_two g (operand (plain a) S A f) (operand (plain b) S B f') k) (before a (origins a) (before b (origins b) rest))
bind_two a b S A B f f' g k rest h h' i =
    let x = operand (plain a) S A f k in
    let y = operand (plain b) S B f' (after k x) in
    let last = g (name x) (name y) in
    let next = wrap y last in
    fits_carries _ (wrap x next) (before a (origins a) (before b (origins b) rest))
    (bind (plain a) a S A f k next (before b (origins b) rest) h (bind (plain b) b S B f' (after k x) last rest h' (i (name x) (name y))))

bind_three : (a b c : t.Term) (S : Scope) (A B C : Type') (f f' f'' : ℕ → n.Norm) (g : ℕ → ℕ → ℕ → n.Norm) (k : ℕ) (rest : Origins) → ((j : ℕ) → Fits (f j) (origins a)) → ((j : ℕ) → Fits (f' j) (origins b)) → ((j : ℕ) → Fits (f'' j) (origins c)) → ((x y z : ℕ) → Fits (g x y z) rest) → Fits (norm_three g (operand (plain a) S A f) (operand (plain b) S B f') (operand (plain c) S C f'') k) (before a (origins a) (before b (origins b) (before c (origins c) rest)))
bind_three a b c S A B C f f' f'' g k rest h h' h'' i =
    let x = operand (plain a) S A f k in
    let y = operand (plain b) S B f' (after k x) in
    let z = operand (plain c) S C f'' (after (after k x) y) in
    let last = g (name x) (name y) (name z) in
    fits_carries _ (wrap x (wrap y (wrap z last))) (before a (origins a) (before b (origins b) (before c (origins c) rest)))
    (bind (plain a) a S A f k (wrap y (wrap z last)) (before b (origins b) (before c (origins c) rest)) h
    (bind (plain b) b S B f' (after k x) (wrap z last) (before c (origins c) rest) h'
    (bind (plain c) c S C f'' (after (after k x) y) last rest h'' (i (name x) (name y) (name z)))))

module _ (P : Prog) where
  mutual
    one_fits : (e : t.Term) (want : Option Type') (S : Scope) (k : ℕ) → Fits (one P want S e k) (origins e)
    one_fits (t.Number p i) want S k = refl
    one_fits (t.Truth p b) want S k = refl
    one_fits (t.Nil p) want S k = refl
    one_fits (t.Leaf p) want S k = refl
    one_fits (t.Nothing p) want S k = refl
    one_fits (t.Var p x) want S k = refl
    one_fits (t.Arith p op a b) want S k =
        bind_two a b S Integer Integer (one P (Some Integer) S a) (one P (Some Integer) S b) (n.Arith 0 op) k (Ends (t.Arith p op a b)) (one_fits a (Some Integer) S) (one_fits b (Some Integer) S) (λ x y. refl)
    one_fits (t.Compare p op a b) want S k =
        bind_two a b S Integer Integer (one P (Some Integer) S a) (one P (Some Integer) S b) (n.Compare 0 op) k (Ends (t.Compare p op a b)) (one_fits a (Some Integer) S) (one_fits b (Some Integer) S) (λ x y. refl)
    one_fits (t.Not p a) want S k =
        bind_one a S Boolean (one P (Some Boolean) S a) (λ j. n.Not 0) k (Ends (t.Not p a)) (one_fits a (Some Boolean) S) (λ j x. refl)
    one_fits (t.Pair p a b) want S k =
        let v = part_of first_part want in
        let w = part_of second_part want in
        bind_two a b S (type_of P v S a) (type_of P w S b) (one P v S a) (one P w S b) (n.Pair 0) k (Ends (t.Pair p a b)) (one_fits a v S) (one_fits b w S) (λ x y. refl)
    one_fits (t.Cons p a b) want S k =
        let v = part_of element want in
        let A = type_of P v S a in
        bind_two a b S A (ListOf A) (one P v S a) (one P (Some (ListOf A)) S b) (n.Cons 0) k (Ends (t.Cons p a b)) (one_fits a v S) (one_fits b (Some (ListOf A)) S) (λ x y. refl)
    one_fits (t.Node p a b c) want S k =
        let v = part_of element want in
        let A = type_of P v S a in
        let w = Some (TreeOf A) in
        bind_three a b c S A (TreeOf A) (TreeOf A) (one P v S a) (one P w S b) (one P w S c) (n.Node 0) k (Ends (t.Node p a b c)) (one_fits a v S) (one_fits b w S) (one_fits c w S) (λ x y z. refl)
    one_fits (t.Just p a) want S k =
        let v = part_of element want in
        bind_one a S (type_of P v S a) (one P v S a) (λ j. n.Just 0) k (Ends (t.Just p a)) (one_fits a v S) (λ j x. refl)
    one_fits (t.Call p f args) want S k =
        let os = operands P S args (parameters_or (find f P)) k in
        let call = n.Call 0 (place_or (length P) (place_of f P)) (map name os) in
        fits_carries (1 + bare_all os) (wrap_all os call) (before_all args (Ends (t.Call p f args))) (all_fit args _ S k call _ refl)
    one_fits (t.Let p x a b) want S k = (inl refl, one_fits a None S k, one_fits b want _ (k + 1))
    one_fits (t.LetPair p x y a b) want S k =
        let T = found P (types_in S) a in
        bind_one a S T (one P None S a) (split_form (λ j. one P want (bound_two x.name y.name (first_part T) (second_part T) S j) b (j + 2))) k (Goes (t.LetPair p x y a b) (origins b)) (one_fits a None S)
        (λ j z. (refl, one_fits b _ _ (j + 2)))
    one_fits (t.If p c a b) want S k =
        bind_one c S Boolean (one P (Some Boolean) S c) (if_form (one P want S a) (one P (Some (type_of P want S a)) S b)) k (Forks (t.If p c a b) (origins a) (origins b)) (one_fits c (Some Boolean) S)
        (λ j z. (refl, one_fits a _ S j, one_fits b _ S j))
    one_fits (t.MatchList p c a x y b) want S k =
        let T = found P (types_in S) c in
        let B = Some (type_of P want S a) in
        bind_one c S T (one P None S c) (list_form (one P want S a) (λ j. one P B (bound_two x.name y.name (element T) T S j) b (j + 2))) k (Forks (t.MatchList p c a x y b) (origins a) (origins b)) (one_fits c None S)
        (λ j z. (refl, one_fits a _ S j, one_fits b _ _ (j + 2)))
    one_fits (t.MatchTree p c a x y z b) want S k =
        let T = found P (types_in S) c in
        let B = Some (type_of P want S a) in
        bind_one c S T (one P None S c) (tree_form (one P want S a) (λ j. one P B (bound_three x.name y.name z.name (element T) T T S j) b (j + 3))) k (Forks (t.MatchTree p c a x y z b) (origins a) (origins b)) (one_fits c None S)
        (λ j u. (refl, one_fits a _ S j, one_fits b _ _ (j + 3)))
    one_fits (t.MatchOption p c a x b) want S k =
        let T = found P (types_in S) c in
        let B = Some (type_of P want S a) in
        bind_one c S T (one P None S c) (option_form (one P want S a) (λ j. one P B (bound x.name j (element T) S) b (j + 1))) k (Forks (t.MatchOption p c a x b) (origins a) (origins b)) (one_fits c None S)
        (λ j z. (refl, one_fits a _ S j, one_fits b _ _ (j + 1)))
    one_fits (t.Tick p i a) want S k = (refl, one_fits a want S k)
    one_fits (t.Typed p a A) want S k = one_fits a (Some A) S k

    all_fit : (es : t.Terms) (As : List Type') (S : Scope) (k : ℕ) (next : n.Norm) (rest : Origins) → Fits next rest → Fits (wrap_all (operands P S es As k) next) (before_all es rest)
    all_fit t.None As S k next rest h = h
    all_fit (t.More a es) As S k next rest h =
        bind (plain a) a S _ _ k _ (before_all es rest) (one_fits a _ S) (all_fit es (rest_of As) S _ next rest h)

-- what fits a form fits another
record Keeps (e f : n.Norm) : Type 0 where
  keep : (o : Origins) → Fits e o → Fits f o

-- what is shared and dropped before it
shared : {e f : n.Norm} (ss : List Shared) → Keeps e f → Keeps e (share_all ss f)
shared [] h = h
shared (s ∷ ss) h = record { keep = (shared ss h).keep }

dropped : {e f : n.Norm} (G : Slots) → Keeps e f → Keeps e (drop_all G f)
dropped [] h = h
dropped (s ∷ G) h = record { keep = (dropped G h).keep }

around_keeps : (e : n.Norm) (make : Slots → Made n.Norm) → ((G : Slots) (k : ℕ) → Keeps e (make G k).0) → (G : Slots) (k : ℕ) → Keeps e (around e make G k).0
around_keeps e make h G k = dropped (unused e G) (h (used e G) k)

-- forms with parts, by their parts
with_one : (kind : Kind) {a b : n.Norm} → Keeps a b → (o : Origins) → WithOne kind (Fits a) o → WithOne kind (Fits b) o
with_one kind f (Ends e) h = h
with_one kind f (Goes e o) h = (h.0, f.keep o h.1)
with_one kind f (Forks e o rest) h = h

with_two : (kind : Kind) {a b c d : n.Norm} → Keeps a b → Keeps c d → (o : Origins) → WithTwo kind (Fits a) (Fits c) o → WithTwo kind (Fits b) (Fits d) o
with_two kind f g (Ends e) h = h
with_two kind f g (Goes e o) h = h
with_two kind f g (Forks e o rest) h = (h.0, f.keep o h.1, g.keep rest h.2)

binds : {a b c d : n.Norm} → Keeps a b → Keeps c d → (o : Origins) → Binds (Fits a) (Fits c) o → Binds (Fits b) (Fits d) o
binds f g (Ends e) h = h
binds f g (Goes e o) h = h
binds f g (Forks e o rest) h = (h.0, f.keep o h.1, g.keep rest h.2)

-- a form over operands that are taken
taken : (e : n.Norm) (f : List ℕ → n.Norm) (xs : List ℕ) (G : Slots) (k : ℕ) → Keeps e (f (take_all xs G k).0.names) → Keeps e (over f xs G k).0
taken e f xs G k h = shared (take_all xs G k).0.shares h

two_keeps : (e : n.Norm) (j : ℕ) → Levels j e → (G : Slots) (k : ℕ) → Keeps e (two e G k).0
two_keeps (n.Var i x) j l G k = taken (n.Var i x) (of_one (n.Var i)) (x ∷ []) G k (record { keep = λ o h. h })
two_keeps (n.Number i v) j l G k = record { keep = λ o h. h }
two_keeps (n.Truth i b) j l G k = record { keep = λ o h. h }
two_keeps (n.Nil i) j l G k = record { keep = λ o h. h }
two_keeps (n.Leaf i) j l G k = record { keep = λ o h. h }
two_keeps (n.Nothing i) j l G k = record { keep = λ o h. h }
two_keeps (n.Arith i op x y) j l G k = taken (n.Arith i op x y) (of_two (n.Arith i op)) (x ∷ y ∷ []) G k (record { keep = λ o h. h })
two_keeps (n.Compare i op x y) j l G k = taken (n.Compare i op x y) (of_two (n.Compare i op)) (x ∷ y ∷ []) G k (record { keep = λ o h. h })
two_keeps (n.Not i x) j l G k = taken (n.Not i x) (of_one (n.Not i)) (x ∷ []) G k (record { keep = λ o h. h })
two_keeps (n.Pair i x y) j l G k = taken (n.Pair i x y) (of_two (n.Pair i)) (x ∷ y ∷ []) G k (record { keep = λ o h. h })
two_keeps (n.Cons i x y) j l G k = taken (n.Cons i x y) (of_two (n.Cons i)) (x ∷ y ∷ []) G k (record { keep = λ o h. h })
two_keeps (n.Node i x y z) j l G k = taken (n.Node i x y z) (of_three (n.Node i)) (x ∷ y ∷ z ∷ []) G k (record { keep = λ o h. h })
two_keeps (n.Just i x) j l G k = taken (n.Just i x) (of_one (n.Just i)) (x ∷ []) G k (record { keep = λ o h. h })
two_keeps (n.Call i f xs) j l G k = taken (n.Call i f xs) (n.Call i f) xs G k (record { keep = λ o h. h })
two_keeps (n.Let i x A a b) j l G k =
    let d = part a b G k in
    let ra = around a (two a) d.0.first (d.1 + 1) in
    let to_a = around_keeps a (two a) (two_keeps a j l.1) d.0.first (d.1 + 1) in
    let to_b = around_keeps b (two b) (two_keeps b (x + 1) l.2) (d.0.second ++ slot x d.1 ∷ []) ra.1 in
    shared d.0.shares (record { keep = binds to_a to_b })
two_keeps (n.Split i x p q a) j l G k =
    let t = take_slot (free_in x a) x G k in
    let to_a = around_keeps a (two a) (two_keeps a (q + 1) l.3) (put x (slot p t.1 ∷ slot q (t.1 + 1) ∷ t.0.stay) G) (t.1 + 2) in
    shared t.0.shares (record { keep = with_one _ to_a })
two_keeps (n.If i x a b) j l G k =
    let t = take_slot (free_in x a || free_in x b) x G k in
    let ra = around a (two a) (put x t.0.stay G) t.1 in
    let to_a = around_keeps a (two a) (two_keeps a j l.1) (put x t.0.stay G) t.1 in
    let to_b = around_keeps b (two b) (two_keeps b j l.2) (put x t.0.stay G) ra.1 in
    shared t.0.shares (record { keep = with_two _ to_a to_b })
two_keeps (n.CaseList i x a p q b) j l G k =
    let t = take_slot (free_in x a || free_in x b) x G k in
    let ra = around a (two a) (put x t.0.stay G) (t.1 + 2) in
    let to_a = around_keeps a (two a) (two_keeps a j l.1) (put x t.0.stay G) (t.1 + 2) in
    let to_b = around_keeps b (two b) (two_keeps b (q + 1) l.4) (put x (slot p t.1 ∷ slot q (t.1 + 1) ∷ t.0.stay) G) ra.1 in
    shared t.0.shares (record { keep = with_two _ to_a to_b })
two_keeps (n.CaseTree i x a p q r b) j l G k =
    let t = take_slot (free_in x a || free_in x b) x G k in
    let ra = around a (two a) (put x t.0.stay G) (t.1 + 3) in
    let to_a = around_keeps a (two a) (two_keeps a j l.1) (put x t.0.stay G) (t.1 + 3) in
    let to_b = around_keeps b (two b) (two_keeps b (r + 1) l.5) (put x (slot p t.1 ∷ slot q (t.1 + 1) ∷ slot r (t.1 + 2) ∷ t.0.stay) G) ra.1 in
    shared t.0.shares (record { keep = with_two _ to_a to_b })
two_keeps (n.CaseOption i x a w b) j l G k =
    let t = take_slot (free_in x a || free_in x b) x G k in
    let ra = around a (two a) (put x t.0.stay G) (t.1 + 1) in
    let to_a = around_keeps a (two a) (two_keeps a j l.1) (put x t.0.stay G) (t.1 + 1) in
    let to_b = around_keeps b (two b) (two_keeps b (w + 1) l.3) (put x (slot w t.1 ∷ t.0.stay) G) ra.1 in
    shared t.0.shares (record { keep = with_two _ to_a to_b })
two_keeps (n.Tick i m a) j l G k = record { keep = with_one _ (two_keeps a j l G k) }
two_keeps (n.Share i x p q a) j l G k = absurd l
two_keeps (n.Drop i x a) j l G k = absurd l

pub origins_fit : (P : Prog) (g : Function) → Fits (norm_fun P g).body (origins g.body)
origins_fit P g =
    let j = length g.params + 1 in
    let S = scope_of g.params 1 [] in
    let low : Low S (1 + length g.params) = low_entry g.params 1 [] (record { at = λ x. omega arith }) in
    let e = one P (Some g.result) S g.body j in
    (around_keeps (body_of P g) (two (body_of P g)) (two_keeps (body_of P g) j (levels_carries j 1 e (levels_one P g.body (Some g.result) S j (record { at = λ x. omega (arith, low.at x) })))) (own (numbered g.params 1)) j).keep
    (origins g.body) (fits_carries 1 e (origins g.body) (one_fits P g.body (Some g.result) S j))

-- Step two: each variable is used once. Every variable that is bound gets a new number.
use Rattle.std.specs.Prelude.{ℕ, nat_eq, ◌+◌, List, [], ◌∷◌, ◌++◌, map, length, Bool, true, false, cond, ◌||◌}
use Rattle.raml_syntax.specs.Tree.{Type', Function, Prog}
use Rattle.normal_spec.specs.Norm as n
use Rattle.normal_spec.specs.Norm.{NormFun, NormProg}
use Rattle.normal_spec.specs.One.{numbered, body_of}
pub use Rattle.normal_spec.specs.Free.{among, free_in, find, has, put, used, unused}

-- it is free in one of both
abbrev pub either : ℕ → n.Norm → n.Norm → Bool
either x a b = free_in x a || free_in x b

-- The variables of step one that the form may use, each with the copy that stands for it. The context is the list of the copies.
abbrev pub Slots : Type 0
Slots = List (ℕ × ℕ)

abbrev pub slot : ℕ → ℕ → ℕ × ℕ
slot x c = (x, c)

-- the copy that stands for a variable; by default 0, which is no variable
abbrev pub copy_of : ℕ → Slots → ℕ
copy_of x [] = 0
copy_of x (s ∷ G) = cond (nat_eq x s.0) s.1 (copy_of x G)

-- a variable that is shared, and its copies
pub record Shared : Type 0 where
  pub variable : ℕ
  pub first : ℕ
  pub second : ℕ

abbrev pub drop_all : Slots → n.Norm → n.Norm
drop_all [] e = e
drop_all (s ∷ G) e = n.Drop 0 s.1 (drop_all G e)

abbrev pub share_all : List Shared → n.Norm → n.Norm
share_all [] e = e
share_all (s ∷ ss) e = n.Share 0 s.variable s.first s.second (share_all ss e)

-- what is made where k is the least new number, and the least new number after it
abbrev pub Made : Type 0 → Type 0
Made A = ℕ → A × ℕ

-- A use of a variable, which is shared first where it is used again: the copy that is used, the slots that stay in its place, and the
-- share.
pub record Taken : Type 0 where
  pub name : ℕ
  pub stay : Slots
  pub shares : List Shared

abbrev pub take_slot : Bool → ℕ → Slots → Made Taken
take_slot false x G k = (record { name = copy_of x G; stay = []; shares = [] }, k)
take_slot true x G k =
    (record { name = k; stay = slot x (k + 1) ∷ []; shares = record { variable = copy_of x G; first = k; second = k + 1 } ∷ [] }, k + 2)

-- the slots behind that use
abbrev pub behind : ℕ → Taken → Slots → Slots
behind x t G = put x t.stay G

-- operands from left to right; each but the last one of a variable is shared
pub record AllTaken : Type 0 where
  pub names : List ℕ
  pub shares : List Shared

abbrev pub take_all : List ℕ → Slots → Made AllTaken
take_all [] G k = (record { names = []; shares = [] }, k)
take_all (x ∷ xs) G k =
    let t = take_slot (among x xs) x G k in
    let ts = take_all xs (behind x t.0 G) t.1 in
    (record { names = t.0.name ∷ ts.0.names; shares = t.0.shares ++ ts.0.shares }, ts.1)

-- The slots of the two parts of a Let. What is free in both is shared.
pub record Parted : Type 0 where
  pub first : Slots
  pub second : Slots
  pub shares : List Shared

abbrev pub to_first : ℕ × ℕ → Parted × ℕ → Parted × ℕ
to_first s r = (record { first = s ∷ r.0.first; second = r.0.second; shares = r.0.shares }, r.1)

abbrev pub to_second : ℕ × ℕ → Parted × ℕ → Parted × ℕ
to_second s r = (record { first = r.0.first; second = s ∷ r.0.second; shares = r.0.shares }, r.1)

abbrev pub to_both : ℕ × ℕ → ℕ → Parted × ℕ → Parted × ℕ
to_both s k r = (
  record {
    first = slot s.0 k ∷ r.0.first;
    second = slot s.0
        (k + 1) ∷ r.0.second;
    shares = record { variable = s.1; first = k; second = k + 1 } ∷ r.0.shares;
  },
  r.1,
)

abbrev pub part : n.Norm → n.Norm → Slots → Made Parted
part a b [] k = (record { first = []; second = []; shares = [] }, k)
part a b (s ∷ G) k =
    cond (free_in s.0 a)
    (cond (free_in s.0 b) (to_both s k (part a b G (k + 2))) (to_first s (part a b G k)))
    (to_second s (part a b G k))

-- a form with one, two or three operands, where there are as many
abbrev pub of_one : (ℕ → n.Norm) → List ℕ → n.Norm
of_one f (x ∷ []) = f x
of_one f _ = n.Nil 0

abbrev pub of_two : (ℕ → ℕ → n.Norm) → List ℕ → n.Norm
of_two f (x ∷ y ∷ []) = f x y
of_two f _ = n.Nil 0

abbrev pub of_three : (ℕ → ℕ → ℕ → n.Norm) → List ℕ → n.Norm
of_three f (x ∷ y ∷ z ∷ []) = f x y z
of_three f _ = n.Nil 0

abbrev pub over : (List ℕ → n.Norm) → List ℕ → Slots → Made n.Norm
over f xs G k = let t = take_all xs G k in (share_all t.0.shares (f t.0.names), t.1)

-- first what is not free is dropped
abbrev pub around : n.Norm → (Slots → Made n.Norm) → Slots → Made n.Norm
around e make G k = let r = make (used e G) k in (drop_all (unused e G) r.0, r.1)

-- the form with these slots, all of which are free in it
abbrev pub two : n.Norm → Slots → Made n.Norm
two (n.Var i x) G k = over (of_one (n.Var i)) (x ∷ []) G k
two (n.Number i v) G k = (n.Number i v, k)
two (n.Truth i b) G k = (n.Truth i b, k)
two (n.Nil i) G k = (n.Nil i, k)
two (n.Leaf i) G k = (n.Leaf i, k)
two (n.Nothing i) G k = (n.Nothing i, k)
two (n.Arith i op x y) G k = over (of_two (n.Arith i op)) (x ∷ y ∷ []) G k
two (n.Compare i op x y) G k = over (of_two (n.Compare i op)) (x ∷ y ∷ []) G k
two (n.Not i x) G k = over (of_one (n.Not i)) (x ∷ []) G k
two (n.Pair i x y) G k = over (of_two (n.Pair i)) (x ∷ y ∷ []) G k
two (n.Cons i x y) G k = over (of_two (n.Cons i)) (x ∷ y ∷ []) G k
two (n.Node i x y z) G k = over (of_three (n.Node i)) (x ∷ y ∷ z ∷ []) G k
two (n.Just i x) G k = over (of_one (n.Just i)) (x ∷ []) G k
two (n.Call i f xs) G k = over (n.Call i f) xs G k
two (n.Let i x A a b) G k =
    let d = part a b G k in
    let c = d.1 in
    let ra = around a (two a) d.0.first (c + 1) in
    let rb = around b (two b) (d.0.second ++ slot x c ∷ []) ra.1 in
    (share_all d.0.shares (n.Let i c A ra.0 rb.0), rb.1)
two (n.Split i x p q a) G k =
    let t = take_slot (free_in x a) x G k in
    let c = t.1 in
    let r = around a (two a) (put x (slot p c ∷ slot q (c + 1) ∷ t.0.stay) G) (c + 2) in
    (share_all t.0.shares (n.Split i t.0.name c (c + 1) r.0), r.1)
two (n.If i x a b) G k =
    let t = take_slot (free_in x a || free_in x b) x G k in
    let ra = around a (two a) (put x t.0.stay G) t.1 in
    let rb = around b (two b) (put x t.0.stay G) ra.1 in
    (share_all t.0.shares (n.If i t.0.name ra.0 rb.0), rb.1)
two (n.CaseList i x a h l b) G k =
    let t = take_slot (free_in x a || free_in x b) x G k in
    let c = t.1 in
    let ra = around a (two a) (put x t.0.stay G) (c + 2) in
    let rb = around b (two b) (put x (slot h c ∷ slot l (c + 1) ∷ t.0.stay) G) ra.1 in
    (share_all t.0.shares (n.CaseList i t.0.name ra.0 c (c + 1) rb.0), rb.1)
two (n.CaseTree i x a h l r b) G k =
    let t = take_slot (free_in x a || free_in x b) x G k in
    let c = t.1 in
    let ra = around a (two a) (put x t.0.stay G) (c + 3) in
    let rb = around b (two b) (put x (slot h c ∷ slot l (c + 1) ∷ slot r (c + 2) ∷ t.0.stay) G) ra.1 in
    (share_all t.0.shares (n.CaseTree i t.0.name ra.0 c (c + 1) (c + 2) rb.0), rb.1)
two (n.CaseOption i x a w b) G k =
    let t = take_slot (free_in x a || free_in x b) x G k in
    let c = t.1 in
    let ra = around a (two a) (put x t.0.stay G) (c + 1) in
    let rb = around b (two b) (put x (slot w c ∷ t.0.stay) G) ra.1 in
    (share_all t.0.shares (n.CaseOption i t.0.name ra.0 c rb.0), rb.1)
two (n.Tick i j a) G k = let r = two a G k in (n.Tick i j r.0, r.1)
-- no form of step one
two (n.Share i x p q a) G k = (n.Nil i, k)
two (n.Drop i x a) G k = (n.Nil i, k)

-- each parameter stands for itself
abbrev pub own : List (ℕ × Type') → Slots
own [] = []
own (p ∷ ps) = slot p.0 p.0 ∷ own ps

abbrev pub norm_fun : Prog → Function → NormFun
norm_fun P g =
    let ps = numbered g.params 1 in
    record { params = ps; result = g.result; body = (around (body_of P g) (two (body_of P g)) (own ps) (length g.params + 1)).0 }

abbrev pub norm : Prog → NormProg
norm P = map (norm_fun P) P

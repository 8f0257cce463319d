-- Step one: each operand is a variable, and no variable hides another.
--
-- A variable that is bound below k - 1 others gets the number k. So the numbers in scope are those from 1 to the depth, and 0 is no
-- variable.
use Rattle.std.specs.Prelude.{ℕ, ◌+◌, List, [], ◌∷◌, map, length, cond, Option, Some, None, unwrap_or}
use Rattle.std.specs.Str.{bytes_eq}
use Rattle.raml_syntax.specs.Tree as t
use Rattle.raml_syntax.specs.Tree.{Text, Type', Integer, Boolean, PairOf, ListOf, TreeOf, OptionOf, Bound, Parameter, Function, Prog}
use Rattle.raml_syntax.specs.Eval.{find}
use Rattle.raml_syntax.specs.Types.{Context, type_at, types_of}
use Rattle.raml_syntax.specs.Place.{place_of}
use Rattle.normal_spec.specs.Norm as n
use Rattle.normal_spec.specs.Norm.{carries}

-- a name in scope, with its number and its type
pub record Named : Type 0 where
  pub name : Text
  pub number : ℕ
  pub type : Type'

-- the newest first
abbrev pub Scope : Type 0
Scope = List Named

abbrev pub number_of : Text → Scope → ℕ
number_of x [] = 0
number_of x (b ∷ S) = cond (bytes_eq x b.name) b.number (number_of x S)

abbrev pub types_in : Scope → Context
types_in [] = []
types_in (b ∷ S) = (b.name, b.type) ∷ types_in S

abbrev pub bound : Text → ℕ → Type' → Scope → Scope
bound x k A S = record { name = x; number = k; type = A } ∷ S

-- the parts of a type; by default it is int
abbrev pub first_part : Type' → Type'
first_part (PairOf A B) = A
first_part _ = Integer

abbrev pub second_part : Type' → Type'
second_part (PairOf A B) = B
second_part _ = Integer

abbrev pub element : Type' → Type'
element (ListOf A) = A
element (TreeOf A) = A
element (OptionOf A) = A
element _ = Integer

-- a part of the type that is wanted, if one is
abbrev pub part_of : (Type' → Type') → Option Type' → Option Type'
part_of f None = None
part_of f (Some T) = Some (f T)

abbrev pub type_or : Option Type' → Type'
type_or None = Integer
type_or (Some A) = A

abbrev pub result_or : Option Function → Type'
result_or None = Integer
result_or (Some g) = g.result

abbrev pub parameters_or : Option Function → List Type'
parameters_or None = []
parameters_or (Some g) = types_of g

abbrev pub place_or : ℕ → Option ℕ → ℕ
place_or d None = d
place_or d (Some k) = k

-- the first type, and those behind it
abbrev pub first_of_types : List Type' → Type'
first_of_types [] = Integer
first_of_types (A ∷ As) = A

abbrev pub rest_of : List Type' → List Type'
rest_of [] = []
rest_of (A ∷ As) = As

-- the variable that an expression is, annotations aside
abbrev pub plain : t.Term → Option Text
plain (t.Var p x) = Some x
plain (t.Typed p a A) = plain a
plain _ = None

-- what stands for an operand: a variable that is there, or a new one that is bound to a form
pub data Operand : Type 0 where
  Is : ℕ → Operand
  Binds : ℕ → Type' → n.Norm → Operand

abbrev pub name : Operand → ℕ
name (Is x) = x
name (Binds z A a) = z

-- the least number that is free behind the operand
abbrev pub after : ℕ → Operand → ℕ
after k (Is x) = k
after k (Binds z A a) = z + 1

-- the nodes of the operand that its form carries
abbrev pub bare : Operand → ℕ
bare (Is x) = 1
bare (Binds z A a) = 0

abbrev pub wrap : Operand → n.Norm → n.Norm
wrap (Is x) rest = rest
wrap (Binds z A a) rest = n.Let 0 z A a rest

abbrev pub wrap_all : List Operand → n.Norm → n.Norm
wrap_all [] rest = rest
wrap_all (x ∷ xs) rest = wrap x (wrap_all xs rest)

abbrev pub bare_all : List Operand → ℕ
bare_all [] = 0
bare_all (x ∷ xs) = bare x + bare_all xs

-- an operand where k is the least free number, by the variable that it is and by its own normal form
abbrev pub operand : Option Text → Scope → Type' → (ℕ → n.Norm) → ℕ → Operand
operand (Some x) S A a k = Is (number_of x S)
operand None S A a k = Binds k A (a k)

abbrev pub with_one : (ℕ → n.Norm) → Operand → n.Norm
with_one f x = carries (1 + bare x) (wrap x (f (name x)))

abbrev pub with_two : (ℕ → ℕ → n.Norm) → Operand → Operand → n.Norm
with_two f x y = carries (1 + (bare x + bare y)) (wrap x (wrap y (f (name x) (name y))))

abbrev pub with_three : (ℕ → ℕ → ℕ → n.Norm) → Operand → Operand → Operand → n.Norm
with_three f x y z = carries (1 + (bare x + (bare y + bare z))) (wrap x (wrap y (wrap z (f (name x) (name y) (name z)))))

abbrev pub with_all : (List ℕ → n.Norm) → List Operand → n.Norm
with_all f xs = carries (1 + bare_all xs) (wrap_all xs (f (map name xs)))

-- operands from left to right
abbrev pub norm_one : (ℕ → ℕ → n.Norm) → (ℕ → Operand) → ℕ → n.Norm
norm_one f a k = with_one (f (after k (a k))) (a k)

abbrev pub norm_two : (ℕ → ℕ → n.Norm) → (ℕ → Operand) → (ℕ → Operand) → ℕ → n.Norm
norm_two f a b k = with_two f (a k) (b (after k (a k)))

abbrev pub norm_three : (ℕ → ℕ → ℕ → n.Norm) → (ℕ → Operand) → (ℕ → Operand) → (ℕ → Operand) → ℕ → n.Norm
norm_three f a b c k = with_three f (a k) (b (after k (a k))) (c (after (after k (a k)) (b (after k (a k)))))

-- the forms that take apart a variable, where the numbers from j on are free
abbrev pub split_form : (ℕ → n.Norm) → ℕ → ℕ → n.Norm
split_form a j x = n.Split 0 x j (j + 1) (a j)

abbrev pub if_form : (ℕ → n.Norm) → (ℕ → n.Norm) → ℕ → ℕ → n.Norm
if_form a b j x = n.If 0 x (a j) (b j)

abbrev pub list_form : (ℕ → n.Norm) → (ℕ → n.Norm) → ℕ → ℕ → n.Norm
list_form a b j x = n.CaseList 0 x (a j) j (j + 1) (b j)

abbrev pub tree_form : (ℕ → n.Norm) → (ℕ → n.Norm) → ℕ → ℕ → n.Norm
tree_form a b j x = n.CaseTree 0 x (a j) j (j + 1) (j + 2) (b j)

abbrev pub option_form : (ℕ → n.Norm) → (ℕ → n.Norm) → ℕ → ℕ → n.Norm
option_form a b j x = n.CaseOption 0 x (a j) j (b j)

-- the names of a pattern, numbered from j on
abbrev pub bound_two : Text → Text → Type' → Type' → Scope → ℕ → Scope
bound_two x y A B S j = bound y (j + 1) B (bound x j A S)

abbrev pub bound_three : Text → Text → Text → Type' → Type' → Type' → Scope → ℕ → Scope
bound_three x y z A B C S j = bound z (j + 2) C (bound_two x y A B S j)

module _ (P : Prog) where
  -- the type that is found for an expression
  abbrev pub found : Context → t.Term → Type'
  found G (t.Number p i) = Integer
  found G (t.Truth p b) = Boolean
  found G (t.Nil p) = Integer
  found G (t.Leaf p) = Integer
  found G (t.Nothing p) = Integer
  found G (t.Var p x) = type_or (type_at x G)
  found G (t.Arith p op a b) = Integer
  found G (t.Compare p op a b) = Boolean
  found G (t.Not p a) = Boolean
  found G (t.Pair p a b) = PairOf (found G a) (found G b)
  found G (t.Cons p a b) = ListOf (found G a)
  found G (t.Node p a b c) = TreeOf (found G a)
  found G (t.Just p a) = OptionOf (found G a)
  found G (t.Call p f args) = result_or (find f P)
  found G (t.Let p x a b) = found ((x.name, found G a) ∷ G) b
  found G (t.LetPair p x y a b) = found ((y.name, second_part (found G a)) ∷ (x.name, first_part (found G a)) ∷ G) b
  found G (t.If p c a b) = found G a
  found G (t.MatchList p c a x y b) = found G a
  found G (t.MatchTree p c a x y z b) = found G a
  found G (t.MatchOption p c a x b) = found G a
  found G (t.Tick p i a) = found G a
  found G (t.Typed p a A) = A

  -- the type of an expression: the one that is wanted, or else the one that is found
  abbrev pub type_of : Option Type' → Scope → t.Term → Type'
  type_of want S e = unwrap_or want (found (types_in S) e)

  -- the form of an expression of a wanted type, if one is wanted, where k is the least free number
  abbrev mutual
    pub one : Option Type' → Scope → t.Term → ℕ → n.Norm
    one want S (t.Number p i) k = n.Number 1 i
    one want S (t.Truth p b) k = n.Truth 1 b
    one want S (t.Nil p) k = n.Nil 1
    one want S (t.Leaf p) k = n.Leaf 1
    one want S (t.Nothing p) k = n.Nothing 1
    one want S (t.Var p x) k = n.Var 1 (number_of x S)
    one want S (t.Arith p op a b) k =
        norm_two (n.Arith 0 op) (operand (plain a) S Integer (one (Some Integer) S a))
        (operand (plain b) S Integer (one (Some Integer) S b)) k
    one want S (t.Compare p op a b) k =
        norm_two (n.Compare 0 op) (operand (plain a) S Integer (one (Some Integer) S a))
        (operand (plain b) S Integer (one (Some Integer) S b)) k
    one want S (t.Not p a) k = norm_one (λ j. n.Not 0) (operand (plain a) S Boolean (one (Some Boolean) S a)) k
    one want S (t.Pair p a b) k =
        let first = part_of first_part want in
        let second = part_of second_part want in
        norm_two (n.Pair 0) (operand (plain a) S (type_of first S a) (one first S a))
        (operand (plain b) S (type_of second S b) (one second S b)) k
    one want S (t.Cons p a b) k =
        let head = part_of element want in
        let A = type_of head S a in
        norm_two (n.Cons 0) (operand (plain a) S A (one head S a)) (operand (plain b) S (ListOf A) (one (Some (ListOf A)) S b)) k
    one want S (t.Node p a b c) k =
        let head = part_of element want in
        let A = type_of head S a in
        norm_three (n.Node 0) (operand (plain a) S A (one head S a))
        (operand (plain b) S (TreeOf A) (one (Some (TreeOf A)) S b)) (operand (plain c) S (TreeOf A) (one (Some (TreeOf A)) S c)) k
    one want S (t.Just p a) k =
        let content = part_of element want in
        norm_one (λ j. n.Just 0) (operand (plain a) S (type_of content S a) (one content S a)) k
    one want S (t.Call p f args) k = with_all (n.Call 0 (place_or (length P) (place_of f P))) (operands S args (parameters_or (find f P)) k)
    one want S (t.Let p x a b) k =
        let A = found (types_in S) a in
        n.Let 1 k A (one None S a k) (one want (bound x.name k A S) b (k + 1))
    one want S (t.LetPair p x y a b) k =
        let T = found (types_in S) a in
        norm_one (split_form (λ j. one want (bound_two x.name y.name (first_part T) (second_part T) S j) b
        (j + 2))) (operand (plain a) S T (one None S a)) k
    one want S (t.If p c a b) k =
        norm_one (if_form (one want S a) (one (Some (type_of want S a)) S b)) (operand (plain c) S Boolean (one (Some Boolean) S c)) k
    one want S (t.MatchList p c a x y b) k =
        let T = found (types_in S) c in
        norm_one (list_form (one want S a)
        (λ j. one (Some (type_of want S a)) (bound_two x.name y.name (element T) T S j) b
        (j + 2))) (operand (plain c) S T (one None S c)) k
    one want S (t.MatchTree p c a x y z b) k =
        let T = found (types_in S) c in
        norm_one (tree_form (one want S a)
        (λ j. one (Some (type_of want S a)) (bound_three x.name y.name z.name (element T) T T S j) b
        (j + 3))) (operand (plain c) S T (one None S c)) k
    one want S (t.MatchOption p c a x b) k =
        let T = found (types_in S) c in
        norm_one (option_form (one want S a)
        (λ j. one (Some (type_of want S a)) (bound x.name j (element T) S) b (j + 1))) (operand (plain c) S T (one None S c)) k
    one want S (t.Tick p i a) k = n.Tick 1 i (one want S a k)
    one want S (t.Typed p a A) k = one (Some A) S a k

    -- arguments of these types
    pub operands : Scope → t.Terms → List Type' → ℕ → List Operand
    operands S t.None As k = []
    operands S (t.More a rest) As k =
        let A = first_of_types As in
        let x = operand (plain a) S A (one (Some A) S a) k in
        x ∷ operands S rest (rest_of As) (after k x)

-- the operand that an expression is, where a type is wanted or not
abbrev pub operand_in : Prog → Option Type' → Scope → t.Term → ℕ → Operand
operand_in P want S e = operand (plain e) S (type_of P want S e) (one P want S e)

-- the parameters of a function, from a number on
abbrev pub scope_of : List Parameter → ℕ → Scope → Scope
scope_of [] k S = S
scope_of (p ∷ ps) k S = scope_of ps (k + 1) (bound p.name k p.type S)

abbrev pub numbered : List Parameter → ℕ → List (ℕ × Type')
numbered [] k = []
numbered (p ∷ ps) k = (k, p.type) ∷ numbered ps (k + 1)

-- a body; its outermost form carries one node more
abbrev pub body_of : Prog → Function → n.Norm
body_of P g = carries 1 (one P (Some g.result) (scope_of g.params 1 []) g.body (length g.params + 1))

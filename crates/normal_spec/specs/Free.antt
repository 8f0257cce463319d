-- Free variables, and lists by variables.
use Rattle.std.specs.Prelude.{ℕ, nat_eq, List, [], ◌∷◌, ◌++◌, Bool, false, cond, not, ◌||◌, ◌&&◌, Option, Some, None}
use Rattle.normal_spec.specs.Norm as n

abbrev pub among : ℕ → List ℕ → Bool
among x [] = false
among x (y ∷ ys) = nat_eq x y || among x ys

-- it is free in the form
abbrev pub free_in : ℕ → n.Norm → Bool
free_in x (n.Var k y) = among x (y ∷ [])
free_in x (n.Number k i) = false
free_in x (n.Truth k b) = false
free_in x (n.Nil k) = false
free_in x (n.Leaf k) = false
free_in x (n.Nothing k) = false
free_in x (n.Arith k op y z) = among x (y ∷ z ∷ [])
free_in x (n.Compare k op y z) = among x (y ∷ z ∷ [])
free_in x (n.Not k y) = among x (y ∷ [])
free_in x (n.Pair k y z) = among x (y ∷ z ∷ [])
free_in x (n.Cons k y z) = among x (y ∷ z ∷ [])
free_in x (n.Node k y z w) = among x (y ∷ z ∷ w ∷ [])
free_in x (n.Just k y) = among x (y ∷ [])
free_in x (n.Call k f ys) = among x ys
free_in x (n.Let k y A a b) = free_in x a || (not (nat_eq x y) && free_in x b)
free_in x (n.Split k y p q a) = nat_eq x y || (not (nat_eq x p || nat_eq x q) && free_in x a)
free_in x (n.If k y a b) = nat_eq x y || (free_in x a || free_in x b)
free_in x (n.CaseList k y a h t b) = nat_eq x y || (free_in x a || (not (nat_eq x h || nat_eq x t) && free_in x b))
free_in x (n.CaseTree k y a h l r b) = nat_eq x y || (free_in x a || (not (nat_eq x h || (nat_eq x l || nat_eq x r)) && free_in x b))
free_in x (n.CaseOption k y a w b) = nat_eq x y || (free_in x a || (not (nat_eq x w) && free_in x b))
free_in x (n.Tick k i a) = free_in x a
free_in x (n.Share k y p q a) = nat_eq x y || (not (nat_eq x p || nat_eq x q) && free_in x a)
free_in x (n.Drop k y a) = nat_eq x y || free_in x a

-- Lists by variables: slots, which have the copy of each variable of step one, and contexts, which have the type of each variable.

-- the first entry of a number
abbrev pub find : {B : Type 0} → ℕ → List (ℕ × B) → Option B
find x [] = None
find x (s ∷ G) = cond (nat_eq x s.0) (Some s.1) (find x G)

abbrev pub has : {B : Type 0} → ℕ → List (ℕ × B) → Bool
has x [] = false
has x (s ∷ G) = nat_eq x s.0 || has x G

-- entries in place of that of a variable; by default at the end
abbrev pub put : {B : Type 0} → ℕ → List (ℕ × B) → List (ℕ × B) → List (ℕ × B)
put x new [] = new
put x new (s ∷ G) = cond (nat_eq x s.0) (new ++ G) (s ∷ put x new G)

-- those that are free in the form, and those that are not
abbrev pub used : {B : Type 0} → n.Norm → List (ℕ × B) → List (ℕ × B)
used e [] = []
used e (s ∷ G) = cond (free_in s.0 e) (s ∷ used e G) (used e G)

abbrev pub unused : {B : Type 0} → n.Norm → List (ℕ × B) → List (ℕ × B)
unused e [] = []
unused e (s ∷ G) = cond (free_in s.0 e) (unused e G) (s ∷ unused e G)

-- The free variables of forms and of their parts, as lists.
use Rattle.std.specs.Prelude.{◌≡◌, ℕ, List, not, filter, ◌||◌, ◌&&◌}
use Rattle.std.specs.Coded.{×_prop, Unit-prop, Π_prop}
use mathlib.Core.Bool.{Bool-set}
use Rattle.normal_spec.specs.Norm as n
use Rattle.normal_spec.specs.Free.{among, free_in}

-- the free variables of a form, and those of its parts
pub data Frees : Type 0 where
  Leaf : List ℕ → Frees
  One : List ℕ → Frees → Frees
  Two : List ℕ → Frees → Frees → Frees

abbrev pub own : Frees → List ℕ
own (Leaf xs) = xs
own (One xs a) = xs
own (Two xs a b) = xs

abbrev pub first : Frees → Frees
first (Leaf xs) = Leaf xs
first (One xs a) = a
first (Two xs a b) = a

abbrev pub second : Frees → Frees
second (Leaf xs) = Leaf xs
second (One xs a) = One xs a
second (Two xs a b) = b

-- those that are not bound
abbrev pub others : List ℕ → List ℕ → List ℕ
others bound = filter (λ x. not (among x bound))

-- these are operands, those of a first part, and those of a second one that are not bound
abbrev pub AreGathered : List ℕ → List ℕ → List ℕ → List ℕ → List ℕ → Type 0
AreGathered xs operands us bound vs = (x : ℕ) → among x xs ≡ (among x operands || (among x us || (not (among x bound) && among x vs)))

-- these are the variables that are free in the form
abbrev pub AreFree : List ℕ → n.Norm → Type 0
AreFree xs e = (x : ℕ) → among x xs ≡ free_in x e

-- the lists are those of the form's parts
abbrev pub ShowsParts : Frees → n.Norm → Type 0
ShowsParts t (n.Let k x A a b) =
    (AreFree (own (first t)) a × ShowsParts (first t) a) × (AreFree (own (second t)) b × ShowsParts (second t) b)
ShowsParts t (n.Split k x p q a) = AreFree (own (first t)) a × ShowsParts (first t) a
ShowsParts t (n.If k x a b) = (AreFree (own (first t)) a × ShowsParts (first t) a) × (AreFree (own (second t)) b × ShowsParts (second t) b)
ShowsParts t (n.CaseList k x a h l b) =
    (AreFree (own (first t)) a × ShowsParts (first t) a) × (AreFree (own (second t)) b × ShowsParts (second t) b)
ShowsParts t (n.CaseTree k x a h l r b) =
    (AreFree (own (first t)) a × ShowsParts (first t) a) × (AreFree (own (second t)) b × ShowsParts (second t) b)
ShowsParts t (n.CaseOption k x a w b) =
    (AreFree (own (first t)) a × ShowsParts (first t) a) × (AreFree (own (second t)) b × ShowsParts (second t) b)
ShowsParts t (n.Tick k i a) = AreFree (own (first t)) a × ShowsParts (first t) a
ShowsParts t (n.Share k x p q a) = AreFree (own (first t)) a × ShowsParts (first t) a
ShowsParts t (n.Drop k x a) = AreFree (own (first t)) a × ShowsParts (first t) a
ShowsParts t _ = Unit {0}

-- the lists are those of the form and of its parts
abbrev pub Shows : Frees → n.Norm → Type 0
Shows t e = AreFree (own t) e × ShowsParts t e

-- those of a form without parts, with one part and with two, by what it uses itself and what it binds
abbrev pub ShowsLeaf : Frees → List ℕ → Type 0
ShowsLeaf t operands = (x : ℕ) → among x (own t) ≡ among x operands

pub record ShowsOne (t : Frees) (operands bound : List ℕ) (a : n.Norm) : Type 0 where
  pub form : (x : ℕ) → among x (own t) ≡ (among x operands || (not (among x bound) && free_in x a))
  pub part : Shows (first t) a

pub record ShowsTwo (t : Frees) (operands : List ℕ) (a : n.Norm) (bound : List ℕ) (b : n.Norm) : Type 0 where
  pub form : (x : ℕ) → among x (own t) ≡ (among x operands || (free_in x a || (not (among x bound) && free_in x b)))
  pub first_part : Shows (first t) a
  pub second_part : Shows (second t) b

-- there is one proof that they are those of the form
pub AreFree-prop : (xs : List ℕ) (e : n.Norm) → IsProp (AreFree xs e)
AreFree-prop xs e = Π_prop (λ x. Bool-set _ _)

pub ShowsParts-prop : (t : Frees) (e : n.Norm) → IsProp (ShowsParts t e)
ShowsParts-prop t (n.Let k x A a b) =
    ×_prop (×_prop (AreFree-prop _ a) (ShowsParts-prop (first t) a)) (×_prop (AreFree-prop _ b) (ShowsParts-prop (second t) b))
ShowsParts-prop t (n.Split k x p q a) = ×_prop (AreFree-prop _ a) (ShowsParts-prop (first t) a)
ShowsParts-prop t (n.If k x a b) =
    ×_prop (×_prop (AreFree-prop _ a) (ShowsParts-prop (first t) a)) (×_prop (AreFree-prop _ b) (ShowsParts-prop (second t) b))
ShowsParts-prop t (n.CaseList k x a h l b) =
    ×_prop (×_prop (AreFree-prop _ a) (ShowsParts-prop (first t) a)) (×_prop (AreFree-prop _ b) (ShowsParts-prop (second t) b))
ShowsParts-prop t (n.CaseTree k x a h l r b) =
    ×_prop (×_prop (AreFree-prop _ a) (ShowsParts-prop (first t) a)) (×_prop (AreFree-prop _ b) (ShowsParts-prop (second t) b))
ShowsParts-prop t (n.CaseOption k x a w b) =
    ×_prop (×_prop (AreFree-prop _ a) (ShowsParts-prop (first t) a)) (×_prop (AreFree-prop _ b) (ShowsParts-prop (second t) b))
ShowsParts-prop t (n.Tick k i a) = ×_prop (AreFree-prop _ a) (ShowsParts-prop (first t) a)
ShowsParts-prop t (n.Share k x p q a) = ×_prop (AreFree-prop _ a) (ShowsParts-prop (first t) a)
ShowsParts-prop t (n.Drop k x a) = ×_prop (AreFree-prop _ a) (ShowsParts-prop (first t) a)
ShowsParts-prop t _ = Unit-prop

pub Shows-prop : (t : Frees) (e : n.Norm) → IsProp (Shows t e)
Shows-prop t e = ×_prop (AreFree-prop _ e) (ShowsParts-prop t e)

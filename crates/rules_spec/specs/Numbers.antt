-- Kinds of number, over which plans are walked.
use Rattle.std.specs.Prelude.{◌≡◌, ℕ, List, Option}
use Rattle.cost_free.specs.declared.task.Meter.{Meter}

-- Sums, natural multiples, a number as an entry, and an entry from which a price is taken. No law is asked for.
pub record Numbers (E : Type 0) : Type 0 where
  pub none : E
  pub plus : E → E → E
  pub times : ℕ → E → E
  pub number : ℕ → E
  pub less : ℕ → E → E

-- the entries of a signature
pub record Sides (E : Type 0) : Type 0 where
  pub args : List E
  pub result : List E

-- the numbers of a signature of an earlier block, at its budget
pub record Signature : Type 0 where
  pub budget : ℕ
  pub args : List ℕ
  pub result : List ℕ

-- What a walk knows beside its plan: the scale of the prices, the present block's budget, the signatures of its group
-- in order, those of the earlier cost-free blocks, by the block and the function, and those with cost, by the meter and
-- the function.
pub record Known (E : Type 0) : Type 0 where
  pub scale : ℕ
  pub budget : ℕ
  pub group : List (Sides E)
  pub free : ℕ → ℕ → Signature
  pub cost : Meter → ℕ → Option Signature

-- What the rules leave open: of a Let a result for each tuple, of a Share the annotation of the context with both
-- copies, and of a call how often the signatures of earlier blocks are taken.
pub data Hint (E : Type 0) : Type 0 where
  Results : List (List E) → Hint E
  Copies : List E → Hint E
  Multiples : List (ℕ × E) → Hint E

-- The entry on the left is to be at least the one on the right. The path leads to the form, and the index is the condition's number there.
pub record Condition (E : Type 0) : Type 0 where
  pub path : List ℕ
  pub index : ℕ
  pub left : E
  pub right : E

-- the conditions that a walk finds, and the hints that it leaves
pub record Walked (E : Type 0) : Type 0 where
  pub found : List (Condition E)
  pub left : List (Hint E)

-- one kind of number is carried to another
pub record Carries {E F : Type 0} (A : Numbers E) (B : Numbers F) (f : E → F) : Type 0 where
  pub none : f A.none ≡ B.none
  pub plus : (x y : E) → f (A.plus x y) ≡ B.plus (f x) (f y)
  pub times : (n : ℕ) (x : E) → f (A.times n x) ≡ B.times n (f x)
  pub number : (n : ℕ) → f (A.number n) ≡ B.number n
  pub less : (n : ℕ) (x : E) → f (A.less n x) ≡ B.less n (f x)

-- Faults as plain data.
use Rattle.std.specs.Prelude.{ℕ}
use Rattle.raml_syntax.specs.Tree.{Type'}

-- what a type is, or is to be
pub data Kind : Type 0 where
  Is : Type' → Kind
  SomeList : Kind
  SomeTree : Kind
  SomeOption : Kind
  SomePair : Kind

-- a fault; its place stands first
pub data Fault : Type 0 where
  Unknown : ℕ → Fault
  Twice : ℕ → Fault
  -- what is wanted, and what is there
  Wanted : ℕ → Kind → Kind → Fault
  NeedsType : ℕ → Fault
  -- the number of the parameters, and that of the arguments
  Arity : ℕ → ℕ → ℕ → Fault

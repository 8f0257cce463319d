-- A walk through what a function reaches by calls.
use Rattle.std.specs.Prelude.{◌≡◌, ◌⊎◌, ◌<◌, ◌+◌, ℕ, zero, suc, List, [], ◌∷◌, ◌++◌, length, true, false, cond}
use Rattle.raml_syntax.specs.Tree.{Prog}
use Rattle.call_groups.specs.Calls.{calls}
use Rattle.call_groups.specs.Groups.{Reaches}
use Rattle.explain_rounds.specs.Calls.{is_in}

-- the function was there, or is added behind the others
abbrev pub MayAddOne : ℕ → List ℕ → List ℕ → Type 0
MayAddOne f old new = ((is_in f old ≡ true) × (new ≡ old)) ⊎ ((is_in f old ≡ false) × (new ≡ old ++ f ∷ []))

-- how many of the first functions are not among these
abbrev pub missing : ℕ → List ℕ → ℕ
missing zero found = 0
missing (suc n) found = cond (is_in n found) 0 1 + missing n found

-- Those of some functions that were not there are added behind the others.
pub record AddsAll (funs old new : List ℕ) : Type 0 where
  pub more : List ℕ
  pub behind : new ≡ old ++ more
  pub of_them : (f : ℕ) → is_in f more ≡ true → is_in f funs ≡ true
  pub all : (f : ℕ) → is_in f funs ≡ true → is_in f new ≡ true
  pub fewer : (n : ℕ) → ((f : ℕ) → is_in f funs ≡ true → f < n) → missing n new + length new ≡ missing n old + length old

-- So far these functions are found, all of which the first one reaches, and all that some of them call.
pub record Walked (P : Prog) (f : ℕ) (first found : List ℕ) : Type 0 where
  pub begun : is_in f found ≡ true
  pub reached : (g : ℕ) → is_in g found ≡ true → Reaches P f g
  pub called : (g h : ℕ) → is_in g first ≡ true → calls P g h ≡ true → is_in h found ≡ true

-- A grammar as data, over any tokens T, values V and classes C of phrases.
use Rattle.std.specs.Prelude.{ℕ, List, [], ◌∷◌, Option, Bool}

-- A right side: what is still to come. Values are collected in a list, the last one first.
pub data Rule (T V C : Type 0) : Type 0 where
  -- nothing; the value of what was collected
  Done : (List V → V) → Rule T V C
  -- a token that the test takes, with the values that it adds, and then the rule
  Take : (T → Option (List V)) → Rule T V C → Rule T V C
  -- a phrase of a class and a level, and then the rule
  Sub : C → ℕ → Rule T V C → Rule T V C
  -- a token that the test takes and then the first rule, or else the second rule
  Either : (T → Option (List V)) → Rule T V C → Rule T V C → Rule T V C
  -- an item by the first rule, at most so many more, each behind a token that the test takes, and then the second rule
  Many : ℕ → (T → Option (List V)) → Rule T V C → Rule T V C → Rule T V C

-- Each class of phrases has levels from 0 on; a phrase of a level is one of the next level too.
pub record Grammar (T V C : Type 0) : Type 0 where
  -- a whole text
  pub text : Rule T V C
  -- the value of the token that a phrase begins with
  pub mark : T → V
  -- the form that begins with a token: its level, and what comes behind
  pub starts : C → T → Option (ℕ × Rule T V C)
  -- the form that has a phrase and then this token: its level, less 1, and what comes behind
  pub goes : C → T → Option (ℕ × Rule T V C)
  -- whether that phrase may be of the form's own level, so that such forms chain to the left; else it is of the level below
  pub chains : C → ℕ → Bool

-- the value of the first token
abbrev pub opening : {T V C : Type 0} → Grammar T V C → List T → List V
opening g [] = []
opening g (t ∷ s) = g.mark t ∷ []

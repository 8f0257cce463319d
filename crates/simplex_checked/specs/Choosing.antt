-- Rules of the entering column that are functions.
use Rattle.std.specs.Prelude.{◌≡◌, ℕ, ℤ, pos, ◌<ℤ◌, List, Option}
use Rattle.std.specs.Fn.{Shared}
use Rattle.std.specs.Borrow.{Bor}
use Rattle.frac128.specs.declared.Frac.{Frac}
use Rattle.simplex.specs.Solving.{rule_of}

-- the rule that a chooser keeps answers, for gains over a positive number, by this function of them
abbrev pub AnswersBy : {F : Type 0} → Shared F (Bor (List Frac) × Unit {0}) (Option ℕ) → F → (List ℤ → ℤ → Option ℕ) → Type 0
AnswersBy g rule pick = (ns : List ℤ) (d : ℤ) (o : Option ℕ) → pos 0 <ℤ d → rule_of g rule ns d o → pick ns d ≡ o

-- it answers by some function
pub record AnswersByOne {F : Type 0} (g : Shared F (Bor (List Frac) × Unit {0}) (Option ℕ)) (rule : F) : Type 0 where
  pub pick : List ℤ → ℤ → Option ℕ
  pub answers : AnswersBy g rule pick

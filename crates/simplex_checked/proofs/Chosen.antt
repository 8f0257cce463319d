-- From what a closure ensures to the function of the gains by which a chooser that keeps it answers.
use Rattle.std.proofs.Common.{ℕ, ℤ, List, Option, subst}
use Rattle.std.specs.Prelude.{Result, Ok, Err, IfOk, IfErr}
use Rattle.std.specs.Fn.{Shared}
use Rattle.std.specs.Borrow.{Bor}
use Rattle.linear_rows.specs.Systems.{LinearSystem}
use Rattle.frac128.specs.declared.Frac.{Frac}
use Rattle.simplex_spec.specs.Courses.{rule_by}
use Rattle.simplex_checked.specs.declared.answer.Answer.{Answer}
use Rattle.simplex_checked.specs.declared.fault.AnswerFault.{AnswerFault}
use Rattle.simplex_checked.specs.Choosing.{AnswersBy}
use Rattle.simplex_checked.specs.Rules.{Picks}
use Rattle.simplex_checked.specs.Answers.{IsAnswer, Stops}

module _ {F : Type 0} (g : Shared F (Bor (List Frac) × Unit {0}) (Option ℕ)) (rule : F) (pick : List ℤ → ℤ → Option ℕ) where
  -- a closure that picks by the function at each list of gains
  pub answers_by : ((gains : Bor (List Frac)) (o : Option ℕ) → g.post rule (gains, tt) o → Picks pick gains.now o) → AnswersBy g rule pick
  answers_by h ns d o positive r = let picks = subst (λ gains. Picks pick gains o) r.2.shows (h r.2.shown o r.2.says.met) in picks.is ns d positive r.1

  module _ (s : LinearSystem) (chosen : AnswersBy g rule pick) where
    pub answer_by : (r : Result Answer AnswerFault) → IfOk r (λ answer. (other : List ℤ → ℤ → Option ℕ) → AnswersBy g rule other → IsAnswer (rule_by other) s answer) →
        IfOk r (IsAnswer (rule_by pick) s)
    answer_by (Ok answer) h = h pick chosen
    answer_by (Err fault) h = tt

    pub fault_by : (r : Result Answer AnswerFault) → IfErr r (λ fault. (other : List ℤ → ℤ → Option ℕ) → AnswersBy g rule other → Stops (rule_by other) s fault) →
        IfErr r (Stops (rule_by pick) s)
    fault_by (Ok answer) h = tt
    fault_by (Err fault) h = h pick chosen

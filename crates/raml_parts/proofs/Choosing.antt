-- From every function by which a chooser answers to the one that it was made of.
use Rattle.std.proofs.Common.{ℕ, ℤ, List, Option, Result, Ok, Err}
use Rattle.std.specs.Prelude.{IfOk, IfErr}

abbrev Picks : Type 0
Picks = List ℤ → ℤ → Option ℕ

pub course_by : {T E : Type 0} (r : Result T E) (pick : Picks) (Answers : Picks → Type 0) (Q : Picks → T → Type 0) → Answers pick →
    IfOk r (λ t. (other : Picks) → Answers other → Q other t) → IfOk r (Q pick)
course_by (Ok t) pick Answers Q answers h = h pick answers
course_by (Err e) pick Answers Q answers h = tt

pub fault_by : {T E : Type 0} (r : Result T E) (pick : Picks) (Answers : Picks → Type 0) (Q : Picks → E → Type 0) → Answers pick →
    IfErr r (λ e. (other : Picks) → Answers other → Q other e) → IfErr r (Q pick)
fault_by (Ok t) pick Answers Q answers h = tt
fault_by (Err e) pick Answers Q answers h = h pick answers

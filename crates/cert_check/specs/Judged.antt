-- The first fault of conditions that are heard in turn.
use Rattle.std.specs.Prelude.{◌≡◌, ℕ, List, [], ◌∷◌, ◌++◌, Option, None, Some}
use Rattle.std.specs.Option.{option_map}
use Rattle.std.proofs.Common.{refl, ap, ◌∙◌}
use Rattle.rules_spec.specs.Numbers.{Condition}
use Rattle.rules_spec.specs.Kinds.{Amount}
use Rattle.rules_spec.specs.Faults.{Fault, Leaves, Fails, fault_at, or_fault, first_fault}
use Rattle.cert_check.specs.declared.judge.Trouble.{Trouble}
use Rattle.cert_check.specs.declared.judge.Trouble.TheVariants as t
use Rattle.cert_check.specs.declared.judge.Found.{Found}
use Rattle.cert_check.specs.declared.judge.FaultJudge.{FaultJudge}

-- trouble with the condition of this path and index
abbrev pub located : List ℕ → ℕ → Trouble → Fault
located path index t.Leaves = Leaves path index
located path index t.Fails = Fails path index

abbrev pub found_of : Found → Fault
found_of f = located f.path.items f.index f.trouble

abbrev pub verdict_of : FaultJudge → Option Fault
verdict_of judge = option_map found_of judge.found

-- the verdict after more conditions
abbrev pub after : Option Fault → List (Condition Amount) → Option Fault
after v cs = or_fault v (first_fault cs)

pub silent : (v : Option Fault) → after v [] ≡ v
silent None = refl
silent (Some fault) = refl

or_in_turn : (u v w : Option Fault) → or_fault (or_fault u v) w ≡ or_fault u (or_fault v w)
or_in_turn None v w = refl
or_in_turn (Some fault) v w = refl

first_of_both : (cs ds : List (Condition Amount)) → or_fault (first_fault cs) (first_fault ds) ≡ first_fault (cs ++ ds)
first_of_both [] ds = refl
first_of_both (c ∷ cs) ds = or_in_turn (fault_at c) (first_fault cs) (first_fault ds) ∙ ap (or_fault (fault_at c)) (first_of_both cs ds)

pub in_turn : (v : Option Fault) (cs ds : List (Condition Amount)) → after (after v cs) ds ≡ after v (cs ++ ds)
in_turn v cs ds = or_in_turn v (first_fault cs) (first_fault ds) ∙ ap (or_fault v) (first_of_both cs ds)

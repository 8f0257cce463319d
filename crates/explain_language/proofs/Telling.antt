-- What is found of a program within a budget can be told.
use Rattle.std.proofs.Common.{◌≡◌, ◌-◌, ℕ, Option, Some, None, length}
use Rattle.raml_syntax.specs.Tree.{Prog}
use Rattle.annot_types.specs.Program.{Program}
use Rattle.explain_degrees.specs.Degrees.{AreFindings}
use Rattle.explain_degrees.specs.Within.{IsUpTo}
use Rattle.explain_degrees.specs.declared.least.LeastBounds.{LeastBounds}
use Rattle.explain_degrees.specs.declared.least.LeastWithin.{LeastWithin}
use Rattle.explain_bounds.specs.Written.{FindingsCanBeTold}
use Rattle.explain_trials.specs.Trials.{FindsWithin}
use Rattle.explain_insight.specs.Read.{CanAllBeTold}

-- of each function, by analyses up to some degree
pub record AreOfAll (P : Prog) (N : Program) (found : LeastBounds) : Type 0 where
  pub degree : ℕ
  pub count : length found.functions.items ≡ length P
  pub functions : AreFindings P N degree found.functions.items

of_all : (P : Prog) (N : Program) (most : ℕ) (budget : Option ℕ) (found : LeastBounds) (given_up : Option ℕ) → IsUpTo P N most budget found given_up →
    AreOfAll P N found
of_all P N most budget found None least = record { degree = most; count = least.count; functions = least.functions }
of_all P N most budget found (Some d) stops = record { degree = d - 1; count = stops.2.least.count; functions = stops.2.least.functions }

module _ (P : Prog) (most : ℕ) (budget : Option ℕ) (within : LeastWithin) (finds : FindsWithin P most budget within) where
  pub within_count : length within.found.functions.items ≡ length P
  within_count = (of_all P _ most budget within.found within.given_up finds.least).count

  pub within_told : FindingsCanBeTold → CanAllBeTold P within.found.functions.items
  within_told can f g x there of_it =
      let all = of_all P _ most budget within.found within.given_up finds.least in
      can P _ all.degree within.found.functions.items f g x all.functions there of_it

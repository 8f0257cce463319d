-- Texts that are tried: what analyses find of the program that one spells.
use Rattle.std.specs.Prelude.{ℕ, Option}
use Rattle.raml_syntax.specs.Tree.{Text, Prog}
use Rattle.call_groups.specs.Groups.{Grouping, IsGrouping}
use Rattle.rules_soundness_laws.specs.Laws.{normal_of}
use Rattle.explain_check.specs.Checks.{IsProgramOf}
use Rattle.explain_degrees.specs.Degrees.{AreLeast}
use Rattle.explain_degrees.specs.Within.{AreLeastWithin}
use Rattle.explain_degrees.specs.declared.least.LeastBounds.{LeastBounds}
use Rattle.explain_degrees.specs.declared.least.LeastWithin.{LeastWithin}

-- What the analyses of a program up to a degree find, as they are made for its normal form.
pub record FindsUpTo (P : Prog) (most : ℕ) (found : LeastBounds) : Type 0 where
  pub groups : Grouping
  pub grouping : IsGrouping P groups
  pub least : AreLeast P (normal_of P groups.list) most found

-- The same with no more pivots in the analysis of a degree than the budget, if there is one.
pub record FindsWithin (P : Prog) (most : ℕ) (budget : Option ℕ) (within : LeastWithin) : Type 0 where
  pub groups : Grouping
  pub grouping : IsGrouping P groups
  pub least : AreLeastWithin P (normal_of P groups.list) most budget within

-- The text spells this typed program, and this is what analyses up to a degree find of it.
pub record IsTrial (text : Text) (most : ℕ) (P : Prog) (found : LeastBounds) : Type 0 where
  pub spelled : IsProgramOf text P
  pub finds : FindsUpTo P most found

-- Laws of first faults.
use Rattle.std.specs.Prelude.{◌≡◌, ℕ, Some}
use Rattle.raml_syntax.specs.Tree.{Text}
use Rattle.explain_check.specs.Checks.{RefusedAt}
use Rattle.explain_faults.specs.declared.fault.SourceFault.{SourceFault}
use Rattle.explain_faults.specs.Faults.{IsFirst, place}

-- the place of the first fault is the byte that `raml` names, where it refuses the source
abbrev pub FirstIsRefused : Type 0
FirstIsRefused = (source : Text) (fault : SourceFault) (at : ℕ) → IsFirst source fault → place fault ≡ Some at → RefusedAt source at

-- Changed sources that are read.
use Rattle.std.proofs.Common.{◌≡◌, inr}
use Rattle.raml_syntax.specs.Tree.{Text}
use Rattle.explain_edits.specs.Edits.{Edit}
use Rattle.explain_faults.specs.declared.fault.SourceFault.{SourceFault}
use Rattle.explain_faults.specs.Faults.{IsFirst}
use Rattle.explain_faults.specs.Repairs.{changed, ComesLater, Mends}

-- a changed source whose first fault comes later
pub mended_later : (source text : Text) (fault next : SourceFault) (edit : Edit) → text ≡ changed source edit → IsFirst text next → ComesLater edit fault next →
    Mends source fault edit
mended_later source text fault next edit is first later = inr (next, rw is at first, later)

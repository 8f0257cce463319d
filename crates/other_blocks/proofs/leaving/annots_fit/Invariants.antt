use Rattle.std.proofs.Common.{◌≡◌, drop}
use Rattle.std.specs.List.{list_all}
use Rattle.other_blocks.specs.Leaving.{entries_fit}
use Rattle.other_blocks.proofs.leaving.annots_fit.Given as goal

abbrev pub invariant-loop-annot : goal.invariant-loop-annot
invariant-loop-annot l =
    list_all (entries_fit l.factor) (drop l.annot-index l.annots) ≡ list_all (entries_fit l.factor) l.annots

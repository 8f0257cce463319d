use Rattle.std.proofs.Common.{◌≡◌, drop, map}
use Rattle.std.specs.List.{list_all}
use Rattle.annot_types.specs.Read.{hint_of}
use Rattle.other_blocks.specs.Leaving.{hint_fits}
use Rattle.other_blocks.proofs.leaving.hints_fit.Given as goal

abbrev pub invariant-loop-hint : goal.invariant-loop-hint
invariant-loop-hint l =
    list_all (hint_fits l.factor) (map hint_of (drop l.hint-index l.hints)) ≡ list_all (hint_fits l.factor) (map hint_of l.hints)

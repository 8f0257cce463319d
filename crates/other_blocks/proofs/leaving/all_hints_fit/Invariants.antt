use Rattle.std.proofs.Common.{◌≡◌, drop, map}
use Rattle.std.specs.List.{list_all}
use Rattle.annot_types.specs.Read.{hints_of}
use Rattle.other_blocks.specs.Leaving.{hint_fits}
use Rattle.other_blocks.proofs.leaving.all_hints_fit.Given as goal

abbrev pub invariant-loop-hints : goal.invariant-loop-hints
invariant-loop-hints l =
    list_all (list_all (hint_fits l.factor)) (map hints_of (drop l.hints-index l.lists)) ≡ list_all (list_all (hint_fits l.factor)) (map hints_of l.lists)

use Rattle.std.proofs.Common.{map, drop}
use Rattle.std.specs.List.{All}
use Rattle.explain_reasons.specs.Asked.{source_in, program_in, found_in}
use Rattle.explain_reasons.specs.Reasons.{IsExplained, group_in}
use Rattle.explain_reasons.specs.Explanation.{is_lacking}
use Rattle.explain_reasons.proofs.Listing.{AreDone}
use Rattle.explain_reasons.proofs.program.each_explained.Given as goal

abbrev pub invariant-loop-group : goal.invariant-loop-group
invariant-loop-group g l =
    AreDone (is_lacking (found_in l.asked)) (map group_in l.reasons.items) (drop l.group-index l.group-items) l.group-items
    × All (IsExplained (source_in l.asked) (program_in l.asked) (found_in l.asked) l.asked.original.most) l.reasons.items

use Rattle.std.proofs.Common.{◌≡◌, ◌++◌, drop}
use Rattle.call_groups.specs.Read.{ids_of}
use Rattle.explain_lines.specs.Read.{lines_of}
use Rattle.explain_supply.specs.Supply.{group_lines}
use Rattle.explain_supply.proofs.supplying.group_lines.Given as goal

abbrev pub invariant-loop-fun : goal.invariant-loop-fun
invariant-loop-fun l = lines_of l.lines.items ++ group_lines (ids_of (drop l.fun-index l.group)) ≡ group_lines (ids_of l.group)

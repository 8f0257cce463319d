use Rattle.std.proofs.Common.{◌-◌, suc}
use Rattle.parse_table.proofs.types.+suffixes.Given as goal

abbrev pub decreases-parse_suffixes : goal.decreases-parse_suffixes
decreases-parse_suffixes l = suc l.depth - l.height

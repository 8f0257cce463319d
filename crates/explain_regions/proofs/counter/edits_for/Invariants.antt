use Rattle.std.proofs.Common.{◌≡◌, ◌++◌, drop}
use Rattle.parse_table.specs.Read.{pieces}
use Rattle.explain_edits.specs.Read.{edits_of}
use Rattle.explain_regions.specs.Counter as c
use Rattle.explain_regions.proofs.counter.edits_for.Given as goal

abbrev pub invariant-loop-place : goal.invariant-loop-place
invariant-loop-place l = edits_of l.edits.items ++ c.edits l.region.0 (pieces (drop l.place l.tokens)) ≡ c.edits l.region.0 (pieces l.tokens)

use Rattle.std.proofs.Common.{◌+◌}
use Rattle.std.proofs.lemmas.List.{take_rest}
use Rattle.lsp_frames.proofs.Places.{first_cut, only_line}
use Rattle.lsp_frames.proofs.head.first_line.Goals as goal

pub returns-in-Some-clause-first : goal.returns-in-Some-clause-first
returns-in-Some-clause-first c = first_cut c.args.bytes.now _ c.in-Some.end c.in-Some.ensures.place (take_rest c.args.bytes.now (c.in-Some.end + 2))

pub returns-in-None-clause-only : goal.returns-in-None-clause-only
returns-in-None-clause-only c = only_line c.args.bytes.now c.in-None.ensures.place

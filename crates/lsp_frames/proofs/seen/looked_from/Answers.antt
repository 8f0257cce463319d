use Rattle.std.proofs.Common.{◌+◌, arith}
use Rattle.lsp_frames.specs.Marks.{blank_line}
use Rattle.lsp_frames.proofs.Marks.{none_in_front}
use Rattle.lsp_frames.proofs.Heads.{none_in_window, head_found, knows_found}
use Rattle.lsp_frames.proofs.seen.looked_from.Goals as goal

pub find_from-requires : goal.find_from-requires
find_from-requires c = none_in_front blank_line c.args.bytes.now c.min.result c.args.place (omega arith) c.requires

pub open_or_long-requires : goal.open_or_long-requires
open_or_long-requires c = none_in_window c.args.bytes.now c.min.result c.min.ensures c.in-None.ensures.place

pub returns-in-Some-clause-head : goal.returns-in-Some-clause-head
returns-in-Some-clause-head c =
    head_found c.args.bytes.now c.min.result c.in-Some.end c.length_in.result c.told_at.result c.min.ensures c.in-Some.ensures.place c.length_in.ensures c.told_at.ensures

pub returns-in-Some-clause-knows : goal.returns-in-Some-clause-knows
returns-in-Some-clause-knows c =
    knows_found c.args.bytes.now (c.in-Some.end + 4) c.length_in.result c.told_at.result
    (head_found c.args.bytes.now c.min.result c.in-Some.end c.length_in.result c.told_at.result c.min.ensures c.in-Some.ensures.place c.length_in.ensures c.told_at.ensures)
    c.told_at.ensures

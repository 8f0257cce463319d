use Rattle.std.proofs.Common.{arith}
use Rattle.lsp_frames.proofs.Heads.{open_knows}
use Rattle.lsp_frames.proofs.seen.open_or_long.Goals as goal

pub returns-else-bytes-ge-MOST_HEADER-clause-knows : goal.returns-else-bytes-ge-MOST_HEADER-clause-knows
returns-else-bytes-ge-MOST_HEADER-clause-knows c = open_knows c.args.bytes.now c.saturating_sub.result c.requires (omega arith) c.saturating_sub.ensures

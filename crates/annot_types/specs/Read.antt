-- What the code's certificates are as plain data.
use Rattle.std.specs.Prelude.{List, map, Vec}
use Rattle.std.specs.Global.{Global}
use Rattle.cost_free.specs.Read.{task_of}
use Rattle.annot_types.specs.Certificate as c
use Rattle.annot_types.specs.declared.block.Sig.{Sig}
use Rattle.annot_types.specs.declared.block.Hint.{Hint}
use Rattle.annot_types.specs.declared.block.Hint.TheVariants.{Let, Share, Call}
use Rattle.annot_types.specs.declared.block.BlockBody.{BlockBody}
use Rattle.annot_types.specs.declared.block.BlockBody.TheVariants.{Solved, Refuted, Calls}
use Rattle.annot_types.specs.declared.block.Block.{Block}
use Rattle.annot_types.specs.declared.block.Certificate.{Certificate}

abbrev pub sig_of : Sig → c.Sig
sig_of s = record { args = s.args; result = s.result }

abbrev pub hint_of : Hint → c.Hint
hint_of (Let results) = c.Let results.items
hint_of (Share copies) = c.Share copies
hint_of (Call multiples) = c.Call multiples.items

abbrev pub hints_of : Vec Hint Global → List c.Hint
hints_of hints = map hint_of hints.items

abbrev pub body_of : BlockBody → c.Body
body_of (Solved sigs hints) = c.Solved (map sig_of sigs.items) (map hints_of hints.items)
body_of (Refuted farkas) = c.Refuted farkas.items
body_of (Calls fun) = c.Calls fun.0

abbrev pub block_of : Block → c.Block
block_of b = record { task = task_of b.task; body = body_of b.body }

abbrev pub blocks_of : List Block → List c.Block
blocks_of bs = map block_of bs

abbrev pub certificate_of : Certificate → c.Certificate
certificate_of certificate = record {
  degree = certificate.degree;
  ticks_scale = certificate.ticks_scale;
  cells_scale = certificate.cells_scale;
  work_scale = certificate.work_scale;
  blocks = blocks_of certificate.blocks.items;
}

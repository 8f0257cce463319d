-- The parts of the code's certificates.
use Rattle.std.specs.Prelude.{ℤ, List, map, Vec}
use Rattle.std.specs.Global.{Global}
use Rattle.std.specs.Borrow.{Bor}
use Rattle.serde_json.specs.Data.{Data}
use Rattle.serde_json.specs.View.{view}
use Rattle.serde_json.specs.declared.value.Value.{Value}
use Rattle.cost_free.specs.Read.{task_of}
use Rattle.annot_types.specs.declared.block.Sig.{Sig}
use Rattle.annot_types.specs.declared.block.Hint.{Hint}
use Rattle.annot_types.specs.declared.block.Hint.TheVariants.{Let, Share, Call}
use Rattle.annot_types.specs.declared.block.BlockBody.{BlockBody}
use Rattle.annot_types.specs.declared.block.BlockBody.TheVariants.{Solved, Refuted, Calls}
use Rattle.annot_types.specs.declared.block.Block.{Block}
use Rattle.annot_types.specs.declared.block.Certificate.{Certificate}
use Rattle.cert_json.specs.declared.head.Head.{Head}
use Rattle.cert_json.specs.Parts as p

abbrev pub sig_of : Sig → p.Sig ℤ
sig_of s = record { args = s.args; result = s.result }

abbrev pub hint_of : Hint → p.Hint ℤ
hint_of (Let annots) = p.Let annots.items
hint_of (Share annot) = p.Share annot
hint_of (Call uses) = p.Call uses.items

abbrev pub hints_of : Vec Hint Global → List (p.Hint ℤ)
hints_of hints = map hint_of hints.items

abbrev pub body_of : BlockBody → p.Body ℤ
body_of (Solved sigs hints) = p.Solved (map sig_of sigs.items) (map hints_of hints.items)
body_of (Refuted farkas) = p.Refuted farkas.items
body_of (Calls fun) = p.Calls fun.0

abbrev pub block_of : Block → p.Block ℤ
block_of b = record { task = task_of b.task; body = body_of b.body }

abbrev pub parts_of : Certificate → p.Certificate ℤ
parts_of c = record {
  head = record { degree = c.degree; ticks = c.ticks_scale; cells = c.cells_scale; work = c.work_scale };
  blocks = map block_of c.blocks.items;
}

abbrev pub head_of : Head → p.Head ℤ
head_of h = record { degree = h.degree; ticks = h.ticks; cells = h.cells; work = h.work }

-- a head with the values of its blocks
abbrev pub head_and_items : Head × Bor (List Value) → p.Head ℤ × List Data
head_and_items p = (head_of p.0, map view p.1.now)

-- What another block of a task is seen as.
use Rattle.std.specs.Prelude.{◌≡◌, ℕ, ◌*◌, unsigned_abs}
use Rattle.cost_free.specs.declared.task.Meter.{Meter}
use Rattle.cost_free.specs.Task as k
use Rattle.share_normal.specs.Program.{Kept}
use Rattle.annot_types.specs.Certificate.{Block, Certificate}
use Rattle.annot_types.specs.Held.{scale_of}
use Rattle.rules_plan.specs.Read.{program_in}
use Rattle.cert_check.specs.Laws.{IsFaultless}
use Rattle.other_blocks.specs.Laws.{IsOther}

-- the program, the degree, and the block, whose numbers stand over this scale
pub record Over : Type 0 where
  pub program : Kept
  pub degree : ℕ
  pub scale : ℕ
  pub block : Block

-- In the place of a block of its meter it holds with t, within the limits, over the blocks of a certificate without
-- fault, whose scale times t is the block's.
pub record IsOver (o : Over) : Type 0 where
  pub meter : Meter
  pub kind : o.block.task.kind ≡ k.With meter
  pub certificate : Certificate
  pub faultless : IsFaultless (program_in o.program) certificate
  pub degree : o.degree ≡ certificate.degree
  pub t : ℕ
  pub scale : o.scale ≡ unsigned_abs (scale_of certificate meter) * t
  pub other : IsOther (program_in o.program) certificate t o.block

-- Certificates of which one meter is multiplied.
use Rattle.std.specs.Prelude.{ℕ, ℤ, pos, ◌*ℤ◌, cond, Some}
use Rattle.cost_free.specs.declared.task.Meter.{Meter}
use Rattle.cost_free.specs.declared.task.Meter.TheVariants.{Ticks, Cells, Work}
use Rattle.cost_free.specs.Task.{Kind, Free, With, same_meter}
use Rattle.annot_types.specs.Certificate.{Certificate}
use Rattle.annot_types.specs.Holds.{blocks_before}
use Rattle.annot_types.specs.Held.{scale_of}

module _ (t : ℕ) (c : Certificate) where
  -- the scale of another meter where those of this one are multiplied
  abbrev pub raised_scale : Meter → Meter → ℤ
  raised_scale meter other = cond (same_meter meter other) (pos t *ℤ scale_of c other) (scale_of c other)

  -- For a block with cost, the blocks of its meter and its scale t times.
  abbrev pub raised_for : Kind → Certificate
  raised_for (Free budget fun target) = c
  raised_for (With meter) = record {
    degree = c.degree;
    ticks_scale = raised_scale meter Ticks;
    cells_scale = raised_scale meter Cells;
    work_scale = Some (raised_scale meter Work);
    blocks = blocks_before (With meter) t c.blocks;
  }

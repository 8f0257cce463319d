-- A run of the schedule so far.
use Rattle.std.specs.Prelude.{ℕ, ◌*◌, pos, Bool, cond, List, [], ◌∷◌, ◌++◌, map, Some, None}
use Rattle.cost_free.specs.declared.task.Meter.{Meter}
use Rattle.cost_free.specs.declared.task.Meter.TheVariants.{Ticks, Cells, Work}
use Rattle.cost_free.specs.Task as k
use Rattle.cost_free.specs.Task.{Kind, Free, Task, Outcome, same_meter}
use Rattle.annot_types.specs.Certificate.{Body, Block, Certificate, outcome}
use Rattle.annot_types.specs.Holds.{blocks_before}

-- the blocks so far, and the scale that each meter has now
pub record State : Type 0 where
  pub blocks : List Block
  pub scales : Meter → ℕ

abbrev pub start : State
start = record { blocks = []; scales = λ meter. 1 }

-- how the tasks so far came out
abbrev pub done : State → List Outcome
done st = map outcome st.blocks

-- the scale of a task of this kind; a cost-free one pays no prices, and its scale is read nowhere
abbrev pub scale_at : (Meter → ℕ) → Kind → ℕ
scale_at scales (Free budget fun target) = 1
scale_at scales (k.With meter) = scales meter

-- Where a task with cost has a solution over t, the blocks of its meter and the meter's scale are multiplied by t.
abbrev pub raised_scales : Kind → ℕ → (Meter → ℕ) → Meter → ℕ
raised_scales (Free budget fun target) t scales other = scales other
raised_scales (k.With meter) t scales other = cond (same_meter meter other) (t * scales other) (scales other)

abbrev pub raise : Kind → ℕ → State → State
raise kind t st = record { blocks = blocks_before kind t st.blocks; scales = raised_scales kind t st.scales }

-- the blocks, and one more
abbrev pub with_block : Task → Body → State → State
with_block task body st = record { blocks = st.blocks ++ record { task = task; body = body } ∷ []; scales = st.scales }

-- the certificate of degree d, with a scale of work where work is asked for
abbrev pub certificate_of : ℕ → Bool → State → Certificate
certificate_of d work st = record {
  degree = d;
  ticks_scale = pos (st.scales Ticks);
  cells_scale = pos (st.scales Cells);
  work_scale = cond work (Some (pos (st.scales Work))) None;
  blocks = st.blocks;
}

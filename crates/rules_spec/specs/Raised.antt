-- Systems whose blocks and scale are raised.
use Rattle.std.specs.Prelude.{◌≡◌, ◌<◌, ℕ, cond, ℤ, pos, ◌*ℤ◌, List, map}
use Rattle.cost_free.specs.declared.task.Meter.{Meter}
use Rattle.cost_free.specs.Task.{Task, Kind}
use Rattle.cost_free.specs.Blocked.{is_for_meter}
use Rattle.linear_rows.specs.Terms.{SparseRow}
use Rattle.linear_rows.specs.Systems.{LinearSystem, Refutes}
use Rattle.annot_types.specs.Program.{Program}
use Rattle.annot_types.specs.Certificate.{Block}
use Rattle.annot_types.specs.Holds.{raised}
use Rattle.annot_types.specs.Laws.{raised_scale}
use Rattle.annot_types.specs.System.{system}

-- each right side u times
abbrev pub times_right : ℕ → LinearSystem → LinearSystem
times_right u s = record {
  unknowns = s.unknowns;
  rows = map (λ (row : SparseRow). record { terms = row.terms; right = pos u *ℤ row.right }) s.rows;
  weights = s.weights;
}

-- how often the right sides are taken, where the blocks of a meter are raised
abbrev pub raised_by : Meter → ℕ → Kind → ℕ
raised_by meter u kind = cond (is_for_meter meter kind) u 1

-- Where the blocks of a meter and its scale are raised, a task's rows keep their coefficients, and their right sides are raised with them.
abbrev pub RowsAreRaised : Type 0
RowsAreRaised =
    (P : Program) (d : ℕ) (earlier : List Block) (task : Task) (scale : ℕ) (meter : Meter) (u : ℕ) →
    0 < u →
    system P d (map (raised meter u) earlier) task (raised_scale meter u task.kind scale)
    ≡ times_right (raised_by meter u task.kind) (system P d earlier task scale)

-- So what refutes a task still does, and its limits are as before.
abbrev pub RefutedStayRefuted : Type 0
RefutedStayRefuted =
    (P : Program) (d : ℕ) (earlier : List Block) (task : Task) (scale : ℕ) (meter : Meter) (u : ℕ) (y : List ℤ) →
    0 < u →
    Refutes (system P d earlier task scale) y →
    Refutes (system P d (map (raised meter u) earlier) task (raised_scale meter u task.kind scale)) y

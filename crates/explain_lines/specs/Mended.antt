-- Lines that get a bound by a change.
use Rattle.std.specs.Prelude.{ℕ, ◌+◌, List, [], ◌∷◌, ◌++◌, Bool, true, cond, not, ◌&&◌, ◌||◌}
use Rattle.cost_free.specs.declared.task.Meter.{Meter}
use Rattle.cost_free.specs.declared.task.Meter.TheVariants.{Ticks, Cells, Work}
use Rattle.explain_degrees.specs.Degrees.{finding_of}
use Rattle.explain_degrees.specs.declared.finding.Findings.{Findings}
use Rattle.explain_lines.specs.Lines.{is_bounded, is_bounded_at}

pub record Line : Type 0 where
  pub fun : ℕ
  pub meter : Meter

-- the line, where a bound is found that was not found before
abbrev pub if_mended : ℕ → Findings → Findings → Meter → List Line
if_mended f old new meter =
    cond (not (is_bounded (finding_of old meter)) && is_bounded (finding_of new meter)) (record { fun = f; meter = meter } ∷ []) []

abbrev pub mended_at : ℕ → Findings → Findings → List Line
mended_at f old new = if_mended f old new Ticks ++ (if_mended f old new Cells ++ if_mended f old new Work)

-- those of the functions from a place on
abbrev pub mended_from : ℕ → List Findings → List Findings → List Line
mended_from f (old ∷ olds) (new ∷ news) = mended_at f old new ++ mended_from (f + 1) olds news
mended_from f _ _ = []

abbrev pub mended_lines : List Findings → List Findings → List Line
mended_lines = mended_from 0

-- a bound of each of the lines is found
abbrev pub has_bounds : List Findings → List Line → Bool
has_bounds all [] = true
has_bounds all (line ∷ lines) = is_bounded_at all line.fun line.meter && has_bounds all lines

-- of each meter a bound of the function is found, before or after
abbrev pub mends : List Findings → List Findings → ℕ → Meter → Bool
mends old new f meter = is_bounded_at old f meter || is_bounded_at new f meter

abbrev pub mends_function : List Findings → List Findings → ℕ → Bool
mends_function old new f = mends old new f Ticks && (mends old new f Cells && mends old new f Work)

abbrev pub mends_group : List Findings → List Findings → List ℕ → Bool
mends_group old new [] = true
mends_group old new (f ∷ group) = mends_function old new f && mends_group old new group

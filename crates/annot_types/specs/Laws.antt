-- What the rules and certificates keep.
use Rattle.std.specs.Prelude.{◌≡◌, ◌<◌, ℕ, ◌*◌, List, map, cond, slice_get, Some}
use Rattle.cost_free.specs.declared.task.Meter.{Meter}
use Rattle.cost_free.specs.Task.{Kind}
use Rattle.cost_free.specs.Blocked.{is_for_meter}
use Rattle.annot_types.specs.Program.{Program}
use Rattle.annot_types.specs.Certificate.{IsSolved, Block, Certificate}
use Rattle.annot_types.specs.Holds.{times_block, raised, Holds}
use Rattle.annot_types.specs.Held.{Held, HoldsInPlace}

-- A block that holds with t holds, with all its numbers multiplied, with every multiple of t.
abbrev pub MultiplesHold : Type 0
MultiplesHold =
    (P : Program) (d : ℕ) (earlier : List Block) (scale : ℕ) (block : Block) (t u : ℕ) →
    0 < u →
    Holds P d earlier scale block t →
    Holds P d earlier scale (times_block u block) (u * t)

-- the scale of a block, where that of the meter is raised
abbrev pub raised_scale : Meter → ℕ → Kind → ℕ → ℕ
raised_scale meter u kind scale = cond (is_for_meter meter kind) (u * scale) scale

-- Where all blocks of a meter and its scale are raised, what held before still holds.
abbrev pub RaisingKeeps : Type 0
RaisingKeeps =
    (P : Program) (d : ℕ) (earlier : List Block) (scale : ℕ) (block : Block) (t : ℕ) (meter : Meter) (u : ℕ) →
    0 < u →
    Holds P d earlier scale block t →
    Holds P d (map (raised meter u) earlier) (raised_scale meter u block.task.kind scale) (raised meter u block) t

-- Each solved block of a certificate that is held holds over the blocks before it.
abbrev pub SolvedBlocksHold : Type 0
SolvedBlocksHold =
    (P : Program) (c : Certificate) (place : ℕ) (block : Block) →
    Held P c →
    slice_get c.blocks place ≡ Some block →
    IsSolved block.body →
    HoldsInPlace P c place block

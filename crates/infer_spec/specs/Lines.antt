-- What the lines of a certificate tell beside bounds.
use Rattle.std.specs.Prelude.{◌≡◌, ℕ, true, slice_get, Some}
use Rattle.std.specs.List.{Contains}
use Rattle.cost_free.specs.declared.task.Meter.{Meter}
use Rattle.cost_free.specs.Task as k
use Rattle.cost_free.specs.Blocked.{is_among}
use Rattle.annot_types.specs.Program.{Program, members, blocker_of}
use Rattle.cost_free.specs.Schedule.{meters}
use Rattle.annot_types.specs.Certificate.{Block, Certificate, has_work}
use Rattle.annot_types.specs.Held.{before, done_before, scale_for, Claim, Bound, NoBound, CallsUnbounded, Line, lines, Held}
use Rattle.annot_types.specs.Least.{Refuted}
use Rattle.infer_spec.specs.Good.{AllRefuted}

-- the block at this place is that of the meter for the function's group
pub record IsBlockOf (P : Program) (c : Certificate) (f : ℕ) (meter : Meter) (place : ℕ) (block : Block) : Type 0 where
  pub there : slice_get c.blocks place ≡ Some block
  pub kind : block.task.kind ≡ k.With meter
  pub has : is_among f (members P block.task.group) ≡ true

-- No bound: the task of that block is refuted.
pub record IsUnbounded (P : Program) (c : Certificate) (f : ℕ) (meter : Meter) : Type 0 where
  pub place : ℕ
  pub block : Block
  pub is : IsBlockOf P c f meter place block
  pub refuted : Refuted P c.degree (before c place) block.task (scale_for c block.task.kind)

-- A call of a function that has no bound: the task of that block waits for it.
pub record WaitsFor (P : Program) (c : Certificate) (f : ℕ) (meter : Meter) (fun : ℕ) : Type 0 where
  pub place : ℕ
  pub block : Block
  pub is : IsBlockOf P c f meter place block
  pub waits : blocker_of P block.task (done_before c place) ≡ Some fun

abbrev pub Tells : Program → Certificate → ℕ → Meter → Claim → Type 0
Tells P c f meter (Bound den terms) = Unit {0}
Tells P c f meter NoBound = IsUnbounded P c f meter
Tells P c f meter (CallsUnbounded fun) = WaitsFor P c f meter fun

abbrev pub LinesTell : Type 0
LinesTell =
    (P : Program) (c : Certificate) → Held P c → AllRefuted P c → (l : Line) → Contains (lines P c) l → Tells P c l.fun l.meter l.claim

-- A certificate that is held has a block for each meter that it counts and each group, and so for each function of the group.
abbrev pub BlocksAreThere : Type 0
BlocksAreThere =
    (P : Program) (c : Certificate) → Held P c → (group f : ℕ) → is_among f (members P group) ≡ true →
    (i : ℕ) (meter : Meter) → slice_get (meters (has_work c)) i ≡ Some meter →
    (place : ℕ) × (block : Block) × IsBlockOf P c f meter place block × (block.task.group ≡ group)

-- Where a block stands.
use Rattle.std.specs.Prelude.{◌≡◌, ℕ, List, length, map, slice_get, Option, None, Ok, Err, Result}
use Rattle.cost_free.specs.Read.{task_of, kind_of}
use Rattle.annot_types.specs.Program.{Program, members}
use Rattle.annot_types.specs.Signature.{sig_among}
use Rattle.annot_types.specs.Holds.{Reaches, budget_of}
use Rattle.annot_types.specs.Held.{scale_for}
use Rattle.cost_free.specs.Task.{Task}
use Rattle.rules_spec.specs.Jobs.{body_of}
use Rattle.rules_spec.specs.Capped.{cap}
use Rattle.annot_types.specs.Certificate as c
use Rattle.rules_walk.specs.Remembers.{Knows}
use Rattle.rules_plan.specs.Read.{program_in}
use Rattle.rules_spec.specs.Tasks as t
use Rattle.cert_check.specs.Fault as f
use Rattle.cert_check.specs.Finds.{missing_in}
use Rattle.cert_check.specs.Read.{fault_of, OfFault}
use Rattle.cert_check.specs.declared.at.At.{At}
use Rattle.cert_check.specs.declared.fault.CertFault.{CertFault}

abbrev pub program_at : At → Program
program_at at = program_in at.program.now

-- It stands behind these blocks, in a certificate of this degree and these scales. Of a number that leaves 128 bits,
-- what is known is the greatest one of 128 bits.
pub record IsAt (at : At) (held : c.Certificate) (blocks : List c.Block) : Type 0 where
  pub count : length blocks ≡ at.number
  pub degree : at.degree ≡ held.degree
  pub scale : cap at.scale ≡ cap (scale_for held (kind_of at.task.kind))
  pub knows : Knows (program_at at) held.degree blocks at.earlier.now

-- Of an answer, this is claimed of what is found; where memory is wanting, nothing.
abbrev pub Tells : {A : Type 0} → Result A CertFault → (Option f.Fault → Type 0) → Type 0
Tells (Ok x) claim = claim None
Tells (Err fault) claim = OfFault (fault_of fault) claim

-- Of a block without cost: it reaches its target, or misses it first at this position.
module _ (at : At) (sigs : List c.Sig) (budget fun target : ℕ) where
  abbrev pub group_at : List ℕ
  group_at = members (program_at at) at.task.group

  abbrev pub ReachesAt : Type 0
  ReachesAt = (degree : ℕ) → at.degree ≡ degree → (hints : List (List c.Hint)) →
      Reaches (program_at at) degree budget fun target (record { task = task_of at.task; body = c.Solved sigs hints }) 1

  pub record MissesAt (index : ℕ) : Type 0 where
    pub not_reached : (degree : ℕ) → at.degree ≡ degree → (hints : List (List c.Hint)) →
        Reaches (program_at at) degree budget fun target (record { task = task_of at.task; body = c.Solved sigs hints }) 1 → ⊥
    pub first : index ≡ missing_in at.degree budget target (slice_get (program_at at).funs fun) (sig_among group_at sigs fun)

-- how many positions functions have
abbrev pub sizes_of : List t.Body → List (ℕ × ℕ)
sizes_of bs = map (λ (b : t.Body). (b.args, b.result)) bs

-- those of a task's group have so many
abbrev pub sizes_in : Program → ℕ → List c.Block → Task → List (ℕ × ℕ)
sizes_in P d blocks task =
    sizes_of (map (λ f. body_of P (members P task.group) blocks (budget_of d task.kind) (slice_get P.funs f)) (members P task.group))

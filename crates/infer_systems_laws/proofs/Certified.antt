-- The blocks of a held certificate before a place, as a course that has come there.
use Rattle.std.proofs.Common.{◌≡◌, refl, sym, subst, arith}
use Rattle.std.specs.Prelude.{ℕ, ◌<◌, ℤ, pos, ◌<ℤ◌, unsigned_abs, take, slice_get, None, Some}
use Rattle.std.proofs.lemmas.Int.{ints}
use Rattle.linear_rows.specs.Systems.{IsSystem}
use Rattle.cost_free.specs.declared.task.Meter.{Meter}
use Rattle.cost_free.specs.Task as k
use Rattle.cost_free.specs.Task.{Kind, Free}
use Rattle.annot_types.specs.Program.{Program, blocker_of}
use Rattle.annot_types.specs.Certificate as c
use Rattle.annot_types.specs.Certificate.{Body, Solved, Block, Certificate, has_work}
use Rattle.annot_types.specs.Holds.{Holds}
use Rattle.annot_types.specs.Held.{before, done_before, scale_of, scale_for, IfSolved, HoldsInPlace, Held}
use Rattle.annot_types.specs.System.{system}
use Rattle.rules_spec.specs.Systems.{IsTask}
use Rattle.infer_spec.specs.States.{State, scale_at}
use Rattle.infer_spec.specs.Good.{HoldsAt, AllHold}
use Rattle.infer_spec.specs.Generator.{Analysis, Stands}
use Rattle.infer_spec.proofs.Lists.{all_take}
use Rattle.infer_systems_laws.specs.Tried.{TriedAreTasks, TriedHaveSystems, TriedHaveTasks}
use Rattle.infer_systems_laws.specs.Analysed.{generator_of}

positive : (z : ℤ) → pos 0 <ℤ z → 0 < unsigned_abs z
positive z h = grind (arith, ints, h)

module _ (P : Program) (cert : Certificate) (held : Held P cert) where
  -- no rule of the entering column is asked here
  abbrev pub analysed : Analysis
  analysed = record { program = P; degree = cert.degree; work = has_work cert; generator = generator_of P cert.degree; pick = λ numbers number. None }

  abbrev pub scales : Meter → ℕ
  scales meter = unsigned_abs (scale_of cert meter)

  pub scale_is : (kind : Kind) → scale_for cert kind ≡ scale_at scales kind
  scale_is (Free budget f number) = refl
  scale_is (k.With meter) = refl

  abbrev pub state : ℕ → State
  state place = record { blocks = before cert place; scales = scales }

  hold : (place : ℕ) → AllHold P cert.degree (state place)
  hold place = all_take (λ earlier (block : Block). IfSolved block.body (HoldsAt P cert.degree scales earlier block)) cert.blocks place
      (λ i block there. by i block block.body (held.blocks i block there).holds) where
        by : (i : ℕ) (block : Block) (body : Body) → IfSolved body (HoldsInPlace P cert i block) → IfSolved body (HoldsAt P cert.degree scales (take i cert.blocks) block)
        by i block (Solved sigs hints) h =
            record { t = h.t; one = h.one; holds = subst (λ n. Holds P cert.degree (take i cert.blocks) n block h.t) (scale_is block.task.kind) h.holds }
        by i block (c.Refuted farkas) h = tt
        by i block (c.Calls fun) h = tt

  pub stands : (place : ℕ) (block : Block) → slice_get cert.blocks place ≡ Some block → blocker_of P block.task (done_before cert place) ≡ None → Stands analysed (state place) block.task
  stands place block there tried = record {
    positive = λ meter. positive (scale_of cert meter) (held.scales meter);
    hold = hold place;
    next = (held.blocks place block there).task;
    tried = tried;
  }

pub tried_have_tasks : TriedAreTasks → TriedHaveSystems → TriedHaveTasks
tried_have_tasks tasks systems P ordered cert held place block there tried =
    let now = stands P cert held place block there tried in (
      subst (IsTask P cert.degree (before cert place) block.task) (sym (scale_is P cert held block.task.kind)) (tasks (analysed P cert held) ordered (state P cert held place) block.task now),
      subst (λ n. IsSystem (system P cert.degree (before cert place) block.task n)) (sym (scale_is P cert held block.task.kind)) (systems (analysed P cert held) ordered (state P cert held place) block.task now),
    )

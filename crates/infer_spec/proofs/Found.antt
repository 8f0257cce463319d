-- What is read of a task's system, as a block.
use Rattle.std.proofs.Common.{◌≤◌, ◌<◌, ℕ, ◌*◌, ℤ, pos, ◌*ℤ◌, ◌≤ℤ◌, ◌<ℤ◌, List, map, subst, arith}
use Rattle.std.proofs.lemmas.Int.{ints}
use Rattle.linear_rows.specs.Systems.{LinearSystem, IsSystem, IsLeast, Refutes}
use Rattle.linear_rows.specs.Vectors.{dot}
use Rattle.linear_rows.proofs.Duality.{least, no_solution}
use Rattle.linear_rows.proofs.Proportions.{agree}
use Rattle.simplex_spec.specs.Tableaux.{solution, dual, ray}
use Rattle.simplex_spec.specs.Courses.{Rule}
use Rattle.simplex_spec.proofs.Ending.{good_course}
use Rattle.simplex_spec.proofs.Agreeing.{ends_least, rise_refutes}
use Rattle.cost_free.specs.Task.{Task}
use Rattle.annot_types.specs.Least.{Refuted, Least, weight, solving}
use Rattle.infer_spec.specs.States.{State, scale_at}
use Rattle.infer_spec.specs.Generator.{Analysis, Generates, Stands, system_at, block_at}
use Rattle.simplex_integers.specs.Reading.{ReadsSolution, ReadsVector}

pub positive_pos : (t : ℕ) → 0 < t → pos 0 <ℤ pos t
positive_pos t h = omega (arith, ints)

pub naturals : (u w t v : ℕ) → (pos u *ℤ pos w) ≤ℤ (pos t *ℤ pos v) → u * w ≤ t * v
naturals u w t v h = omega (arith, ints)

module _ (s : LinearSystem) (system : IsSystem s) (rule : Rule) where
  pub read_least : (t : ℕ) (x : List ℕ) → ReadsSolution rule s t x → IsLeast s (map pos x) (pos t)
  read_least t x h =
      let p = ends_least s h.pivots h.table system h.ends in
      agree.least s (solution s h.table) (map pos x) h.table.over (pos t) p.positive (positive_pos t h.whole.are.positive) h.whole.are.over
      (least s (solution s h.table) (dual s h.table) h.table.over p)

  pub read_refutes : (y : List ℕ) → ReadsVector rule s y → Refutes s (map pos y)
  read_refutes y h =
      let good = good_course s h.pivots h.table system h.rises.course in
      agree.refutes s (ray s h.column h.table) (map pos y) h.table.over (pos h.t) good.sound.positive (positive_pos h.t h.whole.are.positive) h.whole.are.over
      (rise_refutes s h.pivots h.table h.column system h.rises)

module _ (A : Analysis) (g : Generates A) (st : State) (task : Task) (stands : Stands A st task) where
  abbrev pub found_least : (t : ℕ) (x : List ℕ) → 0 < t → IsLeast (system_at A st task) (map pos x) (pos t) →
      Least A.program A.degree st.blocks (scale_at st.scales task.kind) (block_at A st task x)
  found_least t x positive h = record {
    t = t;
    holds = g.hold st task stands t x positive h.solves;
    least = λ u sigs hints k.
        let other = g.solve st task stands u sigs hints k in
        naturals u (weight A.program A.degree (block_at A st task x)) t (weight A.program A.degree (solving task sigs hints))
        (subst (λ v. (pos u *ℤ v) ≤ℤ (pos t *ℤ pos (weight A.program A.degree (solving task sigs hints)))) (g.weigh st task stands t x positive h.solves)
        (subst (λ v. (pos u *ℤ dot (system_at A st task).weights (map pos x)) ≤ℤ (pos t *ℤ v)) other.2
        (h.least (map pos other.0) (pos u) (positive_pos u k.positive) other.1)));
  }

  -- a task whose system is refuted is refuted
  pub found_none : (y : List ℤ) → Refutes (system_at A st task) y → Refuted A.program A.degree st.blocks task (scale_at st.scales task.kind)
  found_none y r u sigs hints k =
      let other = g.solve st task stands u sigs hints k in
      no_solution (system_at A st task) y (map pos other.0) (pos u) r (positive_pos u k.positive) other.1

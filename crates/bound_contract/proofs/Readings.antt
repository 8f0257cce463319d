-- What is read of a system with a declared bound.
use Rattle.std.proofs.Common.{arith}
use Rattle.std.specs.Prelude.{ℕ, ◌<◌, ℤ, pos, ◌<ℤ◌, List, map, Option}
use Rattle.std.proofs.lemmas.Int.{ints}
use Rattle.linear_rows.specs.Systems.{LinearSystem, IsSystem, Solves, Refutes}
use Rattle.linear_rows.proofs.Proportions.{agree}
use Rattle.simplex_spec.specs.Tableaux.{solution, ray}
use Rattle.simplex_spec.specs.Courses.{rule_by}
use Rattle.simplex_spec.proofs.Ending.{good_course}
use Rattle.simplex_spec.proofs.Agreeing.{ends_least, rise_refutes}
use Rattle.annot_types.specs.Held.{before, scale_for}
use Rattle.simplex_integers.specs.Reading.{ReadsSolution, ReadsVector}
use Rattle.infer_systems_laws.specs.Tried.{TriedHaveTasks}
use Rattle.bound_contract.specs.System.{declared_system}
use Rattle.bound_contract.specs.Laws.{ReadingsDecide}
use Rattle.bound_contract.proofs.Solutions.{solutions_keep, refuted_is_not_kept, declared_is_system}

positive_pos : (t : ℕ) → 0 < t → pos 0 <ℤ pos t
positive_pos t h = omega (arith, ints)

module _ (s : LinearSystem) (is : IsSystem s) (pick : List ℤ → ℤ → Option ℕ) where
  pub read_solves : (t : ℕ) (x : List ℕ) → ReadsSolution (rule_by pick) s t x → Solves s (map pos x) (pos t)
  read_solves t x h =
      let p = ends_least s h.pivots h.table is h.ends in
      agree.solves s (solution s h.table) (map pos x) h.table.over (pos t) p.positive (positive_pos t h.whole.are.positive) h.whole.are.over p.solves

  pub read_refutes : (y : List ℕ) → ReadsVector (rule_by pick) s y → Refutes s (map pos y)
  read_refutes y h =
      let good = good_course s h.pivots h.table is h.rises.course in
      agree.refutes s (ray s h.column h.table) (map pos y) h.table.over (pos h.t) good.sound.positive (positive_pos h.t h.whole.are.positive) h.whole.are.over
      (rise_refutes s h.pivots h.table h.column is h.rises)

pub readings_decide : TriedHaveTasks → ReadingsDecide
readings_decide tasks P ordered cert held place block there tried line of pick =
    let have = tasks P ordered cert held place block there tried in
    let scale = scale_for cert block.task.kind in
    let whole = declared_system P cert.degree (before cert place) block.task scale line in
    let is : IsSystem whole = declared_is_system P cert.degree (before cert place) block.task scale line have.0 of have.1 in
    record {
      kept = λ t x h. solutions_keep P cert.degree (before cert place) block.task scale line t x have.0 of h.whole.are.positive (read_solves whole is pick t x h);
      not_kept = λ y h. refuted_is_not_kept P cert.degree (before cert place) block.task scale line (map pos y) have.0 of (read_refutes whole is pick y h);
    }

-- The end of a course.
use Rattle.std.specs.Prelude.{◌↔◌, IsTrue}
use Rattle.std.proofs.Common.{◌≡◌, ℕ, ℤ, true, false, Bool, nat_lt, not, cond, List, length, slice_get, Option, Some, None, refl, sym, ◌∙◌, subst}
use Rattle.cost_free.specs.Task.{Task}
use Rattle.annot_types.specs.Program.{Program, blocker_of}
use Rattle.annot_types.specs.Certificate as c
use Rattle.annot_types.specs.Certificate.{Body, Solved, Block, Certificate}
use Rattle.annot_types.specs.Held.{Held, IfSolved, NamesBlocker, before, done_before, scale_for}
use Rattle.annot_types.specs.System.{system}
use Rattle.cert_check.specs.Fault.{Fault}
use Rattle.cert_check.specs.Finds.{AreWithin}
use Rattle.cert_check.specs.Laws.{IsSmall}
use Rattle.cert_check.specs.Read.{OfFault}
use Rattle.constraint_gen.specs.Cause.{IsWithin}
use Rattle.infer_spec.specs.Generator.{What, Indices, Unknowns, Rows, Generator, limit_of}
use Rattle.linear_rows.specs.Systems.{LinearSystem}
use Rattle.infer_spec.specs.Laws.{StaysWithin}
use Rattle.infer_systems_laws.specs.Analysed.{analysis_of}

pub found_there : (claim : Option Fault → Type 0) (o : Option Fault) (fault : Fault) → o ≡ Some fault → OfFault o claim → claim (Some fault)
found_there claim o fault e h = subst (λ o. OfFault o claim) e h

within_is : (G : Generator) (task : Task) (s : LinearSystem) → limit_of G task s ≡ None → G.within task ≡ true
within_is G task s e = by (G.within task) refl
  where
    by : (b : Bool) → G.within task ≡ b → G.within task ≡ true
    by true q = q
    by false q = absurd (let wrong = (λ i. limited (sym q i)) ∙ e in cc)
      where
        limited : Bool → Option What
        limited b = cond (not b) (Some Indices) (cond (nat_lt 2000 s.unknowns) (Some Unknowns) (cond (nat_lt 2000 (length s.rows)) (Some Rows) None))

-- a course that stays within its limits leaves a small certificate
pub small : (P : Program) (d : ℕ) (pick : List ℤ → ℤ → Option ℕ) (cert : Certificate) → Held P cert → StaysWithin (analysis_of P d pick) cert → cert.degree ≡ d →
    ((task : Task) → IsTrue ((analysis_of P d pick).generator.within task) ↔ IsWithin P d task) → IsSmall P cert
small P d pick cert held stays degree told = record {
  goes_on = stays.goes_on;
  within = λ place block there. by place block there block.body refl;
}
  where
    tried : (o : Option ℕ) (body : Body) (claim : Type 0) → NamesBlocker o body → (o ≡ None → claim) → (((fun : ℕ) × (body ≡ c.Calls fun)) → claim) → claim
    tried None body claim n f g = f refl
    tried (Some fun) body claim n f g = g (fun, n)

    by : (place : ℕ) (block : Block) → slice_get cert.blocks place ≡ Some block → (body : Body) → block.body ≡ body → IfSolved body (AreWithin P cert block.task)
    by place block there (c.Refuted farkas) e = tt
    by place block there (c.Calls fun) e = tt
    by place block there (Solved sigs hints) e =
        let placed = held.blocks place block there in
        tried (blocker_of P block.task (done_before cert place)) block.body (AreWithin P cert block.task) placed.waits
        (λ none. subst (λ n. IsWithin P n block.task) (sym degree) ((told block.task).0 (within_is (analysis_of P d pick).generator block.task (system P cert.degree (before cert place) block.task (scale_for cert block.task.kind)) (stays.limits place block there none))))
        (λ w. (let wrong = sym e ∙ w.1 in absurd (cc)))

-- One thing is decided of a declared bound.
use Rattle.std.proofs.Common.{◌≡◌, ap, sym, ◌∙◌, subst}
use Rattle.std.specs.Prelude.{◌↔◌, ℕ, ℤ, List, Option, None, Some}
use Rattle.share_normal.specs.Program as s
use Rattle.cost_free.specs.Task.{Task}
use Rattle.annot_types.specs.Program.{Program, blocker_of}
use Rattle.annot_types.specs.Certificate as a
use Rattle.annot_types.specs.Certificate.{Body, IsSolved, Block, Certificate}
use Rattle.annot_types.specs.Held.{before, done_before, scale_for, NamesBlocker}
use Rattle.rules_plan.specs.Read.{program_in}
use Rattle.other_blocks.specs.Over.{Over}
use Rattle.other_blocks.specs.Other.{IsTried}
use Rattle.bound_file.specs.Lines.{Line}
use Rattle.bound_contract.specs.Kept.{Keeps, NoneKeeps}
use Rattle.bound_contract.specs.Decided.{IsKept, IsNotKept, OneIsDecided, DecidedOnce, CallsExactly}

none_keeps : (P : Program) (d : ℕ) (earlier : List Block) (task : Task) (scale : ℕ) (line : Line) → NoneKeeps P d earlier task scale line →
    (body : Body) (t : ℕ) → IsSolved body → Keeps P d earlier scale line (record { task = task; body = body }) t → ⊥
none_keeps P d earlier task scale line none (a.Solved sigs hints) t solved h = none t sigs hints h
none_keeps P d earlier task scale line none (a.Refuted farkas) t solved h = solved
none_keeps P d earlier task scale line none (a.Calls f) t solved h = solved

waits : (body : Body) (f : ℕ) → IsTried body → body ≡ a.Calls f → ⊥
waits body f tried e = subst IsTried e tried

module _ (program : s.Kept) (c : Certificate) (line : Line) (place : ℕ) (own : Block) where
  not_both : (o : Over) (y : List ℤ) → IsKept program c line place own o → IsNotKept program c line place own y → ⊥
  not_both o y k n =
      none_keeps (program_in program) c.degree (before c place) own.task (scale_for c own.task.kind) line n.none o.block.body k.t k.keeps.holds.solved
      (subst (λ u. Keeps (program_in program) c.degree (before c place) (scale_for c own.task.kind) line (record { task = u; body = o.block.body }) k.t) k.task_is k.keeps)

  one : OneIsDecided program c line place own
  one = record {
    not_both = not_both;
    kept_tried = λ o f k e. waits own.body f k.tried e;
    not_kept_tried = λ y f n e. waits own.body f n.tried e;
  }

pub decided_once : DecidedOnce
decided_once program c line place own = one program c line place own

calls_are : (o : Option ℕ) (body : Body) → NamesBlocker o body → (f : ℕ) → (body ≡ a.Calls f) ↔ (o ≡ Some f)
calls_are (Some g) body h f = (λ e. ap Some (same g f (sym h ∙ e)), λ e. h ∙ ap a.Calls (of g f e)) where
  same : (x y : ℕ) → ◌≡◌ {A = Body} (a.Calls x) (a.Calls y) → x ≡ y
  same x y e = cc

  of : (x y : ℕ) → ◌≡◌ {A = Option ℕ} (Some x) (Some y) → x ≡ y
  of x y e = cc
calls_are None (a.Solved sigs hints) h f = (λ e. absurd (cc), λ e. absurd (cc))
calls_are None (a.Refuted farkas) h f = (λ e. absurd (cc), λ e. absurd (cc))
calls_are None (a.Calls g) h f = absurd h

pub calls_exactly : CallsExactly
calls_exactly P c held place own there f = calls_are (blocker_of P own.task (done_before c place)) own.body (held.blocks place own there).waits f

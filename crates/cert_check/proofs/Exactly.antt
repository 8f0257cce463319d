-- A certificate has no fault exactly where it is held and small, and no total leaves its range.
use Rattle.std.proofs.Common.{◌≡◌, refl, ap, sym, subst, inl}
use Rattle.std.specs.Prelude.{ℕ, zero, suc, List, [], ◌∷◌, length, take, slice_get, Option, None, Some}
use Rattle.std.proofs.lemmas.Option.{none-some}
use Rattle.cost_free.specs.Task.{Task}
use Rattle.annot_types.specs.Program.{Program}
use Rattle.annot_types.specs.Certificate.{Body, Solved, Refuted, Calls, Block, Certificate}
use Rattle.annot_types.specs.Held.{IfSolved, before}
use Rattle.cert_check.specs.Fault.{Fault}
use Rattle.cert_check.specs.Finds.{GoesOn, AreWithin, job, job_conditions, BodyFinds, BlockFinds, EndFinds, FirstFault}
use Rattle.cert_check.specs.Laws.{IsProper, NoneLeaves, IsFaultless, FaultlessExactly}
use Rattle.cert_check.specs.Read.{OfFault}
use Rattle.cert_check.proofs.OneFault.{one_first_fault}
use Rattle.cert_check.proofs.Faultless.{passed, goes_on, none_at, blocks_pass, no_fault_is_held}
use Rattle.cert_check.proofs.Alone.{totals_fit, head_fits, blocks_find_none}

-- behind the last block all are before
all_before : (bs : List Block) (place : ℕ) → slice_get bs place ≡ None → take place bs ≡ bs
all_before [] zero e = refl
all_before [] (suc place) e = refl
all_before (b ∷ bs) zero e = absurd (none-some b (sym e))
all_before (b ∷ bs) (suc place) e = ap (◌∷◌ b) (all_before bs place e)

module _ (P : Program) (c : Certificate) where
  body_passed : (earlier : List Block) (task : Task) (body : Body) → BodyFinds P c earlier task body None →
      IfSolved body (AreWithin P c task) × NoneLeaves P c earlier task body
  body_passed earlier task (Solved sigs hints) x =
      let within = passed _ _ _ x in
      let shape = passed _ _ _ within.1 in
      let reach = passed _ _ _ shape.1 in
      (within.0, totals_fit (job_conditions (job P c earlier task) sigs hints) (none_at P c (length earlier) _ reach.1))
  body_passed earlier task (Refuted farkas) x = (tt, tt)
  body_passed earlier task (Calls fun) x = (tt, tt)

  block_passed : (earlier : List Block) (b : Block) → BlockFinds P c earlier b None →
      GoesOn P c earlier × IfSolved b.body (AreWithin P c b.task) × NoneLeaves P c earlier b.task b.body
  block_passed earlier b x =
      let on = goes_on P c earlier _ x in
      let body = body_passed earlier b.task b.body (passed _ _ _ on.1).1 in
      (on.0, body.0, body.1)

  module _ (x : FirstFault P c None) where
    abbrev all_pass : ((place : ℕ) (b : Block) → slice_get c.blocks place ≡ Some b → BlockFinds P c (before c place) b None) × EndFinds P c c.blocks None
    all_pass = blocks_pass P c [] c.blocks (passed _ _ _ x).1

    on : (place : ℕ) (o : Option Block) → slice_get c.blocks place ≡ o → GoesOn P c (before c place)
    on place None e = subst (GoesOn P c) (sym (all_before c.blocks place e)) (goes_on P c c.blocks _ all_pass.1).0
    on place (Some b) e = (block_passed (before c place) b (all_pass.0 place b e)).0

    pub is_faultless : IsProper P → IsFaultless P c
    is_faultless proper = record {
      held = no_fault_is_held P proper c x;
      small = record {
        goes_on = λ place. on place (slice_get c.blocks place) refl;
        within = λ place b e. (block_passed (before c place) b (all_pass.0 place b e)).1;
      };
      totals = λ place b e. (block_passed (before c place) b (all_pass.0 place b e)).2;
    }

pub faultless_exactly : FaultlessExactly
faultless_exactly P proper c = (
  λ x. is_faultless P c x proper,
  λ h. inl (head_fits P proper c h.held h.small, blocks_find_none P proper c h.held h.small h.totals [] c.blocks refl),
)

-- so one that has a fault is not so
pub fault_refuses : (P : Program) → IsProper P → (c : Certificate) (o : Option Fault) → OfFault o (FirstFault P c) → OfFault o (λ _. IsFaultless P c → ⊥)
fault_refuses P proper c None h = tt
fault_refuses P proper c (Some fault) h = λ faultless. none-some fault (one_first_fault P c None (Some fault) ((faultless_exactly P proper c).1 faultless) h)

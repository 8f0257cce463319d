-- Another block has no fault exactly where it holds with its factor and nothing of it leaves its range.
use Rattle.std.proofs.Common.{◌≡◌, refl, ap, sym, ◌∙◌, subst, inl, inr}
use Rattle.std.specs.Prelude.{◌<◌, ◌↔◌, ℕ, List, map, length, Option, None, Some}
use Rattle.std.specs.Option.{option_map}
use Rattle.std.proofs.lemmas.Option.{none-some}
use Rattle.cost_free.specs.declared.task.Meter.{Meter}
use Rattle.cost_free.specs.Task as k
use Rattle.cost_free.specs.Task.{Task, Kind, Free}
use Rattle.annot_types.specs.Program.{Program, members}
use Rattle.annot_types.specs.Certificate.{Sig, Hint, Body, Solved, Refuted, Calls, IsSolved, Block, Certificate}
use Rattle.annot_types.specs.Rules.{With}
use Rattle.annot_types.specs.Holds.{raised, FunctionsHold}
use Rattle.annot_types.specs.Held.{before, scale_for}
use Rattle.cert_check.specs.Fault.{Fault}
use Rattle.cert_check.specs.Read.{OfFault}
use Rattle.cert_check.specs.Finds.{at_block, job, job_conditions}
use Rattle.cert_check.specs.Laws.{IsProper}
use Rattle.cert_check.proofs.Alone.{totals_fit, all_fit_none}
use Rattle.cert_check.proofs.Faultless.{passed, none_at}
use Rattle.cert_check.proofs.Fitted.{block_meets}
use Rattle.cert_check.proofs.Fitting.{block_holds}
use Rattle.cert_check.proofs.OneFault.{unless_one, body_one}
use Rattle.other_blocks.specs.Raised.{raised_for}
use Rattle.other_blocks.specs.Other.{place, OwnIsTried, raised_certificate, raised_before, OtherFinds, RaisedFinds}
use Rattle.other_blocks.specs.Laws.{OneOtherFault, IsOther, OthersExactly}
use Rattle.other_blocks.proofs.Raised.{same_setting}

pub one_other_fault : OneOtherFault
one_other_fault P c t block x y = unless_one _ _ x y _ _ raised_one where
  raised_one : RaisedFinds P c t block x → RaisedFinds P c t block y → x ≡ y
  raised_one (inl g) (inl h) = unless_one _ _ x y _ _ (λ e f. e ∙ sym f) g.1 h.1
  raised_one (inl g) (inr h) = absurd (none-some h.0 (body_one P (raised_certificate P c t block) (raised_before P c t block) block.task block.body None (Some h.0) g.0 h.1))
  raised_one (inr g) (inl h) = absurd (none-some g.0 (body_one P (raised_certificate P c t block) (raised_before P c t block) block.task block.body None (Some g.0) h.0 g.1))
  raised_one (inr g) (inr h) = g.2 ∙ body_one P (raised_certificate P c t block) (raised_before P c t block) block.task block.body (Some g.0) (Some h.0) g.1 h.1 ∙ sym h.2

module _ (P : Program) (proper : IsProper P) (c : Certificate) (t : ℕ) (positive : 0 < t) (group : ℕ) (meter : Meter) (sigs : List Sig) (hints : List (List Hint)) where
  abbrev task : Task
  task = record { group = group; kind = k.With meter }

  abbrev block : Block
  block = record { task = task; body = Solved sigs hints }

  abbrev over : Certificate
  over = raised_for t c (k.With meter)

  abbrev at : ℕ
  at = place P c t block

  abbrev first : List Block
  first = map (raised meter t) (before c at)

  is_other : OtherFinds P c t block None → IsOther P c t block
  is_other x = let tried = passed _ _ _ x in by tried.0 tried.1 where
    by : OwnIsTried P c t block → RaisedFinds P c t block None → IsOther P c t block
    by tried (inr h) = absurd (none-some h.0 h.2)
    by tried (inl h) =
        let within = passed _ _ _ h.0 in
        let shape = passed _ _ _ within.1 in
        let reach = passed _ _ _ shape.1 in
        let none = none_at P over (length first) _ reach.1 in
        record {
          tried = tried;
          shape = (shape.0.sigs_rise, shape.0.hints_rise);
          holds = record {
            positive = positive;
            solved = tt;
            functions = subst (λ S. FunctionsHold S (With meter) (members P group) sigs hints) (same_setting P c (before c at) meter t group (Solved sigs hints))
                (block_holds P proper c.degree first (scale_for over (k.With meter)) task sigs hints shape.0.sigs_fit shape.0.hints_fit none);
            reaches = tt;
          };
          within = within.0;
          totals = totals_fit (job_conditions (job P over first task) sigs hints) none;
          scale = (passed _ _ _ h.1).0;
        }

  finds_none : IsOther P c t block → OtherFinds P c t block None
  finds_none h =
      let functions = subst (λ S. FunctionsHold S (With meter) (members P group) sigs hints) (sym (same_setting P c (before c at) meter t group (Solved sigs hints))) h.holds.functions in
      let try = block_meets P proper c.degree first (scale_for over (k.With meter)) task sigs hints functions h.shape.1 in
      inl (
        h.tried,
        inl (
          inl (
            h.within,
            inl (
              record { sigs_fit = try.sigs_fit; sigs_rise = h.shape.0; hints_fit = try.hints_fit; hints_rise = h.shape.1 },
              inl (
                tt,
                ap (option_map (at_block (length first))) (sym (all_fit_none (job_conditions (job P over first task) sigs hints) try.all_meet h.totals)),
              ),
            ),
          ),
          inl (h.scale, refl),
        ),
      )

pub others_exactly : OthersExactly
others_exactly P proper c t positive block meter kind solved = by block.task.group block.task.kind kind block.body solved where
  by : (group : ℕ) (kind : Kind) → kind ≡ k.With meter → (body : Body) → IsSolved body →
      let b : Block = record { task = record { group = group; kind = kind }; body = body } in OtherFinds P c t b None ↔ IsOther P c t b
  by group (Free budget f target) e body s = absurd (cc)
  by group (k.With other) e (Solved sigs hints) s = (is_other P proper c t positive group other sigs hints, finds_none P proper c t positive group other sigs hints)
  by group (k.With other) e (Refuted farkas) s = absurd s
  by group (k.With other) e (Calls fun) s = absurd s

-- so one that has a fault is not so
pub other_refuses : (P : Program) → IsProper P → (c : Certificate) (t : ℕ) → 0 < t → (block : Block) (meter : Meter) → block.task.kind ≡ k.With meter → IsSolved block.body →
    (o : Option Fault) → OfFault o (OtherFinds P c t block) → OfFault o (λ _. IsOther P c t block → ⊥)
other_refuses P proper c t positive b meter kind solved None h = tt
other_refuses P proper c t positive b meter kind solved (Some fault) h =
    λ other. none-some fault (one_other_fault P c t b None (Some fault) ((others_exactly P proper c t positive b meter kind solved).1 other) h)

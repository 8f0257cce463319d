-- What is left of a budget of pivots along a course.
use Rattle.std.proofs.Common.{◌≡◌, ◌+◌, ◌-◌, ℕ, [], ◌∷◌, Option, Some, None, refl, sym, ap, subst, unwrap_or, arith}
use Rattle.infer_spec.specs.States.{State, start}
use Rattle.infer_spec.specs.Generator.{Analysis}
use Rattle.simplex.specs.Solving.{UpTo}
use Rattle.bound_infer.specs.After.{IsAfter}
use Rattle.bound_infer.specs.Pivots.{ReachedWith, left, EndsWithin, IsGivenUp}
use Rattle.bound_infer.specs.declared.progress.Progress.TheVariants.{Advanced, Ended, Cut}

pub none_used : (budget : Option ℕ) → UpTo budget 0
none_used budget m e = omega arith

pub all_left : (budget : Option ℕ) → budget ≡ left budget 0
all_left None = refl
all_left (Some b) = ap Some (omega arith)

-- after more pivots, which are no more than what was left
pub used_more : (budget : Option ℕ) (used n : ℕ) → UpTo budget used → UpTo (left budget used) n → UpTo budget (used + n)
used_more None used n h k m e = absurd (cc)
used_more (Some b) used n h k m e =
    let same : b ≡ m = ap (λ (o : Option ℕ). unwrap_or o 0) e in
    let first = h b refl in
    let more = k (b - used) refl in
    omega (arith, same, first, more)

pub left_more : (budget : Option ℕ) (used n : ℕ) → left (left budget used) n ≡ left budget (used + n)
left_more None used n = refl
left_more (Some b) used n = ap Some (omega arith)

module _ (A : Analysis) where
  pub at_start : (st : State) → st ≡ start → ReachedWith A st 0
  at_start st e = record { findings = []; course = (e, refl) }

  module _ (budget : Option ℕ) (old new : State) (used : ℕ) (h : ReachedWith A old used) where
    pub one_task_more : (n : ℕ) → IsAfter A (left budget used) old new (Advanced n) → ReachedWith A new (used + n)
    one_task_more n k = record { findings = k.0.0 ∷ h.findings; course = (old, used, n, h.course, k.0.1, k.1, refl) }

    module _ (within : UpTo budget used) where
      pub ends_within : IsAfter A (left budget used) old new Ended → EndsWithin A budget
      ends_within k = record { state = new; used = used; reached = subst (λ st. ReachedWith A st used) (sym k.1) h; over = k.0; within = within }

      pub given_up : IsAfter A (left budget used) old new Cut → IsGivenUp A budget
      given_up k = record { state = new; used = used; reached = subst (λ st. ReachedWith A st used) (sym k.1) h; within = within; cut = k.0 }

  -- without a budget no analysis is given up
  pub never_given_up : IsGivenUp A None → ⊥
  never_given_up h = let cut = h.cut in let q = cut.cut.is_limit in absurd (cc)

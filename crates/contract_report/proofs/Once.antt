-- One line is the first that exceeds, and by one thing.
use Rattle.std.proofs.Common.{◌≡◌, ◌<◌, ◌⊎◌, ℕ, ℤ, List, Option, Some, suc, refl, sym, ap, subst, ◌∙◌, inl, inr, ⊎_elim, arith}
use Rattle.std.specs.Prelude.{nat_eq, cond, slice_get}
use Rattle.std.proofs.lemmas.Bool.Decides.{nat_tests}
use Rattle.cost_free.specs.Task.{Task}
use Rattle.annot_types.specs.Program.{Program}
use Rattle.annot_types.specs.Certificate.{Block, Certificate}
use Rattle.bound_file.specs.Lines.{Line}
use Rattle.bound_contract.specs.Places as p
use Rattle.bound_contract.specs.Places.{Place, IsFirst, stage}
use Rattle.contract_report.specs.Refused.{Excess, Rows, Number, excess_at, IsLineClear, LineExceeds, FirstExceeds, AllLinesClear}

less_or_more : (a b : ℕ) → (a < b) ⊎ ((b < a) ⊎ (a ≡ b))
less_or_more a b = grind (arith, nat_tests)

-- what is exceeded, by the order of trial
abbrev by_stage : ℕ → Excess
by_stage n = cond (nat_eq n 1) Rows Number

excess_by_stage : (place : Place) → excess_at place ≡ by_stage (stage place)
excess_by_stage (p.Row row) = refl
excess_by_stage p.TooLarge = refl
excess_by_stage (p.Right position) = refl
excess_by_stage (p.Solve pivots row column) = refl
excess_by_stage (p.Scale entry) = refl
excess_by_stage (p.Rescale block) = refl
excess_by_stage (p.Check path index) = refl
excess_by_stage (p.Refute column) = refl

module _ (N : Program) (c : Certificate) (pick : List ℤ → ℤ → Option ℕ) where
  -- two first places are of one excess
  module _ (task : Task) (place : ℕ) (line : Line) where
    stages_same : (a b : Place) → IsFirst N c place task line pick a → IsFirst N c place task line pick b → stage a ≡ stage b
    stages_same a b h k = ⊎_elim
        (λ less. absurd (k.first a less h.comes))
        (λ rest. ⊎_elim (λ more. absurd (h.first b more k.comes)) (λ same. same) rest)
        (less_or_more (stage a) (stage b))

    excess_same : (a b : Place) → IsFirst N c place task line pick a → IsFirst N c place task line pick b → excess_at a ≡ excess_at b
    excess_same a b h k = excess_by_stage a ∙ (ap by_stage (stages_same a b h k) ∙ sym (excess_by_stage b))

  line_once : (line : Line) (e f : Excess) → LineExceeds N c pick line e → LineExceeds N c pick line f → e ≡ f
  line_once line e f h k =
      let place : h.place ≡ k.place = (let a = h.is.first in let b = k.is.first in cc) in
      let own : h.own ≡ k.own = (let a = h.is.there in let b = k.is.there in cc) in
      let moved = subst (λ (b : Block). IsFirst N c h.place b.task line pick k.at) (sym own) (subst (λ n. IsFirst N c n k.own.task line pick k.at) (sym place) k.first) in
      sym h.excess_is ∙ (excess_same h.own.task h.place line h.at k.at h.first moved ∙ k.excess_is)

  line_clear : (line : Line) (e : Excess) → LineExceeds N c pick line e → IsLineClear N c pick line → ⊥
  line_clear line e h clear = clear h.place h.own h.is h.tried h.at h.first.comes

  module _ (lines : List Line) where
    pub clear_exceeds_none : (n : ℕ) (e : Excess) → FirstExceeds N c pick lines n e → AllLinesClear N c pick lines → ⊥
    clear_exceeds_none n e h clear = line_clear h.line e h.exceeds (clear h.index h.line h.there)

    pub one_exceeds_first : (n m : ℕ) (e f : Excess) → FirstExceeds N c pick lines n e → FirstExceeds N c pick lines m f → (n ≡ m) × (e ≡ f)
    one_exceeds_first n m e f h k = ⊎_elim
        (λ less. absurd (line_clear h.line e h.exceeds (k.before h.index h.line less h.there)))
        (λ rest. ⊎_elim
        (λ more. absurd (line_clear k.line f k.exceeds (h.before k.index k.line more k.there)))
        at_one rest)
        (less_or_more h.index k.index)
      where
        at_one : h.index ≡ k.index → (n ≡ m) × (e ≡ f)
        at_one same =
            let line : h.line ≡ k.line = (let a = h.there in let b = k.there in cc) in
            (h.is ∙ (ap suc same ∙ sym k.is), line_once k.line e f (subst (λ l. LineExceeds N c pick l e) line h.exceeds) k.exceeds)

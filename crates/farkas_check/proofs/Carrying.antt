-- Totals that grow term by term.
use Rattle.std.proofs.Common.{◌≡◌, sym, ap, ◌∙◌, List, [], ◌∷◌, ℤ, pos, ◌+ℤ◌, ◌≤ℤ◌, arith, Some, None}
use Rattle.std.proofs.lemmas.Int.{ints}
use Rattle.farkas_check.specs.declared.totals.Totals.{Totals}
use Rattle.farkas_check.specs.Totals.{gain, loss, gains, losses}
use Rattle.farkas_check.specs.Sides.{MovedBy}
use Rattle.farkas_check.proofs.Splitting.{gain_is, loss_is, gains_low, losses_high}

-- with the terms of rest more, the totals t are s with those of all
pub record Carries (s t : Totals) (all rest : List ℤ) : Type 0 where
  pub gained : t.positive +ℤ gains rest ≡ s.positive +ℤ gains all
  pub lost : t.negative +ℤ losses rest ≡ s.negative +ℤ losses all

pub begins : (s : Totals) (all rest : List ℤ) → rest ≡ all → Carries s s all rest
begins s all rest e = record { gained = ap (λ (zs : List ℤ). s.positive +ℤ gains zs) e; lost = ap (λ (zs : List ℤ). s.negative +ℤ losses zs) e }

-- one term further
pub further : (s t u : Totals) (all rest more : List ℤ) (z : ℤ) → rest ≡ z ∷ more → Carries s t all rest → MovedBy t (z ∷ []) (Some u) → Carries s u all more
further s t u all rest more z e c m =
    let g : t.positive +ℤ (gain z +ℤ gains more) ≡ s.positive +ℤ gains all = ap (λ (zs : List ℤ). t.positive +ℤ gains zs) (sym e) ∙ c.gained in
    let l : t.negative +ℤ (loss z +ℤ losses more) ≡ s.negative +ℤ losses all = ap (λ (zs : List ℤ). t.negative +ℤ losses zs) (sym e) ∙ c.lost in
    let p : u.positive ≡ t.positive +ℤ (gain z +ℤ pos 0) = m.0 in
    let n : u.negative ≡ t.negative +ℤ (loss z +ℤ pos 0) = m.1 in
    record { gained = omega (arith, ints); lost = omega (arith, ints) }

-- where the totals leave with one term more, they leave with all
pub too_far : (s t : Totals) (all rest more : List ℤ) (z : ℤ) → rest ≡ z ∷ more → Carries s t all rest → MovedBy t (z ∷ []) None → MovedBy s all None
too_far s t all rest more z e c none f h =
    let g : t.positive +ℤ (gain z +ℤ gains more) ≡ s.positive +ℤ gains all = ap (λ (zs : List ℤ). t.positive +ℤ gains zs) (sym e) ∙ c.gained in
    let l : t.negative +ℤ (loss z +ℤ losses more) ≡ s.negative +ℤ losses all = ap (λ (zs : List ℤ). t.negative +ℤ losses zs) (sym e) ∙ c.lost in
    let low : pos 0 ≤ℤ t.positive = t.at_least in
    let high : t.negative ≤ℤ pos 0 = t.at_most in
    let gi = gain_is z in
    let li = loss_is z in
    none (omega (arith, ints, gains_low more)) (omega (arith, ints, losses_high more))

-- at the end
pub ends : (s t : Totals) (all rest : List ℤ) → rest ≡ [] → Carries s t all rest → MovedBy s all (Some t)
ends s t all rest e c =
    let g : t.positive +ℤ pos 0 ≡ s.positive +ℤ gains all = ap (λ (zs : List ℤ). t.positive +ℤ gains zs) (sym e) ∙ c.gained in
    let l : t.negative +ℤ pos 0 ≡ s.negative +ℤ losses all = ap (λ (zs : List ℤ). t.negative +ℤ losses zs) (sym e) ∙ c.lost in
    (omega (arith, ints), omega (arith, ints))

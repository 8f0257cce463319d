-- From totals to the verdict on a check.
use Rattle.std.proofs.Common.{◌≡◌, sym, ap, subst, ◌∙◌, List, ℤ, ◌+ℤ◌, FitsSigned}
use Rattle.std.specs.Int.{w128}
use Rattle.raml_num.specs.Sums.{total}
use Rattle.farkas_check.specs.Totals.{gains, losses, TotalsFit}
use Rattle.farkas_check.specs.Checks.{Demand, Meets}
use Rattle.farkas_check.proofs.Splitting.{total_of}

-- both totals are there, and their sum is the whole
pub record Told (zs : List ℤ) (sum : ℤ) : Type 0 where
  pub fit : TotalsFit zs
  pub whole : sum ≡ total zs

pub told : (zs : List ℤ) (p n sum : ℤ) → FitsSigned w128 p → FitsSigned w128 n → p ≡ gains zs → n ≡ losses zs → sum ≡ p +ℤ n → Told zs sum
told zs p n sum f g e h s = record {
  fit = record { positive = subst (FitsSigned w128) e f; negative = subst (FitsSigned w128) h g };
  whole = s ∙ ap (λ (v : ℤ). v +ℤ n) e ∙ ap (λ (v : ℤ). gains zs +ℤ v) h ∙ total_of zs;
}

pub meets : (d : Demand) (zs : List ℤ) (sum : ℤ) → Told zs sum → Meets d sum → Meets d (total zs)
meets d zs sum t m = subst (Meets d) t.whole m

pub meets_back : (d : Demand) (zs : List ℤ) (sum : ℤ) → Told zs sum → Meets d (total zs) → Meets d sum
meets_back d zs sum t m = subst (Meets d) (sym t.whole) m

use Rattle.std.proofs.Common.{◌≡◌, ◌≤◌, ℕ, Result, Ok, Err, IfOk, arith}
use Rattle.bound_contract.specs.declared.front.Front.{Front}
use Rattle.bound_contract.proofs.front.begun.Goals as goal

low_of : {E : Type 0} (r : Result Front E) (n : ℕ) → IfOk r (λ (f : Front). f.place ≡ 0) → IfOk r (λ (f : Front). f.place ≤ n)
low_of (Ok f) n e = omega (arith, e)
low_of (Err x) n e = tt

pub returns-in_default-clause-low : goal.returns-in_default-clause-low
returns-in_default-clause-low c = low_of _ c.args.place c.start.ensures.place

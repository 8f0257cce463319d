use Rattle.std.proofs.Common.{◌≡◌, ℕ, ℤ, Result, Err, ap, ◌∙◌}
use Rattle.std.specs.Int.{w128}
use Rattle.std.proofs.lemmas.Int.{to_z-of_z}
use Rattle.annot_types.specs.Read.{blocks_of}
use Rattle.bound_infer.specs.declared.fault.RaiseFault.{RaiseFault}
use Rattle.bound_infer.specs.declared.fault.RaiseFault.TheVariants as fault
use Rattle.bound_infer.proofs.OneByOne.{unfit_leaves}
use Rattle.bound_infer.proofs.raising.raise.Goals as goal

pub returns-in-Err-clause-leaves : goal.returns-in-Err-clause-leaves
returns-in-Err-clause-leaves c place e =
    let fits = simp (to_z-of_z w128 _ c.ranges.scale) at c.in-Some.ensures in
    unfit_leaves c.args.meter c.args.factor.now place c.args.scale (blocks_of c.args.blocks.now) (c.raise_blocks.ensures.leaves place (c.in-Err.is ∙ ap Err (same c.in-Err.fault place e))) fits.0
  where
    same : (a : RaiseFault) (place : ℕ) → ◌≡◌ {A = Result ℤ RaiseFault} (Err a) (Err (fault.Leaves place)) → a ≡ fault.Leaves place
    same a place e = cc

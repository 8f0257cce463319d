use Rattle.std.proofs.Common.{◌≡◌, ◌<◌, ℕ, slice_get, Some}
use Rattle.annot_types.specs.Certificate.{Block}
use Rattle.annot_types.specs.Read.{blocks_of}
use Rattle.infer_spec.specs.Places.{IsOfMeter}
use Rattle.bound_infer.proofs.raising.first_of.Given as goal

abbrev pub invariant-loop-place : goal.invariant-loop-place
invariant-loop-place l = (i : ℕ) (other : Block) → i < l.place → slice_get (blocks_of l.blocks) i ≡ Some other → IsOfMeter l.meter other → ⊥

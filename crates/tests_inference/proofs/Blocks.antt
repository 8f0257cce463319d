-- A block among the blocks that are read.
use Rattle.std.proofs.Common.{◌≡◌, ◌<◌, ℕ, zero, suc, List, [], ◌∷◌, length, slice_get, slice_index_or, Some, refl, sym, ap, ◌∙◌, arith}
use Rattle.cost_free.specs.declared.task.Meter.{Meter}
use Rattle.annot_types.specs.Read.{block_of, blocks_of}
use Rattle.annot_types.specs.declared.block.Block.{Block}
use Rattle.infer_spec.specs.Places.{IsOfMeter}
use Rattle.bound_infer.specs.Raised.{NoneOf}

read_at : (bs : List Block) (k : ℕ) (d : Block) → k < length bs → slice_get (blocks_of bs) k ≡ Some (block_of (slice_index_or bs k d))
read_at [] k d l = absurd (omega (arith, l))
read_at (b ∷ bs) zero d l = refl
read_at (b ∷ bs) (suc k) d l = read_at bs k d (omega (arith, l))

pub not_none : (meter : Meter) (bs : List Block) (k : ℕ) (b : Block) → k < length bs → b ≡ slice_index_or bs k b →
    IsOfMeter meter (block_of b) → NoneOf meter (blocks_of bs) → ⊥
not_none meter bs k b l is of none = none k (block_of b) (read_at bs k b l ∙ ap (λ x. Some (block_of x)) (sym is)) of

-- Blocks of a meter whose numbers can be multiplied.
use Rattle.std.specs.Prelude.{◌≡◌, ◌<◌, ℕ, List, slice_get, Some}
use Rattle.std.specs.List.{All}
use Rattle.cost_free.specs.declared.task.Meter.{Meter}
use Rattle.annot_types.specs.Certificate.{Block}
use Rattle.infer_spec.specs.Places.{BodyFits, IsOfMeter}

-- the numbers of each solved block of the meter, t times, are of 128 bits
abbrev pub AllFit : Meter → ℕ → List Block → Type 0
AllFit meter t bs = (place : ℕ) (block : Block) → slice_get bs place ≡ Some block → IsOfMeter meter block → BodyFits t block.body

-- the numbers of each block are of 128 bits
abbrev pub EachFits : List Block → Type 0
EachFits bs = All (λ b. BodyFits 1 b.body) bs

-- the block at this place is the first whose are not
pub record FirstUnfit (meter : Meter) (t : ℕ) (bs : List Block) (place : ℕ) : Type 0 where
  pub block : Block
  pub there : slice_get bs place ≡ Some block
  pub of_meter : IsOfMeter meter block
  pub leaves : BodyFits t block.body → ⊥
  pub before : (i : ℕ) (other : Block) → i < place → slice_get bs i ≡ Some other → IsOfMeter meter other → BodyFits t other.body

-- no block is solved with cost of the meter
abbrev pub NoneOf : Meter → List Block → Type 0
NoneOf meter bs = (place : ℕ) (block : Block) → slice_get bs place ≡ Some block → IsOfMeter meter block → ⊥

-- the block at this place is the first that is
pub record IsFirstOf (meter : Meter) (bs : List Block) (place : ℕ) : Type 0 where
  pub block : Block
  pub there : slice_get bs place ≡ Some block
  pub of_meter : IsOfMeter meter block
  pub before : (i : ℕ) (other : Block) → i < place → slice_get bs i ≡ Some other → IsOfMeter meter other → ⊥

-- Signatures that pay for a meter, multiplied.
use Rattle.std.specs.Prelude.{◌≡◌, ◌<◌, ◌^◌, ◌*◌, ℕ, false, List, map, Some, option_map}
use Rattle.cost_free.specs.declared.task.Meter.{Meter}
use Rattle.cost_free.specs.Task.{same_meter}
use Rattle.annot_types.specs.Program.{Program}
use Rattle.annot_types.specs.Certificate.{annotation, Sig, Block}
use Rattle.annot_types.specs.Signature.{cost_sig}
use Rattle.rules_spec.specs.Numbers.{Signature}
use Rattle.rules_spec.specs.Capped.{cap}
use Rattle.rules_walk.specs.Read.{signature_of}
use Rattle.rules_walk.specs.Remembers.{Tables, costs}

-- t times each number, and the greatest one of 128 bits where that leaves it
abbrev pub raised_numbers : ℕ → List ℕ → List ℕ
raised_numbers t ns = map (λ n. cap (n * t)) ns

abbrev pub raised_signature : ℕ → Signature → Signature
raised_signature t s = record { budget = s.budget; args = raised_numbers t s.args; result = raised_numbers t s.result }

-- t times each number of the signature is of 128 bits
pub record NothingLeaves (t : ℕ) (s : Sig) : Type 0 where
  pub args : (k : ℕ) → annotation s.args k * t < 2 ^ 128
  pub result : (k : ℕ) → annotation s.result k * t < 2 ^ 128

-- and so for each function that has a signature with cost of the meter
abbrev pub NonePasses : Program → Meter → ℕ → List Block → Type 0
NonePasses P meter t earlier = (f : ℕ) (s : Sig) → cost_sig P meter earlier f ≡ Some s → NothingLeaves t s

-- In the tables of the meter each number is multiplied, and the other tables stay.
pub record Rises (meter : Meter) (t : ℕ) (old new : Tables) : Type 0 where
  pub free : new.free ≡ old.free
  pub usable : new.usable ≡ old.usable
  pub paying : map (option_map signature_of) (costs new meter)
      ≡ map (option_map (raised_signature t)) (map (option_map signature_of) (costs old meter))
  pub others : (other : Meter) → same_meter other meter ≡ false → costs new other ≡ costs old other

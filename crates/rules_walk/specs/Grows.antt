-- Tables with one block more.
use Rattle.std.specs.Prelude.{◌≡◌, ℕ, false, List, [], ◌∷◌, ◌++◌, length, map, option_map}
use Rattle.cost_free.specs.declared.task.Meter.{Meter}
use Rattle.cost_free.specs.Task.{Kind, Free, With, same_meter}
use Rattle.annot_types.specs.Certificate.{Sig}
use Rattle.rules_walk.specs.declared.known.Signed.{Signed}
use Rattle.rules_walk.specs.Read.{signature_of}
use Rattle.rules_walk.specs.Remembers.{Tables, costs}
use Rattle.rules_walk.specs.Signed.{signatures, all_signed, noted, filled}

module _ (members : List ℕ) (sizes : List (ℕ × ℕ)) (sigs : List Sig) where
  -- a block without cost, of this budget
  pub record GrowsFree (budget : ℕ) (old new : Tables) : Type 0 where
    pub signed : List Signed
    pub are : all_signed signed ≡ signatures budget members sizes sigs
    pub free : new.free ≡ old.free ++ signed ∷ []
    pub usable : new.usable ≡ noted (record { block = length old.free; budget = budget }) signed old.usable
    pub ticks : new.ticks ≡ old.ticks
    pub cells : new.cells ≡ old.cells
    pub work : new.work ≡ old.work

  -- one with cost, in an analysis of this degree
  pub record GrowsPaying (degree : ℕ) (meter : Meter) (old new : Tables) : Type 0 where
    pub free : new.free ≡ old.free ++ [] ∷ []
    pub usable : new.usable ≡ old.usable
    pub paying : map (option_map signature_of) (costs new meter)
        ≡ filled (signatures degree members sizes sigs) (map (option_map signature_of) (costs old meter))
    pub others : (other : Meter) → same_meter other meter ≡ false → costs new other ≡ costs old other

  abbrev pub Grows : ℕ → Kind → Tables → Tables → Type 0
  Grows degree (Free budget f target) old new = GrowsFree budget old new
  Grows degree (With meter) old new = GrowsPaying degree meter old new

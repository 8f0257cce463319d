-- What walks do not read.
use Rattle.std.specs.Prelude.{◌≡◌, ℕ, List, Option}
use Rattle.cost_free.specs.declared.task.Meter.{Meter}
use Rattle.annot_types.specs.Rules.{Mode, With, Own, Past}
use Rattle.rules_spec.specs.Plan.{Plan}
use Rattle.rules_spec.specs.Numbers.{Numbers, Signature, Known, Hint}
use Rattle.rules_spec.specs.Kinds.{amounts, forms}
use Rattle.rules_spec.specs.Capped.{capped}
use Rattle.rules_spec.specs.Walk.{walk}

-- no prices are paid
abbrev pub IsFree : Mode → Type 0
IsFree (With meter) = ⊥
IsFree Own = Unit {0}
IsFree Past = Unit {0}

-- at another scale
abbrev pub scaled : {E : Type 0} → ℕ → Known E → Known E
scaled scale K = record { scale = scale; budget = K.budget; group = K.group; free = K.free; cost = K.cost }

-- with other signatures that pay
abbrev pub paying : {E : Type 0} → (Meter → ℕ → Option Signature) → Known E → Known E
paying cost K = record { scale = K.scale; budget = K.budget; group = K.group; free = K.free; cost = cost }

-- Where no prices are paid, walks over such numbers are the same.
abbrev pub WalkFree : {E : Type 0} → Numbers E → Known E → Known E → Type 0
WalkFree {E} A K L = (e : Plan) (mode : Mode) → IsFree mode → (path : List ℕ) (q r : List E) (hs : List (Hint E)) →
    walk A K e mode path q r hs ≡ walk A L e mode path q r hs

-- A walk that pays no prices reads no signature that pays.
abbrev pub ReadsNoCost : {E : Type 0} → Numbers E → Type 0
ReadsNoCost {E} A = (K : Known E) (cost : Meter → ℕ → Option Signature) → WalkFree A K (paying cost K)

-- It reads no scale.
abbrev pub ReadsNoScale : {E : Type 0} → Numbers E → Type 0
ReadsNoScale {E} A = (K : Known E) (scale : ℕ) → WalkFree A K (scaled scale K)

pub record WalksWithoutCost : Type 0 where
  pub unscaled : (t : ℕ) → ReadsNoScale (amounts t)
  pub capped : ReadsNoCost capped
  pub amounts : (t : ℕ) → ReadsNoCost (amounts t)
  pub forms : ReadsNoCost forms

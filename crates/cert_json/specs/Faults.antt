-- When a JSON value is a certificate, and why it is refused.
use Rattle.std.specs.Prelude.{◌≡◌, ℕ, ◌^◌, ◌<◌, ℤ, Bool, List, ◌∷◌, ◌++◌, length, is_some}
use Rattle.std.specs.Fmt.{signed_decimal}
use Rattle.serde_json.specs.Data.{Data}
use Rattle.cert_json.specs.Parts.{Block, Head, Certificate}
use Rattle.cert_json.specs.Form.{Text, list_json, block_json, head_json, certificate_json}
use Rattle.cert_json.specs.Fits.{Each, FitsList, FitsBlock, FitsHead, InRange}

pub data Place : Type 0 where
  InHead : Place
  InBlock : ℕ → Place

-- The bytes are no JSON; a part has not its form; it has, but a text stands in a number's place that is no number.
pub data Fault : Type 0 where
  NotJson : Fault
  Shape : Place → Fault
  Number : Place → Fault

-- what is asked of a text that stands for a number, where any may
abbrev pub Any : Text → Type 0
Any s = Unit {0}

abbrev pub itself : Text → Text
itself s = s

-- the JSON is a head with these blocks, whose numbers `f` writes and P allows
pub record HasHead {N : Type 0} (f : N → Text) (P : N → Type 0) (d : Data) (h : Head N) (blocks : List Data) : Type 0 where
  pub is : d ≡ head_json f h (list_json blocks)
  pub fits : FitsHead P h
  pub short : length blocks < 2 ^ 31

pub record HasBlock {N : Type 0} (f : N → Text) (P : N → Type 0) (work : Bool) (d : Data) (b : Block N) : Type 0 where
  pub is : d ≡ block_json f b
  pub fits : FitsBlock P work b

-- with numbers, and with any texts in their places
abbrev pub IsHead : Data → Head ℤ → List Data → Type 0
IsHead = HasHead signed_decimal InRange

abbrev pub IsLikeHead : Data → Head Text → List Data → Type 0
IsLikeHead = HasHead itself Any

abbrev pub IsBlock : Bool → Data → Block ℤ → Type 0
IsBlock = HasBlock signed_decimal InRange

abbrev pub IsLikeBlock : Bool → Data → Block Text → Type 0
IsLikeBlock = HasBlock itself Any

-- with `work` there is a scale of the meter of work
abbrev pub with_work : {N : Type 0} → Head N → Bool
with_work h = is_some h.work

-- the JSON of a certificate, by its parts
pub record HasParts (d : Data) (c : Certificate ℤ) : Type 0 where
  pub is : d ≡ certificate_json signed_decimal c
  pub head : FitsHead InRange c.head
  pub blocks : FitsList (FitsBlock InRange (with_work c.head)) c.blocks

-- the block of this number, behind blocks that are whole
pub record Reaches (work : Bool) (blocks : List Data) (i : ℕ) (d : Data) : Type 0 where
  pub before : List Data
  pub after : List Data
  pub split : blocks ≡ before ++ d ∷ after
  pub number : i ≡ length before
  pub whole : Each (λ e. (b : Block ℤ) × IsBlock work e b) before

pub record ReachesBlock (d : Data) (i : ℕ) (work : Bool) (e : Data) : Type 0 where
  pub head : Head ℤ
  pub blocks : List Data
  pub is : IsHead d head blocks
  pub meters : work ≡ with_work head
  pub reaches : Reaches work blocks i e

-- Why a JSON value is refused. The head goes before the blocks, and each block before those behind it; in each, a form that is missed goes
-- before a number that is missed.
abbrev pub Refuses : Data → Fault → Type 0
Refuses d NotJson = ⊥
Refuses d (Shape InHead) = (h : Head Text) (blocks : List Data) → ¬ (IsLikeHead d h blocks)
Refuses d (Number InHead) =
    ((h : Head Text) × (blocks : List Data) × IsLikeHead d h blocks) × ((h : Head ℤ) (blocks : List Data) → ¬ (IsHead d h blocks))
Refuses d (Shape (InBlock i)) = (work : Bool) × (e : Data) × ReachesBlock d i work e × ((b : Block Text) → ¬ (IsLikeBlock work e b))
Refuses d (Number (InBlock i)) =
    (work : Bool) × (e : Data) × ReachesBlock d i work e
    × ((b : Block Text) × IsLikeBlock work e b) × ((b : Block ℤ) → ¬ (IsBlock work e b))

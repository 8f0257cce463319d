-- What is written, what is read, and what the code answers.
use Rattle.std.specs.Prelude.{◌≡◌, ◌≤◌, ◌<ℤ◌, ℕ, pos, true, List, slice_get, Result, Ok, Err, Some, IsUtf8}
use Rattle.std.specs.Fmt.{signed_decimal}
use Rattle.serde_json.specs.Data.{Data}
use Rattle.serde_json.specs.Read.{read}
use Rattle.serde_json.specs.Written.{compact_text}
use Rattle.cost_free.specs.declared.task.Meter.{Meter}
use Rattle.annot_types.specs.Certificate.{Block, Certificate, has_work}
use Rattle.annot_types.specs.Held.{scale_of, IsShaped}
use Rattle.cert_json.specs.Parts.{parts}
use Rattle.cert_json.specs.Form.{certificate_json}
use Rattle.cert_json.specs.Faults as f
use Rattle.cert_json.specs.Faults.{HasParts, Refuses}
use Rattle.cert_json.specs.Numbers.{Wide, CertificateHas}
use Rattle.cert_json.specs.declared.whole.Place.{Place}
use Rattle.cert_json.specs.declared.whole.Place.TheVariants as place
use Rattle.cert_json.specs.declared.whole.JsonFault.{JsonFault}
use Rattle.cert_json.specs.declared.whole.JsonFault.TheVariants.{NotJson, Shape, Number, NoMemory}

-- the JSON of a certificate
abbrev pub json_of : Certificate → Data
json_of c = certificate_json signed_decimal (parts c)

-- and its text: compact, with keys in ascending order
abbrev pub text_of : Certificate → List ℕ
text_of c = compact_text (json_of c)

-- The bytes are read as the JSON of the certificate, whose numbers fit their fields, those of the analysis 128 bits.
pub record IsWritten (bytes : List ℕ) (c : Certificate) : Type 0 where
  pub text : IsUtf8 bytes
  pub json : read bytes ≡ Some (json_of c)
  pub numbers : CertificateHas Wide (parts c)

-- The bytes are JSON of the form of this certificate: what counts is the value that is read from them.
pub record IsFile (bytes : List ℕ) (c : Certificate) : Type 0 where
  pub text : IsUtf8 bytes
  pub value : Data
  pub read : read bytes ≡ Some value
  pub is : HasParts value (parts c)

-- It has what a file's certificate must have: a degree from 1 to 4, a scale of each meter, all of them positive, and
-- blocks of the right shape.
pub record IsComplete (c : Certificate) : Type 0 where
  pub least_degree : 1 ≤ c.degree
  pub most_degree : c.degree ≤ 4
  pub work : has_work c ≡ true
  pub scales : (meter : Meter) → pos 0 <ℤ scale_of c meter
  pub shape : (place : ℕ) (block : Block) → slice_get c.blocks place ≡ Some block → IsShaped block.body

-- ---- faults

-- the bytes are JSON that is refused for this fault
abbrev pub IsRefused : List ℕ → f.Fault → Type 0
IsRefused bytes x = IsUtf8 bytes × (d : Data) × (read bytes ≡ Some d) × Refuses d x

-- the bytes are refused for this fault
abbrev pub RefusedBy : List ℕ → f.Fault → Type 0
RefusedBy bytes f.NotJson = IsUtf8 bytes → (d : Data) → read bytes ≡ Some d → ⊥
RefusedBy bytes (f.Shape place) = IsRefused bytes (f.Shape place)
RefusedBy bytes (f.Number place) = IsRefused bytes (f.Number place)

abbrev pub place_of : Place → f.Place
place_of place.Head = f.InHead
place_of (place.Block b) = f.InBlock b

-- the cause of the code's fault; want of memory has none
abbrev pub Cause : List ℕ → JsonFault → Type 0
Cause bytes NotJson = RefusedBy bytes f.NotJson
Cause bytes (Shape place) = RefusedBy bytes (f.Shape (place_of place))
Cause bytes (Number place) = RefusedBy bytes (f.Number (place_of place))
Cause bytes NoMemory = Unit {0}

-- the code's fault is this one, unless memory was missing
abbrev pub IsTold : f.Fault → JsonFault → Type 0
IsTold x NotJson = x ≡ f.NotJson
IsTold x (Shape place) = x ≡ f.Shape (place_of place)
IsTold x (Number place) = x ≡ f.Number (place_of place)
IsTold x NoMemory = Unit {0}

-- ---- the code's answers

abbrev pub TellsFault : {B : Type 0} → JsonFault → Result B f.Fault → Type 0
TellsFault NotJson r = ⊥
TellsFault (Shape place) r = r ≡ Err (f.Shape (place_of place))
TellsFault (Number place) r = r ≡ Err (f.Number (place_of place))
TellsFault NoMemory r = Unit {0}

-- the code's answer is r, unless memory was missing
abbrev pub Tells : {A B : Type 0} → (A → B) → Result A JsonFault → Result B f.Fault → Type 0
Tells plain (Ok a) r = r ≡ Ok (plain a)
Tells plain (Err e) r = TellsFault e r

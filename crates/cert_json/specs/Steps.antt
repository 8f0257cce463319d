-- Reading a certificate from its JSON, or its first fault, step by step.
use Rattle.std.specs.Prelude.{ℕ, suc, ℤ, Bool, List, [], ◌∷◌, Option, Some, None, Result, Ok, Err}
use Rattle.serde_json.specs.Data.{Data}
use Rattle.cert_json.specs.Parts.{Block, Certificate}
use Rattle.cert_json.specs.Reading.{number_of, block_of, head_of}
use Rattle.cert_json.specs.Faults.{Place, InHead, InBlock, Fault, Shape, Number, with_work}

abbrev pub fault_at : {A : Type 0} → Option A → Place → Fault
fault_at (Some x) place = Number place
fault_at None place = Shape place

abbrev pub then : {A B : Type 0} → Option A → Fault → (A → Result B Fault) → Result B Fault
then (Some a) fault f = f a
then None fault f = Err fault

abbrev pub map_ok : {A B : Type 0} → (A → B) → Result A Fault → Result B Fault
map_ok f (Ok a) = Ok (f a)
map_ok f (Err e) = Err e

abbrev pub read_blocks : Bool → ℕ → List Data → Result (List (Block ℤ)) Fault
read_blocks work i [] = Ok []
read_blocks work i (d ∷ ds) =
    then (block_of number_of work d) (fault_at (block_of Some work d) (InBlock i))
    (λ b. map_ok (λ bs. b ∷ bs) (read_blocks work (suc i) ds))

abbrev pub read_certificate : Data → Result (Certificate ℤ) Fault
read_certificate d =
    then (head_of number_of d) (fault_at (head_of Some d) InHead)
    (λ p. map_ok (λ bs. record { head = p.0; blocks = bs }) (read_blocks (with_work p.0) 0 p.1))

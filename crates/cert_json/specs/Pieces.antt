-- A block by the keys that its object has: the task, and the values of which the rest is read.
use Rattle.std.specs.Prelude.{Bool, List, [], ◌∷◌, codes, Option, None, option_map}
use Rattle.serde_json.specs.Data.{Data}
use Rattle.cost_free.specs.Task.{Task}
use Rattle.cert_json.specs.Parts.{Body, Block}
use Rattle.cert_json.specs.Form.{Text}
use Rattle.cert_json.specs.Reading.{solved_of, refuted_of, calls_of, block_with, with_of, free_of, fields, or_else, solved_keys}
use Rattle.cert_json.specs.Reading.{solved_free_keys, other_keys, other_free_keys}

-- Solved has hints and signatures.
pub data Piece : Type 0 where
  Solved : Data → Data → Piece
  Refuted : Data → Piece
  Calls : Data → Piece

abbrev pub pieced : Option Task → Piece → Option (Task × Piece)
pieced task piece = option_map (λ t. (t, piece)) task

abbrev pub solved_in : Bool → List Data → Option (Task × Piece)
solved_in work (group ∷ hints ∷ kind ∷ sigs ∷ []) = pieced (with_of work group kind) (Solved hints sigs)
solved_in work _ = None

abbrev pub solved_free_in : List Data → Option (Task × Piece)
solved_free_in (budget ∷ fun ∷ group ∷ hints ∷ kind ∷ sigs ∷ target ∷ []) =
    pieced (free_of budget fun group kind target) (Solved hints sigs)
solved_free_in _ = None

abbrev pub other_in : (Data → Piece) → Bool → List Data → Option (Task × Piece)
other_in piece work (d ∷ group ∷ kind ∷ []) = pieced (with_of work group kind) (piece d)
other_in piece work _ = None

abbrev pub other_free_in : (Data → Piece) → List Data → Option (Task × Piece)
other_free_in piece (budget ∷ d ∷ fun ∷ group ∷ kind ∷ target ∷ []) = pieced (free_of budget fun group kind target) (piece d)
other_free_in piece _ = None

abbrev pub calls_free_or : Data → Option (Task × Piece)
calls_free_or d = or_else (fields (other_free_keys (codes "calls")) d) (other_free_in Calls) None

abbrev pub calls_or : Bool → Data → Option (Task × Piece)
calls_or work d = or_else (fields (other_keys (codes "calls")) d) (other_in Calls work) (calls_free_or d)

abbrev pub refuted_free_or : Bool → Data → Option (Task × Piece)
refuted_free_or work d = or_else (fields (other_free_keys (codes "farkas")) d) (other_free_in Refuted) (calls_or work d)

abbrev pub refuted_or : Bool → Data → Option (Task × Piece)
refuted_or work d = or_else (fields (other_keys (codes "farkas")) d) (other_in Refuted work) (refuted_free_or work d)

abbrev pub solved_free_or : Bool → Data → Option (Task × Piece)
solved_free_or work d = or_else (fields solved_free_keys d) solved_free_in (refuted_or work d)

abbrev pub block_pieces : Bool → Data → Option (Task × Piece)
block_pieces work d = or_else (fields solved_keys d) (solved_in work) (solved_free_or work d)

abbrev pub body_from : {N : Type 0} → (Text → Option N) → Piece → Option (Body N)
body_from num (Solved hints sigs) = solved_of num hints sigs
body_from num (Refuted farkas) = refuted_of num farkas
body_from num (Calls fun) = calls_of fun

abbrev pub block_from : {N : Type 0} → (Text → Option N) → Task × Piece → Option (Block N)
block_from num p = option_map (λ body. block_with (p.0, body)) (body_from num p.1)

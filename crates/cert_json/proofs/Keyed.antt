-- A block is read of its pieces.
use Rattle.std.proofs.Common.{◌≡◌, Bool, codes, List, [], ◌∷◌, Option, Some, None, refl}
use Rattle.std.specs.Prelude.{option_map, option_and_then}
use Rattle.serde_json.specs.Data.{Data}
use Rattle.cost_free.specs.Task.{Task}
use Rattle.cert_json.specs.Parts.{Body, Block}
use Rattle.cert_json.specs.Form.{Text}
use Rattle.cert_json.specs.Reading as r
use Rattle.cert_json.specs.Reading.{with_of, free_of, fields, or_else, solved_keys, solved_free_keys, other_keys, other_free_keys, block_with, block_by, refuted_of, calls_of, block_of}
use Rattle.cert_json.specs.Pieces.{Piece, Solved, Refuted, Calls, pieced, solved_in, solved_free_in, other_in, other_free_in, body_from, block_from, block_pieces}

module _ {N : Type 0} (num : Text → Option N) where
  with_body : (t : Task) (o : Option (Body N)) → option_map (λ body. block_with (t, body)) o ≡ block_by (Some t) o
  with_body t None = refl
  with_body t (Some body) = refl

  by_piece : (task : Option Task) (piece : Piece) → option_and_then (block_from num) (pieced task piece) ≡ block_by task (body_from num piece)
  by_piece None piece = refl
  by_piece (Some t) piece = with_body t (body_from num piece)

  or_by : (o : Option (List Data)) (here : List Data → Option (Task × Piece)) (there : List Data → Option (Block N)) (rest : Option (Task × Piece)) (other : Option (Block N))
      → ((ds : List Data) → option_and_then (block_from num) (here ds) ≡ there ds) → option_and_then (block_from num) rest ≡ other
      → option_and_then (block_from num) (or_else o here rest) ≡ or_else o there other
  or_by None here there rest other h k = k
  or_by (Some ds) here there rest other h k = h ds

  solved_by : (work : Bool) (ds : List Data) → option_and_then (block_from num) (solved_in work ds) ≡ r.solved_in num work ds
  solved_by work (g ∷ h ∷ k ∷ s ∷ []) = by_piece (with_of work g k) (Solved h s)
  solved_by work _ = refl

  solved_free_by : (ds : List Data) → option_and_then (block_from num) (solved_free_in ds) ≡ r.solved_free_in num ds
  solved_free_by (b ∷ u ∷ g ∷ h ∷ k ∷ s ∷ t ∷ []) = by_piece (free_of b u g k t) (Solved h s)
  solved_free_by _ = refl

  refuted_by : (work : Bool) (ds : List Data) → option_and_then (block_from num) (other_in Refuted work ds) ≡ r.other_in (refuted_of num) work ds
  refuted_by work (d ∷ g ∷ k ∷ []) = by_piece (with_of work g k) (Refuted d)
  refuted_by work _ = refl

  refuted_free_by : (ds : List Data) → option_and_then (block_from num) (other_free_in Refuted ds) ≡ r.other_free_in (refuted_of num) ds
  refuted_free_by (b ∷ d ∷ u ∷ g ∷ k ∷ t ∷ []) = by_piece (free_of b u g k t) (Refuted d)
  refuted_free_by _ = refl

  calls_by : (work : Bool) (ds : List Data) → option_and_then (block_from num) (other_in Calls work ds) ≡ r.other_in calls_of work ds
  calls_by work (d ∷ g ∷ k ∷ []) = by_piece (with_of work g k) (Calls d)
  calls_by work _ = refl

  calls_free_by : (ds : List Data) → option_and_then (block_from num) (other_free_in Calls ds) ≡ r.other_free_in calls_of ds
  calls_free_by (b ∷ d ∷ u ∷ g ∷ k ∷ t ∷ []) = by_piece (free_of b u g k t) (Calls d)
  calls_free_by _ = refl

  pub pieces_read : (work : Bool) (d : Data) → option_and_then (block_from num) (block_pieces work d) ≡ block_of num work d
  pieces_read work d =
      or_by (fields solved_keys d) (solved_in work) (r.solved_in num work) _ _ (solved_by work)
      (or_by (fields solved_free_keys d) solved_free_in (r.solved_free_in num) _ _ solved_free_by
      (or_by (fields (other_keys (codes "farkas")) d) (other_in Refuted work) (r.other_in (refuted_of num) work) _ _ (refuted_by work)
      (or_by (fields (other_free_keys (codes "farkas")) d) (other_free_in Refuted) (r.other_free_in (refuted_of num)) _ _ refuted_free_by
      (or_by (fields (other_keys (codes "calls")) d) (other_in Calls work) (r.other_in calls_of work) _ _ (calls_by work)
      (or_by (fields (other_free_keys (codes "calls")) d) (other_free_in Calls) (r.other_free_in calls_of) None None calls_free_by refl)))))

-- Whether a value has the form of a part of a certificate, where any text may stand for a number.
use Rattle.std.specs.Prelude.{ℕ, suc, ◌^◌, Bool, true, false, cond, ◌&&◌, nat_eq, nat_le, List, [], ◌∷◌, codes, Option, Some, None}
use Rattle.std.specs.Prelude.{option_and_then, is_some}
use Rattle.std.specs.List.{list_all}
use Rattle.std.specs.Option.{option_map_or}
use Rattle.std.specs.Str.{bytes_eq}
use Rattle.serde_json.specs.Data.{Data}
use Rattle.serde_json.specs.Find.{as_str}
use Rattle.cert_json.specs.Form.{Text}
use Rattle.cost_free.specs.Task.{Task}
use Rattle.cert_json.specs.Reading.{natural_of, list_of, two_of, sole_of, fields, head_keys, degree_of}
use Rattle.cert_json.specs.Pieces.{Piece, Solved, Refuted, Calls, block_pieces}

abbrev pub position_by : Data × Data → Option ℕ
position_by p = option_and_then (λ at. cond (is_some (as_str p.1)) (Some at) None) (natural_of (2 ^ 32) p.0)

-- the position of an entry
abbrev pub position_in : Data → Option ℕ
position_in d = option_and_then position_by (two_of d)

abbrev pub like_pair : Data × Data → Bool
like_pair p = is_some (natural_of (2 ^ 32) p.0) && is_some (as_str p.1)

abbrev pub like_entry : Data → Bool
like_entry d = option_map_or like_pair (two_of d) false

abbrev pub like_all : (Data → Bool) → Data → Bool
like_all like d = option_map_or (list_all like) (list_of d) false

abbrev pub like_entries : Data → Bool
like_entries d = like_all like_entry d

abbrev pub like_annot_from : ℕ → List Data → Bool
like_annot_from n [] = true
like_annot_from n (d ∷ ds) = option_map_or (λ at. nat_le n at && like_annot_from (suc at) ds) (position_in d) false

abbrev pub like_annot : Data → Bool
like_annot d = option_map_or (like_annot_from 0) (list_of d) false

abbrev pub like_sig : Data → Bool
like_sig d = option_map_or (λ (p : Data × Data). like_annot p.0 && like_annot p.1) (two_of d) false

abbrev pub like_hint_by : Text → Data → Bool
like_hint_by key d =
    cond (bytes_eq key (codes "let")) (like_all like_annot d)
    (cond (bytes_eq key (codes "share")) (like_annot d)
    (cond (bytes_eq key (codes "call")) (like_entries d) false))

abbrev pub like_hint : Data → Bool
like_hint d = option_map_or (λ (m : Text × Data). like_hint_by m.0 m.1) (sole_of d) false

abbrev pub like_hints : Data → Bool
like_hints d = like_all like_hint d

abbrev pub like_solved : Data → Data → Bool
like_solved hints sigs = like_all like_hints hints && like_all like_sig sigs

abbrev pub or_like : Option (List Data) → (List Data → Bool) → Bool → Bool
or_like (Some ds) like rest = like ds
or_like None like rest = rest

abbrev pub like_calls : Data → Bool
like_calls d = is_some (natural_of (2 ^ 32) d)

abbrev pub like_piece : Piece → Bool
like_piece (Solved hints sigs) = like_solved hints sigs
like_piece (Refuted farkas) = like_entries farkas
like_piece (Calls fun) = like_calls fun

abbrev pub like_block : Bool → Data → Bool
like_block work d = option_map_or (λ (p : Task × Piece). like_piece p.1) (block_pieces work d) false

abbrev pub like_scale_one : List Data → Bool
like_scale_one (cells ∷ ticks ∷ []) = is_some (as_str cells) && is_some (as_str ticks)
like_scale_one _ = false

abbrev pub like_scale_two : List Data → Bool
like_scale_two (cells ∷ ticks ∷ work ∷ []) = is_some (as_str cells) && (is_some (as_str ticks) && is_some (as_str work))
like_scale_two _ = false

abbrev pub like_scale : Data → ℕ → Bool
like_scale d version =
    cond (nat_eq version 1) (or_like (fields (codes "cells" ∷ codes "ticks" ∷ []) d) like_scale_one false)
    (cond (nat_eq version 2) (or_like (fields (codes "cells" ∷ codes "ticks" ∷ codes "work" ∷ []) d) like_scale_two false) false)

abbrev pub like_head_in : List Data → Bool
like_head_in (blocks ∷ degree ∷ scale ∷ version ∷ []) =
    is_some (degree_of degree) && (option_map_or (like_scale scale) (natural_of 3 version) false && is_some (list_of blocks))
like_head_in _ = false

abbrev pub like_head : Data → Bool
like_head d = or_like (fields head_keys d) like_head_in false

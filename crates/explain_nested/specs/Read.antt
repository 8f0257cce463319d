-- What the code's readings are as plain data.
use Rattle.std.specs.Prelude.{List, map}
use Rattle.explain_nested.specs.Reading as r
use Rattle.explain_nested.specs.declared.piece.Place.{Place}
use Rattle.explain_nested.specs.declared.piece.Place.TheOpen as o
use Rattle.explain_nested.specs.declared.piece.Place.TheFolds.{fold-Place}
use Rattle.explain_nested.specs.declared.piece.Piece.{Piece}
use Rattle.explain_nested.specs.declared.piece.Piece.TheVariants as v

abbrev pub place_step : o.Place-F r.Place → r.Place
place_step (o.Named k) = r.Named k
place_step (o.First p) = r.First p.value
place_step (o.Second p) = r.Second p.value

abbrev pub place_of : Place → r.Place
place_of = fold-Place r.Place place_step

abbrev pub piece_of : Piece → r.Piece
piece_of (v.Choices p k) = r.Choices (place_of p) k
piece_of (v.Elements p k) = r.Elements (place_of p) k
piece_of (v.Held p) = r.Held (place_of p)

-- the pieces, one by one
abbrev pub pieces_of : List Piece → List r.Piece
pieces_of ps = map piece_of ps

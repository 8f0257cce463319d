-- The text of a place.
use Rattle.std.specs.Prelude.{ℕ, List, ◌++◌, codes}
use Rattle.std.specs.Fmt.{decimal}
use Rattle.explain_places.specs.declared.place.Place.{Place}

-- LINE:COLUMN
abbrev pub text_of : Place → List ℕ
text_of p = decimal p.line ++ (codes ":" ++ decimal p.column)

-- Functions by their places.
use Rattle.std.specs.Prelude.{ℕ, zero, suc, [], ◌∷◌, cond, Option, Some, None}
use Rattle.std.specs.Option.{option_map}
use Rattle.std.specs.Str.{bytes_eq}
use Rattle.raml_syntax.specs.Tree.{Text, Prog}

-- the place, from 0, of the first function of this name
abbrev pub place_of : Text → Prog → Option ℕ
place_of f [] = None
place_of f (g ∷ P) = cond (bytes_eq f g.name) (Some zero) (option_map suc (place_of f P))

-- Lines that Markdown shows as they are.
use Rattle.std.specs.Prelude.{List, [], ◌∷◌, ◌++◌, codes}
use Rattle.raml_syntax.specs.Tree.{Text}

-- each with a newline behind it
abbrev pub lined : List Text → Text
lined [] = []
lined (line ∷ lines) = line ++ (codes "\n" ++ lined lines)

-- between fences
abbrev pub fenced : List Text → Text
fenced lines = (codes "```\n" ++ lined lines) ++ codes "```"

-- The lines of declared bounds that are not decided, each by its line in the file.
use Rattle.std.specs.Prelude.{ℕ, ◌++◌, codes, decimal}
use Rattle.raml_syntax.specs.Tree.{Text}

-- With the rows of the bound, a system has more than 2000 rows.
abbrev pub declared_too_large_line : ℕ → Text
declared_too_large_line line = codes "raml: too large: bounds line " ++ decimal line ++ codes ": rows\n"

-- A number leaves 128 bits.
abbrev pub declared_leaves_line : ℕ → Text
declared_leaves_line line = codes "raml: overflow: bounds line " ++ decimal line ++ codes "\n"

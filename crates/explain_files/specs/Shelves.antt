-- Files that are left, each whole or not at all.
use Rattle.std.specs.Prelude.{List, ℕ, Some, if◌then◌else◌}
use Rattle.std.specs.Str.{bytes_eq}
use Rattle.raml_io.specs.Files.{Files}

-- a file of this name holds these bytes, and every other name what it held
abbrev pub with_file : List ℕ → List ℕ → Files → Files
with_file name bytes files other = if bytes_eq name other then Some bytes else files other

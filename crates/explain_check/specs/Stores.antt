-- A store, as a call sees it, and its files.
use Rattle.std.specs.Prelude.{◌≡◌, ◌<◌, ◌≤◌, ◌⊎◌, ℕ, [], ◌++◌, length, Option, Some, None, IfSome, codes}
use Rattle.std.specs.Fmt.{decimal}
use Rattle.raml_io.specs.Faults.{Rose}
use Rattle.raml_io.specs.Files.{Files}
use Rattle.raml_syntax.specs.Tree.{Text}

-- what it tells that its names hold, and how often a read of each name had failed before the call, and after it
pub record Store : Type 0 where
  pub holds : Option Files
  pub before : Text → ℕ
  pub after : Text → ℕ

abbrev pub store_of : Option Files → (Text → ℕ) → (Text → ℕ) → Store
store_of holds before after = record { holds = holds; before = before; after = after }

-- a read of the file failed during the call
abbrev pub Fails : Store → Text → Type 0
Fails store name = Rose (store.before name) (store.after name)

-- the file holds this, where it is told what files hold
abbrev pub Holds : Store → Text → Text → Type 0
Holds store name content = IfSome store.holds (λ files. files name ≡ Some content)

-- NAME: error: WHY
abbrev pub error_line : Text → Text → Text
error_line name why = name ++ (codes ": error: " ++ (why ++ codes "\n"))

-- NAME: error: longer than MOST bytes
abbrev pub length_line : Text → ℕ → Text
length_line name most = error_line name (codes "longer than " ++ (decimal most ++ codes " bytes"))

-- what is told of a file that is not read: that it is longer than it may be, or that a read of it failed
abbrev pub Unread : Store → ℕ → Text → Text → Type 0
Unread store most name part =
    ((content : Text) × Holds store name content × (most < length content) × (part ≡ length_line name most))
    ⊎ (Fails store name × (part ≡ error_line name (codes "cannot be read")))

-- a file that is read, of which nothing is told, or that is not
abbrev pub FileGives : Store → ℕ → Text → Option Text → Text → Type 0
FileGives store most name (Some content) part = Holds store name content × (length content ≤ most) × (part ≡ [])
FileGives store most name None part = Unread store most name part

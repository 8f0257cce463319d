-- A shelf, as a call sees it.
use Rattle.std.specs.Prelude.{◌≡◌, ◌≢◌, ℕ, Bool, false, Option, Some, None, IfSome}
use Rattle.raml_io.specs.Faults.{Rose}
use Rattle.raml_io.specs.Files.{Files}
use Rattle.raml_syntax.specs.Tree.{Text}
use Rattle.explain_files.specs.Shelves.{with_file}

-- how often a file could not be written before the call, and after it, and what it tells that its names hold before the call, and after it
pub record Shelf : Type 0 where
  pub before : ℕ
  pub after : ℕ
  pub old : Option Files
  pub new : Option Files

abbrev pub shelf_of : ℕ → ℕ → Option Files → Option Files → Shelf
shelf_of before after old new = record { before = before; after = after; old = old; new = new }

-- no file changes
abbrev pub KeepsFiles : Shelf → Type 0
KeepsFiles shelf = IfSome shelf.old (λ files. shelf.new ≡ Some files)

-- a file is left, and no other changes; one that is there is written over only where it may be
abbrev pub LeavesFile : Shelf → Text → Text → Bool → Type 0
LeavesFile shelf name content over =
    IfSome shelf.old (λ files. (shelf.new ≡ Some (with_file name content files)) × (over ≡ false → files name ≡ None))

-- there is a file of that name, which may not be written over
abbrev pub HasFile : Shelf → Text → Bool → Type 0
HasFile shelf name over = (over ≡ false) × IfSome shelf.old (λ files. files name ≢ None)

-- a file could not be written
abbrev pub FailsToLeave : Shelf → Type 0
FailsToLeave shelf = Rose shelf.before shelf.after

-- Shelves on which nothing was left, and on which a file was.
use Rattle.std.proofs.Common.{◌≡◌, ℕ, Bool, false, Option, Some, None, IfSome, refl}
use Rattle.raml_io.specs.Files.{Files}
use Rattle.raml_syntax.specs.Tree.{Text}
use Rattle.explain_files.specs.Shelves.{with_file}
use Rattle.explain_top.specs.Shelves.{shelf_of, KeepsFiles, LeavesFile}

pub untouched : (before after : ℕ) (files : Option Files) → KeepsFiles (shelf_of before after files files)
untouched before after None = tt
untouched before after (Some files) = refl

pub leaves : (before after : ℕ) (old new : Option Files) (name content : Text) (over : Bool) →
    IfSome old (λ files. new ≡ Some (with_file name content files)) → IfSome old (λ files. over ≡ false → files name ≡ None) → LeavesFile (shelf_of before after old new) name content over
leaves before after None new name content over left fresh = tt
leaves before after (Some files) new name content over left fresh = (left, fresh)

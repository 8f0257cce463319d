-- Laws of files of declared bounds.
use Rattle.std.specs.Prelude.{ℕ, Result}
use Rattle.std.specs.Str.{IsUtf8}
use Rattle.raml_syntax.specs.Tree.{Text, Prog}
use Rattle.bound_file.specs.Lines.{Declaration}
use Rattle.bound_file.specs.Answers.{Answers, HasOneAnswer}
use Rattle.bound_file.specs.declared.fault.DeclFault.{DeclFault}

-- Bytes have one answer at most, and those that are text have one.
pub record FilesHaveOneAnswer : Type 0 where
  pub one : (P : Prog) (d : ℕ) (bytes : Text) → HasOneAnswer P d bytes
  pub some : (P : Prog) (d : ℕ) (bytes : Text) → IsUtf8 bytes → (answer : Result Declaration DeclFault) × Answers P d bytes answer

-- What a certificate that was checked is seen as.
use Rattle.share_normal.specs.Program.{Kept}
use Rattle.annot_types.specs.Certificate.{Certificate}

-- the program and the certificate
pub record Checking : Type 0 where
  pub program : Kept
  pub certificate : Certificate

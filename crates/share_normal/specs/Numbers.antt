-- Normal forms whose numbers have 64 bits.
use Rattle.std.specs.Prelude.{FitsSigned}
use Rattle.std.specs.Int.{w64}
use Rattle.normal_spec.specs.Norm as n

-- each number of the form has 64 bits, signed
abbrev pub NumbersFit : n.Norm → Type 0
NumbersFit (n.Number k i) = FitsSigned w64 i
NumbersFit (n.Let k x A a b) = NumbersFit a × NumbersFit b
NumbersFit (n.Split k x p q a) = NumbersFit a
NumbersFit (n.If k x a b) = NumbersFit a × NumbersFit b
NumbersFit (n.CaseList k x a h t b) = NumbersFit a × NumbersFit b
NumbersFit (n.CaseTree k x a h l r b) = NumbersFit a × NumbersFit b
NumbersFit (n.CaseOption k x a w b) = NumbersFit a × NumbersFit b
NumbersFit (n.Tick k i a) = NumbersFit a
NumbersFit (n.Share k x p q a) = NumbersFit a
NumbersFit (n.Drop k x a) = NumbersFit a
NumbersFit _ = Unit {0}

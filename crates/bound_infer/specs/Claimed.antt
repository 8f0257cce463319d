-- What is told of a function whose block has a body.
use Rattle.std.specs.Prelude.{◌≡◌, Option, Some}
use Rattle.base_poly.specs.declared.tuple.Poly.{Poly}
use Rattle.annot_types.specs.Certificate as c
use Rattle.annot_types.specs.Certificate.{Entries, Body, IsSolved}
use Rattle.bound_infer.specs.declared.line.Line.{Line}
use Rattle.bound_infer.specs.declared.line.Line.TheVariants.{Bound, NoBound, Calls}

-- Its bound where the block is solved, no bound where it is refuted, and the function that is called where it waits.
abbrev pub IsToldBy : Option Poly → Body → Line → Type 0
IsToldBy bound body (Bound poly) = (bound ≡ Some poly) × IsSolved body
IsToldBy bound body NoBound = (farkas : Entries) × (body ≡ c.Refuted farkas)
IsToldBy bound body (Calls fun) = body ≡ c.Calls fun.0

use Rattle.std.proofs.Common.{◌≡◌, ◌<◌, ◌^◌, drop}
use Rattle.raml_lex.specs.Lexemes.{number_value}
use Rattle.raml_lex.proofs.Values.{value_from}
use Rattle.raml_lex.proofs.piece.number_value.Given as goal

abbrev pub invariant-loop-digit : goal.invariant-loop-digit
invariant-loop-digit l = record {
  so_far : value_from l.value (drop l.digit-index l.digits) ≡ number_value l.digits;
  small : l.value < 2 ^ 63;
}

use Rattle.std.proofs.Common.{◌≡◌, ◌*◌, length}
use Rattle.std.specs.List.{All}
use Rattle.std.specs.Prelude.{string_bytes}
use Rattle.raml_syntax.specs.Read.{function_of}
use Rattle.raml_syntax.specs.Types.{types_of}
use Rattle.explain_made.specs.Made.{AreArguments}
use Rattle.explain_made.proofs.made.made_texts.Given as goal

abbrev pub invariant-loop-size : goal.invariant-loop-size
invariant-loop-size l = record {
  arguments : All (λ text. AreArguments (types_of (function_of l.function)) (string_bytes text)) l.texts.items;
  count : length l.texts.items ≡ 3 * l.size-index;
}

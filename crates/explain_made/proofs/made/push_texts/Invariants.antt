use Rattle.std.proofs.Common.{◌≡◌, ◌+◌, length}
use Rattle.std.specs.List.{All}
use Rattle.std.specs.Prelude.{string_bytes}
use Rattle.raml_syntax.specs.Read.{function_of}
use Rattle.raml_syntax.specs.Types.{types_of}
use Rattle.explain_made.specs.Made.{AreArguments}
use Rattle.explain_made.proofs.made.push_texts.Given as goal

abbrev pub invariant-loop-shape : goal.invariant-loop-shape
invariant-loop-shape l = record {
  arguments : All (λ text. AreArguments (types_of (function_of l.function)) (string_bytes text)) l.texts.items;
  count : length l.texts.items ≡ length l.initial.texts.items + l.shape-index;
}

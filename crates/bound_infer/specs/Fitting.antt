-- Hints of the code whose numbers can be multiplied.
use Rattle.std.specs.Prelude.{ℕ, List}
use Rattle.std.specs.List.{All}
use Rattle.annot_types.specs.declared.block.Hint.{Hint}
use Rattle.annot_types.specs.Read.{hint_of}
use Rattle.infer_spec.specs.Places.{HintFits}

abbrev pub HintsFit : ℕ → List Hint → Type 0
HintsFit t hints = All (λ h. HintFits t (hint_of h)) hints

-- The values of arguments.
use Rattle.std.proofs.Common.{◌≡◌, List, [], ◌∷◌, length, All, Result, Ok, Err, IsErrAnd, sym, ◌∙◌}
use Rattle.std.proofs.lemmas.List.Elements.{All-nil, All-cons}
use Rattle.raml_syntax.specs.Value.{Value}
use Rattle.value_text.specs.declared.word.Word.{Word}
use Rattle.value_text.specs.declared.word.Cell.{Cell}
use Rattle.value_text.specs.Heap.{IsBelow}
use Rattle.value_text.specs.Stands.{StandForAll}
use Rattle.value_text.proofs.Standing.{stands_there}

pub stand_there : (cells : List Cell) (words : List Word) (vs : List Value) → StandForAll cells words vs → All (IsBelow (length cells)) words
stand_there cells [] [] h = All-nil (IsBelow (length cells))
stand_there cells (w ∷ ws) (v ∷ vs) h = All-cons (IsBelow (length cells)) w ws (stands_there cells w v h.0) (stand_there cells ws vs h.1)
stand_there cells [] (v ∷ vs) h = absurd h
stand_there cells (w ∷ ws) [] h = absurd h

-- the error of an answer
pub of_error : {X E : Type 0} (r : Result X E) (e f : E) → IsErrAnd r (λ x. x ≡ e) → r ≡ Err f → e ≡ f
of_error (Ok u) e f h g = absurd (cc)
of_error (Err x) e f h g = sym h ∙ (let p : x ≡ f = cc in p)

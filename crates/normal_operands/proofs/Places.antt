-- At the place of a name stands the function that is found for it.
use Rattle.std.proofs.Common.{◌≡◌, ◌∙◌, ℕ, Some, None, sym}
use Rattle.std.specs.Prelude.{slice_get}
use Rattle.raml_syntax.specs.Tree.{Text, Prog}
use Rattle.raml_syntax.specs.Eval.{find}
use Rattle.raml_syntax.specs.Place.{place_of}
use Rattle.raml_syntax.proofs.Places.{functions_have_places}

pub found_at : (f : Text) (P : Prog) (k : ℕ) → Some k ≡ place_of f P → slice_get P k ≡ find f P
found_at f P k e =
    let h = (functions_have_places P).placed f k (sym e) in
    h.1 ∙ sym h.3

pub found_nowhere : (f : Text) (P : Prog) → None ≡ place_of f P → None ≡ find f P
found_nowhere f P e = sym ((functions_have_places P).absent f (sym e))

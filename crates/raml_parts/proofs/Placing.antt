-- Functions at places.
use Rattle.std.proofs.Common.{◌≡◌, ℕ, List, Some, sym, subst}
use Rattle.std.specs.Prelude.{slice_get}
use Rattle.raml_syntax.specs.Tree.{Text, Function, Prog}
use Rattle.raml_syntax.specs.Place.{place_of}
use Rattle.raml_syntax.proofs.Places.{functions_have_places}
use Rattle.metered_vm.specs.Seen.{HaveArguments}
use Rattle.value_text.specs.declared.word.Word.{Word}
use Rattle.value_text.specs.declared.word.Cell.{Cell}
use Rattle.raml_syntax.specs.Value.{Value}
use Rattle.raml_promise.specs.Call.{Placed, IsNamed}
use Rattle.raml_parts.specs.Parts.{HasArguments}

-- the function of a name stands at its place
pub named : (P : Prog) (name : Text) (k : ℕ) → Some k ≡ place_of name P → (fun : Function) × IsNamed P name (k, fun)
named P name k e = let placed = (functions_have_places P).placed name k (sym e) in (placed.0, record { place = sym e; there = placed.1 })

-- the machine's premise
pub have_arguments : (P : Prog) (place : ℕ) (cells : List Cell) (words : List Word) (f : Placed) (args : List Value) → f.0 ≡ place → HasArguments P f cells words args → HaveArguments P place cells words
have_arguments P place cells words f args same h = record {
  function = f.1;
  there = subst (λ k. slice_get P k ≡ Some f.1) same h.there;
  values = args;
  stand = h.stand;
  types = h.types;
}

-- What is found of a function and of a region.
use Rattle.std.proofs.Common.{◌≡◌, ◌<◌, ℕ, zero, suc, Option, Some, List, [], ◌∷◌, map, Result, Ok, Err, IfOk, ap, sym, subst, length, slice_get, slice_index_or, arith}
use Rattle.std.proofs.lemmas.Option.{slice_get_within}
use Rattle.raml_syntax.specs.Tree.{Text, Function, Prog}
use Rattle.raml_syntax.specs.Types.{types_of}
use Rattle.raml_syntax.specs.Place.{place_of}
use Rattle.raml_syntax.specs.Laws.{FunctionsHavePlaces}
use Rattle.rules_soundness_laws.specs.Laws.{normal_of}
use Rattle.explain_sizes.specs.Sizes.{Sizes}
use Rattle.explain_edits.specs.Edits.{Edit, with_edits}
use Rattle.explain_regions.specs.Counter.{AreCounterEdits}
use Rattle.explain_bounds.specs.Written.{CanBeTold}
use Rattle.explain_degrees.specs.declared.finding.Finding.{Finding}
use Rattle.explain_profile.specs.Runs.{Case, Runs, AreFound, AreRuns, AreRunsAt, AreRunsIn, FindsTicks}
use Rattle.explain_profile.proofs.Degrees as degrees

-- what stands at a place of a list
pub at_mapped : {A B : Type 0} (f : A → B) (xs : List A) (i : ℕ) (x : A) → x ≡ slice_index_or xs i x → i < length xs → slice_get (map f xs) i ≡ Some (f x)
at_mapped f [] i x is below = absurd (omega (arith, below))
at_mapped f (y ∷ ys) zero x is below = ap (λ z. Some (f z)) (sym is)
at_mapped f (y ∷ ys) (suc i) x is below = at_mapped f ys i x is (omega (arith, below))

-- a function that its name finds is one of the program
pub within : FunctionsHavePlaces → (name : Text) (P : Prog) (f : ℕ) → place_of name P ≡ Some f → f < length P
within law name P f named = let there = (law P).placed name f named in slice_get_within P f there.0 there.1

pub can_be_told : (P : Prog) (f most : ℕ) (g : Function) (finding : Finding) → slice_get P f ≡ Some g → FindsTicks P f most finding → CanBeTold (types_of g) finding
can_be_told P f most g finding there finds = degrees.can_be_told P (normal_of P finds.groups.list) f most g finding there finds.is

-- of the function at a place
pub are_found : {E : Type 0} (P : Prog) (f most : ℕ) (ss : Option (List Sizes)) (g : Function) (finding : Finding) (runs : Result Runs E) →
    slice_get P f ≡ Some g → FindsTicks P f most finding → IfOk runs (AreRuns ss g finding) → IfOk runs (AreFound P most ss (Some f))
are_found P f most ss g finding (Ok runs) there finds are = (g, finding, there, finds, are)
are_found P f most ss g finding (Err e) there finds are = tt

-- by a source with a counter
pub at_region : {E : Type 0} (case : Case) (region : ℕ) (edits : List Edit) (changed : Text) (runs : Result Runs E) →
    AreCounterEdits case.source region edits → changed ≡ with_edits case.source edits → IfOk runs (AreRunsIn case changed) →
    IfOk runs (AreRunsAt case region)
at_region case region edits changed (Ok runs) counter same are =
    record { edits = edits; counter = counter; are = subst (λ text. AreRunsIn case text runs) same are }
at_region case region edits changed (Err e) counter same are = tt

-- Lists to which one more may be added.
use Rattle.std.proofs.Common.{◌≡◌, sym, subst, inl, inr, ◌<◌, ℕ, List, [], ◌∷◌, ◌++◌, length, Option, Some, None, Result, Ok, Err, IfOk, IfSome, slice_index_or}
use Rattle.std.specs.List.{All, Contains}
use Rattle.std.proofs.lemmas.List.Elements.{All-push, All-same, Contains-get_or}
use Rattle.explain_mending.specs.Reached.{MayAdd}

-- what holds of all holds of one more
pub all_with : {A : Type 0} (P : A → Type 0) (IsSo : Type 0) (x : A) (old new : List A) → All P old → (IsSo → P x) → MayAdd IsSo x old new → All P new
all_with P IsSo x old new are so (inl same) = All-same P new old same are
all_with P IsSo x old new are so (inr added) = All-same P new (old ++ x ∷ []) added.1 (All-push P old x are (so added.0))

-- an item at a place of a list
pub at_place : {A : Type 0} (all : List A) (k : ℕ) (x : A) → k < length all → x ≡ slice_index_or all k x → Contains all x
at_place all k x within is = subst (Contains all) (sym is) (Contains-get_or all k x within)

-- of what there may be
pub from_some : {S E : Type 0} (r : Result (Option S) E) (P Q : S → Type 0) → ((s : S) → P s → Q s) → IfOk r (λ o. IfSome o P) → IfOk r (λ o. IfSome o Q)
from_some (Ok (Some s)) P Q step is = step s is
from_some (Ok None) P Q step is = tt
from_some (Err e) P Q step is = tt

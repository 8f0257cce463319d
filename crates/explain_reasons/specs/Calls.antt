-- The calls inside a group that tell why their number has no bound.
use Rattle.std.specs.Prelude.{◌≡◌, ◌<◌, ◌⊎◌, ℕ, List, [], ◌∷◌, ◌++◌, Bool, true, false, length}
use Rattle.std.specs.List.{filter}
use Rattle.raml_syntax.specs.Tree.{Prog}
use Rattle.explain_rounds.specs.declared.idle.Kind.{Kind}
use Rattle.explain_rounds.specs.declared.idle.Kind.TheVariants.{Smaller, Computed, Stuck}
use Rattle.explain_rounds.specs.Calls.{Call, group_calls}
use Rattle.explain_rounds.specs.Twice.{TwoCalls, calls_with_same_part}
use Rattle.explain_reasons.specs.Rounds.{RoundsUnbounded}

abbrev pub is_kind : Kind → Kind → Bool
is_kind Smaller Smaller = true
is_kind Computed Computed = true
is_kind Stuck Stuck = true
is_kind _ _ = false

-- those of the calls that are of a kind
abbrev pub of_kind : Kind → List Call → List Call
of_kind kind = filter (λ (call : Call). is_kind kind call.kind)

-- those inside the group in these functions
abbrev pub calls_of_kind : Prog → List ℕ → Kind → List ℕ → List Call
calls_of_kind P group kind [] = []
calls_of_kind P group kind (f ∷ fs) = of_kind kind (group_calls P group f) ++ calls_of_kind P group kind fs

-- pairs of calls inside the group that both happen and get the same part, in these functions
abbrev pub pairs_in : Prog → List ℕ → List ℕ → List TwoCalls
pairs_in P group [] = []
pairs_in P group (f ∷ fs) = calls_with_same_part P group f ++ pairs_in P group fs

-- Some calls inside the group are of this kind, these, and their number has no bound.
pub record AreCallsOf (kind : Kind) (P : Prog) (group : List ℕ) (most : ℕ) (calls : List Call) : Type 0 where
  pub all : calls ≡ calls_of_kind P group kind group
  pub some : 0 < length calls
  pub unbounded : RoundsUnbounded P group most

-- The same of pairs of calls.
pub record ArePairs (P : Prog) (group : List ℕ) (most : ℕ) (pairs : List TwoCalls) : Type 0 where
  pub all : pairs ≡ pairs_in P group group
  pub some : 0 < length pairs
  pub unbounded : RoundsUnbounded P group most

abbrev pub AreStuck : Prog → List ℕ → ℕ → List Call → Type 0
AreStuck = AreCallsOf Stuck

-- nothing is told, or stuck calls
abbrev pub AreStuckOrNone : Prog → List ℕ → ℕ → List Call → Type 0
AreStuckOrNone P group most calls = (calls ≡ []) ⊎ AreStuck P group most calls
